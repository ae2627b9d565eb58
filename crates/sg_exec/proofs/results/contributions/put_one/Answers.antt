use Rattle.sg_exec.proofs.Putting.{cells_push}
use Rattle.sg_exec.specs.steps.Puts.{kept_writes}
use Rattle.sg_exec.proofs.results.contributions.put_one.Goals as goal

pub returns-in_ok-push-clause-cells : goal.returns-in_ok-push-clause-cells
returns-in_ok-push-clause-cells c = λ cells.
    cells_push c.args.cells.now.stores c.args.cells.now.writes (kept_writes c.args.puts.now) (kept_writes c.push.new.self) c.args.own.layout c.args.own.field c.in-Some.write c.writes.ensures.value c.writes.ensures.cells c.own_write.ensures c.in-Some.is c.in_ok-push.ensures cells
