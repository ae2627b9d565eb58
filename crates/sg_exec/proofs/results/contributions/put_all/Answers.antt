use Rattle.std.proofs.Common.{arith}
use Rattle.sg_exec.proofs.Putting.{puts_next}
use Rattle.sg_exec.specs.steps.Puts.{kept_writes}
use Rattle.sg_exec.proofs.results.contributions.put_all.Goals as goal

pub loop-own-preserved : goal.loop-own-preserved
loop-own-preserved c = record {
  puts = puts_next c.args.owned.now c.args.cells.now.writes c.loop-own.own-index _ (kept_writes c.args.puts.now) (kept_writes c.loop-own.puts) (kept_writes c.put_one.new.puts) (omega arith) c.loop-own.invariant.puts c.in_ok-put_one.ensures.puts;
  cells = λ cells. c.in_ok-put_one.ensures.cells (c.loop-own.invariant.cells cells);
}
