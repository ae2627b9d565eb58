use Rattle.std.proofs.Common.{List, sym, subst, arith}
use Rattle.sg_store.specs.StoreWords.{StoreWords}
use Rattle.sg_exec.specs.steps.Landing.{current}
use Rattle.sg_exec.specs.steps.Rows.{On}
use Rattle.sg_exec.specs.steps.Moments.{IsOver}
use Rattle.sg_exec.proofs.Starting.{ran_all}
use Rattle.sg_exec.proofs.lanes.batch.iterate_all.Goals as goal

pub run_all-requires-clause-room : goal.run_all-requires-clause-room
run_all-requires-clause-room c =
    let over : IsOver (current c.args.reached.now c.args.stores.now.list) c.start_all.new.batch = c.start_all.ensures.over (current c.args.reached.now c.args.stores.now.list) c.requires.over in
    omega (arith, over.whole, c.requires.few)

pub run_all-requires-clause-over : goal.run_all-requires-clause-over
run_all-requires-clause-over c =
    let over : IsOver (current c.args.reached.now c.args.stores.now.list) c.start_all.new.batch = c.start_all.ensures.over (current c.args.reached.now c.args.stores.now.list) c.requires.over in
    subst (λ (stores : List StoreWords). IsOver stores c.start_all.new.batch) (sym over.places) over

pub returns-else-batch-clause-ran : goal.returns-else-batch-clause-ran
returns-else-batch-clause-ran c =
    ran_all (current c.args.reached.now c.args.stores.now.list) c.args.block.now c.args.points.now (On c.first_columns.result.on) c.args.batch.now c.start_all.new.batch c.run_all.new.batch c.requires.few c.first_columns.ensures c.requires.over c.start_all.ensures c.run_all.ensures c.if-batch.false
