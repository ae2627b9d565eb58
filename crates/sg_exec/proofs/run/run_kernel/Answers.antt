use Rattle.std.proofs.Common.{List, refl}
use Rattle.sg_layout.specs.declared.shape.Shape.{Shape}
use Rattle.sg_exec.specs.Running.{run_meaning}
use Rattle.sg_exec.proofs.Answering.{ran_ok, runnable_here}
use Rattle.sg_exec.proofs.MadeRuns.{made_err}
use Rattle.sg_exec.proofs.LinksKept.{links_itself}
use Rattle.sg_exec.proofs.run.run_kernel.Goals as goal

pub returns-in_err-made-clause-answer : goal.returns-in_err-made-clause-answer
returns-in_err-made-clause-answer g c = λ state stand.
    made_err (λ (shapes : List Shape). run_meaning shapes state c.args.kernel.now) c.args.layouts.now.list c.args.stores.now.list _ c.from_residual.result c.in_err-made.field-0.0 stand.shapes_are c.from_residual.ensures.1
    (c.in_err-made.ensures.ran (runnable_here c.args.layouts.now.list c.args.stores.now.list c.args.kernel.now stand.shapes_are c.requires.runnable) state stand.stand)

pub returns-clause-answer : goal.returns-clause-answer
returns-clause-answer g c = λ state stand.
    ran_ok (λ (shapes : List Shape). run_meaning shapes state c.args.kernel.now) c.args.layouts.now.list c.args.stores.now.list c.land.new.stores.list c.land.new.stores.list stand.shapes_are refl
    (c.in_ok-made.ensures.ran (runnable_here c.args.layouts.now.list c.args.stores.now.list c.args.kernel.now stand.shapes_are c.requires.runnable) state stand.stand c.land.new.stores.list c.land.ensures.landed.landed)

pub returns-in_err-made-clause-links : goal.returns-in_err-made-clause-links
returns-in_err-made-clause-links g c = links_itself c.args.stores.now.list
