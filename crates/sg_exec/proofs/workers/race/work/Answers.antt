use Rattle.std.proofs.Common.{◌≡◌, ◌∙◌, ℕ, ◌+◌, List, length, ap, subst}
use Rattle.std.specs.Prelude.{IfOk}
use Rattle.sg_coord.specs.declared.coord.Coord.{Coord}
use Rattle.sg_coord.specs.Slices.{slice_start}
use Rattle.sg_exec.specs.steps.Landing.{current}
use Rattle.sg_exec.specs.steps.Working.{HasRunAt}
use Rattle.sg_exec.proofs.Iterations.{points_are}
use Rattle.sg_exec.proofs.workers.race.work.Goals as goal

pub returns-clause-ran : goal.returns-clause-ran
returns-clause-ran g c =
    let points = c.args.points.now in
    let all = c.args.all in
    let worker = c.args.worker in
    subst (λ (mine : List Coord). IfOk c.work_all.result (HasRunAt (current c.args.reached.now c.args.stores.now.list) c.args.code.now points mine c.args.accumulated.now c.args.owned.now c.args.hand))
    (points_are points all worker (c.slice_of-from.ensures.value ∙ ap (λ (n : ℕ). (slice_start n all worker, slice_start n all (worker + 1))) c.len.ensures)) c.work_all.ensures.ran
