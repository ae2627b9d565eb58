use Rattle.std.proofs.Common.{◌≡◌, ◌+◌, ◌<◌, ◌≤◌, ℕ, ap, ◌∙◌, subst}
use Rattle.std.specs.Prelude.{OnOk}
use Rattle.sg_coord.specs.Bounds.{Bounds}
use Rattle.sg_coord.specs.Slices.{slice_start}
use Rattle.sg_layout.specs.declared.shape.Shape.{Shape}
use Rattle.sg_activate.specs.steps.Finding.{found_in}
use Rattle.sg_activate.specs.steps.Looked.{IsKnown, AreKnown}
use Rattle.sg_activate.proofs.Looking.{all_known}
use Rattle.sg_activate.proofs.look.find_new.Goals as goal

pub returns-clause-known : goal.returns-clause-known
returns-clause-known g c = λ lists means at is.
    let store = c.args.store.now in
    let Means = g.W.Wanted.Means c.args.want.now in
    let count = g.W.Wanted.count c.args.want.now in
    let workers = c.args.workers in
    let list = c.race_all-seat.result.seat.found in
    let axes : c.extents.result.n ≡ store.shape.axes = ap (λ (b : Bounds). b.n) c.extents.ensures.value ∙ ap (λ (s : Shape). s.axes) c.layout.ensures.layout in
    let done = subst (λ r. OnOk r ((worker : ℕ) → 0 ≤ worker → worker < workers → AreKnown store Means (slice_start count workers worker) (slice_start count workers (worker + 1)) (found_in c.extents.result.n list))) c.in_ok-done.was c.race_all-seat.ensures.done in
    subst (λ (n : ℕ). IsKnown store (found_in n list) at) axes
    (all_known store Means c.pieces.result count workers c.pieces.ensures c.slices_partition.ensures.here.first c.slices_partition.ensures.here.last (found_in c.extents.result.n list) done lists means at is)
