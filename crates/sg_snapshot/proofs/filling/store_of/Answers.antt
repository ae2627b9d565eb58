use Rattle.std.proofs.Common.{ℕ, List, Err, map, sym, ap₂, ◌∙◌, subst}
use Rattle.sg_words.specs.Answers.{Answers}
use Rattle.sg_words.specs.declared.memory.Stop.{Stop}
use Rattle.sg_snapshot.specs.declared.fault.SnapFault.{SnapFault}
use Rattle.sg_coord.specs.Coord.{point_at}
use Rattle.sg_layout.specs.declared.shape.Shape.{Shape}
use Rattle.sg_layout.specs.Axes.{bounds_of_shape}
use Rattle.sg_layout.specs.Need.{first_full}
use Rattle.sg_snapshot.specs.steps.Laying.{unless_too_full}
use Rattle.sg_snapshot.proofs.Reaching.{none_full, stops_for_part}
use Rattle.sg_snapshot.proofs.Steps.{rows_inside, filled_store}
use Rattle.sg_snapshot.proofs.filling.store_of.Goals as goal

pub reach_points-requires-clause-below : goal.reach_points-requires-clause-below
reach_points-requires-clause-below c = rows_inside c.args.layout.now c.in_ok-store.store.shape c.args.part.now c.as_slice.result.now c.requires.is c.as_slice.ensures c.in_ok-store.ensures.shape

pub returns-in-Ok : goal.returns-in-Ok
returns-in-Ok c =
    let shape = c.args.layout.now in
    let part = c.args.part.now in
    let made = c.in_ok-store.store.shape in
    let rows = c.as_slice.result.now in (
      c.set_words.ensures.same_shape ∙ c.in-Ok.ensures.same_shape ∙ c.in_ok-store.ensures.shape,
      filled_store shape made c.reach_points.new.store.shape part rows c.reach_points.new.store c.set_words.new.store c.as_slice.ensures c.in_ok-store.ensures.shape c.in-Ok.ensures.same_shape c.in-Ok.ensures.reached c.set_words.ensures.stands,
      none_full c.in_ok-number.number (first_full shape (map (point_at (bounds_of_shape shape)) part.rows))
          (ap₂ (λ (s : Shape) (r : List ℕ). unless_too_full c.in_ok-number.number (first_full s (map (point_at (bounds_of_shape s)) r))) (sym c.in_ok-store.ensures.shape) (sym c.as_slice.ensures) ∙ c.in-Ok.ensures.answer),
    )

abbrev Stops : Stop SnapFault → ℕ → Shape → List ℕ → Type 0
Stops s number shape rows = Answers {A = Unit} (Err s) (unless_too_full number (first_full shape (map (point_at (bounds_of_shape shape)) rows)))

pub returns-in-Err : goal.returns-in-Err
returns-in-Err c =
    let shape = c.args.layout.now in
    let part = c.args.part.now in
    let rows = c.as_slice.result.now in
    let stop = c.in-Err.stop in
    stops_for_part c.args.number shape part stop
    (subst (λ (n : ℕ). Stops stop n shape part.rows) c.in_ok-number.ensures
    (subst (λ (r : List ℕ). Stops stop c.in_ok-number.number shape r) c.as_slice.ensures
    (subst (λ (s : Shape). Stops stop c.in_ok-number.number s rows) c.in_ok-store.ensures.shape c.in-Err.ensures.answer)))
