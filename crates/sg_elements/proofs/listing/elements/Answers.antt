use Rattle.std.proofs.Common.{sym, subst}
use Rattle.std.specs.List.Sorted.{IsPermutation}
use Rattle.std.proofs.lemmas.List.Sorted.{IsPermutation-refl}
use Rattle.sg_elements.specs.steps.Levels.{walk_rows}
use Rattle.sg_elements.proofs.listing.elements.Goals as goal

pub points_in_order-requires : goal.points_in_order-requires
points_in_order-requires c = subst (IsPermutation (walk_rows c.args.store.now)) (sym c.in_ok-rows.ensures) (IsPermutation-refl _)
