-- The box of a kernel by its corners.
use Rattle.std.proofs.Common.{◌≡◌, true, false, List, sym, ap, ◌∙◌}
use Rattle.sg_coord.specs.declared.coord.Coord.{Coord}
use Rattle.sg_flat.specs.declared.effects.Domain.TheVariants.{Range}
use Rattle.sg_types.specs.declared.typed.TypedRange.{TypedRange}
use Rattle.sg_types.specs.declared.typed.TypedDomain.TheVariants as domain
use Rattle.sg_types.specs.declared.typed.TypedKernel.{TypedKernel}
use Rattle.sg_types.specs.Iterations.{domain_of}
use Rattle.sg_admit.specs.Bounds.{nowhere, constant_domain}
use Rattle.sg_admit.specs.steps.Corners.{corner_of}

pub box_is : (kernel : TypedKernel) (ranges below above : List TypedRange) → kernel.domain ≡ domain.Ranges ranges → below ≡ ranges → above ≡ ranges
    → (lo hi : Coord) → lo ≡ corner_of false below → hi ≡ corner_of true above → Range lo hi ≡ constant_domain kernel
box_is kernel ranges below above is b a lo hi l h =
    ap (λ (it : Coord). Range it hi) (l ∙ ap (corner_of false) b) ∙ (ap (Range (corner_of false ranges)) (h ∙ ap (corner_of true) a) ∙ sym (ap (domain_of nowhere) is))
