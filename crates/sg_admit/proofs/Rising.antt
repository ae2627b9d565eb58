-- The iterations of a kernel rise in row order.
use Rattle.std.proofs.Common.{◌≡◌, ℕ, zero, suc, List, [], ◌∷◌, map, refl, sym, ap, subst, arith}
use Rattle.std.specs.Prelude.{AllPairs, slice_get}
use Rattle.sg_coord.specs.declared.coord.Coord.{Coord}
use Rattle.sg_coord.specs.Coord.{ComesBefore}
use Rattle.sg_layout.specs.declared.shape.Shape.{Shape}
use Rattle.sg_layout.specs.ClosureLaws.{ClosureIsInOrder}
use Rattle.sg_flat.specs.declared.effects.Domain.{Domain}
use Rattle.sg_flat.specs.declared.effects.Domain.TheVariants.{Walk, Range}
use Rattle.sg_flat.specs.declared.effects.Write.{Write}
use Rattle.sg_flat.specs.declared.effects.Turn.{Turn}
use Rattle.sg_flat.specs.declared.state.FlatLayout.{FlatLayout}
use Rattle.sg_flat.specs.Domain.{active_in, domain_points}
use Rattle.sg_flat.specs.State.{AreFlatLayouts}
use Rattle.sg_flat.specs.Laws.{BoxIsInOrder}
use Rattle.sg_types.specs.Iterations.{writes_at, domain_of}
use Rattle.sg_admit.specs.Laws.{TurnsRise}

ats_of_turns : (writes : Coord → List Write) (points : List Coord) → map (λ (turn : Turn). turn.at) (map (λ (at : Coord). record { at = at; writes = writes at }) points) ≡ points
ats_of_turns writes [] = refl
ats_of_turns writes (at ∷ points) = ap (λ (more : List Coord). at ∷ more) (ats_of_turns writes points)

none_rise : AllPairs ComesBefore []
none_rise = λ i j d before below. absurd (omega arith)

module _ (closures : (shape : Shape) → ClosureIsInOrder shape) (boxes : (lo hi : Coord) → BoxIsInOrder lo hi) where
  active_rise : (shapes : List Shape) (layouts : List FlatLayout) (number : ℕ) → AreFlatLayouts shapes layouts → AllPairs ComesBefore (active_in (slice_get layouts number))
  active_rise [] [] number flat = none_rise
  active_rise [] (layout ∷ layouts) number flat = absurd flat
  active_rise (shape ∷ shapes) [] number flat = none_rise
  active_rise (shape ∷ shapes) (layout ∷ layouts) zero flat = subst (AllPairs ComesBefore) (sym flat.0.closed) (closures shape layout.active)
  active_rise (shape ∷ shapes) (layout ∷ layouts) (suc number) flat = active_rise shapes layouts number flat.1

  pub turns_rise : TurnsRise
  turns_rise world kernel flat = subst (AllPairs ComesBefore) (sym (ats_of_turns (writes_at world kernel) (domain_points world.state (domain_of world kernel.domain)))) (points (domain_of world kernel.domain))
    where
      points : (domain : Domain) → AllPairs ComesBefore (domain_points world.state domain)
      points (Walk number) = active_rise world.shapes world.state.layouts number flat
      points (Range lo hi) = boxes lo hi
