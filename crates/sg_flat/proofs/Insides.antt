-- Where no write is outside, the writes to each layout are inside its bounds.
use Rattle.std.proofs.Common.{◌≡◌, ℕ, ◌<◌, inl, inr, Bool, true, not, eqb, List, [], ◌∷◌, length, get_or, Option, Some, None, refl, sym, ap, ◌∙◌}
use Rattle.std.specs.Prelude.{IsTrue, slice_get}
use Rattle.std.specs.List.{list_all}
use Rattle.std.proofs.lemmas.Bool.{cases_Bool, cond-true, cond-false, eqb-true, and_from, and_parts, not_from_false, or_left, or_right}
use Rattle.std.proofs.lemmas.List.Folds.{list_all-append}
use Rattle.std.proofs.lemmas.Option.{slice_get_read}
use Rattle.sg_coord.specs.declared.coord.Coord.{Coord}
use Rattle.sg_coord.specs.Coord.{is_inside}
use Rattle.sg_layout.specs.declared.shape.Shape.{Shape}
use Rattle.sg_layout.specs.Axes.{bounds_of_shape}
use Rattle.sg_flat.specs.declared.effects.Write.{Write}
use Rattle.sg_flat.specs.declared.effects.Turn.{Turn}
use Rattle.sg_flat.specs.declared.effects.RunFault.TheVariants.{WriteOutside}
use Rattle.sg_words.proofs.Uses.{neither}
use Rattle.sg_flat.specs.Effects.{writes_of}
use Rattle.sg_flat.specs.steps.Landing.{stay_inside}
use Rattle.sg_flat.specs.Kernel.{is_inside_of, outside_among, first_outside}

-- the write is inside the extents of the layout that it names
abbrev pub is_inside_its : List Shape → Write → Bool
is_inside_its shapes write = is_inside_of (slice_get shapes write.layout) write.at

pub inside_from_none : (shapes : List Shape) (at : Coord) (writes : List Write) → outside_among shapes at writes ≡ None → list_all (is_inside_its shapes) writes ≡ true
inside_from_none shapes at [] none = refl
inside_from_none shapes at (write ∷ writes) none = elim (cases_Bool (is_inside_its shapes write)) [
  | inl inside ↦ and_from _ _ inside (inside_from_none shapes at writes (sym (cond-true (is_inside_its shapes write) (outside_among shapes at writes) (Some (WriteOutside write.stmt at)) inside) ∙ none))
  | inr outside ↦ absurd (let some = sym (cond-false (is_inside_its shapes write) (outside_among shapes at writes) (Some (WriteOutside write.stmt at)) outside) ∙ none in cc)
]

pub all_inside : (shapes : List Shape) (turns : List Turn) → first_outside shapes turns ≡ None → list_all (is_inside_its shapes) (writes_of turns) ≡ true
all_inside shapes [] none = refl
all_inside shapes (turn ∷ turns) none =
    let parts = neither (outside_among shapes turn.at turn.writes) (first_outside shapes turns) none in
    list_all-append (is_inside_its shapes) turn.writes (writes_of turns)
    ∙ and_from _ _ (inside_from_none shapes turn.at turn.writes parts.0) (all_inside shapes turns parts.1)

inside_of_layout : (shapes : List Shape) (layout : ℕ) (shape : Shape) (writes : List Write) → slice_get shapes layout ≡ Some shape → list_all (is_inside_its shapes) writes ≡ true → stay_inside (bounds_of_shape shape) layout writes ≡ true
inside_of_layout shapes layout shape [] is all = refl
inside_of_layout shapes layout shape (write ∷ writes) is all =
    let parts = and_parts _ _ all in
    and_from _ _
    (elim (cases_Bool (eqb write.layout layout)) [
      | inl same ↦ or_right (not (eqb write.layout layout)) (is_inside (bounds_of_shape shape) write.at)
          (sym (ap (λ (found : Option Shape). is_inside_of found write.at) (ap (slice_get shapes) (eqb-true write.layout layout same) ∙ is)) ∙ parts.0)
      | inr apart ↦ or_left (not (eqb write.layout layout)) (is_inside (bounds_of_shape shape) write.at) (not_from_false _ apart)
    ])
    (inside_of_layout shapes layout shape writes is parts.1)

pub stay_inside_each : (shapes : List Shape) (i number : ℕ) (shape : Shape) (turns : List Turn) → number ≡ i → i < length shapes → shape ≡ get_or shapes i shape → first_outside shapes turns ≡ None → IsTrue (stay_inside (bounds_of_shape shape) number (writes_of turns))
stay_inside_each shapes i number shape turns same below is none =
    inside_of_layout shapes number shape (writes_of turns) (ap (slice_get shapes) same ∙ slice_get_read shapes (length shapes) i shape refl below is) (all_inside shapes turns none)
