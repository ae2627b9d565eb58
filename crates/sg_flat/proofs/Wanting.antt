-- What a run's refusals and its active coordinates depend on.
use Rattle.std.proofs.Common.{◌≡◌, ◌↔◌, ℕ, suc, ◌+◌, Bool, List, [], ◌∷◌, ◌++◌, map, filter, Option, Some, None, Ok, refl, ap, inl, inr, arith, subst}
use Rattle.std.specs.Prelude.{Contains, slice_get}
use Rattle.std.specs.Result.{result_map_both}
use Rattle.std.specs.List.{AllByRecursion}
use Rattle.std.proofs.lemmas.Bool.{cases_Bool}
use Rattle.sg_words.specs.Results.{fault_or}
use Rattle.sg_coord.specs.declared.coord.Coord.{Coord}
use Rattle.sg_layout.specs.declared.shape.Shape.{Shape}
use Rattle.sg_layout.specs.ClosureLaws.{ClosureIsOfMembers}
use Rattle.sg_layout.specs.NeedLaws.{FullIsOfMembers}
use Rattle.sg_flat.specs.declared.effects.Write.{Write}
use Rattle.sg_flat.specs.declared.effects.Turn.{Turn}
use Rattle.sg_flat.specs.declared.effects.RunFault.{RunFault}
use Rattle.sg_flat.specs.declared.state.FlatLayout.{FlatLayout}
use Rattle.sg_flat.specs.Effects.{written_in}
use Rattle.sg_flat.specs.Kernel.{outside_among, first_outside, first_full_layout, layouts_after}
use Rattle.sg_flat.specs.Wants.{actives_of, MeaningIsOfWants, IsKeptOrInside, OutsideIsWanted}

outside_among_kept : (shapes : List Shape) (keep : Write → Bool) (at : Coord) (writes : List Write) → AllByRecursion (IsKeptOrInside shapes keep) writes
    → outside_among shapes at (filter keep writes) ≡ outside_among shapes at writes
outside_among_kept shapes keep at [] all = refl
outside_among_kept shapes keep at (write ∷ writes) all = elim (cases_Bool (keep write)) [
  | inl kept ↦ rw (kept, outside_among_kept shapes keep at writes all.1) refl
  | inr left ↦ rw (left, all.0 left) (outside_among_kept shapes keep at writes all.1)
]

pub outside_is_wanted : OutsideIsWanted
outside_is_wanted shapes keep [] all = refl
outside_is_wanted shapes keep (turn ∷ turns) all =
    rw (outside_among_kept shapes keep turn.at turn.writes all.0, outside_is_wanted shapes keep turns all.1) refl

-- the active and the written coordinates of a layout are the same by both lists of iterations
abbrev SameIn : List Turn → List Turn → ℕ → FlatLayout → Type 0
SameIn wants turns number layout = (at : Coord) → Contains (layout.active ++ written_in number wants) at ↔ Contains (layout.active ++ written_in number turns) at

-- and so in all layouts, from the given number on
abbrev SameFrom : List Turn → List Turn → ℕ → List FlatLayout → Type 0
SameFrom wants turns number [] = Unit {0}
SameFrom wants turns number (layout ∷ layouts) = SameIn wants turns number layout × SameFrom wants turns (suc number) layouts

same_from : (wants turns : List Turn) (number : ℕ) (layouts : List FlatLayout)
    → ((index : ℕ) (layout : FlatLayout) → slice_get layouts index ≡ Some layout → SameIn wants turns (index + number) layout) → SameFrom wants turns number layouts
same_from wants turns number [] each = tt
same_from wants turns number (layout ∷ layouts) each =
    (λ at. subst (λ (n : ℕ). SameIn wants turns n layout) (omega arith) (each 0 layout refl) at, same_from wants turns (suc number) layouts (λ index later at. subst (λ (n : ℕ). SameIn wants turns n later) (omega arith) (each (suc index) later at)))

full_same : ((shape : Shape) → FullIsOfMembers shape) → (wants turns : List Turn) (number : ℕ) (shapes : List Shape) (layouts : List FlatLayout)
    → SameFrom wants turns number layouts → first_full_layout number shapes layouts wants ≡ first_full_layout number shapes layouts turns
full_same law wants turns number [] layouts same = refl
full_same law wants turns number (shape ∷ shapes) [] same = refl
full_same law wants turns number (shape ∷ shapes) (layout ∷ layouts) same =
    rw (law shape (layout.active ++ written_in number wants) (layout.active ++ written_in number turns) same.0, full_same law wants turns (suc number) shapes layouts same.1) refl

actives_same : ((shape : Shape) → ClosureIsOfMembers shape) → (wants turns : List Turn) (number : ℕ) (shapes : List Shape) (layouts : List FlatLayout)
    → SameFrom wants turns number layouts
    → map (λ layout. layout.active) (layouts_after number shapes layouts wants) ≡ map (λ layout. layout.active) (layouts_after number shapes layouts turns)
actives_same law wants turns number [] layouts same = refl
actives_same law wants turns number (shape ∷ shapes) [] same = refl
actives_same law wants turns number (shape ∷ shapes) (layout ∷ layouts) same =
    rw (law shape (layout.active ++ written_in number wants) (layout.active ++ written_in number turns) same.0, actives_same law wants turns (suc number) shapes layouts same.1) refl

answers_same : (outside full : Option RunFault) (one two : List FlatLayout) → map (λ layout. layout.active) one ≡ map (λ layout. layout.active) two
    → result_map_both actives_of (λ fault. fault) (fault_or outside (fault_or full (Ok (record { layouts = one })))) ≡ result_map_both actives_of (λ fault. fault) (fault_or outside (fault_or full (Ok (record { layouts = two }))))
answers_same (Some fault) full one two same = refl
answers_same None (Some fault) one two same = refl
answers_same None None one two same = ap Ok same

pub meaning_is_of_wants : ((shape : Shape) → FullIsOfMembers shape) → ((shape : Shape) → ClosureIsOfMembers shape) → MeaningIsOfWants
meaning_is_of_wants full closed shapes state wants turns given =
    let same = same_from wants turns 0 state.layouts (λ index layout at. subst (λ (n : ℕ). SameIn wants turns n layout) (omega arith) (given.members index layout at)) in
    rw (given.outside, full_same full wants turns 0 shapes state.layouts same)
    (answers_same (first_outside shapes turns) (first_full_layout 0 shapes state.layouts turns) (layouts_after 0 shapes state.layouts wants) (layouts_after 0 shapes state.layouts turns)
    (actives_same closed wants turns 0 shapes state.layouts same))
