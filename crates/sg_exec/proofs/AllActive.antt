-- What is told of a store in which all that is wanted is active already.
use Rattle.std.proofs.Common.{◌≡◌, ℕ, Bool, true, false, ◌&&◌, List, [], ◌∷◌, ◌++◌, map, cond, Option, Some, None, refl, inl, inr, ap, ◌∙◌, subst, arith}
use Rattle.std.specs.Prelude.{◌↔◌, ◌==◌, filter, slice_get, All, Contains, IsSome, option_and_then}
use Rattle.std.proofs.lemmas.Bool.{eqb-true}
use Rattle.std.proofs.lemmas.List.Elements.{All-nil, All-cons, All-head, All-tail, All-contains, Contains-append_left, Contains-append_cases}
use Rattle.sg_coord.specs.declared.coord.Coord.{Coord}
use Rattle.sg_coord.specs.Bounds.{Bounds}
use Rattle.sg_coord.specs.Coord.{is_inside}
use Rattle.sg_layout.specs.Axes.{bounds_of_shape}
use Rattle.sg_layout.specs.ClosureLaws.{ClosureIsOfMembers}
use Rattle.sg_layout.specs.Need.{first_full}
use Rattle.sg_layout.specs.NeedLaws.{FullIsOfMembers}
use Rattle.sg_flat.specs.declared.effects.Write.{Write}
use Rattle.sg_flat.specs.declared.state.FlatLayout.{FlatLayout}
use Rattle.sg_flat.specs.Effects.{writes_of}
use Rattle.sg_store.specs.StoreWords.{StoreWords}
use Rattle.sg_store.specs.StoreLaws.{CellsAreActive, LiveIsNeed}
use Rattle.sg_store.specs.StandsFor.{StandsFor}
use Rattle.sg_store.specs.Walks.{cell_in}
use Rattle.sg_store.specs.WellFormed.{IsWellFormed}
use Rattle.sg_exec.specs.declared.activation.turns.Turns.{Turns}
use Rattle.sg_exec.specs.steps.Turning.{IsActive, IsActiveStore, IsMeant, turns_in, wanted_of}
use Rattle.sg_exec.specs.steps.Wants.{reached_layout}
use Rattle.sg_exec.proofs.Uncapped.{nothing_wanted}

-- the writes at active coordinates want active ones in a layout
module _ (stores : List StoreWords) (layout : ℕ) (store : StoreWords) (there : slice_get stores layout ≡ Some store) (bounds : Bounds) where
  active_here : (write : Write) → write.layout ≡ layout → IsActive stores write → IsSome (cell_in store write.at)
  active_here write same active =
      subst (λ (o : Option StoreWords). IsSome (option_and_then (λ (s : StoreWords). cell_in s write.at) o)) (ap (slice_get stores) same ∙ there) active

  wanted_active : (writes : List Write) → All (IsActive stores) writes → All (λ at. IsSome (cell_in store at)) (wanted_of bounds layout writes)
  wanted_active [] all = All-nil (λ at. IsSome (cell_in store at))
  wanted_active (write ∷ writes) all =
      by_test (write.layout == layout) (is_inside bounds write.at) refl (wanted_active writes (All-tail (IsActive stores) write writes all))
    where
      by_test : (here inside : Bool) → (write.layout == layout) ≡ here → All (λ at. IsSome (cell_in store at)) (wanted_of bounds layout writes)
          → All (λ at. IsSome (cell_in store at)) (map (λ (w : Write). w.at) (cond (here && inside) (write ∷ filter (λ (w : Write). (w.layout == layout) && is_inside bounds w.at) writes) (filter (λ (w : Write). (w.layout == layout) && is_inside bounds w.at) writes)))
      by_test true true is rest =
          All-cons (λ at. IsSome (cell_in store at)) write.at (wanted_of bounds layout writes)
          (active_here write (eqb-true write.layout layout is) (All-head (IsActive stores) write writes all)) rest
      by_test true false is rest = rest
      by_test false inside is rest = rest

-- so what turns want in a store where all of it is active is among what is active
pub meant_active : (stores : List StoreWords) (turns : Turns) (number : ℕ) (store : StoreWords) (wanted : List Coord) → CellsAreActive store → IsWellFormed store → IsActiveStore stores turns number store
    → IsMeant stores turns number store wanted → (flat : FlatLayout) → StandsFor store flat → (at : Coord) → Contains wanted at → Contains flat.active at
meant_active stores turns number store wanted cells well active meant flat stands = λ at is.
    (cells well flat stands at).0
    (All-contains (λ x. IsSome (cell_in store x)) (wanted_of (bounds_of_shape store.shape) number (writes_of (turns_in stores meant.state turns))) at
    (wanted_active stores number store active.0 (bounds_of_shape store.shape) (writes_of (turns_in stores meant.state turns)) (active.1 meant.state meant.sees meant.named))
    (subst (λ (l : List Coord). Contains l at) meant.list is))

-- and changes nothing: its closure and its needs are those of what is active
pub active_wanted : (store : StoreWords) (flat : FlatLayout) (wanted : List Coord) → LiveIsNeed store → FullIsOfMembers store.shape → ClosureIsOfMembers store.shape → IsWellFormed store
    → ((at : Coord) → Contains wanted at → Contains flat.active at) → StandsFor store flat
    → (first_full store.shape (flat.active ++ wanted) ≡ None) × StandsFor store (reached_layout store.shape flat wanted)
active_wanted store flat wanted law full closed well among stands = (
  full (flat.active ++ wanted) (flat.active ++ []) same ∙ none.0,
  subst (λ (active : List Coord). StandsFor store (record { active = active; fields = flat.fields })) (closed (flat.active ++ []) (flat.active ++ wanted) back) none.1,
)
  where
    none : (first_full store.shape (flat.active ++ []) ≡ None) × StandsFor store (reached_layout store.shape flat [])
    none = nothing_wanted store flat law well stands

    left : (at : Coord) → Contains (flat.active ++ wanted) at → Contains (flat.active ++ []) at
    left at is = elim (Contains-append_cases flat.active wanted at is) [
      | inl old ↦ Contains-append_left flat.active [] at old
      | inr new ↦ Contains-append_left flat.active [] at (among at new)
    ]

    right : (at : Coord) → Contains (flat.active ++ []) at → Contains (flat.active ++ wanted) at
    right at is = elim (Contains-append_cases flat.active [] at is) [
      | inl old ↦ Contains-append_left flat.active wanted at old
      | inr new ↦ absurd (omega (arith, new.1))
    ]

    same : (at : Coord) → Contains (flat.active ++ wanted) at ↔ Contains (flat.active ++ []) at
    same at = (left at, right at)

    back : (at : Coord) → Contains (flat.active ++ []) at ↔ Contains (flat.active ++ wanted) at
    back at = (right at, left at)
