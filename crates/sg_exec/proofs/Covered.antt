-- Writes of which some are asked for, where all are active once these are: the run is the same as if all were asked for.
use Rattle.std.proofs.Common.{◌≡◌, ℕ, zero, suc, ◌+◌, ◌==◌, true, inl, inr, List, [], ◌∷◌, ◌++◌, map, Option, Some, None, refl, sym, ap, ◌∙◌, subst, arith, append-nil}
use Rattle.std.specs.Prelude.{filter, slice_get, All, Contains}
use Rattle.std.specs.Option.{option_or}
use Rattle.std.specs.List.{AllZip}
use Rattle.std.specs.Result.{IsOkAnd}
use Rattle.std.proofs.lemmas.Bool.{cond-true, eqb-true}
use Rattle.std.proofs.lemmas.Option.{same_Some}
use Rattle.std.proofs.lemmas.List.Elements.{All-contains, Contains-append_left, Contains-append_right, Contains-append_cases}
use Rattle.sg_words.proofs.Uses.{contains_none, contains_head, contains_rest, from_map, into_map, from_filter, into_filter}
use Rattle.sg_coord.specs.declared.coord.Coord.{Coord}
use Rattle.sg_coord.specs.Laws.{InsideTest}
use Rattle.sg_layout.specs.declared.shape.Shape.{Shape}
use Rattle.sg_layout.specs.Axes.{bounds_of_shape}
use Rattle.sg_layout.specs.Closure.{closure}
use Rattle.sg_layout.specs.ClosureLaws.{ClosureIsInside, ClosureIsOfMembers, ClosureAbsorbs, ClosureExtends}
use Rattle.sg_layout.specs.Need.{FullNode, first_full}
use Rattle.sg_layout.specs.NeedLaws.{AllInside, FullIsOfMembers, FullAbsorbs}
use Rattle.sg_flat.specs.declared.effects.Write.{Write}
use Rattle.sg_flat.specs.declared.effects.Turn.{Turn}
use Rattle.sg_flat.specs.declared.effects.RunFault.{RunFault}
use Rattle.sg_flat.specs.declared.effects.RunFault.TheVariants.{WriteOutside}
use Rattle.sg_flat.specs.declared.state.FlatLayout.{FlatLayout}
use Rattle.sg_flat.specs.declared.state.FlatState.{FlatState}
use Rattle.sg_flat.specs.Effects.{writes_of, written_in}
use Rattle.sg_flat.specs.Kernel.{is_inside_of, first_outside, full_fault, first_full_layout}
use Rattle.sg_store.specs.StoreWords.{StoreWords}
use Rattle.sg_store.specs.StandsFor.{StandsFor}
use Rattle.sg_exec.specs.Standing.{shapes_of, StandForState}
use Rattle.sg_exec.specs.Running.{turn_of, load_meaning}
use Rattle.sg_exec.specs.steps.Landing.{Lands}
use Rattle.sg_exec.specs.steps.Wants.{coords_in, SameMembers, reached_layout, reached_layouts}
use Rattle.sg_exec.proofs.Ending.{ended}
use Rattle.sg_exec.proofs.StoreLists.{flat_at, store_at, shape_at}

-- the writes of turns of one write each
pub turn_writes : (rows : List Write) → writes_of (map turn_of rows) ≡ rows
turn_writes [] = refl
turn_writes (row ∷ rows) = ap (λ (ws : List Write). row ∷ ws) (turn_writes rows)

-- ---- closures and needs

-- a part of a list is closed first, and what follows is in its closure
same_answer : {X : Type 0} (f : List Coord → X) (old few more closed : List Coord) → ((left right : List Coord) → SameMembers left right → f left ≡ f right)
    → ((rest : List Coord) → f (closed ++ rest) ≡ f ((old ++ few) ++ rest))
    → ((at : Coord) → Contains few at → Contains more at) → ((at : Coord) → Contains more at → Contains closed at) → f (old ++ more) ≡ f (old ++ few)
same_answer f old few more closed of absorbs among within =
    of (old ++ more) ((old ++ few) ++ more) (λ at. (into at, out at)) ∙ sym (absorbs more)
    ∙ of (closed ++ more) (closed ++ []) (λ at. (shorter at, longer at)) ∙ absorbs [] ∙ ap f (append-nil (old ++ few))
  where
    into : (at : Coord) → Contains (old ++ more) at → Contains ((old ++ few) ++ more) at
    into at has = elim (Contains-append_cases old more at has) [
      | inl before ↦ Contains-append_left (old ++ few) more at (Contains-append_left old few at before)
      | inr after ↦ Contains-append_right (old ++ few) more at after
    ]

    out : (at : Coord) → Contains ((old ++ few) ++ more) at → Contains (old ++ more) at
    out at has = elim (Contains-append_cases (old ++ few) more at has) [
      | inl before ↦ elim (Contains-append_cases old few at before) [
        | inl first ↦ Contains-append_left old more at first
        | inr second ↦ Contains-append_right old more at (among at second)
      ]
      | inr after ↦ Contains-append_right old more at after
    ]

    shorter : (at : Coord) → Contains (closed ++ more) at → Contains (closed ++ []) at
    shorter at has = elim (Contains-append_cases closed more at has) [
      | inl before ↦ Contains-append_left closed [] at before
      | inr after ↦ Contains-append_left closed [] at (within at after)
    ]

    longer : (at : Coord) → Contains (closed ++ []) at → Contains (closed ++ more) at
    longer at has = elim (Contains-append_cases closed [] at has) [
      | inl before ↦ Contains-append_left closed more at before
      | inr none ↦ absurd (contains_none at none)
    ]

-- ---- the coordinates of writes into a layout

from_coords : (number : ℕ) (writes : List Write) (at : Coord) → Contains (coords_in number writes) at → (write : Write) × (Contains writes write × (write.layout ≡ number)) × (write.at ≡ at)
from_coords number writes at has =
    let found = from_map (λ (write : Write). write.at) (filter (λ (write : Write). write.layout == number) writes) at has in
    let kept = from_filter (λ (write : Write). write.layout == number) writes found.0 found.1 in
    (found.0, (kept.0, eqb-true found.0.layout number kept.1), found.2)

few_coords : (number : ℕ) (heads rows : List Write) → All (Contains rows) heads → (at : Coord) → Contains (coords_in number heads) at → Contains (coords_in number rows) at
few_coords number heads rows of_rows at has =
    let found = from_map (λ (write : Write). write.at) (filter (λ (write : Write). write.layout == number) heads) at has in
    let kept = from_filter (λ (write : Write). write.layout == number) heads found.0 found.1 in
    subst (λ (x : Coord). Contains (coords_in number rows) x) found.2
    (into_map (λ (write : Write). write.at) (filter (λ (write : Write). write.layout == number) rows) found.0
    (into_filter (λ (write : Write). write.layout == number) rows found.0 (All-contains (Contains rows) heads found.0 of_rows kept.0) kept.1))

-- ---- layout by layout

abbrev made_reached : List Coord → List (List (ℕ × ℕ)) → FlatLayout
made_reached active fields = record { active = active; fields = fields }

same_reached : (k : ℕ) (shapes : List Shape) (flats : List FlatLayout) (turns others : List Turn)
    → ((j : ℕ) (shape : Shape) (flat : FlatLayout) → slice_get shapes j ≡ Some shape → slice_get flats j ≡ Some flat
    → closure shape (flat.active ++ written_in (k + j) turns) ≡ closure shape (flat.active ++ written_in (k + j) others))
    → reached_layouts k shapes flats turns ≡ reached_layouts k shapes flats others
same_reached k [] flats turns others each = refl
same_reached k (shape ∷ shapes) [] turns others each = refl
same_reached k (shape ∷ shapes) (flat ∷ flats) turns others each =
    let here : k + 0 ≡ k = omega arith in
    ap (λ (active : List Coord). made_reached active flat.fields ∷ reached_layouts (suc k) shapes flats turns)
    (subst (λ (n : ℕ). closure shape (flat.active ++ written_in n turns) ≡ closure shape (flat.active ++ written_in n others)) here (each 0 shape flat refl refl))
    ∙ ap (λ (rest : List FlatLayout). made_reached (closure shape (flat.active ++ written_in k others)) flat.fields ∷ rest)
    (same_reached (suc k) shapes flats turns others
    (λ j s l is is_flat. let next : k + suc j ≡ suc k + j = omega arith in
    subst (λ (n : ℕ). closure s (l.active ++ written_in n turns) ≡ closure s (l.active ++ written_in n others)) next (each (suc j) s l is is_flat)))

same_full : (k : ℕ) (shapes : List Shape) (flats : List FlatLayout) (turns others : List Turn)
    → ((j : ℕ) (shape : Shape) (flat : FlatLayout) → slice_get shapes j ≡ Some shape → slice_get flats j ≡ Some flat
    → first_full shape (flat.active ++ written_in (k + j) turns) ≡ first_full shape (flat.active ++ written_in (k + j) others))
    → first_full_layout k shapes flats turns ≡ first_full_layout k shapes flats others
same_full k [] flats turns others each = refl
same_full k (shape ∷ shapes) [] turns others each = refl
same_full k (shape ∷ shapes) (flat ∷ flats) turns others each =
    let here : k + 0 ≡ k = omega arith in
    ap (λ (full : Option FullNode). option_or (full_fault k full) (first_full_layout (suc k) shapes flats turns))
    (subst (λ (n : ℕ). first_full shape (flat.active ++ written_in n turns) ≡ first_full shape (flat.active ++ written_in n others)) here (each 0 shape flat refl refl))
    ∙ ap (λ (rest : Option RunFault). option_or (full_fault k (first_full shape (flat.active ++ written_in k others))) rest)
    (same_full (suc k) shapes flats turns others
    (λ j s l is is_flat. let next : k + suc j ≡ suc k + j = omega arith in
    subst (λ (n : ℕ). first_full s (l.active ++ written_in n turns) ≡ first_full s (l.active ++ written_in n others)) next (each (suc j) s l is is_flat)))

reached_there : (k : ℕ) (shapes : List Shape) (flats : List FlatLayout) (turns : List Turn) (i : ℕ) (shape : Shape) (flat : FlatLayout)
    → slice_get shapes i ≡ Some shape → slice_get flats i ≡ Some flat → slice_get (reached_layouts k shapes flats turns) i ≡ Some (reached_layout shape flat (written_in (k + i) turns))
reached_there k [] flats turns i shape flat is is_flat = absurd (cc)
reached_there k (first ∷ shapes) [] turns i shape flat is is_flat = absurd (cc)
reached_there k (first ∷ shapes) (head ∷ flats) turns zero shape flat is is_flat =
    let here : k ≡ k + 0 = omega arith in
    ap (λ (s : Shape). Some (reached_layout s head (written_in k turns))) (same_Some _ _ is)
    ∙ ap (λ (l : FlatLayout). Some (reached_layout shape l (written_in k turns))) (same_Some _ _ is_flat)
    ∙ ap (λ (n : ℕ). Some (reached_layout shape flat (written_in n turns))) here
reached_there k (first ∷ shapes) (head ∷ flats) turns (suc i) shape flat is is_flat =
    let next : suc k + i ≡ k + suc i = omega arith in
    reached_there (suc k) shapes flats turns i shape flat is is_flat ∙ ap (λ (n : ℕ). Some (reached_layout shape flat (written_in n turns))) next

inside_each : (shapes : List Shape) (rows : List Write) → ((write : Write) → Contains rows write → is_inside_of (slice_get shapes write.layout) write.at ≡ true) → first_outside shapes (map turn_of rows) ≡ None
inside_each shapes [] each = refl
inside_each shapes (row ∷ rows) each =
    ap (λ (fault : Option RunFault). option_or fault (first_outside shapes (map turn_of rows)))
    (cond-true (is_inside_of (slice_get shapes row.layout) row.at) None (Some (WriteOutside row.stmt row.at)) (each row (contains_head row row rows refl)))
    ∙ inside_each shapes rows (λ write has. each write (contains_rest write row rows has))

-- ---- the load

-- the laws of layouts by which heads stand for rows
pub record CoverLaws : Type 0 where
  pub test : InsideTest
  pub inside : (shape : Shape) → ClosureIsInside shape
  pub of_members : (shape : Shape) → ClosureIsOfMembers shape
  pub extends : (shape : Shape) → ClosureExtends shape
  pub absorbs : (shape : Shape) → ClosureAbsorbs shape
  pub full_of : (shape : Shape) → FullIsOfMembers shape
  pub full_absorbs : (shape : Shape) → FullAbsorbs shape

module _ (laws : CoverLaws) (stores mids : List StoreWords) (state : FlatState) (heads rows : List Write) (layout : ℕ) (store mid : StoreWords)
    (all : AllZip StandsFor stores state.layouts) (of_rows : All (Contains rows) heads) (in_layout : (write : Write) → Contains rows write → write.layout ≡ layout)
    (there : slice_get stores layout ≡ Some store) (copy : slice_get mids layout ≡ Some mid)
    (reached : AllZip StandsFor mids (reached_layouts 0 (shapes_of stores) state.layouts (map turn_of heads)))
    (active : (flat : FlatLayout) → StandsFor mid flat → (write : Write) → Contains rows write → Contains flat.active write.at) where
  zero_plus : (n : ℕ) → 0 + n ≡ n
  zero_plus n = omega arith

  heads_are : (number : ℕ) → written_in (0 + number) (map turn_of heads) ≡ coords_in number heads
  heads_are number = ap (λ (n : ℕ). written_in n (map turn_of heads)) (zero_plus number) ∙ ap (coords_in number) (turn_writes heads)

  rows_are : (number : ℕ) → written_in (0 + number) (map turn_of rows) ≡ coords_in number rows
  rows_are number = ap (λ (n : ℕ). written_in n (map turn_of rows)) (zero_plus number) ∙ ap (coords_in number) (turn_writes rows)

  -- each row is in the closure of what was active and of the heads
  row_closed : (number : ℕ) (shape : Shape) (flat : FlatLayout) → slice_get (shapes_of stores) number ≡ Some shape → slice_get state.layouts number ≡ Some flat
      → (write : Write) → Contains rows write → write.layout ≡ number → Contains (closure shape (flat.active ++ coords_in number heads)) write.at
  row_closed number shape flat is is_flat write has same =
      let here : layout ≡ number = sym (in_layout write has) ∙ same in
      let found = flat_at mids (reached_layouts 0 (shapes_of stores) state.layouts (map turn_of heads)) number mid reached (ap (slice_get mids) (sym here) ∙ copy) in
      let is_reached : found.0 ≡ reached_layout shape flat (written_in (0 + number) (map turn_of heads)) =
      same_Some _ _ (sym found.1 ∙ reached_there 0 (shapes_of stores) state.layouts (map turn_of heads) number shape flat is is_flat) in
      let closed : Contains (closure shape (flat.active ++ written_in (0 + number) (map turn_of heads))) write.at =
      subst (λ (l : FlatLayout). Contains l.active write.at) is_reached (active found.0 found.2 write has) in
      subst (λ (coords : List Coord). Contains (closure shape (flat.active ++ coords)) write.at) (heads_are number) closed

  closed : (number : ℕ) (shape : Shape) (flat : FlatLayout) → slice_get (shapes_of stores) number ≡ Some shape → slice_get state.layouts number ≡ Some flat
      → (at : Coord) → Contains (coords_in number rows) at → Contains (closure shape (flat.active ++ coords_in number heads)) at
  closed number shape flat is is_flat at has =
      let found = from_coords number rows at has in
      subst (λ (x : Coord). Contains (closure shape (flat.active ++ coords_in number heads)) x) found.2
      (row_closed number shape flat is is_flat found.0 found.1.0 found.1.1)

  all_inside : (number : ℕ) (shape : Shape) (flat : FlatLayout) → slice_get (shapes_of stores) number ≡ Some shape → slice_get state.layouts number ≡ Some flat
      → AllInside shape (flat.active ++ coords_in number heads)
  all_inside number shape flat is is_flat at has = elim (Contains-append_cases flat.active (coords_in number heads) at has) [
    | inl before ↦ (
        let found = store_at stores state.layouts number flat all is_flat in
        let same : found.0.shape ≡ shape = same_Some _ _ (sym (shape_at stores number found.0 found.1) ∙ is) in
        let is_closed : flat.active ≡ closure shape flat.active =
        subst (λ (s : Shape). flat.active ≡ closure s flat.active) same found.2.is_flat.closed in
        (laws.inside shape flat.active at (subst (λ (ats : List Coord). Contains ats at) is_closed before)).1
        )
    | inr after ↦ (laws.inside shape (flat.active ++ coords_in number heads) at
        (closed number shape flat is is_flat at (few_coords number heads rows of_rows at after))).1
  ]

  same_closure : (number : ℕ) (shape : Shape) (flat : FlatLayout) → slice_get (shapes_of stores) number ≡ Some shape → slice_get state.layouts number ≡ Some flat
      → closure shape (flat.active ++ written_in (0 + number) (map turn_of rows)) ≡ closure shape (flat.active ++ written_in (0 + number) (map turn_of heads))
  same_closure number shape flat is is_flat =
      ap (λ (coords : List Coord). closure shape (flat.active ++ coords)) (rows_are number)
      ∙ same_answer (closure shape) flat.active (coords_in number heads) (coords_in number rows) (closure shape (flat.active ++ coords_in number heads)) (laws.of_members shape)
      (laws.absorbs shape (flat.active ++ coords_in number heads)) (few_coords number heads rows of_rows) (closed number shape flat is is_flat)
      ∙ ap (λ (coords : List Coord). closure shape (flat.active ++ coords)) (sym (heads_are number))

  same_need : (number : ℕ) (shape : Shape) (flat : FlatLayout) → slice_get (shapes_of stores) number ≡ Some shape → slice_get state.layouts number ≡ Some flat
      → first_full shape (flat.active ++ written_in (0 + number) (map turn_of rows)) ≡ first_full shape (flat.active ++ written_in (0 + number) (map turn_of heads))
  same_need number shape flat is is_flat =
      ap (λ (coords : List Coord). first_full shape (flat.active ++ coords)) (rows_are number)
      ∙ same_answer (first_full shape) flat.active (coords_in number heads) (coords_in number rows) (closure shape (flat.active ++ coords_in number heads)) (laws.full_of shape)
      (λ rest. laws.full_absorbs shape (flat.active ++ coords_in number heads) rest (all_inside number shape flat is is_flat))
      (few_coords number heads rows of_rows) (closed number shape flat is is_flat)
      ∙ ap (λ (coords : List Coord). first_full shape (flat.active ++ coords)) (sym (heads_are number))

  row_inside : (write : Write) → Contains rows write → is_inside_of (slice_get (shapes_of stores) write.layout) write.at ≡ true
  row_inside write has =
      let found = flat_at stores state.layouts layout store all there in
      let closed_at = row_closed layout store.shape found.0 (shape_at stores layout store there) found.1 write has (in_layout write has) in
      let inside = (laws.inside store.shape (found.0.active ++ coords_in layout heads) write.at closed_at).1 in
      ap (λ (shape : Option Shape). is_inside_of shape write.at) (ap (slice_get (shapes_of stores)) (in_layout write has) ∙ shape_at stores layout store there)
      ∙ (laws.test (bounds_of_shape store.shape) write.at).1 inside

  pub covered : (news : List StoreWords) → first_full_layout 0 (shapes_of stores) state.layouts (map turn_of heads) ≡ None → shapes_of mids ≡ shapes_of stores → Lands mids news rows
      → IsOkAnd (load_meaning (shapes_of stores) state rows) (StandForState (shapes_of stores) news)
  covered news room same lands =
      ended stores mids news state (map turn_of rows) laws.test laws.extends (inside_each (shapes_of stores) rows row_inside)
      (same_full 0 (shapes_of stores) state.layouts (map turn_of rows) (map turn_of heads) same_need ∙ room) same
      (subst (λ (flats : List FlatLayout). AllZip StandsFor mids flats) (sym (same_reached 0 (shapes_of stores) state.layouts (map turn_of rows) (map turn_of heads) same_closure)) reached)
      (subst (λ (writes : List Write). Lands mids news writes) (sym (turn_writes rows)) lands)
