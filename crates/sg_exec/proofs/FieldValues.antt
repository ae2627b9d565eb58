-- Values of a field at a row of places, by its cells.
use Rattle.std.proofs.Common.{◌≡◌, ℕ, ◌+◌, ◌-◌, ◌*◌, ◌/◌, ◌%◌, ◌^◌, ◌<◌, ◌≤◌, Bool, true, false, cond, List, length, get_or, Option, Some, None, refl, sym, ap, ◌∙◌, subst, arith, Fits, w32}
use Rattle.std.specs.Prelude.{◌==◌, IfSome, slice_get, if◌then◌else◌}
use Rattle.std.proofs.lemmas.Bool.{eqb-false}
use Rattle.std.proofs.lemmas.Simd.{get_or-zip2, Each1-get_or}
use lib.Lanes.{zip2, Each1}
use Rattle.sg_coord.specs.declared.coord.Coord.{Coord}
use Rattle.sg_coord.specs.Laws.{InsideTest, PointOfRow}
use Rattle.sg_store.specs.StoreWords.{StoreWords}
use Rattle.sg_store.specs.declared.field_cells.FieldCells.{FieldCells}
use Rattle.sg_store.specs.FieldCells.{IsLastSpot}
use Rattle.sg_ir.specs.Laws.{PlaceHasCoordinate}
use Rattle.sg_exec.specs.declared.lanes.held.Held.{Held}
use Rattle.sg_exec.specs.Standing.{shapes_of}
use Rattle.sg_exec.specs.steps.Accessing.{IsValueAt}
use Rattle.sg_exec.specs.steps.Holding.{held_of, IsOneOf}
use Rattle.sg_exec.specs.steps.FieldReads.{IsFieldIn, IsFieldOf}
use Rattle.sg_exec.proofs.Reading.{value_live, value_dead}

-- the cells of a field of the layout that a word names
pub field_found : (stores : List StoreWords) (one field : ℕ) (store : StoreWords) (found : Option FieldCells) → 1 ≤ one → slice_get stores ((one - 1) / 8) ≡ Some store
    → IfSome found (λ cells. IsFieldIn store ((one - 1) % 8) field cells.width cells.words.now) → IfSome found (λ cells. IsFieldOf stores one field cells.width cells.words.now)
field_found stores one field store None some there within = tt
field_found stores one field store (Some cells) some there within = record { some = some; store = store; there = there; within = within }

-- what the laws of coordinates and places tell
pub record ReadLaws (stores : List StoreWords) : Type 0 where
  pub inside : InsideTest
  pub point : PointOfRow
  pub has : (layout : ℕ) (at : Coord) → PlaceHasCoordinate (shapes_of stores) layout at

module _ (stores : List StoreWords) (one field width : ℕ) (words : List ℕ) (laws : ReadLaws stores) (cells : IsFieldOf stores one field width words) where
  abbrev held_one : ℕ → ℕ → Held
  held_one part slot = record { layout = (one - 1) / 8; spot = record { node = (one - 1) % 8; part = part; slot = slot } }

  -- a spot after the last node
  live : (part slot cell word : ℕ) → cell ≡ ((part * width) % 2 ^ 32 + slot) % 2 ^ 32 → word ≡ get_or words cell 0 → IsValueAt stores (Some (held_one part slot)) field word
  live part slot cell word is word_is = λ state all there holds layout at loop same.
      value_live stores state loop layout field at there (held_one part slot) cells.store word all holds cells.there same
      (λ flat stands path along whole.
      let last : IsLastSpot cells.store (held_one part slot).spot path = record { last = cells.within.last; leads = along } in
      let few : part * width + slot < 2 ^ 32 = cells.within.cells.few (held_one part slot).spot path last in
      let cell_is : cell ≡ part * width + slot = omega (arith, is, few) in
      word_is ∙ ap (λ (n : ℕ). get_or words n 0) cell_is ∙ cells.within.cells.values flat stands (held_one part slot).spot path last)

  dead : (word : ℕ) → word ≡ 0 → IsValueAt stores None field word
  dead word none = λ state all there holds layout at loop same.
      none ∙ value_dead stores state loop layout field at there all laws.inside laws.point (laws.has layout at) holds same

  -- a column
  pub value_over : (kind part slot cell word : ℕ) → IsOneOf kind one → cell ≡ ((part * width) % 2 ^ 32 + slot) % 2 ^ 32 → word ≡ (if kind == 0 then 0 else get_or words cell 0) → IsValueAt stores (held_of kind part slot) field word
  value_over kind part slot cell word same is word_is = by_kind (kind == 0) refl word_is
    where
      by_kind : (b : Bool) → (kind == 0) ≡ b → word ≡ (if b then 0 else get_or words cell 0) → IsValueAt stores (if b then None else Some (record { layout = (kind - 1) / 8; spot = record { node = (kind - 1) % 8; part = part; slot = slot } })) field word
      by_kind true none value = dead word value
      by_kind false some value =
          let here : kind ≡ one = same (eqb-false kind 0 some) in
          subst (λ (n : ℕ). IsValueAt stores (Some (record { layout = (n - 1) / 8; spot = record { node = (n - 1) % 8; part = part; slot = slot } })) field word) (sym here) (live part slot cell word is value)

-- ---- lanes

-- a lane of a difference that is the first one
pub lane_follows : (numbers counts : List ℕ) (first k : ℕ) → k < 32 → first + 32 ≤ 2 ^ 32 → length numbers ≡ 32 → Each1 (Fits w32) numbers → length counts ≡ 32 → get_or counts k 0 ≡ k
    → get_or (zip2 (λ x y. (x + (2 ^ 32 - y)) % 2 ^ 32) numbers counts) k 0 ≡ first → get_or numbers k 0 ≡ first + k
lane_follows numbers counts first k small few long fits counted count is =
    let lane : get_or (zip2 (λ x y. (x + (2 ^ 32 - y)) % 2 ^ 32) numbers counts) k 0 ≡ (get_or numbers k 0 + (2 ^ 32 - get_or counts k 0)) % 2 ^ 32 =
    get_or-zip2 (λ x y. (x + (2 ^ 32 - y)) % 2 ^ 32) numbers counts k 0 0 0 (omega (arith, small, long)) (omega (arith, small, counted)) in
    let low = (Each1-get_or _ numbers k 0 (omega (arith, small, long)) fits).fits in
    omega (arith, lane, low, count, is, small, few)
