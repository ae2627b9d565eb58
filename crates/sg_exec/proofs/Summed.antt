-- What a pass makes of a field is what the flat meaning makes of it.
use Rattle.std.proofs.Common.{◌≡◌, ℕ, ◌<◌, Bool, true, false, not, ◌&&◌, ◌==◌, cond, inl, inr, List, [], ◌∷◌, ◌++◌, length, map, Option, Some, None, refl, sym, ap, ◌∙◌}
use Rattle.std.specs.Prelude.{filter, slice_get, slice_index, fold, Contains}
use Rattle.std.specs.Option.{option_and_then}
use Rattle.std.proofs.lemmas.Bool.{cases_Bool, cond-true, cond-false, and_from, eqb-true, eq-eqb}
use Rattle.std.proofs.lemmas.Option.{same_Some}
use Rattle.sg_words.specs.declared.operators.Ty.{Ty}
use Rattle.sg_words.specs.declared.operators.AccOp.{AccOp}
use Rattle.sg_words.specs.Words.{folded}
use Rattle.sg_words.proofs.Uses.{same_tests, contains_head, contains_rest, from_filter}
use Rattle.sg_coord.specs.declared.coord.Coord.{Coord}
use Rattle.sg_coord.specs.Bounds.{Bounds}
use Rattle.sg_coord.specs.Coord.{Inside, row_of, point_at}
use Rattle.sg_coord.specs.Laws.{PointOfRow}
use Rattle.sg_layout.specs.declared.shape.Shape.{Shape}
use Rattle.sg_flat.specs.declared.effects.Way.{Way}
use Rattle.sg_flat.specs.declared.effects.Way.TheVariants.{Acc}
use Rattle.sg_flat.specs.declared.effects.Write.{Write}
use Rattle.sg_flat.specs.Effects.{land, landed, is_to, writes_to}
use Rattle.sg_flat.specs.Kernel.{is_inside_of}
use Rattle.sg_accum.specs.Folding.{given_to, AreFolded}
use Rattle.sg_store.specs.StoreWords.{StoreWords}
use Rattle.sg_store.specs.Walks.{cell_in}
use Rattle.sg_ir.specs.Runs.{is_own}
use Rattle.sg_exec.specs.Standing.{shapes_of}
use Rattle.sg_exec.specs.steps.Machines.{cell_there}
use Rattle.sg_exec.specs.steps.Landing.{code_write, landing}
use Rattle.sg_exec.specs.steps.Racing.{given_at, given_by, contributions, ComeTo}
use Rattle.sg_exec.proofs.Giving.{given_to-append}

-- ---- the cell of a write

at_of_write : (shapes : List Shape) (write : Write) → is_inside_of (slice_get shapes write.layout) write.at ≡ true → (code_write shapes write).at ≡ Some write.at
at_of_write shapes write inside = by_test (is_own write.way) (is_inside_of (slice_get shapes write.layout) write.at) write.at inside
  where
    by_test : (a b : Bool) (at : Coord) → b ≡ true → cond a (Some at) (cond b (Some at) None) ≡ Some at
    by_test true b at h = refl
    by_test false true at h = refl
    by_test false false at h = absurd (cc)

pub cell_landed : (stores : List StoreWords) (store : StoreWords) (write : Write) → slice_get stores write.layout ≡ Some store → is_inside_of (slice_get (shapes_of stores) write.layout) write.at ≡ true
    → (landing stores write).cell ≡ cell_in store write.at
cell_landed stores store write there inside =
    ap (cell_there stores write.layout) (at_of_write (shapes_of stores) write inside)
    ∙ ap (λ (s : Option StoreWords). option_and_then (λ (it : StoreWords). cell_in it write.at) s) there

-- ---- what is given to a cell

values_split : (t : Write → Bool) (write : Write) (writes : List Write)
    → map (λ (w : Write). w.value) (filter t (write ∷ writes)) ≡ map (λ (w : Write). w.value) (filter t (write ∷ [])) ++ map (λ (w : Write). w.value) (filter t writes)
values_split t write writes = by_test (t write) (filter t writes)
  where
    by_test : (b : Bool) (rest : List Write)
        → map (λ (w : Write). w.value) (cond b (write ∷ rest) rest) ≡ map (λ (w : Write). w.value) (cond b (write ∷ []) []) ++ map (λ (w : Write). w.value) rest
    by_test true rest = refl
    by_test false rest = refl

and_later : (a b r : Bool) → (a && b) ≡ true → (a && (b && r)) ≡ r
and_later true true r h = refl
and_later true false r h = absurd (cc)
and_later false b r h = absurd (cc)

and_never : (a b r : Bool) → (a && b) ≡ false → (a && (b && r)) ≡ false
and_never true true r h = absurd (cc)
and_never true false r h = refl
and_never false b r h = refl

and_none : (o b : Bool) → b ≡ false → (o && b) ≡ false
and_none true b h = h
and_none false b h = refl

-- the writes to a field of a layout go to cells of the store, each coordinate to its own
module _ (stores : List StoreWords) (layout place : ℕ) (op : AccOp) (store : StoreWords) (bounds : Bounds) (at : Coord) (cell : ℕ) (is_cell : cell_in store at ≡ Some cell)
    (differ : (x y : Coord) (c : ℕ) → cell_in store x ≡ Some c → cell_in store y ≡ Some c → x ≡ y) (point_of_row : PointOfRow) (inside : Inside bounds at) where
  -- a write to the field is a contribution by its operator, at a coordinate that has a cell
  pub record IsContribution (write : Write) : Type 0 where
    pub way : write.way ≡ Acc op
    pub cell_at : ℕ
    pub has_cell : cell_in store write.at ≡ Some cell_at
    pub lands_there : (landing stores write).cell ≡ Some cell_at
    pub inside_at : Inside bounds write.at

  abbrev into : Write → Bool
  into write = (write.layout == layout) && (write.place == place)

  one_given : (write : Write) → ((into write) ≡ true → IsContribution write)
      → given_to cell (given_by layout place (landing stores write)) ≡ map (λ (w : Write). w.value) (writes_to bounds layout place (row_of bounds at) (write ∷ []))
  one_given write known = elim (cases_Bool ((write.layout == layout) && (write.place == place))) [
    | inr other ↦ (
        let nothing : given_by layout place (landing stores write) ≡ [] =
        cond-false (not (is_own write.way) && ((write.layout == layout) && (write.place == place))) (given_at (landing stores write).cell write.value) []
        (and_none (not (is_own write.way)) ((write.layout == layout) && (write.place == place)) other) in
        let none : writes_to bounds layout place (row_of bounds at) (write ∷ []) ≡ [] =
        cond-false (is_to bounds layout place (row_of bounds at) write) (write ∷ []) [] (and_never (write.layout == layout) (write.place == place) (row_of bounds write.at == row_of bounds at) other) in
        ap (given_to cell) nothing ∙ sym (ap (map (λ (w : Write). w.value)) none)
        )
    | inl is ↦ (
        let it = known is in
        let same : (it.cell_at == cell) ≡ (row_of bounds write.at == row_of bounds at) = tests it in
        let gives : given_by layout place (landing stores write) ≡ (it.cell_at, write.value) ∷ [] =
        cond-true (not (is_own write.way) && ((write.layout == layout) && (write.place == place))) (given_at (landing stores write).cell write.value) []
        (and_from (not (is_own write.way)) ((write.layout == layout) && (write.place == place)) (ap (λ (w : Way). not (is_own w)) it.way) is)
        ∙ ap (λ (c : Option ℕ). given_at c write.value) it.lands_there in
        ap (given_to cell) gives
        ∙ ap (λ (b : Bool). map (λ (x : ℕ × ℕ). x.1) (cond b ((it.cell_at, write.value) ∷ []) [])) same
        ∙ by_test (row_of bounds write.at == row_of bounds at) it.cell_at
        ∙ sym (ap (λ (b : Bool). map (λ (w : Write). w.value) (cond b (write ∷ []) [])) (and_later (write.layout == layout) (write.place == place) (row_of bounds write.at == row_of bounds at) is))
        )
  ]
    where
      tests : (it : IsContribution write) → (it.cell_at == cell) ≡ (row_of bounds write.at == row_of bounds at)
      tests it = same_tests (it.cell_at == cell) (row_of bounds write.at == row_of bounds at)
          (λ cells. eq-eqb (row_of bounds write.at) (row_of bounds at)
          (ap (row_of bounds) (differ write.at at cell (it.has_cell ∙ ap (λ (c : ℕ). Some c) (eqb-true it.cell_at cell cells)) is_cell)))
          (λ rows. eq-eqb it.cell_at cell
          (same_Some _ _ (sym it.has_cell ∙ ap (cell_in store)
          (sym (point_of_row bounds write.at it.inside_at) ∙ ap (point_at bounds) (eqb-true (row_of bounds write.at) (row_of bounds at) rows) ∙ point_of_row bounds at inside)
          ∙ is_cell)))

      by_test : (b : Bool) (c : ℕ) → map (λ (x : ℕ × ℕ). x.1) (cond b ((c, write.value) ∷ []) []) ≡ map (λ (w : Write). w.value) (cond b (write ∷ []) [])
      by_test true c = refl
      by_test false c = refl

  pub all_given : (writes : List Write) → ((write : Write) → Contains writes write → (into write) ≡ true → IsContribution write)
      → given_to cell (contributions layout place (map (landing stores) writes)) ≡ map (λ (w : Write). w.value) (writes_to bounds layout place (row_of bounds at) writes)
  all_given [] known = refl
  all_given (write ∷ writes) known =
      given_to-append cell (given_by layout place (landing stores write)) (contributions layout place (map (landing stores) writes))
      ∙ ap (λ (xs : List ℕ). xs ++ given_to cell (contributions layout place (map (landing stores) writes))) (one_given write (known write (contains_head write write writes refl)))
      ∙ ap (λ (xs : List ℕ). map (λ (w : Write). w.value) (writes_to bounds layout place (row_of bounds at) (write ∷ [])) ++ xs) (all_given writes (λ w has. known w (contains_rest w write writes has)))
      ∙ sym (values_split (is_to bounds layout place (row_of bounds at)) write writes)

-- ---- folds

pub fold_landed : (ty : Ty) (op : AccOp) (old : ℕ) (writes : List Write) → ((write : Write) → Contains writes write → write.way ≡ Acc op) → fold (folded op ty) old (map (λ (w : Write). w.value) writes) ≡ landed ty old writes
fold_landed ty op old [] ways = refl
fold_landed ty op old (write ∷ writes) ways =
    fold_landed ty op (folded op ty old write.value) writes (λ w has. ways w (contains_rest w write writes has))
    ∙ ap (λ (way : Way). landed ty (land ty old way write.value) writes) (sym (ways write (contains_head write write writes refl)))

into_of_to : (a b r : Bool) → (a && (b && r)) ≡ true → (a && b) ≡ true
into_of_to true true r h = refl
into_of_to true false r h = absurd (cc)
into_of_to false b r h = absurd (cc)

module _ (stores : List StoreWords) (layout place : ℕ) (op : AccOp) (store : StoreWords) (bounds : Bounds) (at : Coord) (cell : ℕ) (is_cell : cell_in store at ≡ Some cell)
    (differ : (x y : Coord) (c : ℕ) → cell_in store x ≡ Some c → cell_in store y ≡ Some c → x ≡ y) (point_of_row : PointOfRow) (inside : Inside bounds at) where
  -- the cell's word at the end of the pass is what the flat meaning makes of its word
  pub summed : (ty : Ty) (old new : List ℕ) (given : ℕ → List ℕ) (writes : List Write) → AreFolded op ty old given new → cell < length old → ComeTo (folded op ty) (given cell) (given_to cell (contributions layout place (map (landing stores) writes)))
      → ((write : Write) → Contains writes write → ((write.layout == layout) && (write.place == place)) ≡ true → IsContribution stores layout place op store bounds at cell is_cell differ point_of_row inside write)
      → slice_index new cell ≡ landed ty (slice_index old cell) (writes_to bounds layout place (row_of bounds at) writes)
  summed ty old new given writes folds below is known =
      folds.folds cell below
      ∙ is.words (slice_index old cell)
      ∙ ap (fold (folded op ty) (slice_index old cell)) (all_given stores layout place op store bounds at cell is_cell differ point_of_row inside writes known)
      ∙ fold_landed ty op (slice_index old cell) (writes_to bounds layout place (row_of bounds at) writes)
      (λ w has. let both = from_filter (is_to bounds layout place (row_of bounds at)) writes w has in
      (known w both.0 (into_of_to (w.layout == layout) (w.place == place) (row_of bounds w.at == row_of bounds at) both.1)).way)
