-- A store that gets the values of a pass stands for the flat layout after the writes to that field.
use Rattle.std.proofs.Common.{◌≡◌, ℕ, zero, suc, ◌<◌, ◌^◌, true, ◌&&◌, ◌==◌, List, [], ◌∷◌, map, length, Option, Some, None, pos, refl, sym, ap, ◌∙◌, subst}
use Rattle.std.specs.Prelude.{slice_get, slice_index, Contains, IsSome}
use Rattle.std.proofs.lemmas.Bool.{cond-true}
use Rattle.std.proofs.lemmas.Option.{same_Some, slice_get_within}
use Rattle.sg_words.specs.declared.operators.AccOp.{AccOp}
use Rattle.sg_words.proofs.Uses.{from_filter}
use Rattle.sg_coord.specs.declared.coord.Coord.{Coord}
use Rattle.sg_coord.specs.Bounds.{Bounds}
use Rattle.sg_coord.specs.Coord.{Inside, is_inside, row_of}
use Rattle.sg_coord.specs.Laws.{RowBelow}
use Rattle.sg_layout.specs.declared.shape.Shape.{Shape}
use Rattle.sg_layout.specs.Axes.{bounds_of_shape}
use Rattle.sg_layout.specs.ClosureLaws.{ClosureIsOfMembers, ClosureIsInside}
use Rattle.sg_flat.specs.declared.effects.Way.TheVariants.{Acc}
use Rattle.sg_flat.specs.declared.effects.Write.{Write}
use Rattle.sg_flat.specs.declared.state.FlatLayout.{FlatLayout}
use Rattle.sg_flat.specs.Words.{word_at}
use Rattle.sg_flat.specs.Effects.{landed, writes_to}
use Rattle.sg_flat.specs.Kernel.{is_inside_of}
use Rattle.sg_flat.specs.State.{value_at, words_or_none}
use Rattle.sg_flat.proofs.Uses.{RunLaws}
use Rattle.sg_accum.specs.Folding.{old_values, operator_of, type_of, given_to, AreFolded}
use Rattle.sg_store.specs.StoreWords.{StoreWords, word_in}
use Rattle.sg_store.specs.Walks.{cell_in}
use Rattle.sg_store.specs.WellFormed.{IsReached, IsWellFormed}
use Rattle.sg_store.specs.StandsFor.{StandsFor}
use Rattle.sg_store.specs.StoreLaws.{CellsAreActive, CellsDiffer}
use Rattle.sg_store.specs.Rows.{SetsRow}
use Rattle.sg_exec.specs.declared.results.shared.Accumulated.{Accumulated}
use Rattle.sg_exec.specs.Standing.{shapes_of}
use Rattle.sg_exec.specs.steps.Landing.{landing, landed_layout, HasTree}
use Rattle.sg_words.specs.Words.{folded}
use Rattle.sg_exec.specs.steps.Racing.{contributions, joining, ComeTo, IsPassOf}
use Rattle.sg_exec.proofs.Summed.{IsContribution, cell_landed, summed}
use Rattle.sg_exec.specs.steps.Passes.{to_field, into_field}
use Rattle.sg_exec.proofs.SumLanded.{parts_field, sets_row}

-- the cells of a store with the same tree
tree_cells : (store copy : StoreWords) → HasTree store copy → (at : Coord) → cell_in copy at ≡ cell_in store at
tree_cells store copy tree at = ap (λ (s : StoreWords). cell_in s at) tree

tree_shape : (store copy : StoreWords) → HasTree store copy → copy.shape ≡ store.shape
tree_shape store copy tree = ap (λ (s : StoreWords). s.shape) tree

shape_there : (stores : List StoreWords) (i : ℕ) (store : StoreWords) → slice_get stores i ≡ Some store → slice_get (shapes_of stores) i ≡ Some store.shape
shape_there [] i store is = absurd (cc)
shape_there (first ∷ stores) zero store is = ap (λ (s : StoreWords). Some s.shape) (same_Some _ _ is)
shape_there (first ∷ stores) (suc i) store is = shape_there stores i store is

some_cell : (found : Option ℕ) → IsSome found → (cell : ℕ) × (found ≡ Some cell)
some_cell None some = absurd (cc)
some_cell (Some cell) some = (cell, refl)

is_some : (found : Option ℕ) (cell : ℕ) → found ≡ Some cell → IsSome found
is_some found cell is = subst (λ (o : Option ℕ). IsSome o) (sym is) refl

-- what holds of a store of the run, where a pass into a field of it has ended
pub record EndedPass (stores : List StoreWords) (it : Accumulated) (copy : StoreWords) (words : List ℕ) (given : ℕ → List ℕ) (writes : List Write) : Type 0 where
  pub pass : IsPassOf stores it
  pub tree : HasTree pass.store copy
  pub fresh : (cell : ℕ) → word_in copy it.field cell ≡ word_in pass.store it.field cell
  pub ways : (write : Write) → Contains writes write → write.layout ≡ it.layout → write.place ≡ it.field → write.way ≡ Acc it.op
  pub given_is : (cell : ℕ) → ComeTo (joining it) (given cell) (given_to cell (contributions it.layout it.field (map (landing stores) writes)))
  pub folds : AreFolded (operator_of it.pass) (type_of it.pass) (old_values it.pass) given words
  pub small : (cell : ℕ) → slice_index words cell < 2 ^ 32

module _ (stores : List StoreWords) (it : Accumulated) (copy : StoreWords) (words : List ℕ) (given : ℕ → List ℕ) (writes : List Write) (ended : EndedPass stores it copy words given writes)
    (laws : RunLaws copy.shape) (below : RowBelow) (of_members : ClosureIsOfMembers copy.shape) (is_inside_law : ClosureIsInside copy.shape) (active_law : CellsAreActive copy) (differ_law : CellsDiffer copy) (well : IsWellFormed copy)
    (flat : FlatLayout) (stands : StandsFor copy flat) (active : (write : Write) → Contains writes write → write.layout ≡ it.layout → write.place ≡ it.field → Contains flat.active write.at) where
  abbrev bounds : Bounds
  bounds = bounds_of_shape copy.shape

  inside : (at : Coord) → Contains flat.active at → Inside bounds at
  inside at has = (is_inside_law flat.active at (subst (λ ats. Contains ats at) stands.is_flat.closed has)).1

  has_cell : (at : Coord) → Contains flat.active at → (cell : ℕ) × (cell_in copy at ≡ Some cell)
  has_cell at has = some_cell (cell_in copy at) ((active_law well flat stands at).1 has)

  known : (at : Coord) (cell : ℕ) (is : cell_in copy at ≡ Some cell) (differ : (x y : Coord) (c : ℕ) → cell_in copy x ≡ Some c → cell_in copy y ≡ Some c → x ≡ y) (within : Inside bounds at)
      → (write : Write) → Contains writes write → ((write.layout == it.layout) && (write.place == it.field)) ≡ true
      → IsContribution stores it.layout it.field it.op copy bounds at cell is differ laws.point_of_row within write
  known at cell is differ within write has into =
      let parts = parts_field it.layout it.field write into in
      let is_active : Contains flat.active write.at = active write has parts.0 parts.1 in
      let found = has_cell write.at is_active in
      let store = ended.pass.store in
      let there : slice_get stores write.layout ≡ Some store = ap (slice_get stores) parts.0 ∙ ended.pass.there in
      let test : is_inside (bounds_of_shape store.shape) write.at ≡ true =
      subst (λ (s : Shape). is_inside (bounds_of_shape s) write.at ≡ true) (tree_shape ended.pass.store copy ended.tree) ((laws.inside_test bounds write.at).1 (inside write.at is_active)) in
      let inside_of : is_inside_of (slice_get (shapes_of stores) write.layout) write.at ≡ true =
      ap (λ (s : Option Shape). is_inside_of s write.at) (shape_there stores write.layout store there) ∙ test in
      record {
        way = ended.ways write has parts.0 parts.1;
        cell_at = found.0;
        has_cell = found.1;
        lands_there = cell_landed stores store write there inside_of ∙ sym (tree_cells store copy ended.tree write.at) ∙ found.1;
        inside_at = inside write.at is_active;
      }

  is_ty : slice_get copy.shape.fields it.field ≡ Some (type_of it.pass)
  is_ty = ap (λ (s : Shape). slice_get s.fields it.field) (tree_shape ended.pass.store copy ended.tree) ∙ ended.pass.field

  -- each cell has what the flat meaning makes of its value
  word_is : (at : Coord) (cell : ℕ) → cell_in copy at ≡ Some cell → Contains flat.active at → cell < length (old_values it.pass)
      → slice_index words cell ≡ landed (type_of it.pass) (value_at copy.shape flat it.field at) (writes_to bounds it.layout it.field (row_of bounds at) writes)
  word_is at cell is has within_old =
      let differ : (x y : Coord) (c : ℕ) → cell_in copy x ≡ Some c → cell_in copy y ≡ Some c → x ≡ y = λ x y c a b. differ_law well x y c a b in
      let field_there : it.field < length copy.shape.fields = slice_get_within copy.shape.fields it.field (type_of it.pass) is_ty in
      summed stores it.layout it.field it.op copy bounds at cell is differ laws.point_of_row (inside at has) (type_of it.pass) (old_values it.pass) words given writes
      (subst (λ (op : AccOp). AreFolded op (type_of it.pass) (old_values it.pass) given words) ended.pass.operator ended.folds) within_old
      (subst (λ (op : AccOp). ComeTo (folded op (type_of it.pass)) (given cell) (given_to cell (contributions it.layout it.field (map (landing stores) writes)))) ended.pass.operator (ended.given_is cell)) (known at cell is differ (inside at has))
      ∙ ap (λ (w : ℕ). landed (type_of it.pass) w (writes_to bounds it.layout it.field (row_of bounds at) writes))
      (ended.pass.words cell ∙ sym (ended.fresh cell) ∙ stands.values at cell is it.field field_there)

  pub sets : ((at : Coord) (cell : ℕ) → cell_in copy at ≡ Some cell → IsReached ended.pass.store cell) → SetsRow copy flat (landed_layout it.layout copy.shape flat (into_field it.layout it.field writes)) it.field words
  sets reached =
      sets_row it.layout it.field copy.shape flat (type_of it.pass) writes
      (λ w has. let both = from_filter (to_field it.layout it.field) writes w has in let parts = parts_field it.layout it.field w both.1 in active w both.0 parts.0 parts.1)
      low is_ty stands.is_flat laws below of_members inside copy words refl origin
      (λ at cell is. let has : Contains flat.active at = (active_law well flat stands at).0 (is_some (cell_in copy at) cell is) in
      (has, word_is at cell is has (ended.pass.is_front.all_reached cell (reached at cell is))))
    where
      origin : Coord
      origin = record { n = 0; a = pos 0; b = pos 0; c = pos 0 }

      low : (write : Write) → Contains (into_field it.layout it.field writes) write
          → landed (type_of it.pass) (word_at (words_or_none (slice_get flat.fields it.field)) (row_of bounds write.at)) (writes_to bounds it.layout it.field (row_of bounds write.at) writes) < 2 ^ 32
      low write has =
          let both = from_filter (to_field it.layout it.field) writes write has in
          let is_active : Contains flat.active write.at = active write both.0 (parts_field it.layout it.field write both.1).0 (parts_field it.layout it.field write both.1).1 in
          let found = has_cell write.at is_active in
          let value : value_at copy.shape flat it.field write.at ≡ word_at (words_or_none (slice_get flat.fields it.field)) (row_of bounds write.at) =
          cond-true (is_inside bounds write.at) (word_at (words_or_none (slice_get flat.fields it.field)) (row_of bounds write.at)) 0 ((laws.inside_test bounds write.at).1 (inside write.at is_active)) in
          subst (λ (w : ℕ). w < 2 ^ 32)
          (word_is write.at found.0 found.1 is_active (ended.pass.is_front.all_reached found.0 (reached write.at found.0 found.1))
          ∙ ap (λ (w : ℕ). landed (type_of it.pass) w (writes_to bounds it.layout it.field (row_of bounds write.at) writes)) value)
          (ended.small found.0)
