-- A dump has the rows of its field, which are rows of a grid text.
use Rattle.std.proofs.Common.{◌≡◌, ℕ, zero, suc, ◌^◌, ◌<◌, Bool, true, false, cond, nat_lt, nat_eq, get_or, List, [], ◌∷◌, ◌++◌, length, map, decimal, Option, Some, None, is_some, refl, sym, ap, ◌∙◌, subst, arith, append_assoc}
use Rattle.std.specs.Prelude.{slice_get}
use Rattle.std.specs.List.{Contains, All, AllPairs}
use Rattle.std.proofs.lemmas.Bool.{and_parts, ltb-true}
use Rattle.std.proofs.lemmas.List.Elements.{Contains-get_or, All-head, All-tail}
use Rattle.std.proofs.lemmas.List.{length-map}
use Rattle.sg_words.specs.declared.operators.Ty.{Ty}
use Rattle.sg_words.proofs.Uses.{contains_head, contains_rest}
use Rattle.sg_coord.specs.declared.coord.Coord.{Coord}
use Rattle.sg_coord.specs.Bounds.{Bounds}
use Rattle.sg_coord.specs.Coord.{is_inside, ComesBefore, row_of}
use Rattle.sg_coord.specs.Laws.{InsideTest, OrderTest}
use Rattle.sg_layout.specs.declared.shape.Shape.{Shape}
use Rattle.sg_layout.specs.Axes.{bounds_of_shape}
use Rattle.sg_layout.specs.Closure.{closure}
use Rattle.sg_layout.specs.ClosureLaws.{ClosureIsInside, ClosureIsInOrder}
use Rattle.sg_flat.specs.declared.state.FlatLayout.{FlatLayout}
use Rattle.sg_flat.specs.State.{IsFlatField, IsFlatLayout, words_or_none, value_at}
use Rattle.sg_flat.specs.Words.{are_words, word_at}
use Rattle.sg_store.specs.StoreWords.{StoreWords}
use Rattle.sg_store.specs.Walks.{cell_in}
use Rattle.sg_store.specs.WellFormed.{IsWellFormed}
use Rattle.sg_store.specs.StandsFor.{StandsFor}
use Rattle.sg_store.specs.StoreLaws.{CellsAreActive}
use Rattle.sg_grid.specs.declared.grid.GridRow.{GridRow}
use Rattle.sg_grid.specs.GridText.{grid_head, rows_text}
use Rattle.sg_grid.specs.Reading.{follows}
use Rattle.sg_grid.specs.Accepted.{AreRows}
use Rattle.sg_grid.specs.Dump.{field_rows, field_type, dump_text}
use Rattle.sg_grid.specs.steps.Keeping.{word_or_zero, kept_row}

-- ---- what a store keeps is what it stands for

same_map : {X Y : Type 0} (f g : X → Y) (xs : List X) → ((x : X) → Contains xs x → f x ≡ g x) → map f xs ≡ map g xs
same_map f g [] same = refl
same_map {X} {Y} f g (x ∷ xs) same =
    ap (λ (y : Y). y ∷ map f xs) (same x (contains_head x x xs refl)) ∙ ap (λ (ys : List Y). g x ∷ ys) (same_map f g xs (λ z has. same z (contains_rest z x xs has)))

kept_is : (store : StoreWords) → IsWellFormed store → CellsAreActive store → (flat : FlatLayout) → StandsFor store flat → (place : ℕ) → place < length store.shape.fields → (at : Coord) → Contains flat.active at
    → word_or_zero store place (cell_in store at) ≡ value_at store.shape flat place at
kept_is store well active flat stands place there at has = by_case (cell_in store at) refl ((active well flat stands at).1 has) where
  by_case : (cell : Option ℕ) → cell_in store at ≡ cell → is_some (cell_in store at) ≡ true → word_or_zero store place cell ≡ value_at store.shape flat place at
  by_case None is some = absurd (cc (ap is_some is))
  by_case (Some cell) is some = stands.values at cell is place there

abbrev grid_row : Coord → ℕ → GridRow
grid_row at word = record { at = at; word = word }

-- there are as many rows as active coordinates
pub rows_many : (shape : Shape) (flat : FlatLayout) (place : ℕ) → length (field_rows shape flat place) ≡ length flat.active
rows_many shape flat place = length-map flat.active (λ at. grid_row at (value_at shape flat place at))

-- the first line and the lines below it are the dump
pub dump_is : (store : StoreWords) → IsWellFormed store → CellsAreActive store → (flat : FlatLayout) → StandsFor store flat → (place : ℕ) → place < length store.shape.fields → (coords : List Coord) → coords ≡ flat.active
    → (shape : Shape) → shape ≡ store.shape → (count : ℕ) → count ≡ length coords → (ty : Ty) → ty ≡ field_type shape place
    → (grid_head shape.axes ++ decimal count ++ 10 ∷ []) ++ rows_text ty (map (kept_row store place) coords) ≡ dump_text store.shape flat place
dump_is store well active flat stands place there coords are shape shape_is count count_is ty ty_is =
    let own : shape.axes ≡ store.shape.axes = ap (λ (s : Shape). s.axes) shape_is in
    let own_ty : ty ≡ field_type store.shape place = ty_is ∙ ap (λ (s : Shape). field_type s place) shape_is in
    let rows : map (kept_row store place) coords ≡ field_rows store.shape flat place =
    ap (map (kept_row store place)) are
    ∙ same_map (kept_row store place) (λ at. grid_row at (value_at store.shape flat place at)) flat.active
    (λ at has. ap (grid_row at) (kept_is store well active flat stands place there at has)) in
    let many : count ≡ length (field_rows store.shape flat place) = count_is ∙ ap length are ∙ sym (rows_many store.shape flat place) in
    append_assoc (grid_head shape.axes ++ decimal count) (10 ∷ []) (rows_text ty (map (kept_row store place) coords))
    ∙ ap (λ (n : ℕ). grid_head n ++ decimal count ++ 10 ∷ rows_text ty (map (kept_row store place) coords)) own
    ∙ ap (λ (n : ℕ). grid_head store.shape.axes ++ decimal n ++ 10 ∷ rows_text ty (map (kept_row store place) coords)) many
    ∙ ap (λ (t : Ty). grid_head store.shape.axes ++ decimal (length (field_rows store.shape flat place)) ++ 10 ∷ rows_text t (map (kept_row store place) coords)) own_ty
    ∙ ap (λ (list : List GridRow). grid_head store.shape.axes ++ decimal (length (field_rows store.shape flat place)) ++ 10 ∷ rows_text (field_type store.shape place) list) rows

-- ---- the rows of a field are rows of a grid text

cond_below : (here : Bool) (x y : ℕ) → x < 2 ^ 32 → y < 2 ^ 32 → cond here x y < 2 ^ 32
cond_below true x y p q = p
cond_below false x y p q = q

word_small : (words : List (ℕ × ℕ)) (row : ℕ) → are_words words ≡ true → word_at words row < 2 ^ 32
word_small [] row all = omega arith
word_small (entry ∷ words) row all =
    let parts = and_parts (nat_lt entry.1 (2 ^ 32)) (are_words words) all in
    cond_below (nat_eq entry.0 row) entry.1 (word_at words row) (ltb-true entry.1 (2 ^ 32) parts.0) (word_small words row parts.1)

field_small : (shape : Shape) (active : List Coord) (fields : List (List (ℕ × ℕ))) → All (IsFlatField shape active) fields → (place row : ℕ) → word_at (words_or_none (slice_get fields place)) row < 2 ^ 32
field_small shape active [] all place row = omega arith
field_small shape active (words ∷ fields) all zero row = word_small words row (All-head (IsFlatField shape active) words fields all).in_range
field_small shape active (words ∷ fields) all (suc place) row = field_small shape active fields (All-tail (IsFlatField shape active) words fields all) place row

value_small : (shape : Shape) (flat : FlatLayout) → IsFlatLayout shape flat → (place : ℕ) (at : Coord) → value_at shape flat place at < 2 ^ 32
value_small shape flat is place at =
    cond_below (is_inside (bounds_of_shape shape) at) (word_at (words_or_none (slice_get flat.fields place)) (row_of (bounds_of_shape shape) at)) 0
    (field_small shape flat.active flat.fields is.fields_fit place (row_of (bounds_of_shape shape) at)) (omega arith)

rows_from_coords : OrderTest → (bounds : Bounds) (word : Coord → ℕ) (coords : List Coord) (last : Option Coord) → ((at : Coord) → word at < 2 ^ 32)
    → All (λ at. is_inside bounds at ≡ true) coords → AllPairs ComesBefore coords → All (λ at. follows last at ≡ true) coords → AreRows bounds last (map (λ at. record { at = at; word = word at }) coords)
rows_from_coords test bounds word [] last small inside rise follow = tt
rows_from_coords test bounds word (at ∷ coords) last small inside rise follow = (
  All-head (λ at. is_inside bounds at ≡ true) at coords inside,
  All-head (λ at. follows last at ≡ true) at coords follow,
  small at,
  rows_from_coords test bounds word coords (Some at) small (All-tail (λ at. is_inside bounds at ≡ true) at coords inside)
      (λ i j d less below. rise (suc i) (suc j) d (omega arith) (omega arith))
      (λ k d below. (test at (get_or coords k d)).1 (rise 0 (suc k) d (omega arith) (omega arith))),
)

pub field_rows_are : OrderTest → InsideTest → (shape : Shape) → ClosureIsInside shape → ClosureIsInOrder shape → (flat : FlatLayout) → IsFlatLayout shape flat → (place : ℕ) → AreRows (bounds_of_shape shape) None (field_rows shape flat place)
field_rows_are order inside shape closed_inside closed_order flat is place =
    let bounds = bounds_of_shape shape in
    let P : List Coord → Type 0 = λ list. All (λ at. is_inside (bounds_of_shape shape) at ≡ true) list in
    let Q : List Coord → Type 0 = λ list. AllPairs ComesBefore list in
    rows_from_coords order bounds (value_at shape flat place) flat.active None (value_small shape flat is place)
    (subst P (sym is.closed) (λ k d below. (inside bounds (get_or (closure shape flat.active) k d)).1 (closed_inside flat.active (get_or (closure shape flat.active) k d) (Contains-get_or (closure shape flat.active) k d below)).1))
    (subst Q (sym is.closed) (closed_order flat.active))
    (λ k d below. refl)
