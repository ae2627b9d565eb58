-- What is written after what was written, step by step.
use Rattle.std.proofs.Common.{◌≡◌, ℕ, zero, suc, ◌+◌, ◌<◌, ◌≤◌, List, [], ◌∷◌, ◌++◌, map, length, get_or, take, drop, Option, Some, None, refl, sym, ap, ap₂, ◌∙◌, subst, arith, append_assoc, codes}
use Rattle.std.specs.List.{AllZip, concat, range_with_len}
use Rattle.std.proofs.lemmas.List.{append-nil, drop_more, drop_all, take_more, map-append, length-map}
use Rattle.std.proofs.lemmas.List.FromFn.{map-range_with_len_more}
use Rattle.std.proofs.lemmas.Option.{slice_get_read}
use Rattle.sg_coord.specs.declared.coord.Coord.{Coord}
use Rattle.sg_coord.specs.Coord.{row_of}
use Rattle.sg_layout.specs.declared.shape.Shape.{Shape}
use Rattle.sg_layout.specs.Axes.{bounds_of_shape}
use Rattle.sg_flat.specs.declared.state.FlatLayout.{FlatLayout}
use Rattle.sg_flat.specs.declared.state.FlatState.{FlatState}
use Rattle.sg_flat.specs.State.{value_in, value_at, words_or_none}
use Rattle.sg_store.specs.StandsFor.{StandsFor, HasValues}
use Rattle.sg_store.specs.StoreWords.{StoreWords, word_in}
use Rattle.sg_store.specs.Walks.{cell_in}
use Rattle.sg_store.specs.Standing.{shapes_of, StandForState}
use Rattle.sg_snapshot.specs.Numbers.{number_bytes, bytes_of}
use Rattle.sg_snapshot.specs.Parts.{part_numbers, parts_numbers, parts_bytes}
use Rattle.sg_snapshot.specs.Image.{part_of, parts_of, image_of}
use Rattle.sg_snapshot.proofs.Steps.{get_same}

-- ---- bytes of numbers
pub bytes_append : (first second : List ℕ) → bytes_of (first ++ second) ≡ bytes_of first ++ bytes_of second
bytes_append [] second = refl
bytes_append (number ∷ first) second = ap (λ (l : List ℕ). number_bytes number ++ l) (bytes_append first second) ∙ sym (append_assoc (number_bytes number) (bytes_of first) (bytes_of second))

-- one number more
pub number_more : {X : Type 0} (f : X → ℕ) (xs : List X) (i : ℕ) (x : X) (number : ℕ) (old now later : List ℕ) → i < length xs → number ≡ f (get_or xs i x)
    → now ≡ old ++ bytes_of (map f (take i xs)) → later ≡ now ++ number_bytes number → later ≡ old ++ bytes_of (map f (take (i + 1) xs))
number_more {X} f xs i x number old now later below is so_far pushed =
    let item = get_or xs i x in
    let more : map f (take (i + 1) xs) ≡ map f (take i xs) ++ f item ∷ [] = ap (map f) (take_more xs i x below) ∙ map-append f (take i xs) (item ∷ []) in
    pushed
    ∙ ap (λ (l : List ℕ). l ++ number_bytes number) so_far
    ∙ ap (λ (n : ℕ). (old ++ bytes_of (map f (take i xs))) ++ number_bytes n) is
    ∙ append_assoc old (bytes_of (map f (take i xs))) (number_bytes (f item))
    ∙ ap (λ (l : List ℕ). old ++ l) (sym (ap bytes_of more ∙ bytes_append (map f (take i xs)) (f item ∷ [])))

-- one list of numbers more
pub list_more : (f : ℕ → List ℕ) (place : ℕ) (old now later : List ℕ) → now ≡ old ++ bytes_of (concat (map f (range_with_len 0 place))) → later ≡ now ++ bytes_of (f place)
    → later ≡ old ++ bytes_of (concat (map f (range_with_len 0 (place + 1))))
list_more f place old now later so_far pushed =
    let before = map f (range_with_len 0 place) in
    let more : concat (map f (range_with_len 0 (place + 1))) ≡ concat before ++ f place =
    ap concat (map-range_with_len_more f 0 place place (let e : 0 + place ≡ place = omega arith in e)) ∙ concat_push before (f place) in
    pushed
    ∙ ap (λ (l : List ℕ). l ++ bytes_of (f place)) so_far
    ∙ append_assoc old (bytes_of (concat before)) (bytes_of (f place))
    ∙ ap (λ (l : List ℕ). old ++ l) (sym (ap bytes_of more ∙ bytes_append (concat before) (f place)))
  where
    concat_push : (lists : List (List ℕ)) (last : List ℕ) → concat (lists ++ last ∷ []) ≡ concat lists ++ last
    concat_push [] last = append-nil last
    concat_push (first ∷ lists) last = ap (λ (l : List ℕ). first ++ l) (concat_push lists last) ∙ sym (append_assoc first (concat lists) last)

-- ---- the words in cells are the values at coordinates
abbrev some_cell : ℕ → Option ℕ
some_cell cell = Some cell

-- one cell more
pub cells_more : (store : StoreWords) (coords : List Coord) (i : ℕ) (at : Coord) (now later : List ℕ) → i < length coords → map some_cell later ≡ map some_cell now ++ cell_in store (get_or coords i at) ∷ []
    → map some_cell now ≡ map (cell_in store) (take i coords) → map some_cell later ≡ map (cell_in store) (take (i + 1) coords)
cells_more store coords i at now later below pushed so_far =
    pushed ∙ ap (λ (l : List (Option ℕ)). l ++ cell_in store (get_or coords i at) ∷ []) so_far
    ∙ sym (ap (map (cell_in store)) (take_more coords i at below) ∙ map-append (cell_in store) (take i coords) (get_or coords i at ∷ []))

words_are : (store : StoreWords) (flat : FlatLayout) (place : ℕ) (coords : List Coord) (cells : List ℕ) → HasValues store flat → place < length store.shape.fields → map (cell_in store) coords ≡ map some_cell cells
    → map (word_in store place) cells ≡ map (value_at store.shape flat place) coords
words_are store flat place [] [] values below same = refl
words_are store flat place [] (cell ∷ cells) values below same = absurd (let e : 0 ≡ suc (length (map some_cell cells)) = ap length same in omega arith)
words_are store flat place (at ∷ coords) [] values below same = absurd (let e : suc (length (map (cell_in store) coords)) ≡ 0 = ap length same in omega arith)
words_are store flat place (at ∷ coords) (cell ∷ cells) values below same =
    ap₂ (λ (x : ℕ) (xs : List ℕ). x ∷ xs)
    (values at cell (ap (λ (l : List (Option ℕ)). get_or l 0 None) same) place below)
    (words_are store flat place coords cells values below (ap (λ (l : List (Option ℕ)). drop 1 l) same))

listed : {X Y : Type 0} (f : X → Y) (xs : List X) (d : X) (from n : ℕ) (at : ℕ → X) → n ≡ length xs → ((k : ℕ) → k < length xs → at (from + k) ≡ get_or xs k d) → map (λ (place : ℕ). f (at place)) (range_with_len from n) ≡ map f xs
listed f [] d from zero at many is = refl
listed f [] d from (suc n) at many is = absurd (omega arith)
listed f (x ∷ xs) d from zero at many is = absurd (omega arith)
listed {X} {Y} f (x ∷ xs) d from (suc n) at many is =
    ap₂ (λ (y : Y) (ys : List Y). y ∷ ys)
    (ap f (ap at (let e : from ≡ from + 0 = omega arith in e) ∙ is 0 (omega arith)))
    (listed f xs d (from + 1) n at (omega arith) (λ k below. ap at (let e : from + 1 + k ≡ from + (suc k) = omega arith in e) ∙ is (suc k) (omega arith)))

agree : {Y : Type 0} (f g : ℕ → Y) (from n : ℕ) → ((place : ℕ) → from ≤ place → place < from + n → f place ≡ g place) → map f (range_with_len from n) ≡ map g (range_with_len from n)
agree f g from zero same = refl
agree {Y} f g from (suc n) same = ap₂ (λ (y : Y) (ys : List Y). y ∷ ys) (same from (omega arith) (omega arith)) (agree f g (from + 1) n (λ place low high. same place (omega arith) (omega arith)))

values_are : (shape : Shape) (flat : FlatLayout) (place : ℕ) (coords : List Coord) → place < length flat.fields → map (value_at shape flat place) coords ≡ map (value_in (bounds_of_shape shape) (get_or flat.fields place [])) coords
values_are shape flat place coords below =
    ap (λ (o : Option (List (ℕ × ℕ))). map (value_in (bounds_of_shape shape) (words_or_none o)) coords) (slice_get_read flat.fields (length flat.fields) place (get_or flat.fields place []) refl below (get_same flat.fields place [] (get_or flat.fields place []) below))

-- the words of all fields are those of the part
pub fields_are : (store : StoreWords) (flat : FlatLayout) (cells : List ℕ) → StandsFor store flat → map (cell_in store) flat.active ≡ map some_cell cells
    → map (λ (place : ℕ). map (word_in store place) cells) (range_with_len 0 (length store.shape.fields)) ≡ (part_of store.shape flat).words
fields_are store flat cells stands same =
    let b = bounds_of_shape store.shape in
    let count : length flat.fields ≡ length store.shape.fields = stands.is_flat.field_count in
    agree (λ (place : ℕ). map (word_in store place) cells) (λ (place : ℕ). map (value_in b (get_or flat.fields place [])) flat.active) 0 (length store.shape.fields)
    (λ place _ below. words_are store flat place flat.active cells stands.values (omega arith) same ∙ values_are store.shape flat place flat.active (omega arith))
    ∙ listed (λ (words : List (ℕ × ℕ)). map (value_in b words) flat.active) flat.fields [] 0 (length store.shape.fields) (λ k. get_or flat.fields k []) (sym count)
    (λ k below. ap (λ (n : ℕ). get_or flat.fields n []) (let e : 0 + k ≡ k = omega arith in e))

-- ---- a part is its count, its rows and its words
pub part_is : (store : StoreWords) (flat : FlatLayout) (count : ℕ) (coords : List Coord) (cells : List ℕ) (old one two three : List ℕ) → StandsFor store flat → coords ≡ flat.active → count ≡ length coords → map (cell_in store) coords ≡ map some_cell cells
    → one ≡ old ++ number_bytes count → two ≡ one ++ bytes_of (map (row_of (bounds_of_shape store.shape)) coords)
    → three ≡ two ++ bytes_of (concat (map (λ (place : ℕ). map (word_in store place) cells) (range_with_len 0 (length store.shape.fields))))
    → three ≡ old ++ bytes_of (part_numbers (part_of store.shape flat))
part_is store flat count coords cells old one two three stands are many same first second third =
    let b = bounds_of_shape store.shape in
    let part = part_of store.shape flat in
    let cells_same : map (cell_in store) flat.active ≡ map some_cell cells = ap (map (cell_in store)) (sym are) ∙ same in
    let rows : map (row_of b) coords ≡ part.rows = ap (map (row_of b)) are in
    let counted : count ≡ length part.rows = many ∙ ap length are ∙ sym (length-map flat.active (row_of b)) in
    third
    ∙ ap (λ (l : List (List ℕ)). two ++ bytes_of (concat l)) (fields_are store flat cells stands cells_same)
    ∙ ap (λ (l : List ℕ). l ++ bytes_of (concat part.words)) (second ∙ ap₂ (λ (l r : List ℕ). l ++ bytes_of r) (first ∙ ap (λ (n : ℕ). old ++ number_bytes n) counted) rows)
    ∙ append_assoc (old ++ number_bytes (length part.rows)) (bytes_of part.rows) (bytes_of (concat part.words))
    ∙ append_assoc old (number_bytes (length part.rows)) (bytes_of part.rows ++ bytes_of (concat part.words))
    ∙ ap (λ (l : List ℕ). old ++ (number_bytes (length part.rows) ++ l)) (sym (bytes_append part.rows (concat part.words)))

-- ---- one store after the other
stands_at : (stores : List StoreWords) (flats : List FlatLayout) (i : ℕ) (store : StoreWords) (flat : FlatLayout) → AllZip StandsFor stores flats → i < length stores → StandsFor (get_or stores i store) (get_or flats i flat)
stands_at [] flats i store flat are below = absurd (omega arith)
stands_at (s ∷ stores) [] i store flat are below = absurd are
stands_at (s ∷ stores) (f ∷ flats) zero store flat are below = are.0
stands_at (s ∷ stores) (f ∷ flats) (suc i) store flat are below = stands_at stores flats i store flat are.1 (omega arith)

pub as_many_flats : (stores : List StoreWords) (flats : List FlatLayout) → AllZip StandsFor stores flats → length flats ≡ length stores
as_many_flats [] [] are = refl
as_many_flats [] (f ∷ flats) are = absurd are
as_many_flats (s ∷ stores) [] are = absurd are
as_many_flats (s ∷ stores) (f ∷ flats) are = ap suc (as_many_flats stores flats are.1)

abbrev pub behind : List StoreWords → List FlatLayout → ℕ → List ℕ
behind stores flats i = bytes_of (parts_numbers (parts_of (shapes_of (drop i stores)) (drop i flats)))

pub store_more : (stores : List StoreWords) (flats : List FlatLayout) (i : ℕ) (store : StoreWords) (now later whole : List ℕ) → AllZip StandsFor stores flats → i < length stores → store ≡ get_or stores i store
    → ((flat : FlatLayout) → StandsFor store flat → later ≡ now ++ bytes_of (part_numbers (part_of store.shape flat)))
    → now ++ behind stores flats i ≡ whole → later ++ behind stores flats (i + 1) ≡ whole
store_more stores flats i store now later whole are below here writes so_far =
    let flat = get_or flats i no_flat in
    let stands : StandsFor store flat = subst (λ (s : StoreWords). StandsFor s flat) (sym here) (stands_at stores flats i store no_flat are below) in
    let numbers = part_numbers (part_of store.shape flat) in
    let rest = parts_numbers (parts_of (shapes_of (drop (i + 1) stores)) (drop (i + 1) flats)) in
    let cut : behind stores flats i ≡ bytes_of (numbers ++ rest) =
    ap (λ (ss : List StoreWords). bytes_of (parts_numbers (parts_of (shapes_of ss) (drop i flats)))) (drop_more stores i store below ∙ ap (λ (s : StoreWords). s ∷ drop (i + 1) stores) (sym here))
    ∙ ap (λ (fs : List FlatLayout). bytes_of (parts_numbers (parts_of (store.shape ∷ shapes_of (drop (i + 1) stores)) fs))) (drop_more flats i no_flat (omega (arith, below, as_many_flats stores flats are))) in
    ap (λ (l : List ℕ). l ++ bytes_of rest) (writes flat stands)
    ∙ append_assoc now (bytes_of numbers) (bytes_of rest)
    ∙ ap (λ (l : List ℕ). now ++ l) (sym (bytes_append numbers rest) ∙ sym cut)
    ∙ so_far
  where
    no_flat : FlatLayout
    no_flat = record { active = []; fields = [] }

pub stores_end : (stores : List StoreWords) (flats : List FlatLayout) (i : ℕ) (now whole : List ℕ) → length stores ≤ i → now ++ behind stores flats i ≡ whole → now ≡ whole
stores_end stores flats i now whole past so_far =
    sym (append-nil now) ∙ sym (ap (λ (ss : List StoreWords). now ++ bytes_of (parts_numbers (parts_of (shapes_of ss) (drop i flats)))) (drop_all i stores past)) ∙ so_far

-- ---- the whole image
pub image_begins : (stores : List StoreWords) (flats : List FlatLayout) (many : ℕ) (now : List ℕ) → many ≡ length stores → now ≡ codes "SGS1" ++ number_bytes many → now ++ behind stores flats 0 ≡ codes "SGS1" ++ bytes_of (length stores ∷ parts_numbers (parts_of (shapes_of stores) flats))
image_begins stores flats many now same is =
    ap (λ (l : List ℕ). l ++ behind stores flats 0) is
    ∙ append_assoc (codes "SGS1") (number_bytes many) (behind stores flats 0)
    ∙ ap (λ (n : ℕ). codes "SGS1" ++ (number_bytes n ++ behind stores flats 0)) same

parts_long : (stores : List StoreWords) (flats : List FlatLayout) → AllZip StandsFor stores flats → length (parts_of (shapes_of stores) flats) ≡ length stores
parts_long [] [] are = refl
parts_long [] (f ∷ flats) are = absurd are
parts_long (s ∷ stores) [] are = absurd are
parts_long (s ∷ stores) (f ∷ flats) are = ap suc (parts_long stores flats are.1)

pub image_ends : (shapes : List Shape) (stores : List StoreWords) (state : FlatState) (now : List ℕ) → StandForState shapes stores state → now ≡ codes "SGS1" ++ bytes_of (length stores ∷ parts_numbers (parts_of (shapes_of stores) state.layouts)) → now ≡ image_of shapes state
image_ends shapes stores state now stands is =
    is
    ∙ ap (λ (n : ℕ). codes "SGS1" ++ bytes_of (n ∷ parts_numbers (parts_of (shapes_of stores) state.layouts))) (sym (parts_long stores state.layouts stands.stand))
    ∙ ap (λ (ss : List Shape). parts_bytes (parts_of ss state.layouts)) stands.shapes_are
