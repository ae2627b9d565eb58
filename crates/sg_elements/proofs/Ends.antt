-- Where the lists of a dynamic node end: after a path along which the store doesn't lead on over an offset, it doesn't over a later one.
use Rattle.std.proofs.Common.{◌≡◌, inl, inr, ℕ, zero, suc, ◌+◌, ◌-◌, ◌*◌, ◌/◌, ◌%◌, ◌<◌, ◌≤◌, Bool, true, false, cond, List, [], ◌∷◌, ◌++◌, length, take, get_or, slice_index, Option, Some, None, option_and_then, is_some, refl, sym, ap, ◌∙◌, subst, arith, append-nil}
use Rattle.std.specs.Prelude.{slice_get, nat_lt, if◌then◌else◌}
use Rattle.std.specs.Option.{option_map}
use Rattle.std.specs.List.{range_with_len}
use Rattle.std.proofs.lemmas.Bool.{cases_lt}
use Rattle.std.proofs.lemmas.Bool.Decides.{nat_tests}
use Rattle.std.proofs.lemmas.Nat.{mod-mul-add, div-mul-add}
use Rattle.std.proofs.lemmas.List.{take_all, get_or_default}
use Rattle.std.proofs.lemmas.List.Elements.{All-contains}
use Rattle.std.proofs.lemmas.Option.{slice_get-get_or}
use Rattle.std.proofs.lemmas.List.FromFn.{filter_of_map_range_with_len_more}
use Rattle.sg_layout.specs.declared.shape.Kind.{Kind}
use Rattle.sg_layout.specs.declared.shape.Kind.TheVariants.{Hash, Dynamic}
use Rattle.sg_layout.specs.declared.shape.NodeShape.{NodeShape}
use Rattle.sg_layout.specs.Axes.{count_of, size_of, sizes_of}
use Rattle.sg_layout.specs.Live.{kind_or, kind_at}
use Rattle.sg_links.specs.Lists.{list_of}
use Rattle.sg_store.specs.declared.node.NodeWords.{NodeWords}
use Rattle.sg_store.specs.StoreWords.{StoreWords}
use Rattle.sg_store.specs.Slots.{slot_under, chunk_cell, active_below}
use Rattle.sg_store.specs.Walks.{place_after, cell_along}
use Rattle.sg_elements.specs.declared.branches.Branch.{Branch}
use Rattle.sg_elements.specs.declared.ways.Way.{Way}
use Rattle.sg_elements.specs.steps.Levels.{is_led, led_over, led_below, level_at, node_size, offsets_of, AreBranches, AreEnough, AreWays, EndsAt, IsBranch}
use Rattle.sg_elements.proofs.Lists.{zip_length}
use Rattle.sg_elements.proofs.Growing.{led_none}

-- ---- one list

map_none : {A B : Type 0} (f : A → B) (o : Option A) → option_map f o ≡ None → o ≡ None
map_none f None none = refl
map_none f (Some x) none = absurd (cc)

get_past : (xs : List ℕ) (i j : ℕ) → i ≤ j → slice_get xs i ≡ None → slice_get xs j ≡ None
get_past [] i j later none = refl
get_past (x ∷ xs) zero j later none = absurd (cc)
get_past (x ∷ xs) (suc i) zero later none = absurd (omega arith)
get_past (x ∷ xs) (suc i) (suc j) later none = get_past xs i j (omega arith) none

quotient_later : (x y c : ℕ) → x ≤ y → x / c ≤ y / c
quotient_later x y c later = grind arith

cell_past : (chunk : ℕ) (chain : List ℕ) (x y : ℕ) → x ≤ y → chunk_cell chunk chain x ≡ None → chunk_cell chunk chain y ≡ None
cell_past chunk chain x y later none =
    ap (option_map (λ number. number * chunk + y % chunk))
    (get_past chain (x / chunk) (y / chunk) (quotient_later x y chunk later) (map_none (λ number. number * chunk + x % chunk) (slice_get chain (x / chunk)) none))

-- the cell of an index of a list of this length
abbrev list_cell : ℕ → List ℕ → ℕ → ℕ → Option ℕ
list_cell chunk chain long index = if nat_lt index long then chunk_cell chunk chain index else None

list_past : (chunk : ℕ) (chain : List ℕ) (long x y : ℕ) → x ≤ y → list_cell chunk chain long x ≡ None → list_cell chunk chain long y ≡ None
list_past chunk chain long x y later none = go (nat_lt x long) (nat_lt y long) refl refl none
  where
    go : (a b : Bool) → nat_lt x long ≡ a → nat_lt y long ≡ b → (if a then chunk_cell chunk chain x else None) ≡ None → (if b then chunk_cell chunk chain y else None) ≡ None
    go a false e f none = refl
    go true true e f none = cell_past chunk chain x y later none
    go false true e f none = absurd (grind (arith, nat_tests))

-- ---- the last step of a path

step_is : (node : NodeShape) (kept : NodeWords) (place x : ℕ) → x < size_of node.sizes
    → active_below Dynamic node kept (slot_under node place x) ≡ list_cell (count_of node.chunk) (list_of kept.chains place) (slice_index kept.lengths place) x
step_is node kept place x below =
    let size : ℕ = size_of node.sizes in
    let at : ℕ → ℕ → Option ℕ = λ parent index. list_cell (count_of node.chunk) (list_of kept.chains parent) (slice_index kept.lengths parent) index in
    ap (λ parent. at parent ((place * size + x) % size)) (div-mul-add place size x below) ∙ ap (at place) (mod-mul-add place size x below)

step_past : (kind : Kind) (node : NodeShape) (kept : NodeWords) (place x y : ℕ) → kind ≡ Dynamic → x ≤ y → y < size_of node.sizes
    → active_below kind node kept (slot_under node place x) ≡ None → active_below kind node kept (slot_under node place y) ≡ None
step_past kind node kept place x y is later below =
    subst (λ kind. active_below kind node kept (slot_under node place x) ≡ None → active_below kind node kept (slot_under node place y) ≡ None) (sym is)
    (λ none. step_is node kept place y below
    ∙ list_past (count_of node.chunk) (list_of kept.chains place) (slice_index kept.lengths place) x y later (sym (step_is node kept place x (omega arith)) ∙ none))

then_none : (f : ℕ → Option ℕ) → ((next : ℕ) → f next ≡ None → ⊥) → (o : Option ℕ) → option_and_then f o ≡ None → o ≡ None
then_none f never None none = refl
then_none f never (Some x) none = absurd (never x none)

then_past : (f g : ℕ → Option ℕ) → ((next : ℕ) → f next ≡ None → g next ≡ None) → (o : Option ℕ) → option_and_then f o ≡ None → option_and_then g o ≡ None
then_past f g past None none = refl
then_past f g past (Some next) none = past next none

place_past : (nodes : List NodeShape) (words : List NodeWords) (place : ℕ) (path : List ℕ) (x y : ℕ) → kind_or (slice_get nodes (length path)) ≡ Dynamic → x ≤ y → y < slice_index (sizes_of nodes) (length path)
    → place_after active_below nodes words place (path ++ x ∷ []) ≡ None → place_after active_below nodes words place (path ++ y ∷ []) ≡ None
place_past [] words place [] x y is later below none = refl
place_past [] words place (z ∷ path) x y is later below none = refl
place_past (node ∷ nodes) [] place [] x y is later below none = refl
place_past (node ∷ nodes) [] place (z ∷ path) x y is later below none = refl
place_past (node ∷ nodes) (kept ∷ words) place [] x y is later below none =
    ap (option_and_then (λ next. place_after active_below nodes words next []))
    (step_past node.kind node kept place x y is later below
    (then_none (λ next. place_after active_below nodes words next []) (λ next none. cc) (active_below node.kind node kept (slot_under node place x)) none))
place_past (node ∷ nodes) (kept ∷ words) place (z ∷ path) x y is later below none =
    then_past (λ next. place_after active_below nodes words next (path ++ x ∷ [])) (λ next. place_after active_below nodes words next (path ++ y ∷ []))
    (λ next none. place_past nodes words next path x y is later below none) (active_below node.kind node kept (slot_under node place z)) none

-- the list after a path ends where the store doesn't lead on
pub ends_there : (store : StoreWords) (node end : ℕ) (path : List ℕ) → length path ≡ node → kind_at store.shape.nodes (suc node) ≡ Dynamic → cell_along store (path ++ end ∷ []) ≡ None → EndsAt store node end path
ends_there store node end path long is none = λ offset later below.
    let nodes = store.shape.nodes in
    let same : suc node - 1 ≡ length path = omega arith in
    let kind : kind_or (slice_get nodes (length path)) ≡ Dynamic = subst (λ n. kind_or (slice_get nodes n) ≡ Dynamic) same is in
    place_past nodes store.nodes 0 path end offset kind later (subst (λ n. offset < slice_index (sizes_of nodes) n) (sym long) below) none

pub ends_later : (store : StoreWords) (node end last : ℕ) (path : List ℕ) → end ≤ last → EndsAt store node end path → EndsAt store node last path
ends_later store node end last path later ends = λ offset from below. ends offset (omega arith) below

pub ends_past : (store : StoreWords) (node end : ℕ) (path : List ℕ) → node_size store node ≤ end → EndsAt store node end path
ends_past store node end path past = λ offset from below. absurd (omega arith)

-- ---- offsets after the end

led_until : (store : StoreWords) (node count more : ℕ) (path : List ℕ) → count + more ≤ node_size store node → EndsAt store node count path
    → led_over store path (range_with_len 0 (count + more)) ≡ led_over store path (range_with_len 0 count)
led_until store node count zero path within ends = ap (λ n. led_over store path (range_with_len 0 n)) (omega arith)
led_until store node count (suc more) path within ends =
    let behind : ℕ → List ℕ = λ offset. path ++ offset ∷ [] in
    let last : ℕ = count + more in
    let next : count + suc more ≡ count + more + 1 = omega arith in
    let none : is_led store (path ++ (count + more) ∷ []) ≡ false = ap is_some (ends (count + more) (omega arith) (omega arith)) in
    ap (λ n. led_over store path (range_with_len 0 n)) next
    ∙ filter_of_map_range_with_len_more (is_led store) behind 0 (count + more) (count + more) (omega arith)
    ∙ ap (λ b. led_over store path (range_with_len 0 (count + more)) ++ cond b ((path ++ (count + more) ∷ []) ∷ []) []) none
    ∙ append-nil (led_over store path (range_with_len 0 (count + more)))
    ∙ led_until store node count more path (omega arith) ends

pub led_enough : (store : StoreWords) (node count : ℕ) (path : List ℕ) → count ≤ node_size store node → EndsAt store node count path → led_over store path (range_with_len 0 count) ≡ led_below store (node_size store node) path
led_enough store node count path within ends =
    let whole : count + (node_size store node - count) ≡ node_size store node = omega arith in
    sym (led_until store node count (node_size store node - count) path (omega arith) ends) ∙ ap (λ n. led_over store path (range_with_len 0 n)) whole

-- ---- ways after the end

rest_unled : (store : StoreWords) (path : List ℕ) (ways : List Way) (i more : ℕ) (d : Way) → i + more ≤ length ways → ((j : ℕ) → i ≤ j → j < length ways → cell_along store (path ++ (get_or ways j d).offset ∷ []) ≡ None)
    → led_over store path (offsets_of (take (i + more) ways)) ≡ led_over store path (offsets_of (take i ways))
rest_unled store path ways i zero d within none = ap (λ n. led_over store path (offsets_of (take n ways))) (omega arith)
rest_unled store path ways i (suc more) d within none =
    let next : i + suc more ≡ i + more + 1 = omega arith in
    ap (λ n. led_over store path (offsets_of (take n ways))) next
    ∙ led_none store path ways (i + more) d (omega arith) (none (i + more) (omega arith) (omega arith))
    ∙ rest_unled store path ways i more d (omega arith) none

-- if a list ends, none of the ways that are left leads on
pub led_to_end : (store : StoreWords) (node : ℕ) (path : List ℕ) (ways : List Way) (i : ℕ) (d : Way) → AreWays store node ways → i < length ways → length path ≡ node → kind_at store.shape.nodes (suc node) ≡ Dynamic
    → cell_along store (path ++ (get_or ways i d).offset ∷ []) ≡ None → led_over store path (offsets_of ways) ≡ led_over store path (offsets_of (take i ways))
led_to_end store node path ways i d are there long is none =
    let here : cell_along store (path ++ i ∷ []) ≡ None = subst (λ n. cell_along store (path ++ n ∷ []) ≡ None) (are.first is i d there) none in
    let ends = ends_there store node i path long is here in
    let whole : i + (length ways - i) ≡ length ways = omega arith in
    let rest : (j : ℕ) → i ≤ j → j < length ways → cell_along store (path ++ (get_or ways j d).offset ∷ []) ≡ None =
    λ j later below. ends (get_or ways j d).offset (let e = are.first is j d below in omega arith) (are.below j d below) in
    ap (λ list. led_over store path (offsets_of list)) (sym (take_all (i + (length ways - i)) ways (omega arith)))
    ∙ rest_unled store path ways i (length ways - i) d (omega arith) rest

-- ---- all lists of a level

-- after each of the first so many paths of a level
abbrev pub EndsUpto : StoreWords → ℕ → ℕ → ℕ → Type 0
EndsUpto store node end count = (j : ℕ) → j < count → EndsAt store node end (get_or (level_at store node) j [])

pub ends_more : (store : StoreWords) (node end last index : ℕ) → EndsUpto store node end index → end ≤ last → EndsAt store node last (get_or (level_at store node) index []) → EndsUpto store node last (index + 1)
ends_more store node end last index upto later here = λ j below. elim (cases_lt j index) [
  | inl before ↦ ends_later store node end last (get_or (level_at store node) j []) later (upto j before)
  | inr behind ↦ (let same : index ≡ j = omega arith in subst (λ n. EndsAt store node last (get_or (level_at store node) n [])) same here)
]

pub ends_enough : (store : StoreWords) (node end count : ℕ) (level : List Branch) → AreBranches store node level (level_at store node) → length level ≤ count → EndsUpto store node end count → AreEnough store node end
ends_enough store node end count level are past upto = λ path there.
    All-contains (EndsAt store node end) (level_at store node) path
    (λ j d below. subst (EndsAt store node end) (get_or_default (level_at store node) j [] d below)
    (upto j (let long = zip_length (IsBranch store node) level (level_at store node) are in omega arith))) there

-- the kind of a node
pub kind_there : (nodes : List NodeShape) (node : ℕ) (d : NodeShape) → node < length nodes → kind_at nodes (suc node) ≡ (get_or nodes node d).kind
kind_there nodes node d below =
    let same : suc node - 1 ≡ node = omega arith in
    ap (λ n. kind_or (slice_get nodes n)) same ∙ ap kind_or (slice_get-get_or nodes node d below)

pub hash_there : (nodes list : List NodeShape) (d : NodeShape) → list ≡ nodes → 0 < length nodes → (get_or list 0 d).kind ≡ Hash → kind_at nodes 1 ≡ Hash
hash_there nodes list d same some is = kind_there nodes 0 d some ∙ subst (λ (ns : List NodeShape). (get_or ns 0 d).kind ≡ Hash) same is
