-- Needs grow with what a list reaches, and closing a part of a list reaches nothing more.
use Rattle.std.proofs.Common.{◌≡◌, ℕ, zero, suc, ◌+◌, ◌-◌, ◌/◌, ◌<◌, ◌≤◌, true, false, ltb, eqb, cond, Option, Some, List, [], ◌∷◌, ◌++◌, length, get_or, map, take, max, refl, sym, ap, ◌∙◌, subst, arith, inl, inr, ◌⊎◌}
use Rattle.std.specs.List.{Contains, fold, slice_get}
use Rattle.std.specs.Str.{bytes_eq}
use Rattle.std.specs.Cmp.Lexicographic.{bytes_decides}
use Rattle.std.proofs.Math.Nat.{div-mul-le_self}
use Rattle.std.proofs.lemmas.Nat.{le-div}
use Rattle.std.proofs.lemmas.Bool.{and_parts, cases_Bool, leb-true, cond_both, cond-true, cond-false, lt-ltb, eqb-true, cases_order, cases_eq}
use Rattle.std.proofs.lemmas.List.{take-take, length-take-le, get_or-take}
use Rattle.std.proofs.lemmas.List.Elements.{Contains-append_left, Contains-append_right, Contains-append_cases}
use Rattle.sg_coord.specs.declared.coord.Coord.{Coord}
use Rattle.sg_coord.specs.Laws.{InsideTest}
use Rattle.sg_layout.specs.declared.shape.Kind.{Kind}
use Rattle.sg_layout.specs.declared.shape.Kind.TheVariants.{Dense, Bitmasked, Pointer, Hash, Dynamic}
use Rattle.sg_layout.specs.declared.shape.NodeShape.{NodeShape}
use Rattle.sg_layout.specs.declared.shape.Shape.{Shape}
use Rattle.sg_layout.specs.Axes.{count_of, bounds_of_shape}
use Rattle.sg_layout.specs.Path.{offsets, path}
use Rattle.sg_layout.specs.Live.{is_at_or_below, makes_live, kind_or, kind_at}
use Rattle.sg_layout.specs.Closure.{is_dense, last_sparse, closure}
use Rattle.sg_layout.specs.Need.{FullNode, greatest_offset, under_slot, chunks_under, need_by, need_of, first_full_from}
use Rattle.sg_layout.specs.ClosureLaws.{PointsAreInside}
use Rattle.sg_layout.specs.NeedLaws.{IsNumberedNode, AllInside, NeedGrows, NeedIsOfMembers, FullIsOfMembers, NeedAbsorbs, FullAbsorbs}
use Rattle.sg_words.proofs.Uses.{contains_none, contains_head, contains_rest, from_filter, into_filter, contains_cases, into_map, from_map}
use Rattle.sg_layout.proofs.Distinct.{distinct_grows, distinct_length}
use Rattle.sg_layout.proofs.Closing.{closed_parts, closure_is_tested, closure_extends}
use Rattle.sg_layout.proofs.Paths.{offsets_long}
use Rattle.sg_layout.proofs.Deciding.{last_decides}

-- the greatest of a list of numbers
fold_least : (a : ℕ) (xs : List ℕ) → a ≤ fold max a xs
fold_least a [] = omega arith
fold_least a (x ∷ xs) = (let rest = fold_least (max a x) xs in omega arith)

fold_member : (a : ℕ) (xs : List ℕ) (x : ℕ) → Contains xs x → x ≤ fold max a xs
fold_member a [] x has = absurd (contains_none x has)
fold_member a (y ∷ xs) x has = elim (contains_cases x y xs has) [
  | inl same ↦ (let rest = fold_least (max a y) xs in omega arith)
  | inr later ↦ fold_member (max a y) xs x later
]

fold_most : (a m : ℕ) (xs : List ℕ) → a ≤ m → ((x : ℕ) → Contains xs x → x ≤ m) → fold max a xs ≤ m
fold_most a m [] low all = low
fold_most a m (y ∷ xs) low all =
    let here : y ≤ m = all y (contains_head y y xs refl) in
    fold_most (max a y) m xs (omega arith) (λ x has. all x (contains_rest x y xs has))

pub fold_reached : (a : ℕ) (xs : List ℕ) → (fold max a xs ≡ a) ⊎ Contains xs (fold max a xs)
fold_reached a [] = inl refl
fold_reached a (y ∷ xs) = elim (fold_reached (max a y) xs) [
  | inl same ↦ elim (cases_order a y) [
    | inl equal ↦ inl (omega (arith, same))
    | inr (inl below) ↦ inr (contains_head (fold max (max a y) xs) y xs (omega (arith, same)))
    | inr (inr above) ↦ inl (omega (arith, same))
  ]
  | inr has ↦ inr (contains_rest (fold max (max a y) xs) y xs has)
]

div_grows : (a b k : ℕ) → a ≤ b → a / k ≤ b / k
div_grows a b zero below = omega arith
div_grows a b (suc k) below = le-div (a / suc k) b (suc k) (omega arith) (omega (arith, div-mul-le_self a (suc k)))

-- the offset of a coordinate at a node
abbrev pub offset_there : Shape → ℕ → Coord → ℕ
offset_there shape number at = get_or (offsets shape.nodes at) (number - 1) 0

-- the coordinates under a slot
pub into_under : (shape : Shape) (written : List Coord) (number : ℕ) (slot : List ℕ) (at : Coord) → Contains written at → path shape at number ≡ slot → Contains (under_slot shape written number slot) at
into_under shape written number slot at has same =
    into_filter (λ (x : Coord). bytes_eq (path shape x number) slot) written at has ((bytes_decides (path shape at number) slot).1 same)

pub from_under : (shape : Shape) (written : List Coord) (number : ℕ) (slot : List ℕ) (at : Coord) → Contains (under_slot shape written number slot) at → Contains written at × (path shape at number ≡ slot)
from_under shape written number slot at has =
    let found = from_filter (λ (x : Coord). bytes_eq (path shape x number) slot) written at has in
    (found.0, (bytes_decides (path shape at number) slot).0 found.1)

pub greatest_member : (shape : Shape) (number : ℕ) (under : List Coord) (at : Coord) → Contains under at → offset_there shape number at ≤ greatest_offset shape number under
greatest_member shape number under at has =
    fold_member 0 (map (offset_there shape number) under) (offset_there shape number at) (into_map (offset_there shape number) under at has)

greatest_most : (shape : Shape) (number m : ℕ) (under : List Coord) → ((at : Coord) → Contains under at → offset_there shape number at ≤ m) → greatest_offset shape number under ≤ m
greatest_most shape number m under all =
    fold_most 0 m (map (offset_there shape number) under) (omega arith)
    (λ x has.
    let found = from_map (offset_there shape number) under x has in
    let below = all found.0 found.1 in
    omega (arith, found.2))

-- one coordinate reaches what another does at a node of this kind: the same slot, or at a dynamic node one under the same
-- parent that isn't below
abbrev Covered : Kind → Shape → ℕ → Coord → Coord → Type 0
Covered Dynamic shape number by at = (path shape by (number - 1) ≡ path shape at (number - 1)) × (offset_there shape number at ≤ offset_there shape number by)
Covered Dense shape number by at = path shape by number ≡ path shape at number
Covered Bitmasked shape number by at = path shape by number ≡ path shape at number
Covered Pointer shape number by at = path shape by number ≡ path shape at number
Covered Hash shape number by at = path shape by number ≡ path shape at number

covered_itself : (kind : Kind) (shape : Shape) (number : ℕ) (at : Coord) → Covered kind shape number at at
covered_itself Dynamic shape number at = (refl, omega arith)
covered_itself Dense shape number at = refl
covered_itself Bitmasked shape number at = refl
covered_itself Pointer shape number at = refl
covered_itself Hash shape number at = refl

abbrev Covers : Kind → Shape → ℕ → List Coord → List Coord → Type 0
Covers kind shape number few more = (at : Coord) → Contains few at → (by : Coord) × Contains more by × Covered kind shape number by at

slots_covered : (shape : Shape) (number : ℕ) (few more : List Coord) → ((at : Coord) → Contains few at → (by : Coord) × Contains more by × (path shape by number ≡ path shape at number)) → (slot : List ℕ) → Contains (map (λ at. path shape at number) few) slot → Contains (map (λ at. path shape at number) more) slot
slots_covered shape number few more covers slot has =
    let found = from_map (λ (at : Coord). path shape at number) few slot has in
    let by = covers found.0 found.1 in
    subst (λ s. Contains (map (λ at. path shape at number) more) s) (by.2 ∙ found.2) (into_map (λ (at : Coord). path shape at number) more by.0 by.1)

chunks_covered : (shape : Shape) (number chunk : ℕ) (few more : List Coord) → Covers Dynamic shape number few more → (parent : List ℕ) → chunks_under shape few number chunk parent ≤ chunks_under shape more number chunk parent
chunks_covered shape number chunk few more covers parent =
    let few_under : List Coord = under_slot shape few (number - 1) parent in
    let more_under : List Coord = under_slot shape more (number - 1) parent in
    let below : greatest_offset shape number few_under ≤ greatest_offset shape number more_under = greatest_most shape number (greatest_offset shape number more_under) few_under
    (λ at has.
    let here = from_under shape few (number - 1) parent at has in
    let by = covers at here.0 in
    let there = into_under shape more (number - 1) parent by.0 by.1 (by.2.0 ∙ here.1) in
    let most = greatest_member shape number more_under by.0 there in
    omega (arith, by.2.1)) in
    div_grows (greatest_offset shape number few_under + chunk) (greatest_offset shape number more_under + chunk) chunk (omega arith)

need_covered : (kind : Kind) (shape : Shape) (few more : List Coord) (number chunk : ℕ) → Covers kind shape number few more → need_by kind shape few number chunk ≤ need_by kind shape more number chunk
need_covered Dense shape few more number chunk covers = omega arith
need_covered Bitmasked shape few more number chunk covers = omega arith
need_covered Pointer shape few more number chunk covers =
    distinct_length (map (λ at. path shape at number) few) (map (λ at. path shape at number) more) (slots_covered shape number few more covers)
need_covered Hash shape few more number chunk covers =
    distinct_length (map (λ at. path shape at number) few) (map (λ at. path shape at number) more) (slots_covered shape number few more covers)
need_covered Dynamic shape few more number chunk covers =
    distinct_grows (chunks_under shape few number chunk) (chunks_under shape more number chunk) (map (λ at. path shape at (number - 1)) few) (map (λ at. path shape at (number - 1)) more)
    (slots_covered shape (number - 1) few more (λ at has. (let by = covers at has in (by.0, by.1, by.2.0))))
    (chunks_covered shape number chunk few more covers)

pub need_grows : (shape : Shape) → NeedGrows shape
need_grows shape few more all number node =
    need_covered node.kind shape few more number (count_of node.chunk) (λ at has. (at, all at has, covered_itself node.kind shape number at))

pub need_is_of_members : (shape : Shape) → NeedIsOfMembers shape
need_is_of_members shape left right same number node =
    let there = need_grows shape left right (λ at. (same at).0) number node in
    let back = need_grows shape right left (λ at. (same at).1) number node in
    omega arith

-- equal needs at each node fill the same node first
full_same : (shape : Shape) (left right : List Coord) (number : ℕ) (nodes : List NodeShape) → ((k : ℕ) (node : NodeShape) → slice_get nodes k ≡ Some node → need_of shape left (number + k) node ≡ need_of shape right (number + k) node) → first_full_from shape left number nodes ≡ first_full_from shape right number nodes
full_same shape left right number [] same = refl
full_same shape left right number (node ∷ later) same =
    let place : number + 0 ≡ number = omega arith in
    let here : need_of shape left number node ≡ need_of shape right number node = subst (λ n. need_of shape left n node ≡ need_of shape right n node) place (same 0 node refl) in
    let full : Option FullNode = Some (record { node = number; cap = count_of node.cap }) in
    ap (λ need. cond (ltb (count_of node.cap) need) full (first_full_from shape left (suc number) later)) here
    ∙ ap (λ rest. cond (ltb (count_of node.cap) (need_of shape right number node)) full rest)
    (full_same shape left right (suc number) later
    (λ k other there.
    let next : number + suc k ≡ suc number + k = omega arith in
    subst (λ n. need_of shape left n other ≡ need_of shape right n other) next (same (suc k) other there)))

pub full_is_of_members : (shape : Shape) → FullIsOfMembers shape
full_is_of_members shape left right same =
    full_same shape left right 1 shape.nodes (λ k node there. need_is_of_members shape left right same (1 + k) node)

-- a slot and one that it makes live agree except for the last offset, which isn't greater
pub below_take : (x y : List ℕ) (m : ℕ) → is_at_or_below x y ≡ true → m < length x → take m x ≡ take m y
below_take x y zero below short = refl
below_take [] y (suc m) below short = absurd (omega arith)
below_take (a ∷ []) y (suc m) below short = absurd (omega arith)
below_take (a ∷ b ∷ x) [] (suc m) below short = cc
below_take (a ∷ b ∷ x) (c ∷ []) (suc m) below short = (let parts = and_parts (eqb a c) false below in cc)
below_take (a ∷ b ∷ x) (c ∷ d ∷ y) (suc m) below short =
    let parts = and_parts (eqb a c) (is_at_or_below (b ∷ x) (d ∷ y)) below in
    ap (λ n. n ∷ take m (b ∷ x)) (eqb-true a c parts.0) ∙ ap (λ z. c ∷ z) (below_take (b ∷ x) (d ∷ y) m parts.1 (omega arith))

pub below_last : (x y : List ℕ) (m : ℕ) → is_at_or_below x y ≡ true → suc m ≡ length x → get_or y m 0 ≤ get_or x m 0
below_last [] y m below long = absurd (omega arith)
below_last (a ∷ []) [] m below long = cc
below_last (a ∷ []) (c ∷ []) zero below long = leb-true c a below
below_last (a ∷ []) (c ∷ []) (suc m) below long = absurd (omega arith)
below_last (a ∷ []) (c ∷ d ∷ y) m below long = (let parts = and_parts (eqb a c) false below in cc)
below_last (a ∷ b ∷ x) [] m below long = cc
below_last (a ∷ b ∷ x) (c ∷ []) m below long = (let parts = and_parts (eqb a c) false below in cc)
below_last (a ∷ b ∷ x) (c ∷ d ∷ y) zero below long = absurd (omega arith)
below_last (a ∷ b ∷ x) (c ∷ d ∷ y) (suc m) below long =
    let parts = and_parts (eqb a c) (is_at_or_below (b ∷ x) (d ∷ y)) below in
    below_last (b ∷ x) (d ∷ y) m parts.1 (omega arith)

pub live_take : (kind : Kind) (x y : List ℕ) (m : ℕ) → makes_live kind x y ≡ true → m < length x → take m x ≡ take m y
live_take Dynamic x y m live short = below_take x y m live short
live_take Dense x y m live short = ap (take m) ((bytes_decides x y).0 live)
live_take Bitmasked x y m live short = ap (take m) ((bytes_decides x y).0 live)
live_take Pointer x y m live short = ap (take m) ((bytes_decides x y).0 live)
live_take Hash x y m live short = ap (take m) ((bytes_decides x y).0 live)

-- paths through fewer nodes
pub path_front : (shape : Shape) (at : Coord) (m n : ℕ) → m ≤ n → path shape at m ≡ take m (path shape at n)
path_front shape at m n below = sym (take-take m n (offsets shape.nodes at) below)

pub path_long : (shape : Shape) (at : Coord) (n : ℕ) → n ≤ length shape.nodes → length (path shape at n) ≡ n
path_long shape at n within = length-take-le n (offsets shape.nodes at) (omega (arith, offsets_long shape.nodes at))

pub path_offset : (shape : Shape) (at : Coord) (m n : ℕ) → m < n → get_or (path shape at n) m 0 ≡ get_or (offsets shape.nodes at) m 0
path_offset shape at m n below = get_or-take n (offsets shape.nodes at) m 0 below

same_front : (shape : Shape) (by at : Coord) (m n : ℕ) → m ≤ n → take n (offsets shape.nodes by) ≡ take n (offsets shape.nodes at) → path shape by m ≡ path shape at m
same_front shape by at m n below same = path_front shape by m n below ∙ ap (take m) same ∙ sym (path_front shape at m n below)

-- coordinates with one path through a node cover each other there
covered_same : (kind : Kind) (shape : Shape) (number : ℕ) (by at : Coord) → 1 ≤ number → path shape by number ≡ path shape at number → Covered kind shape number by at
covered_same Dynamic shape number by at first same =
    let last : get_or (offsets shape.nodes by) (number - 1) 0 ≡ get_or (offsets shape.nodes at) (number - 1) 0 = sym (path_offset shape by (number - 1) number (omega arith)) ∙ ap (λ p. get_or p (number - 1) 0) same ∙ path_offset shape at (number - 1) number (omega arith) in
    (same_front shape by at (number - 1) number (omega arith) same, omega arith)
covered_same Dense shape number by at first same = same
covered_same Bitmasked shape number by at first same = same
covered_same Pointer shape number by at first same = same
covered_same Hash shape number by at first same = same

-- a coordinate that activates another at the node that decides covers it there
covered_there : (kind : Kind) (shape : Shape) (number : ℕ) (by at : Coord) → 1 ≤ number → number ≤ length shape.nodes → makes_live kind (path shape by number) (path shape at number) ≡ true → Covered kind shape number by at
covered_there Dynamic shape number by at first within live =
    let long = path_long shape by number within in
    let front : take (number - 1) (path shape by number) ≡ take (number - 1) (path shape at number) = below_take (path shape by number) (path shape at number) (number - 1) live (omega arith) in
    let last : get_or (path shape at number) (number - 1) 0 ≤ get_or (path shape by number) (number - 1) 0 = below_last (path shape by number) (path shape at number) (number - 1) live (omega arith) in (
      path_front shape by (number - 1) number (omega arith) ∙ front ∙ sym (path_front shape at (number - 1) number (omega arith)),
      omega (arith, path_offset shape by (number - 1) number (omega arith), path_offset shape at (number - 1) number (omega arith)),
    )
covered_there Dense shape number by at first within live = (bytes_decides (path shape by number) (path shape at number)).0 live
covered_there Bitmasked shape number by at first within live = (bytes_decides (path shape by number) (path shape at number)).0 live
covered_there Pointer shape number by at first within live = (bytes_decides (path shape by number) (path shape at number)).0 live
covered_there Hash shape number by at first within live = (bytes_decides (path shape by number) (path shape at number)).0 live

-- and at each node before it, or it
covered_by : (shape : Shape) (number : ℕ) (by at : Coord) → 1 ≤ number → number ≤ last_sparse shape.nodes → last_sparse shape.nodes ≤ length shape.nodes → makes_live (kind_at shape.nodes (last_sparse shape.nodes)) (path shape by (last_sparse shape.nodes)) (path shape at (last_sparse shape.nodes)) ≡ true → Covered (kind_at shape.nodes number) shape number by at
covered_by shape number by at first below within live = elim (cases_eq number (last_sparse shape.nodes)) [
  | inl here ↦ covered_there (kind_at shape.nodes number) shape number by at first (omega arith)
      (subst (λ n. makes_live (kind_at shape.nodes n) (path shape by n) (path shape at n) ≡ true) (sym here) live)
  | inr other ↦
      let l : ℕ = last_sparse shape.nodes in
      let before : number < l = omega (arith, other) in
      let long = path_long shape by l within in
      let front = live_take (kind_at shape.nodes l) (path shape by l) (path shape at l) number live (omega arith) in
      covered_same (kind_at shape.nodes number) shape number by at first (path_front shape by number l below ∙ front ∙ sym (path_front shape at number l below))
]

-- the last node that isn't dense, with one more node before
pub sparse_first : (node : NodeShape) (later : List NodeShape) → is_dense node.kind ≡ false → 1 ≤ last_sparse (node ∷ later)
sparse_first node later sparse =
    cond_both (ltb 0 (last_sparse later)) (suc (last_sparse later)) (cond (is_dense node.kind) 0 1) (λ n. 1 ≤ n) (λ e. omega arith)
    (λ e. omega (arith, cond-false {A = ℕ} (is_dense node.kind) 0 1 sparse))

pub sparse_more : (node : NodeShape) (later : List NodeShape) (number : ℕ) → 1 ≤ number → number ≤ last_sparse later → suc number ≤ last_sparse (node ∷ later)
sparse_more node later number some below =
    omega (arith, cond-true {A = ℕ} (ltb 0 (last_sparse later)) (suc (last_sparse later)) (cond (is_dense node.kind) 0 1) (lt-ltb 0 (last_sparse later) (omega arith)))

-- a node that isn't dense stands at the last such node or before it
sparse_before : (nodes : List NodeShape) (k : ℕ) (node : NodeShape) → slice_get nodes k ≡ Some node → is_dense node.kind ≡ false → suc k ≤ last_sparse nodes
sparse_before [] k node there sparse = cc
sparse_before (first ∷ later) zero node there sparse =
    let same : first ≡ node = cc in
    sparse_first first later (ap (λ (n : NodeShape). is_dense n.kind) same ∙ sparse)
sparse_before (first ∷ later) (suc k) node there sparse =
    let rest = sparse_before later k node there sparse in
    sparse_more first later (suc k) (omega arith) rest

-- the node with a number
node_kind : (shape : Shape) (number : ℕ) (node : NodeShape) → IsNumberedNode shape number node → kind_at shape.nodes number ≡ node.kind
node_kind shape number node is = ap kind_or is.there

-- the closure of a list reaches what the list does
closure_covered : (shape : Shape) → InsideTest → PointsAreInside (bounds_of_shape shape) → (written more : List Coord) (number : ℕ) (node : NodeShape) → IsNumberedNode shape number node → is_dense node.kind ≡ false → Covers node.kind shape number (closure shape written ++ more) (written ++ more)
closure_covered shape test inside written more number node is sparse at has = elim (Contains-append_cases (closure shape written) more at has) [
  | inr there ↦ (at, Contains-append_right written more at there, covered_itself node.kind shape number at)
  | inl closed ↦
      let below : number ≤ last_sparse shape.nodes = (let k = sparse_before shape.nodes (number - 1) node is.there sparse in omega (arith, is.first)) in
      let within = last_decides shape (omega (arith, is.first)) in
      let parts = closed_parts shape written at ((closure_is_tested shape test inside written at).0 closed) in
      elim parts.1 [
        | inl dense ↦ absurd (omega (arith, eqb-true (last_sparse shape.nodes) 0 dense, is.first))
        | inr by ↦ (
          by.0,
          Contains-append_left written more by.0 by.1,
          subst (λ k. Covered k shape number by.0 at) (node_kind shape number node is) (covered_by shape number by.0 at is.first below within.0 by.2),
        )
      ]
]

-- a list of coordinates inside reaches what its closure does
written_covered : (shape : Shape) → InsideTest → PointsAreInside (bounds_of_shape shape) → (written more : List Coord) → AllInside shape written → (number : ℕ) (kind : Kind) → Covers kind shape number (written ++ more) (closure shape written ++ more)
written_covered shape test inside written more all number kind at has = elim (Contains-append_cases written more at has) [
  | inl here ↦ (at, Contains-append_left (closure shape written) more at (closure_extends shape test inside written at here (all at here)), covered_itself kind shape number at)
  | inr there ↦ (at, Contains-append_right (closure shape written) more at there, covered_itself kind shape number at)
]

need_of_dense : (kind : Kind) (shape : Shape) (left right : List Coord) (number chunk : ℕ) → is_dense kind ≡ true → need_by kind shape left number chunk ≡ need_by kind shape right number chunk
need_of_dense Dense shape left right number chunk dense = refl
need_of_dense Bitmasked shape left right number chunk dense = refl
need_of_dense Pointer shape left right number chunk dense = cc
need_of_dense Hash shape left right number chunk dense = cc
need_of_dense Dynamic shape left right number chunk dense = cc

pub need_absorbs : (shape : Shape) → InsideTest → PointsAreInside (bounds_of_shape shape) → NeedAbsorbs shape
need_absorbs shape test inside written more all number node is = elim (cases_Bool (is_dense node.kind)) [
  | inl dense ↦ need_of_dense node.kind shape (closure shape written ++ more) (written ++ more) number (count_of node.chunk) dense
  | inr sparse ↦
      let there = need_covered node.kind shape (closure shape written ++ more) (written ++ more) number (count_of node.chunk) (closure_covered shape test inside written more number node is sparse) in
      let back = need_covered node.kind shape (written ++ more) (closure shape written ++ more) number (count_of node.chunk) (written_covered shape test inside written more all number node.kind) in
      omega arith
]

pub full_absorbs : (shape : Shape) → InsideTest → PointsAreInside (bounds_of_shape shape) → FullAbsorbs shape
full_absorbs shape test inside written more all =
    full_same shape (closure shape written ++ more) (written ++ more) 1 shape.nodes
    (λ k node there.
    let place : k ≡ 1 + k - 1 = omega arith in
    need_absorbs shape test inside written more all (1 + k) node (record { first = omega arith; there = subst (λ n. slice_get shape.nodes n ≡ Some node) place there }))
