-- The order of changes of a layout: each number once, children before parents, and then parents before children.
use Rattle.std.proofs.Common.{◌≡◌, inl, inr, ℕ, zero, suc, ◌<◌, ◌≤◌, ◌==◌, Bool, true, false, not, ◌&&◌, ◌||◌, List, [], ◌∷◌, ◌++◌, map, Option, Some, None, refl, sym, ap, ◌∙◌, arith}
use Rattle.std.specs.Prelude.{Contains}
use Rattle.std.specs.List.{list_any}
use Rattle.std.proofs.lemmas.Bool.{both_ways, and_parts, eqb-true, ne_eqb}
use Rattle.std.proofs.lemmas.List.Elements.{Contains-append_cases}
use Rattle.std.proofs.lemmas.List.Kept.{AllPairs-filter}
use Rattle.sg_words.proofs.Uses.{contains_none, contains_head, contains_rest, contains_cases}
use Rattle.sg_store.specs.declared.links.LinkAt.{LinkAt}
use Rattle.sg_journal.specs.declared.lines.Link.{Link}
use Rattle.sg_journal.specs.declared.rooms.Room.{Room}
use Rattle.sg_journal.specs.Journal.{Rooms, has_number, is_held, is_node, is_below, is_child}
use Rattle.sg_journal.specs.LineLaws.{EachOnce}
use Rattle.sg_journal.specs.Placing.{LayoutLinks, links_in, AreRising}
use Rattle.sg_journal.specs.Changes.{same_link, lacking, link_of}
use Rattle.sg_journal.specs.steps.Soundness.{ChildrenFirst, ParentsFirst}
use Rattle.sg_journal.proofs.Once.{number_key}
use Rattle.sg_journal.proofs.Step.{any_of, any_found, false_of}
use Rattle.sg_journal.proofs.Lacks.{AreAtLeast, rising_rest, rising_above}
use Rattle.sg_journal.proofs.LayoutChanges.{frees_of, takes_of, from_frees, from_takes}

-- each node with containers above another has a smaller number
abbrev pub AreUpward : Rooms → Type 0
AreUpward rooms = (layout node above : ℕ) (room : Room) → rooms layout node ≡ Some room → room.above ≡ Some above → above < node

below_up : (rooms : Rooms) → AreUpward rooms → (layout node above : ℕ) → is_below (rooms layout node) above ≡ true → above < node
below_up rooms up layout node above is = by_room (rooms layout node) refl is where
  by_above : (room : Room) (o : Option ℕ) → rooms layout node ≡ Some room → room.above ≡ o → is_node o above ≡ true → above < node
  by_above room None at above_is e = absurd (both_ways false refl e)
  by_above room (Some a) at above_is e = up layout node above room at (above_is ∙ ap Some (eqb-true a above e))

  by_room : (o : Option Room) → rooms layout node ≡ o → is_below o above ≡ true → above < node
  by_room None at e = absurd (both_ways false refl e)
  by_room (Some room) at e = by_above room room.above at refl e

-- a child's node has a greater number
child_below : (rooms : Rooms) → AreUpward rooms → (layout node number : ℕ) (x : Link) → is_child rooms layout node number x ≡ true → node < x.node
child_below rooms up layout node number x e =
    let one = and_parts (x.layout == layout) (is_below (rooms x.layout x.node) node && (x.parent == suc number)) e in
    let two = and_parts (is_below (rooms x.layout x.node) node) (x.parent == suc number) one.1 in
    below_up rooms up x.layout x.node node two.0

-- ---- each number once

-- two lists of which none shares a number with the other
pub once_both : (xs ys : List Link) → EachOnce xs → EachOnce ys → ((x y : Link) → Contains xs x → Contains ys y → has_number x.layout x.node x.number y ≡ true → ⊥) → EachOnce (xs ++ ys)
once_both [] ys one two apart = two
once_both (x ∷ xs) ys one two apart = (
  false_of (is_held (xs ++ ys) x.layout x.node x.number) (λ e.
      let found = any_found (number_key x) (xs ++ ys) e in
      elim (Contains-append_cases xs ys found.0 found.1) [
        | inl in_xs ↦ both_ways (is_held xs x.layout x.node x.number) one.0 (any_of (number_key x) xs found.0 in_xs found.2)
        | inr in_ys ↦ apart x found.0 (contains_head x x xs refl) in_ys found.2
      ]),
  once_both xs ys one.1 two (λ a b has there e. apart a b (contains_rest a x xs has) there e),
)

-- a number below those of links is held by none of them
none_below : (layout node number : ℕ) (links : List LinkAt) → AreAtLeast (suc number) links → is_held (map (link_of layout node) links) layout node number ≡ false
none_below layout node number [] all = refl
none_below layout node number (y ∷ ys) all =
    ap (λ b. ((layout == layout) && ((node == node) && b)) || is_held (map (link_of layout node) ys) layout node number) (ne_eqb y.number number (λ e. omega (arith, e, all.0)))
    ∙ no_or (layout == layout) (node == node) (is_held (map (link_of layout node) ys) layout node number) (none_below layout node number ys all.1)
  where
    no_or : (a b c : Bool) → c ≡ false → ((a && (b && false)) || c) ≡ false
    no_or true true c e = e
    no_or true false c e = e
    no_or false b c e = e

-- what rising links are with their layout and node
rising_once : (layout node : ℕ) (links : List LinkAt) → AreRising links → EachOnce (map (link_of layout node) links)
rising_once layout node [] rising = tt
rising_once layout node (x ∷ xs) rising = (none_below layout node x.number xs (rising_above x xs rising), rising_once layout node xs (rising_rest x xs rising))

lacking_rises : (others links : List LinkAt) → AreRising links → AreRising (lacking others links)
lacking_rises others links rising = AllPairs-filter (λ (x y : LinkAt). x.number < y.number) (λ (l : LinkAt). not (list_any (same_link l) others)) links rising

node_of : (layout node number : ℕ) (x y : Link) → has_number x.layout x.node x.number y ≡ true → y.node ≡ x.node
node_of layout node number x y e =
    let parts = and_parts (y.layout == x.layout) ((y.node == x.node) && (y.number == x.number)) e in
    eqb-true y.node x.node (and_parts (y.node == x.node) (y.number == x.number) parts.1).0

block_node : (layout node : ℕ) (links : List LinkAt) (x : Link) → Contains (map (link_of layout node) links) x → x.node ≡ node
block_node layout node [] x has = absurd (contains_none x has)
block_node layout node (l ∷ links) x has = elim (contains_cases x (link_of layout node l) (map (link_of layout node) links) has) [
  | inl same ↦ sym (ap (λ (y : Link). y.node) same)
  | inr later ↦ block_node layout node links x later
]

pub frees_once : (layout : ℕ) (old new : LayoutLinks) (n : ℕ) → ((index : ℕ) → AreRising (links_in old index)) → EachOnce (frees_of layout old new n)
frees_once layout old new zero rising = tt
frees_once layout old new (suc index) rising =
    once_both (map (link_of layout (suc index)) (lacking (links_in new index) (links_in old index))) (frees_of layout old new index)
    (rising_once layout (suc index) _ (lacking_rises (links_in new index) (links_in old index) (rising index)))
    (frees_once layout old new index rising)
    (λ x y one two e.
    let is = from_frees layout old new index y two in
    absurd (omega (arith, block_node layout (suc index) _ x one, node_of 0 0 0 x y e, is.node_is, is.below)))

pub takes_once : (layout : ℕ) (old new : LayoutLinks) (n : ℕ) → ((index : ℕ) → AreRising (links_in new index)) → EachOnce (takes_of layout old new n)
takes_once layout old new zero rising = tt
takes_once layout old new (suc index) rising =
    once_both (takes_of layout old new index) (map (link_of layout (suc index)) (lacking (links_in old index) (links_in new index)))
    (takes_once layout old new index rising)
    (rising_once layout (suc index) _ (lacking_rises (links_in old index) (links_in new index) (rising index)))
    (λ x y one two e.
    let is = from_takes layout old new index x one in
    absurd (omega (arith, block_node layout (suc index) _ y two, node_of 0 0 0 x y e, is.node_is, is.below)))

-- ---- children first

no_child : (rooms : Rooms) → AreUpward rooms → (x : Link) (xs : List Link) → ((y : Link) → Contains xs y → y.node ≤ x.node) → list_any (is_child rooms x.layout x.node x.number) xs ≡ false
no_child rooms up x xs small = false_of (list_any (is_child rooms x.layout x.node x.number) xs) (λ e.
    let found = any_found (is_child rooms x.layout x.node x.number) xs e in
    absurd (omega (arith, child_below rooms up x.layout x.node x.number found.0 found.2, small found.0 found.1)))

children_block : (rooms : Rooms) → AreUpward rooms → (xs ys : List Link) (node : ℕ) → ((y : Link) → Contains xs y → y.node ≡ node) → ((y : Link) → Contains ys y → y.node ≤ node) → ChildrenFirst rooms ys → ChildrenFirst rooms (xs ++ ys)
children_block rooms up [] ys node same small rest = rest
children_block rooms up (x ∷ xs) ys node same small rest = (
  no_child rooms up x (x ∷ (xs ++ ys)) (λ y has.
      let here : x.node ≡ node = same x (contains_head x x xs refl) in
      elim (Contains-append_cases (x ∷ xs) ys y has) [
        | inl in_xs ↦ omega (arith, same y in_xs, here)
        | inr in_ys ↦ omega (arith, small y in_ys, here)
      ]),
  children_block rooms up xs ys node (λ y has. same y (contains_rest y x xs has)) small rest,
)

pub children_first : (rooms : Rooms) → AreUpward rooms → (layout : ℕ) (old new : LayoutLinks) (n : ℕ) → ChildrenFirst rooms (frees_of layout old new n)
children_first rooms up layout old new zero = tt
children_first rooms up layout old new (suc index) =
    children_block rooms up (map (link_of layout (suc index)) (lacking (links_in new index) (links_in old index))) (frees_of layout old new index) (suc index)
    (λ y has. block_node layout (suc index) _ y has)
    (λ y has. let is = from_frees layout old new index y has in omega (arith, is.node_is, is.below))
    (children_first rooms up layout old new index)

-- ---- parents first

no_parent_at : (rooms : Rooms) → AreUpward rooms → (x y : Link) → x.node ≤ y.node → is_child rooms y.layout y.node y.number x ≡ false
no_parent_at rooms up x y le = false_of (is_child rooms y.layout y.node y.number x) (λ e. absurd (omega (arith, child_below rooms up y.layout y.node y.number x e, le)))

-- each is of no greater node than those behind it
abbrev AreInOrder : List Link → Type 0
AreInOrder [] = Unit {0}
AreInOrder (x ∷ xs) = ((y : Link) → Contains xs y → x.node ≤ y.node) × AreInOrder xs

parents_in_order : (rooms : Rooms) → AreUpward rooms → (xs : List Link) → AreInOrder xs → ParentsFirst rooms xs
parents_in_order rooms up [] order = tt
parents_in_order rooms up (x ∷ xs) order = (
  λ y has. elim (contains_cases y x xs has) [
    | inl same ↦ no_parent_at rooms up x y (omega (arith, ap (λ (l : Link). l.node) same))
    | inr later ↦ no_parent_at rooms up x y (order.0 y later)
  ],
  parents_in_order rooms up xs order.1,
)

order_both : (xs ys : List Link) → AreInOrder xs → AreInOrder ys → ((x y : Link) → Contains xs x → Contains ys y → x.node ≤ y.node) → AreInOrder (xs ++ ys)
order_both [] ys one two all = two
order_both (x ∷ xs) ys one two all = (
  λ y has. elim (Contains-append_cases xs ys y has) [ inl in_xs ↦ one.0 y in_xs | inr in_ys ↦ all x y (contains_head x x xs refl) in_ys ],
  order_both xs ys one.1 two (λ a b has there. all a b (contains_rest a x xs has) there),
)

block_order : (layout node : ℕ) (links : List LinkAt) → AreInOrder (map (link_of layout node) links)
block_order layout node [] = tt
block_order layout node (l ∷ links) = (
  λ y has. omega (arith, block_node layout node links y has),
  block_order layout node links,
)

takes_order : (layout : ℕ) (old new : LayoutLinks) (n : ℕ) → AreInOrder (takes_of layout old new n)
takes_order layout old new zero = tt
takes_order layout old new (suc index) =
    order_both (takes_of layout old new index) (map (link_of layout (suc index)) (lacking (links_in old index) (links_in new index)))
    (takes_order layout old new index) (block_order layout (suc index) _)
    (λ x y one two. let is = from_takes layout old new index x one in omega (arith, is.node_is, is.below, block_node layout (suc index) _ y two))

pub parents_first : (rooms : Rooms) → AreUpward rooms → (layout : ℕ) (old new : LayoutLinks) (n : ℕ) → ParentsFirst rooms (takes_of layout old new n)
parents_first rooms up layout old new n = parents_in_order rooms up (takes_of layout old new n) (takes_order layout old new n)
