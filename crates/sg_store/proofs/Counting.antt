-- Live numbers counted against live slots.
use Rattle.std.proofs.Common.{◌≡◌, ◌≢◌, ℕ, zero, suc, ◌*◌, ◌<◌, ◌≤◌, Bool, true, false, not, List, [], ◌∷◌, length, take, get_or, refl, sym, ap, ◌∙◌, subst, arith, inl, inr}
use Rattle.std.specs.Prelude.{Option, Some, None, unwrap_or, slice_get, slice_index, ◌==◌}
use Rattle.std.specs.Option.{option_map}
use Rattle.std.specs.List.{Contains, AllPairs}
use Rattle.std.proofs.lemmas.Bool.{false≢true, cases_lt}
use Rattle.std.proofs.lemmas.Bool.Decides.{nat_tests}
use Rattle.std.proofs.lemmas.List.{get_or_default, get_or_past}
use Rattle.std.proofs.lemmas.Option.{same_Some}
use Rattle.sg_coord.specs.declared.coord.Coord.{Coord}
use Rattle.sg_layout.specs.declared.shape.Kind.TheVariants.{Dynamic}
use Rattle.sg_layout.specs.declared.shape.NodeShape.{NodeShape}
use Rattle.sg_layout.specs.Axes.{size_of}
use Rattle.sg_layout.specs.StorageWords.{ends_segment}
use Rattle.sg_layout.specs.Path.{path}
use Rattle.sg_layout.specs.Live.{kind_at, is_live}
use Rattle.sg_layout.specs.Need.{reached_slots}
use Rattle.sg_layout.specs.NeedLaws.{ReachedAreLive, ReachedOnce}
use Rattle.sg_layout.specs.Slots.{IsSlot}
use Rattle.sg_pool.specs.Numbers.{is_live_number, live_count}
use Rattle.sg_pool.proofs.Uses.{fewer, live_numbers, live_numbers_once, in_live_numbers, from_live_numbers, length-live_numbers}
use Rattle.sg_store.specs.declared.node.NodeWords.{NodeWords}
use Rattle.sg_store.specs.StoreWords.{StoreWords}
use Rattle.sg_store.specs.Slots.{is_set}
use Rattle.sg_store.specs.Walks.{slot_number_in, is_on}
use Rattle.sg_store.specs.WellFormed.{IsNode, IsPointerNode, AreNodes, is_root, live_slot}
use Rattle.sg_store.specs.steps.AtNode.{OfNode, AtNode, AtNodeOf}
use Rattle.sg_store.specs.steps.Walking.{AreOffsets}
use Rattle.sg_store.proofs.Walking.{index_contains, links_are_one, numbers_apart}
use Rattle.sg_store.proofs.Grown.{own_answer_at}
use Rattle.sg_store.proofs.Opened.{slot_offsets, slot_long, path_from_live}
use Rattle.sg_store.proofs.Leading.{InLive, leads_from}

-- ── One node of a store ──

-- what holds of a node, with its shape and its words
pub record NodeOf (Says : OfNode) (nodes : List NodeShape) (words : List NodeWords) (i : ℕ) : Type 0 where
  pub node : NodeShape
  pub at : slice_get nodes i ≡ Some node
  pub kept : NodeWords
  pub has : slice_get words i ≡ Some kept
  pub slots : ℕ
  pub live : ℕ → Bool
  pub says : Says node kept slots live

pub node_of : (Says : OfNode) (nodes : List NodeShape) (words : List NodeWords) (places : ℕ) (live : ℕ → Bool) (i : ℕ) → AtNode Says nodes words places live i → NodeOf Says nodes words i
node_of Says [] words places live i here = absurd here
node_of Says (node ∷ later) [] places live i here = absurd here
node_of Says (node ∷ later) (kept ∷ words) places live zero here =
    record { node = node; at = refl; kept = kept; has = refl; slots = places * size_of node.sizes; live = live_slot node live; says = here }
node_of Says (node ∷ later) (kept ∷ words) places live (suc i) here =
    let rest = node_of Says later words _ _ i here in
    record { node = rest.node; at = rest.at; kept = rest.kept; has = rest.has; slots = rest.slots; live = rest.live; says = rest.says }

-- two facts of one node
abbrev pub Both : OfNode → OfNode → OfNode
Both One Two node kept slots live = One node kept slots live × Two node kept slots live

pub both_at : (One Two : OfNode) (nodes : List NodeShape) (words : List NodeWords) (places : ℕ) (live : ℕ → Bool) (i : ℕ) → AtNode One nodes words places live i → AtNode Two nodes words places live i → AtNode (Both One Two) nodes words places live i
both_at One Two [] words places live i one two = absurd one
both_at One Two (node ∷ later) [] places live i one two = absurd one
both_at One Two (node ∷ later) (kept ∷ words) places live zero one two = (one, two)
both_at One Two (node ∷ later) (kept ∷ words) places live (suc i) one two = both_at One Two later words _ _ i one two

-- each node is well-formed
abbrev pub OfWellFormed : OfNode
OfWellFormed node kept slots live = IsNode node.kind node kept slots live

pub nodes_at : (nodes : List NodeShape) (words : List NodeWords) (places : ℕ) (live : ℕ → Bool) (i : ℕ) → AreNodes nodes words places live → i < length nodes → AtNode OfWellFormed nodes words places live i
nodes_at [] words places live i are below = absurd (omega (arith, below))
nodes_at (node ∷ later) [] places live i are below = absurd are
nodes_at (node ∷ later) (kept ∷ words) places live zero are below = are.1
nodes_at (node ∷ later) (kept ∷ words) places live (suc i) are below = nodes_at later words _ _ i are.2 (omega (arith, below))

-- a fact that follows from another at the node
pub at_node_from : (One Two : OfNode) (nodes : List NodeShape) (words : List NodeWords) (places : ℕ) (live : ℕ → Bool) (i : ℕ) → ((node : NodeShape) (kept : NodeWords) (slots : ℕ) (live : ℕ → Bool) → slice_get nodes i ≡ Some node → slice_get words i ≡ Some kept → One node kept slots live → Two node kept slots live) → AtNode One nodes words places live i → AtNode Two nodes words places live i
at_node_from One Two [] words places live i follows one = absurd one
at_node_from One Two (node ∷ later) [] places live i follows one = absurd one
at_node_from One Two (node ∷ later) (kept ∷ words) places live zero follows one = follows node kept _ _ refl refl one
at_node_from One Two (node ∷ later) (kept ∷ words) places live (suc i) follows one = at_node_from One Two later words _ _ i follows one

-- ── Numbers that links have, against the slots that are reached ──

-- the node's links are these, which stand in live containers, and their slots are live for a list
pub record Links (store : StoreWords) (i : ℕ) (links : List ℕ) (coords : List Coord) : Type 0 where
  pub within : suc i ≤ length store.shape.nodes
  pub are_nodes : AreNodes store.shape.nodes store.nodes 1 is_root
  pub in_live : (q : ℕ) → slice_index links q ≢ 0 → AtNodeOf (InLive q) store i
  pub live : (slot : List ℕ) (q : ℕ) → IsSlot (take (suc i) store.shape.nodes) slot → slot_number_in store.shape.nodes store.nodes 0 slot ≡ Some q → slice_index links q ≢ 0 → is_live store.shape coords (suc i) slot ≡ true

-- a slot whose link has a number
abbrev pub HasNumber : StoreWords → List ℕ → ℕ → List ℕ → Type 0
HasNumber store links number slot = (q : ℕ) × (slot_number_in store.shape.nodes store.nodes 0 slot ≡ Some q) × (slice_index links q ≡ suc number)

pub is_slot_from : (nodes : List NodeShape) (slot : List ℕ) → AreOffsets nodes slot → IsSlot (take (length slot) nodes) slot
is_slot_from nodes [] are = tt
is_slot_from [] (o ∷ slot) are = absurd are
is_slot_from (node ∷ later) (o ∷ slot) are = (are.0, is_slot_from later slot are.1)

pub numbers_fit : (store : StoreWords) (i : ℕ) (links : List ℕ) (coords : List Coord) (numbers : List ℕ) → ReachedAreLive store.shape → kind_at store.shape.nodes (suc i) ≢ Dynamic → Links store i links coords → AllPairs (λ x y. x ≢ y) numbers → ((n : ℕ) → Contains numbers n → Contains links (suc n)) → length numbers ≤ length (reached_slots store.shape coords (suc i))
numbers_fit store i links coords numbers reached other are once linked_all =
    fewer (HasNumber store links) numbers (reached_slots store.shape coords (suc i)) once
    (λ n has.
    let found = linked_all n has in
    let q : ℕ = found.0 in
    let word : slice_index links q ≡ suc n = get_or_default links q 0 (suc n) found.1 ∙ found.2 in
    let some : slice_index links q ≢ 0 = λ none. cc in
    let leads = leads_from store.shape.nodes store.nodes 1 is_root are.are_nodes i q (are.in_live q some) in
    let root : leads.start ≡ 0 = omega (arith, leads.within) in
    let number : slot_number_in store.shape.nodes store.nodes 0 leads.slot ≡ Some q = ap (λ p. slot_number_in store.shape.nodes store.nodes p leads.slot) (sym root) ∙ leads.number in
    let is_slot : IsSlot (take (suc i) store.shape.nodes) leads.slot = subst (λ n. IsSlot (take n store.shape.nodes) leads.slot) leads.long (is_slot_from store.shape.nodes leads.slot leads.are_offsets) in
    (leads.slot, (reached coords (suc i) other leads.slot).1 (are.live leads.slot q is_slot number some), (q, number, word)))
    (λ a b slot p r left right.
    let same : left.0 ≡ right.0 = same_Some _ _ (sym left.1 ∙ right.1) in
    let words : suc a ≡ suc b = sym left.2 ∙ ap (slice_index links) same ∙ right.2 in
    omega (arith, words))

-- ── A node with links whose slots are on exactly when they are live ──

-- a number that isn't 0 is within the list
pub index_within : (xs : List ℕ) (q : ℕ) → slice_index xs q ≢ 0 → q < length xs
index_within xs q some = elim (cases_lt q (length xs)) [
  | inl below ↦ below
  | inr past ↦ absurd (some (get_or_past xs q 0 past))
]

-- a node's words with these links
abbrev pub with_links : NodeWords → List ℕ → NodeWords
with_links kept links = record kept { links = links }

-- the node is this one, and with these links it is as a pointer node
pub record IsOwn (node : NodeShape) (kept : NodeWords) (links : List ℕ) (own : NodeShape) (mine : NodeWords) (slots : ℕ) (live : ℕ → Bool) : Type 0 where
  pub same : own ≡ node
  pub same_words : mine ≡ kept
  pub as_pointer : IsPointerNode node (with_links kept links) slots live

-- the node with an index, which has child containers, well-formed among the others, and the links of its slots
pub record LinkedAt (store : StoreWords) (i : ℕ) (node : NodeShape) (kept : NodeWords) (links : List ℕ) : Type 0 where
  pub within : suc i ≤ length store.shape.nodes
  pub are_nodes : AreNodes store.shape.nodes store.nodes 1 is_root
  pub at : slice_get store.shape.nodes i ≡ Some node
  pub has : slice_get store.nodes i ≡ Some kept
  pub linked : ends_segment node.kind ≡ true
  pub own : AtNodeOf (IsOwn node kept links) store i
  pub set : (q : ℕ) → is_set node.kind node kept q ≡ not (slice_index links q == 0)

-- what its links say holds of it
pub pointer_says : (Says : OfNode) (store : StoreWords) (i : ℕ) (node : NodeShape) (kept : NodeWords) (links : List ℕ) → LinkedAt store i node kept links → ((slots : ℕ) (live : ℕ → Bool) → IsPointerNode node (with_links kept links) slots live → Says node kept slots live) → AtNodeOf Says store i
pointer_says Says store i node kept links is follows =
    at_node_from (IsOwn node kept links) Says store.shape.nodes store.nodes 1 is_root i
    (λ own mine slots live at has one.
    subst (λ (n : NodeShape). Says n mine slots live) (sym one.same) (subst (λ (k : NodeWords). Says node k slots live) (sym one.same_words) (follows slots live one.as_pointer)))
    is.own

pub pointer_node : (store : StoreWords) (i : ℕ) (node : NodeShape) (kept : NodeWords) (links : List ℕ) → LinkedAt store i node kept links → (slots : ℕ) × (live : ℕ → Bool) × IsPointerNode node (with_links kept links) slots live
pointer_node store i node kept links is =
    let Says : OfNode = λ own mine slots live. IsPointerNode node (with_links kept links) slots live in
    let found = node_of Says store.shape.nodes store.nodes 1 is_root i (pointer_says Says store i node kept links is (λ slots live one. one)) in
    (found.slots, found.live, found.says)

pub link_live : (store : StoreWords) (i : ℕ) (node : NodeShape) (kept : NodeWords) (links : List ℕ) → LinkedAt store i node kept links → (q : ℕ) → slice_index links q ≢ 0 → AtNodeOf (InLive q) store i
link_live store i node kept links is q some =
    pointer_says (InLive q) store i node kept links is
    (λ slots live one. record { within = omega (arith, index_within links q some, one.link_count); is_live = one.in_live q some })

pub word_number : (word : ℕ) → not (word == 0) ≡ true → (n : ℕ) × (word ≡ suc n)
word_number zero e = absurd (false≢true e)
word_number (suc n) e = (n, refl)

pub word_set : (word : ℕ) → word ≢ 0 → not (word == 0) ≡ true
word_set word some = grind (arith, nat_tests)

-- its slots are on exactly when they are live for a list
pub record IsOnFor (store : StoreWords) (i : ℕ) (coords : List Coord) : Type 0 where
  pub paths : (at : Coord) → IsSlot (take (suc i) store.shape.nodes) (path store.shape at (suc i))
  pub on : (slot : List ℕ) → IsSlot (take (suc i) store.shape.nodes) slot → is_on store.shape.nodes store.nodes 0 slot ≡ is_live store.shape coords (suc i) slot
  pub reached : ReachedAreLive store.shape
  pub once : ReachedOnce store.shape
  pub one_slot : kind_at store.shape.nodes (suc i) ≢ Dynamic

pub on_is : (store : StoreWords) (i : ℕ) (node : NodeShape) (kept : NodeWords) (links : List ℕ) → LinkedAt store i node kept links → (slot : List ℕ) → IsSlot (take (suc i) store.shape.nodes) slot → is_on store.shape.nodes store.nodes 0 slot ≡ unwrap_or (option_map (λ q. not (slice_index links q == 0)) (slot_number_in store.shape.nodes store.nodes 0 slot)) false
on_is store i node kept links is slot is_slot =
    ap (λ o. unwrap_or o false) (own_answer_at is_set store.shape.nodes store.nodes i node kept is.at is.has 0 slot (slot_long store.shape.nodes (suc i) slot is.within is_slot))
    ∙ same (slot_number_in store.shape.nodes store.nodes 0 slot)
  where
    same : (number : Option ℕ) → unwrap_or (option_map (is_set node.kind node kept) number) false ≡ unwrap_or (option_map (λ q. not (slice_index links q == 0)) number) false
    same None = refl
    same (Some q) = is.set q

-- a slot that is on has a link
on_linked : (links : List ℕ) (number : Option ℕ) → unwrap_or (option_map (λ q. not (slice_index links q == 0)) number) false ≡ true → (q : ℕ) × (number ≡ Some q) × (n : ℕ) × (slice_index links q ≡ suc n)
on_linked links None e = absurd (false≢true e)
on_linked links (Some q) e = let word = word_number (slice_index links q) e in (q, refl, word.0, word.1)

own_links : (store : StoreWords) (i : ℕ) (node : NodeShape) (kept : NodeWords) (links : List ℕ) (coords : List Coord) → LinkedAt store i node kept links → IsOnFor store i coords → Links store i links coords
own_links store i node kept links coords is for = record {
  within = is.within;
  are_nodes = is.are_nodes;
  in_live = link_live store i node kept links is;
  live = λ slot q is_slot number some.
      sym (for.on slot is_slot) ∙ on_is store i node kept links is slot is_slot
      ∙ ap (λ o. unwrap_or (option_map (λ q. not (slice_index links q == 0)) o) false) number ∙ word_set (slice_index links q) some;
}

live_fits : (store : StoreWords) (i : ℕ) (node : NodeShape) (kept : NodeWords) (links : List ℕ) (coords : List Coord) → LinkedAt store i node kept links → IsOnFor store i coords → live_count kept.pool ≤ length (reached_slots store.shape coords (suc i))
live_fits store i node kept links coords is for =
    let own = pointer_node store i node kept links is in
    omega (
      arith,
      length-live_numbers kept.pool,
      numbers_fit store i links coords (live_numbers kept.pool) for.reached for.one_slot (own_links store i node kept links coords is for)
          (live_numbers_once kept.pool) (λ n has. (own.2.live_linked n).0 (from_live_numbers kept.pool n has)),
    )

reached_fit : (store : StoreWords) (i : ℕ) (node : NodeShape) (kept : NodeWords) (links : List ℕ) (coords : List Coord) → LinkedAt store i node kept links → IsOnFor store i coords → length (reached_slots store.shape coords (suc i)) ≤ live_count kept.pool
reached_fit store i node kept links coords is for =
    let own = pointer_node store i node kept links is in
    let nodes : List NodeShape = store.shape.nodes in
    let is_slot : (slot : List ℕ) → Contains (reached_slots store.shape coords (suc i)) slot → IsSlot (take (suc i) nodes) slot = λ slot has.
    let found = path_from_live store.shape coords (suc i) slot for.one_slot ((for.reached coords (suc i) for.one_slot slot).0 has) in
    subst (λ s. IsSlot (take (suc i) nodes) s) found.3 (for.paths (get_or coords found.0 found.1)) in
    omega (
      arith,
      length-live_numbers kept.pool,
      fewer (λ slot n. HasNumber store links n slot) (reached_slots store.shape coords (suc i)) (live_numbers kept.pool) (for.once coords (suc i))
          (λ slot has.
          let there = is_slot slot has in
          let on : is_on nodes store.nodes 0 slot ≡ true = for.on slot there ∙ (for.reached coords (suc i) for.one_slot slot).0 has in
          let linked = on_linked links (slot_number_in nodes store.nodes 0 slot) (sym (on_is store i node kept links is slot there) ∙ on) in
          let alive : is_live_number kept.pool linked.2 ≡ true = (own.2.live_linked linked.2).1 (index_contains links linked.0 linked.2 linked.3) in
          (linked.2, in_live_numbers kept.pool linked.2 alive, (linked.0, linked.1, linked.3)))
          (λ a b n p r left right.
          let same : left.0 ≡ right.0 = own.2.once left.0 right.0 (λ none. cc) (left.2 ∙ sym right.2) in
          let long : length a ≡ length b = slot_long nodes (suc i) a is.within (is_slot a p) ∙ sym (slot_long nodes (suc i) b is.within (is_slot b r)) in
          (numbers_apart nodes store.nodes (links_are_one nodes store.nodes 1 is_root is.are_nodes) 0 0 a b right.0 (slot_offsets nodes (suc i) a (is_slot a p)) (slot_offsets nodes (suc i) b (is_slot b r)) long (left.1 ∙ ap Some same) right.1).1),
    )

-- as many containers are live as slots are reached
pub live_is_reached : (store : StoreWords) (i : ℕ) (node : NodeShape) (kept : NodeWords) (links : List ℕ) (coords : List Coord) → LinkedAt store i node kept links → IsOnFor store i coords → live_count kept.pool ≡ length (reached_slots store.shape coords (suc i))
live_is_reached store i node kept links coords is for =
    omega (arith, live_fits store i node kept links coords is for, reached_fit store i node kept links coords is for)
