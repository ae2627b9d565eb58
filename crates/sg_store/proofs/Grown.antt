-- One node whose words have become others, of any kind, where what it kept stays (`Grows`): the nodes are well-formed
-- again, what led to a cell leads to it still, and what is on changes at this node alone.
use Rattle.std.proofs.Common.{◌≡◌, ◌≢◌, ℕ, zero, suc, ◌/◌, ◌≤◌, Bool, true, false, List, [], ◌∷◌, length, refl, ap, ◌∙◌, arith, cond}
use Rattle.std.specs.Prelude.{Option, Some, None, option_and_then, unwrap_or, slice_get, slice_set}
use Rattle.std.specs.Option.{option_map}
use Rattle.std.proofs.lemmas.Option.{none-some, same_Some, option_and_then_some}
use Rattle.sg_layout.specs.declared.shape.Kind.{Kind}
use Rattle.sg_layout.specs.declared.shape.Kind.TheVariants.{Dense, Bitmasked, Pointer, Hash, Dynamic}
use Rattle.sg_layout.specs.declared.shape.NodeShape.{NodeShape}
use Rattle.sg_layout.specs.Axes.{size_of}
use Rattle.sg_store.specs.declared.node.NodeWords.{NodeWords}
use Rattle.sg_store.specs.Slots.{slot_under, is_set, place_below, active_below}
use Rattle.sg_store.specs.Walks.{place_after, own_answer, slot_number_in, is_on}
use Rattle.sg_store.specs.WellFormed.{IsPointerNode, IsNode, by_slots, live_below, live_slot, AreNodes}
use Rattle.sg_store.specs.steps.AtNode.{AtNode}
use Rattle.sg_store.specs.steps.Walking.{AreOffsets}
use Rattle.sg_store.specs.steps.Settling.{NodeGrows}
use Rattle.sg_store.proofs.Walking.{active_leads, own_kind, off_below_dead}

-- ── The nodes are well-formed again ──

-- more places may be live
pointer_more : (node : NodeShape) (kept : NodeWords) (slots : ℕ) (few more : ℕ → Bool) → ((q : ℕ) → few q ≡ true → more q ≡ true) → IsPointerNode node kept slots few → IsPointerNode node kept slots more
pointer_more node kept slots few more grows is = record {
  link_count = is.link_count;
  places = is.places;
  live_linked = is.live_linked;
  once = is.once;
  in_live = λ q on. grows q (is.in_live q on);
}

is_node_more : (kind : Kind) (node : NodeShape) (kept : NodeWords) (slots : ℕ) (few more : ℕ → Bool) → ((q : ℕ) → few q ≡ true → more q ≡ true) → IsNode kind node kept slots few → IsNode kind node kept slots more
is_node_more Dense node kept slots few more grows is = tt
is_node_more Bitmasked node kept slots few more grows is = record { word_count = is.word_count; in_live = λ q on. grows q (is.in_live q on) }
is_node_more Pointer node kept slots few more grows is = pointer_more node kept slots few more grows is
is_node_more Hash node kept slots few more grows is = record {
  key_count = is.key_count;
  table = is.table;
  links_beside = is.links_beside;
  few_slots = is.few_slots;
  keys_are_slots = is.keys_are_slots;
  as_pointer = pointer_more node (by_slots kept slots) slots few more grows is.as_pointer;
}
is_node_more Dynamic node kept slots few more grows is = record {
  length_count = is.length_count;
  short = is.short;
  chain_count = is.chain_count;
  chains_fit = is.chains_fit;
  places = is.places;
  exact = is.exact;
  some_chunk = is.some_chunk;
  in_live = λ q on. grows q (is.in_live q on);
}

below_more : (kind : Kind) (kept : NodeWords) (few more : ℕ → Bool) → ((q : ℕ) → few q ≡ true → more q ≡ true) → (n : ℕ) → live_below kind kept few n ≡ true → live_below kind kept more n ≡ true
below_more Dense kept few more grows n live = grows n live
below_more Bitmasked kept few more grows n live = grows n live
below_more Pointer kept few more grows n live = live
below_more Hash kept few more grows n live = live
below_more Dynamic kept few more grows n live = live

pub nodes_more : (nodes : List NodeShape) (words : List NodeWords) (places : ℕ) (few more : ℕ → Bool) → ((p : ℕ) → few p ≡ true → more p ≡ true) → AreNodes nodes words places few → AreNodes nodes words places more
nodes_more [] [] places few more grows are = tt
nodes_more [] (kept ∷ words) places few more grows are = are
nodes_more (node ∷ later) [] places few more grows are = are
nodes_more (node ∷ later) (kept ∷ words) places few more grows are = (
  are.0,
  is_node_more node.kind node kept _ (live_slot node few) (live_slot node more) (λ q. grows (q / size_of node.sizes)) are.1,
  nodes_more later words _ (live_below node.kind kept (live_slot node few)) (live_below node.kind kept (live_slot node more))
      (below_more node.kind kept (live_slot node few) (live_slot node more) (λ q. grows (q / size_of node.sizes))) are.2,
  are.3,
)

pub nodes_grown : (nodes : List NodeShape) (words : List NodeWords) (places : ℕ) (live : ℕ → Bool) (i : ℕ) (after : NodeWords) → AreNodes nodes words places live → AtNode (NodeGrows after) nodes words places live i → AreNodes nodes (slice_set words i after) places live
nodes_grown [] words places live i after are grown = absurd grown
nodes_grown (node ∷ later) [] places live i after are grown = absurd grown
nodes_grown (node ∷ later) (kept ∷ words) places live zero after are grown = (
  are.0,
  grown.is_node,
  nodes_more later words _ (live_below node.kind kept (live_slot node live)) (live_below node.kind after (live_slot node live)) grown.live_stays are.2,
  are.3,
)
nodes_grown (node ∷ later) (kept ∷ words) places live (suc i) after are grown =
    (are.0, are.1, nodes_grown later words _ _ i after are.2 grown, are.3)

-- ── What led to a place leads to it still ──

active_more : (kind : Kind) (node : NodeShape) (kept after : NodeWords) (q n : ℕ) → (is_set kind node kept q ≡ true → is_set kind node after q ≡ true) → (place_below kind node kept q ≡ Some n → place_below kind node after q ≡ Some n) → active_below kind node kept q ≡ Some n → active_below kind node after q ≡ Some n
active_more kind node kept after q n set leads e =
    let parts = active_leads kind node kept q n e in
    ap (λ b. cond b (place_below kind node after q) None) (set parts.0) ∙ leads parts.1

pub cells_stay : (nodes : List NodeShape) (words : List NodeWords) (places : ℕ) (live : ℕ → Bool) (i : ℕ) (after : NodeWords) → AtNode (NodeGrows after) nodes words places live i → (p : ℕ) (s : List ℕ) (x : ℕ) → place_after active_below nodes words p s ≡ Some x → place_after active_below nodes (slice_set words i after) p s ≡ Some x
cells_stay nodes words places live i after grown p [] x e = e
cells_stay [] words places live i after grown p (o ∷ s) x e = absurd grown
cells_stay (node ∷ later) [] places live i after grown p (o ∷ s) x e = absurd grown
cells_stay (node ∷ later) (kept ∷ words) places live zero after grown p (o ∷ s) x e =
    option_and_then_some _ _ x e (λ n here rest.
    ap (option_and_then (λ next. place_after active_below later words next s))
    (active_more node.kind node kept after (slot_under node p o) n (grown.set_stays _) (grown.leads_stays _ n) here) ∙ rest)
cells_stay (node ∷ later) (kept ∷ words) places live (suc i) after grown p (o ∷ s) x e =
    option_and_then_some _ _ x e (λ n here rest.
    ap (option_and_then (λ next. place_after active_below later (slice_set words i after) next s)) here
    ∙ cells_stay later words _ _ i after grown n s x rest)

-- ── What is on changes at this node alone ──

-- the number of a slot of this node or one above it stays
pub number_stays : (nodes : List NodeShape) (words : List NodeWords) (i : ℕ) (after : NodeWords) (p : ℕ) (s : List ℕ) → length s ≤ suc i → slot_number_in nodes (slice_set words i after) p s ≡ slot_number_in nodes words p s
number_stays nodes words i after p [] long = refl
number_stays [] words i after p (o ∷ s) long = refl
number_stays (node ∷ later) [] i after p (o ∷ s) long = refl
number_stays (node ∷ later) (kept ∷ words) zero after p (o ∷ []) long = refl
number_stays (node ∷ later) (kept ∷ words) zero after p (o ∷ (v ∷ s)) long = absurd (omega (arith, long))
number_stays (node ∷ later) (kept ∷ words) (suc i) after p (o ∷ []) long = refl
number_stays (node ∷ later) (kept ∷ words) (suc i) after p (o ∷ (v ∷ s)) long =
    same (place_below node.kind node kept (slot_under node p o)) (λ n. number_stays later words i after n (v ∷ s) (omega (arith, long)))
  where
    same : (below : Option ℕ) → ((n : ℕ) → slot_number_in later (slice_set words i after) n (v ∷ s) ≡ slot_number_in later words n (v ∷ s)) → option_and_then (λ n. slot_number_in later (slice_set words i after) n (v ∷ s)) below ≡ option_and_then (λ n. slot_number_in later words n (v ∷ s)) below
    same None h = refl
    same (Some n) h = h n

-- what a slot's own node answers, at the node with an index
pub own_answer_at : {A : Type 0} → (f : Kind → NodeShape → NodeWords → ℕ → A) (nodes : List NodeShape) (words : List NodeWords) (i : ℕ) (node : NodeShape) (kept : NodeWords) → slice_get nodes i ≡ Some node → slice_get words i ≡ Some kept → (p : ℕ) (s : List ℕ) → length s ≡ suc i → own_answer f nodes words p s ≡ option_map (f node.kind node kept) (slot_number_in nodes words p s)
own_answer_at f nodes words i node kept at has p [] long = absurd (omega (arith, long))
own_answer_at f [] words i node kept at has p (o ∷ s) long = absurd (none-some node at)
own_answer_at f (first ∷ later) [] i node kept at has p (o ∷ s) long = absurd (none-some kept has)
own_answer_at f (first ∷ later) (own ∷ words) zero node kept at has p (o ∷ []) long =
    let a : first ≡ node = same_Some first node at in
    let b : own ≡ kept = same_Some own kept has in
    ap (λ n. Some (f n.kind n own (slot_under first p o))) a ∙ ap (λ k. Some (f node.kind node k (slot_under first p o))) b
own_answer_at f (first ∷ later) (own ∷ words) zero node kept at has p (o ∷ (v ∷ s)) long = absurd (omega (arith, long))
own_answer_at f (first ∷ later) (own ∷ words) (suc i) node kept at has p (o ∷ []) long = absurd (omega (arith, long))
own_answer_at {A} f (first ∷ later) (own ∷ words) (suc i) node kept at has p (o ∷ (v ∷ s)) long =
    same (place_below first.kind first own (slot_under first p o)) (λ n. own_answer_at f later words i node kept at has n (v ∷ s) (omega (arith, long)))
  where
    same : (below : Option ℕ) → ((n : ℕ) → own_answer f later words n (v ∷ s) ≡ option_map (f node.kind node kept) (slot_number_in later words n (v ∷ s))) → option_and_then (λ n. own_answer f later words n (v ∷ s)) below ≡ option_map (f node.kind node kept) (option_and_then (λ n. slot_number_in later words n (v ∷ s)) below)
    same None h = refl
    same (Some n) h = h n

-- at every other node what is on stays
pub on_elsewhere : (nodes : List NodeShape) (words : List NodeWords) (places : ℕ) (live : ℕ → Bool) (i : ℕ) (after : NodeWords) → AreNodes nodes words places live → AtNode (NodeGrows after) nodes words places live i → (p : ℕ) (s : List ℕ) → AreOffsets nodes s → own_kind nodes s ≢ Dense → length s ≢ suc i → is_on nodes (slice_set words i after) p s ≡ is_on nodes words p s
on_elsewhere nodes words places live i after are grown p [] ins other long = refl
on_elsewhere [] words places live i after are grown p (o ∷ s) ins other long = absurd grown
on_elsewhere (node ∷ later) [] places live i after are grown p (o ∷ s) ins other long = absurd grown
on_elsewhere (node ∷ later) (kept ∷ words) places live zero after are grown p (o ∷ []) ins other long = absurd (long refl)
on_elsewhere (node ∷ later) (kept ∷ words) places live zero after are grown p (o ∷ (v ∷ s)) ins other long =
    let q : ℕ = slot_under node p o in
    same (place_below node.kind node kept q) (place_below node.kind node after q) (grown.leads_stays q)
    (λ n none e. off_below_dead later words _ _ are.2 n (grown.fresh q n none e) (v ∷ s) ins.1 other)
  where
    same : (was now : Option ℕ) → ((n : ℕ) → was ≡ Some n → now ≡ Some n) → ((n : ℕ) → was ≡ None → now ≡ Some n → is_on later words n (v ∷ s) ≡ false) → unwrap_or (option_and_then (λ under. own_answer is_set later words under (v ∷ s)) now) false ≡ unwrap_or (option_and_then (λ under. own_answer is_set later words under (v ∷ s)) was) false
    same (Some n) now stays fresh = ap (λ below. unwrap_or (option_and_then (λ under. own_answer is_set later words under (v ∷ s)) below) false) (stays n refl)
    same None None stays fresh = refl
    same None (Some n) stays fresh = fresh n refl refl
on_elsewhere (node ∷ later) (kept ∷ words) places live (suc i) after are grown p (o ∷ []) ins other long = refl
on_elsewhere (node ∷ later) (kept ∷ words) places live (suc i) after are grown p (o ∷ (v ∷ s)) ins other long =
    same (place_below node.kind node kept (slot_under node p o))
    (λ n. on_elsewhere later words _ _ i after are.2 grown n (v ∷ s) ins.1 other (λ e. long (ap suc e)))
  where
    same : (below : Option ℕ) → ((n : ℕ) → is_on later (slice_set words i after) n (v ∷ s) ≡ is_on later words n (v ∷ s)) → unwrap_or (option_and_then (λ under. own_answer is_set later (slice_set words i after) under (v ∷ s)) below) false ≡ unwrap_or (option_and_then (λ under. own_answer is_set later words under (v ∷ s)) below) false
    same None h = refl
    same (Some n) h = h n
