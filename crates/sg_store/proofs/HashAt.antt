-- The hash node of a store, with the links of its slots.
use Rattle.std.proofs.Common.{◌≡◌, ℕ, zero, suc, ◌+◌, ◌*◌, ◌/◌, ◌^◌, ◌<◌, ◌≤◌, Bool, true, List, [], ◌∷◌, length, refl, sym, ap, ◌∙◌, subst, arith}
use Rattle.std.specs.Prelude.{Some, slice_get, nat_le}
use Rattle.std.specs.List.{position_or_len, range_with_len}
use Rattle.std.proofs.Math.Nat.{pos_of_ne-zero}
use Rattle.std.proofs.Math.Pow.{pow_mono}
use Rattle.std.proofs.lemmas.Nat.{div_below, mod_below}
use Rattle.std.proofs.lemmas.Bool.{false≢true}
use Rattle.std.proofs.lemmas.Option.{same_Some, slice_get_within}
use Rattle.sg_layout.specs.declared.shape.Kind.{Kind}
use Rattle.sg_layout.specs.declared.shape.Kind.TheVariants.{Dense, Bitmasked, Pointer, Hash, Dynamic}
use Rattle.sg_layout.specs.declared.shape.NodeShape.{NodeShape}
use Rattle.sg_layout.specs.Axes.{count_of, size_of}
use Rattle.sg_layout.specs.StorageWords.{ends_segment, power_for}
use Rattle.sg_store.specs.declared.node.NodeWords.{NodeWords}
use Rattle.sg_store.specs.StoreWords.{StoreWords}
use Rattle.sg_store.specs.Slots.{links_by_slot, is_set, slot_under}
use Rattle.sg_store.specs.WellFormed.{IsNode, IsHashNode, AreNodes, IsWellFormed, is_root, places_below}
use Rattle.sg_store.specs.steps.AtNode.{OfNode, AtNode, AtNodeOf}
use Rattle.sg_store.specs.steps.Walking.{IsPlaceAt, CanFind}
use Rattle.sg_store.proofs.BySlots.{hash_set}
use Rattle.sg_store.proofs.Counting.{node_of, Both, both_at, OfWellFormed, nodes_at, at_node_from, IsOwn, LinkedAt}
use Rattle.sg_store.proofs.PointerLevel.{pointer_at}

-- how many slots the node with an index has
abbrev pub slots_at : List NodeShape → ℕ → ℕ → ℕ
slots_at [] places i = 0
slots_at (node ∷ later) places zero = places * size_of node.sizes
slots_at (node ∷ later) places (suc i) = slots_at later (places_below node.kind node (places * size_of node.sizes)) i

abbrev pub HasSlots : ℕ → OfNode
HasSlots n node kept slots live = slots ≡ n

sized_at : (nodes : List NodeShape) (words : List NodeWords) (places : ℕ) (live : ℕ → Bool) (i : ℕ) → AreNodes nodes words places live → i < length nodes → AtNode (HasSlots (slots_at nodes places i)) nodes words places live i
sized_at [] words places live i are below = absurd (omega (arith, below))
sized_at (node ∷ later) [] places live i are below = absurd are
sized_at (node ∷ later) (kept ∷ words) places live zero are below = refl
sized_at (node ∷ later) (kept ∷ words) places live (suc i) are below = sized_at later words _ _ i are.2 (omega (arith, below))

-- the links of the slots of a hash node
abbrev pub hash_links : StoreWords → ℕ → NodeWords → List ℕ
hash_links store i kept = links_by_slot kept.keys kept.links (slots_at store.shape.nodes 1 i)

-- what a well-formed hash node's own facts say of it
pub hash_says : (Says : OfNode) (store : StoreWords) (i : ℕ) (node : NodeShape) (kept : NodeWords) → IsWellFormed store → slice_get store.shape.nodes i ≡ Some node → slice_get store.nodes i ≡ Some kept → node.kind ≡ Hash → ((live : ℕ → Bool) → IsHashNode node kept (slots_at store.shape.nodes 1 i) live → Says node kept (slots_at store.shape.nodes 1 i) live) → AtNodeOf Says store i
hash_says Says store i node kept well at has hash follows =
    let n : ℕ = slots_at store.shape.nodes 1 i in
    let below : i < length store.shape.nodes = slice_get_within store.shape.nodes i node at in
    at_node_from (Both OfWellFormed (HasSlots n)) Says store.shape.nodes store.nodes 1 is_root i
    (λ own mine slots live own_at own_has both.
    let a : own ≡ node = same_Some own node (sym own_at ∙ at) in
    let b : mine ≡ kept = same_Some mine kept (sym own_has ∙ has) in
    let here : IsNode node.kind node kept slots live = subst (λ (n : NodeShape). IsNode n.kind n kept slots live) a (subst (λ (k : NodeWords). IsNode own.kind own k slots live) b both.0) in
    let sized : IsHashNode node kept n live = subst (λ (m : ℕ). IsHashNode node kept m live) both.1 (subst (λ k. IsNode k node kept slots live) hash here) in
    subst (λ (m : ℕ). Says own mine m live) (sym both.1)
    (subst (λ (n : NodeShape). Says n mine (slots_at store.shape.nodes 1 i) live) (sym a) (subst (λ (k : NodeWords). Says node k n live) (sym b) (follows live sized))))
    (both_at OfWellFormed (HasSlots n) store.shape.nodes store.nodes 1 is_root i (nodes_at store.shape.nodes store.nodes 1 is_root i well.nodes_fit below)
    (sized_at store.shape.nodes store.nodes 1 is_root i well.nodes_fit below))

-- its own facts
pub hash_node : (store : StoreWords) (i : ℕ) (node : NodeShape) (kept : NodeWords) → IsWellFormed store → slice_get store.shape.nodes i ≡ Some node → slice_get store.nodes i ≡ Some kept → node.kind ≡ Hash → (live : ℕ → Bool) × IsHashNode node kept (slots_at store.shape.nodes 1 i) live
hash_node store i node kept well at has hash =
    let Says : OfNode = λ own mine slots live. (l : ℕ → Bool) × IsHashNode node kept (slots_at store.shape.nodes 1 i) l in
    (node_of Says store.shape.nodes store.nodes 1 is_root i (hash_says Says store i node kept well at has hash (λ live is. (live, is)))).says

pub hash_at : (store : StoreWords) (i : ℕ) (node : NodeShape) (kept : NodeWords) → IsWellFormed store → slice_get store.shape.nodes i ≡ Some node → slice_get store.nodes i ≡ Some kept → node.kind ≡ Hash → LinkedAt store i node kept (hash_links store i kept)
hash_at store i node kept well at has hash =
    let below : i < length store.shape.nodes = slice_get_within store.shape.nodes i node at in
    let own = hash_node store i node kept well at has hash in
    record {
      within = omega (arith, below);
      are_nodes = well.nodes_fit;
      at = at;
      has = has;
      linked = ap ends_segment hash;
      own = hash_says (IsOwn node kept (hash_links store i kept)) store i node kept well at has hash
          (λ live is. record { same = refl; same_words = refl; as_pointer = is.as_pointer });
      set = λ q. ap (λ k. is_set k node kept q) hash ∙ hash_set node kept (slots_at store.shape.nodes 1 i) own.0 own.1 q;
    }

-- a node with child containers has links
pub linked_at : (store : StoreWords) (i : ℕ) (node : NodeShape) (kept : NodeWords) → IsWellFormed store → slice_get store.shape.nodes i ≡ Some node → slice_get store.nodes i ≡ Some kept → ends_segment node.kind ≡ true → (links : List ℕ) × LinkedAt store i node kept links
linked_at store i node kept well at has linked = by_kind node.kind refl linked
  where
    by_kind : (kind : Kind) → node.kind ≡ kind → ends_segment kind ≡ true → (links : List ℕ) × LinkedAt store i node kept links
    by_kind Pointer e linked = (kept.links, pointer_at store i node kept well at has e)
    by_kind Hash e linked = (hash_links store i kept, hash_at store i node kept well at has e)
    by_kind Dense e linked = absurd (false≢true linked)
    by_kind Bitmasked e linked = absurd (false≢true linked)
    by_kind Dynamic e linked = absurd (false≢true linked)

-- ── Where a slot can be looked for ──

pub power_some : (n : ℕ) → 0 < power_for n
power_some n =
    let grown : 2 ^ 0 ≤ power_for n = pow_mono {i = 0} {j = position_or_len (λ k. nat_le n (2 ^ k)) (range_with_len 0 18)} (omega arith) in omega (arith, grown)

pub can_find : (store : StoreWords) (i place offset : ℕ) (node : NodeShape) (kept : NodeWords) → IsWellFormed store → AtNodeOf (IsPlaceAt place) store i → slice_get store.shape.nodes i ≡ Some node → slice_get store.nodes i ≡ Some kept → offset < size_of node.sizes → size_of node.sizes ≤ 2 ^ 30 → CanFind node.kind node kept (slot_under node place offset)
can_find store i place offset node kept well fits at has below few =
    let both = node_of (Both OfWellFormed (IsPlaceAt place)) store.shape.nodes store.nodes 1 is_root i
    (both_at OfWellFormed (IsPlaceAt place) store.shape.nodes store.nodes 1 is_root i
    (nodes_at store.shape.nodes store.nodes 1 is_root i well.nodes_fit (slice_get_within store.shape.nodes i node at)) fits) in
    let a : both.node ≡ node = same_Some both.node node (sym both.at ∙ at) in
    let b : both.kept ≡ kept = same_Some both.kept kept (sym both.has ∙ has) in
    let inside : offset < size_of both.node.sizes = subst (λ (n : NodeShape). offset < size_of n.sizes) (sym a) below in
    let small : size_of both.node.sizes ≤ 2 ^ 30 = subst (λ (n : NodeShape). size_of n.sizes ≤ 2 ^ 30) (sym a) few in
    subst (λ (n : NodeShape). CanFind n.kind n kept (slot_under n place offset)) a
    (subst (λ (k : NodeWords). CanFind both.node.kind both.node k (slot_under both.node place offset)) b
    (by_kind both.node.kind both.node both.kept both.slots both.live (slot_under both.node place offset) small both.says.0 (both.says.1.under offset inside)))
  where
    by_kind : (kind : Kind) (node : NodeShape) (kept : NodeWords) (slots : ℕ) (live : ℕ → Bool) (q : ℕ) → size_of node.sizes ≤ 2 ^ 30 → IsNode kind node kept slots live → q < slots → CanFind kind node kept q
    by_kind Dense node kept slots live q small is below = tt
    by_kind Bitmasked node kept slots live q small is below = tt
    by_kind Pointer node kept slots live q small is below = tt
    by_kind Hash node kept slots live q small is below = record {
      some = omega (arith, is.key_count, power_some (2 * count_of node.cap));
      table = is.table;
      links_beside = is.links_beside;
      few = omega (arith, is.few_slots, below);
    }
    by_kind Dynamic node kept slots live q small is below =
        let wide : 0 < size_of node.sizes = pos_of_ne-zero (λ none. absurd (omega (arith, below, is.length_count, ap (λ n. length kept.lengths * n) none))) in
        let parent : q / size_of node.sizes < length kept.lengths = div_below q (size_of node.sizes) (length kept.lengths) wide (omega (arith, below, is.length_count)) in
        record {
          some_size = wide;
          chain = record {
            there = omega (arith, parent, is.chain_count);
            some_chunk = is.some_chunk;
            few = omega (arith, mod_below q (size_of node.sizes) wide, small);
          };
        }

-- the same for what the code reads
pub find_sized : (node : NodeShape) (kept : NodeWords) (place size offset : ℕ) → size ≡ size_of node.sizes → CanFind node.kind node kept (slot_under node place offset) → CanFind node.kind node kept (place * size + offset)
find_sized node kept place size offset same can = subst (λ n. CanFind node.kind node kept (place * n + offset)) (sym same) can
