-- What crates above may know of one node by its number, from 1: of a pointer node's stock, of the places of coordinates, and of its need.
use Rattle.std.proofs.Common.{◌≡◌, ℕ, suc, ◌+◌, ◌*◌, ◌-◌, ◌<◌, ◌≤◌, List, length, sym, ap, ◌∙◌, subst, arith}
use Rattle.std.specs.Prelude.{Some}
use Rattle.std.specs.List.{Contains}
use Rattle.sg_coord.specs.declared.coord.Coord.{Coord}
use Rattle.sg_layout.specs.declared.shape.Kind.TheVariants.{Pointer, Bitmasked}
use Rattle.sg_layout.specs.declared.shape.NodeShape.{NodeShape}
use Rattle.sg_layout.specs.Axes.{count_of}
use Rattle.sg_layout.specs.Live.{kind_at}
use Rattle.sg_layout.specs.Need.{need_of}
use Rattle.sg_layout.specs.NeedLaws.{IsNumberedNode}
use Rattle.sg_layout.specs.PathLaws.{PathIsSlot}
use Rattle.sg_layout.specs.StorageWords.{ends_segment}
use Rattle.sg_pool.specs.Numbers.{live_count, IsStock}
use Rattle.sg_store.specs.StoreWords.{StoreWords}
use Rattle.sg_store.specs.WellFormed.{IsWellFormed, is_root}
use Rattle.sg_store.specs.Walks.{place_in}
use Rattle.sg_store.specs.Reaching.{IsOpenThrough}
use Rattle.sg_store.specs.Opening.{link_words_of, masks_of, pool_of, filled_count, IsInLive}
use Rattle.sg_store.proofs.AtNumber.{at_number, pool_is, place_live}
use Rattle.sg_store.proofs.NodeNeed.{NeedLaws}
use Rattle.sg_store.proofs.Reached.{needs_fit}
use Rattle.sg_store.proofs.SlotWords.{filled_at, stock_unlinked, stock_rest, slot_within, bit_within}
use Rattle.sg_store.proofs.Stepping.{words_many}

-- a store has the words of each node
pub as_many_nodes : (store : StoreWords) → IsWellFormed store → length store.nodes ≡ length store.shape.nodes
as_many_nodes store well = words_many store.shape.nodes store.nodes 1 is_root well.nodes_fit

-- no link has a number of the stock, the stock is what the live ones leave of the cap and 17, and as many links as live numbers are there
pub record IsNodeStock (store : StoreWords) (number : ℕ) (stock : List ℕ) : Type 0 where
  pub unlinked : (taking : ℕ) → Contains stock taking → Contains (link_words_of store number) (suc taking) → ⊥
  pub rest : (node : NodeShape) → IsNumberedNode store.shape number node → length stock + live_count (pool_of store number) ≡ count_of node.cap + 17
  pub filled : filled_count (link_words_of store number) ≡ live_count (pool_of store number)

pub is_node_stock : (store : StoreWords) (number : ℕ) (stock : List ℕ) → IsWellFormed store → 1 ≤ number → kind_at store.shape.nodes number ≡ Pointer → IsStock (pool_of store number) stock → IsNodeStock store number stock
is_node_stock store number stock well first pointer is_stock =
    let at = at_number store well number first (λ dense. cc (sym pointer ∙ dense)) in
    let linked = ap ends_segment (sym at.3 ∙ pointer) in
    let own : IsStock at.1.pool stock = subst (λ p. IsStock p stock) (pool_is store number (number - 1) at.0 at.1 at.2) is_stock in
    record {
      unlinked = stock_unlinked store number (number - 1) at.0 at.1 stock at.2 linked own;
      rest = stock_rest store number (number - 1) at.0 at.1 stock at.2 linked own;
      filled = filled_at store number (number - 1) at.0 at.1 at.2 linked;
    }

-- the slot, the bit of a coordinate stands in a live container, and is one of the node's
pub slot_place : (store : StoreWords) (number : ℕ) (at : Coord) (q : ℕ) → IsWellFormed store → PathIsSlot store.shape → 1 ≤ number → kind_at store.shape.nodes number ≡ Pointer → place_in store number at ≡ Some q
    → IsInLive store number q × (q < length (link_words_of store number))
slot_place store number at q well paths first pointer has =
    let node = at_number store well number first (λ dense. cc (sym pointer ∙ dense)) in
    let live = place_live store number at q well paths has in
    (live, slot_within store number (number - 1) node.0 node.1 q node.2 (sym node.3 ∙ pointer) live)

pub bit_place : (store : StoreWords) (number : ℕ) (at : Coord) (q : ℕ) → IsWellFormed store → PathIsSlot store.shape → 1 ≤ number → kind_at store.shape.nodes number ≡ Bitmasked → place_in store number at ≡ Some q
    → IsInLive store number q × (q < 64 * length (masks_of store number))
bit_place store number at q well paths first masked has =
    let node = at_number store well number first (λ dense. cc (sym masked ∙ dense)) in
    let live = place_live store number at q well paths has in
    (live, bit_within store number (number - 1) node.0 node.1 q node.2 (sym node.3 ∙ masked) live)

-- the need of a node that is open fits its cap
pub open_need_fits : (store : StoreWords) (through number : ℕ) (old all : List Coord) (node : NodeShape) → NeedLaws store.shape → IsWellFormed store → IsOpenThrough store old all through → IsNumberedNode store.shape number node → number ≤ through
    → need_of store.shape all number node ≤ count_of node.cap
open_need_fits store through number old all node laws well is_open here within =
    let first = here.first in
    let one : 1 + (number - 1) ≡ number = omega arith in
    subst (λ n. need_of store.shape all n node ≤ count_of node.cap) one (needs_fit store through old all laws well is_open (number - 1) node (omega arith) here.there)
