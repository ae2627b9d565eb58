-- Links that are settled in a store: it stays well-formed.
use Rattle.std.proofs.Common.{◌≡◌, ℕ, zero, suc, ◌<◌, ◌≤◌, Bool, List, [], ◌∷◌, length, sym, ◌∙◌, subst, arith}
use Rattle.std.specs.Prelude.{Some, slice_get}
use Rattle.std.proofs.lemmas.Option.{same_Some}
use Rattle.sg_layout.specs.declared.shape.NodeShape.{NodeShape}
use Rattle.sg_layout.specs.Axes.{count_of}
use Rattle.sg_pool.specs.Numbers.{live_count}
use Rattle.sg_store.specs.declared.node.NodeWords.{NodeWords}
use Rattle.sg_store.specs.StoreWords.{StoreWords}
use Rattle.sg_store.specs.WellFormed.{IsNode, IsPointerNode, IsWithinCap, IsWellFormed, is_root}
use Rattle.sg_store.specs.steps.AtNode.{OfNode, AtNode, AtNodeOf}
use Rattle.sg_store.specs.steps.Settling.{CanSettleLinks, CanRelink, IsRelinked, ChangesAt, NodeGrows}
use Rattle.sg_store.proofs.Opened.{OfWithinCap, well_formed_grown}
use Rattle.sg_store.proofs.Counting.{node_of, Both, both_at, OfWellFormed, nodes_at, at_node_from}
use Rattle.sg_store.proofs.Linked.{links_grow}

pub at_within : (Says : OfNode) (nodes : List NodeShape) (words : List NodeWords) (places : ℕ) (live : ℕ → Bool) (i : ℕ) → AtNode Says nodes words places live i → i < length nodes
at_within Says [] words places live i here = absurd here
at_within Says (node ∷ later) [] places live i here = absurd here
at_within Says (node ∷ later) (kept ∷ words) places live zero here = omega arith
at_within Says (node ∷ later) (kept ∷ words) places live (suc i) here = omega (arith, at_within Says later words _ _ i here)

-- a well-formed node that can be given links
settling_at : (store : StoreWords) (i : ℕ) (links taken : List ℕ) → IsWellFormed store → AtNodeOf (CanSettleLinks links taken) store i → AtNodeOf (Both OfWellFormed (CanSettleLinks links taken)) store i
settling_at store i links taken is can =
    both_at OfWellFormed (CanSettleLinks links taken) store.shape.nodes store.nodes 1 is_root i
    (nodes_at store.shape.nodes store.nodes 1 is_root i is.nodes_fit (at_within (CanSettleLinks links taken) store.shape.nodes store.nodes 1 is_root i can)) can

pub can_relink : (store : StoreWords) (i : ℕ) (links taken : List ℕ) → IsWellFormed store → AtNodeOf (CanSettleLinks links taken) store i → (kept : NodeWords) → slice_get store.nodes i ≡ Some kept → CanRelink links taken kept
can_relink store i links taken is can kept has =
    let found = node_of (Both OfWellFormed (CanSettleLinks links taken)) store.shape.nodes store.nodes 1 is_root i (settling_at store i links taken is can) in
    let own : IsPointerNode found.node found.kept found.slots found.live = subst (λ k. IsNode k found.node found.kept found.slots found.live) found.says.1.can.is_pointer found.says.0 in
    subst (λ k. CanRelink links taken k) (same_Some found.kept kept (sym found.has ∙ has))
    (record { as_many = found.says.1.can.as_many ∙ sym own.link_count; free = found.says.1.can.free })

pub grows_at : (store : StoreWords) (i : ℕ) (links taken : List ℕ) (kept after : NodeWords) → IsWellFormed store → AtNodeOf (CanSettleLinks links taken) store i → slice_get store.nodes i ≡ Some kept → IsRelinked links taken kept after → AtNodeOf (NodeGrows after) store i
grows_at store i links taken kept after is can has re =
    at_node_from (Both OfWellFormed (CanSettleLinks links taken)) (NodeGrows after) store.shape.nodes store.nodes 1 is_root i
    (λ node mine slots live at mine_at both.
    let again : IsRelinked links taken mine after = subst (λ k. IsRelinked links taken k after) (same_Some kept mine (sym has ∙ mine_at)) re in
    links_grow links taken node mine after slots live both.0 both.1.can (record { new_links = again.new_links; pool = again.pool }))
    (settling_at store i links taken is can)

capped_at : (store : StoreWords) (i : ℕ) (links taken : List ℕ) (kept after : NodeWords) → IsWellFormed store → AtNodeOf (CanSettleLinks links taken) store i → slice_get store.nodes i ≡ Some kept → IsRelinked links taken kept after → AtNodeOf (OfWithinCap after) store i
capped_at store i links taken kept after is can has re =
    at_node_from (CanSettleLinks links taken) (OfWithinCap after) store.shape.nodes store.nodes 1 is_root i
    (λ node mine slots live at mine_at one.
    let again : IsRelinked links taken mine after = subst (λ k. IsRelinked links taken k after) (same_Some kept mine (sym has ∙ mine_at)) re in
    let low : live_count after.pool ≤ count_of node.cap = omega (arith, again.pool.count, one.within_cap) in
    subst (λ k. IsWithinCap k node after) (sym one.can.is_pointer) low)
    can

pub settled_well_formed : (store : StoreWords) (i : ℕ) (links taken : List ℕ) (now : List NodeWords) → IsWellFormed store → AtNodeOf (CanSettleLinks links taken) store i → ChangesAt (IsRelinked links taken) store.nodes now i → IsWellFormed (record store { nodes = now })
settled_well_formed store i links taken now is can changed =
    subst (λ l. IsWellFormed (record store { nodes = l })) (sym changed.now_is)
    (well_formed_grown store i changed.after is (grows_at store i links taken changed.kept changed.after is can changed.was changed.change)
    (capped_at store i links taken changed.kept changed.after is can changed.was changed.change) changed.change.parted)
