-- As many containers or chunks of a node with a cap are live as it needs for the active coordinates.
use Rattle.std.proofs.Common.{◌≡◌, ℕ, zero, suc, ◌-◌, true, sym, ap, ◌∙◌, arith}
use Rattle.std.specs.Prelude.{Some, slice_get}
use Rattle.sg_layout.specs.declared.shape.NodeShape.{NodeShape}
use Rattle.sg_layout.specs.Need.{need_of}
use Rattle.sg_layout.specs.NeedLaws.{IsNumberedNode}
use Rattle.sg_flat.specs.declared.state.FlatLayout.{FlatLayout}
use Rattle.sg_pool.specs.Numbers.{live_count}
use Rattle.sg_store.specs.declared.node.NodeWords.{NodeWords}
use Rattle.sg_store.specs.StoreWords.{StoreWords}
use Rattle.sg_store.specs.WellFormed.{kind_has_cap, IsWellFormed}
use Rattle.sg_store.specs.StandsFor.{StandsFor}
use Rattle.sg_store.proofs.NodeNeed.{NeedLaws, node_need}

pub live_is_need : (store : StoreWords) → NeedLaws store.shape → IsWellFormed store → (flat : FlatLayout) → StandsFor store flat → (number : ℕ) (node : NodeShape) → IsNumberedNode store.shape number node → kind_has_cap node.kind ≡ true → (kept : NodeWords) → slice_get store.nodes (number - 1) ≡ Some kept → live_count kept.pool ≡ need_of store.shape flat.active number node
live_is_need store laws well flat stands zero node is capped kept has = absurd (omega (arith, is.first))
live_is_need store laws well flat stands (suc i) node is capped kept has =
    let one : suc i - 1 ≡ i = omega arith in
    node_need store i node kept flat.active laws well (ap (slice_get store.shape.nodes) (sym one) ∙ is.there) (ap (slice_get store.nodes) (sym one) ∙ has) capped (λ slot is_slot. stands.live_slots (suc i) slot is_slot)
