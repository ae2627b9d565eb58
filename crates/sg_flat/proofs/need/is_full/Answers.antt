use Rattle.std.proofs.Common.{◌≡◌, ◌+◌, inl, inr, ap, ◌∙◌, sym, arith, ltb, drop, sum_by, true, ◌⊎◌}
use Rattle.std.specs.Int.{div_ceil}
use Rattle.std.specs.BTreeMap.{values}
use Rattle.std.proofs.lemmas.Int.{to_z-of_z}
use Rattle.sg_coord.specs.Bounds.{bounds_of}
use Rattle.sg_coord.specs.Coord.{count_of}
use Rattle.sg_layout.specs.declared.shape.Kind.{Kind}
use Rattle.sg_layout.specs.declared.shape.Kind.TheVariants.{Pointer, Hash, Dynamic}
use Rattle.sg_flat.proofs.Accepted.{IsGoodCap, IsGoodChunk, good_at, good_cap, good_chunk, has_cap}
use Rattle.sg_flat.proofs.Overs.{split_at}
use Rattle.sg_flat.proofs.Needs.{slot_need, chunk_need}
use Rattle.sg_flat.proofs.need.is_full.Goals as goal

has_cap_here : (kind : Kind) → (kind ≡ Pointer) ⊎ (kind ≡ Hash) → has_cap kind ≡ true
has_cap_here kind is = elim is [
  | inl pointer ↦ ap has_cap pointer
  | inr hash ↦ ap has_cap hash
]

has_cap_dynamic : (kind : Kind) → kind ≡ Dynamic → has_cap kind ≡ true
has_cap_dynamic kind is = ap has_cap is

pub count-requires : goal.count-requires
count-requires c =
    let shape = c.args.layout.now in
    let node = c.args.node.now in
    let split = split_at shape.nodes c.args.index node c.requires.below c.requires.node in
    let cap : IsGoodCap node.cap = good_cap node (drop (c.args.index + 1) shape.nodes) (good_at shape c.args.index node (drop (c.args.index + 1) shape.nodes) c.shape-accepted.ensures.accepted split) (has_cap_here node.kind c.in-Pointer.is) in
    let low = cap.low in
    let high = cap.high in
    let whole = cap.whole in
    grind (arith, to_z-of_z)

pub returns-in_ok-lengths-in-Pointer : goal.returns-in_ok-lengths-in-Pointer
returns-in_ok-lengths-in-Pointer c =
    let shape = c.args.layout.now in
    let node = c.args.node.now in
    let split = split_at shape.nodes c.args.index node c.requires.below c.requires.node in
    let cap : IsGoodCap node.cap = good_cap node (drop (c.args.index + 1) shape.nodes) (good_at shape c.args.index node (drop (c.args.index + 1) shape.nodes) c.shape-accepted.ensures.accepted split) (has_cap_here node.kind c.in-Pointer.is) in
    let low = cap.low in
    let high = cap.high in
    let whole = cap.whole in
    let is_cap : c.count.result ≡ count_of node.cap = grind (arith, to_z-of_z) in
    let blocks = c.of_node-blocks.result in
    let need = slot_need shape c.args.index node c.args.coords.now c.in_ok-lengths-in-Pointer.lengths (bounds_of blocks.extents) (bounds_of blocks.block) blocks.whole
    c.in-Pointer.is c.numbering.ensures.point_of_row c.shape-accepted.ensures.accepted c.requires.inside c.len.ensures.ordered
    c.of_node-blocks.ensures.extents c.of_node-blocks.ensures.block (λ number. c.in_ok-lengths-in-Pointer.ensures number) in
    ap (λ k. ltb k c.len.result) is_cap ∙ ap (ltb (count_of node.cap)) (c.len.ensures.len ∙ sym need)

pub count-requires-in-Dynamic : goal.count-requires-in-Dynamic
count-requires-in-Dynamic c =
    let shape = c.args.layout.now in
    let node = c.args.node.now in
    let split = split_at shape.nodes c.args.index node c.requires.below c.requires.node in
    let chunk : IsGoodChunk node.chunk = good_chunk node (drop (c.args.index + 1) shape.nodes) (good_at shape c.args.index node (drop (c.args.index + 1) shape.nodes) c.shape-accepted.ensures.accepted split) c.in-Dynamic.is in
    let low = chunk.low in
    let whole = chunk.whole in
    grind (arith, to_z-of_z)

pub count-requires-in-Dynamic-2 : goal.count-requires-in-Dynamic-2
count-requires-in-Dynamic-2 c =
    let shape = c.args.layout.now in
    let node = c.args.node.now in
    let split = split_at shape.nodes c.args.index node c.requires.below c.requires.node in
    let cap : IsGoodCap node.cap = good_cap node (drop (c.args.index + 1) shape.nodes) (good_at shape c.args.index node (drop (c.args.index + 1) shape.nodes) c.shape-accepted.ensures.accepted split) (has_cap_dynamic node.kind c.in-Dynamic.is) in
    let low = cap.low in
    let high = cap.high in
    let whole = cap.whole in
    grind (arith, to_z-of_z)

pub pass_cap-requires : goal.pass_cap-requires
pass_cap-requires c =
    let shape = c.args.layout.now in
    let node = c.args.node.now in
    let split = split_at shape.nodes c.args.index node c.requires.below c.requires.node in
    let chunk : IsGoodChunk node.chunk = good_chunk node (drop (c.args.index + 1) shape.nodes) (good_at shape c.args.index node (drop (c.args.index + 1) shape.nodes) c.shape-accepted.ensures.accepted split) c.in-Dynamic.is in
    let low = chunk.low in
    let whole = chunk.whole in
    let is_chunk : c.count-in-Dynamic.result ≡ count_of node.chunk = grind (arith, to_z-of_z) in
    omega arith

pub returns-in_ok-lengths-in-Dynamic : goal.returns-in_ok-lengths-in-Dynamic
returns-in_ok-lengths-in-Dynamic c =
    let shape = c.args.layout.now in
    let node = c.args.node.now in
    let split = split_at shape.nodes c.args.index node c.requires.below c.requires.node in
    let good = good_at shape c.args.index node (drop (c.args.index + 1) shape.nodes) c.shape-accepted.ensures.accepted split in
    let chunk : IsGoodChunk node.chunk = good_chunk node (drop (c.args.index + 1) shape.nodes) good c.in-Dynamic.is in
    let cap : IsGoodCap node.cap = good_cap node (drop (c.args.index + 1) shape.nodes) good (has_cap_dynamic node.kind c.in-Dynamic.is) in
    let low = cap.low in
    let high = cap.high in
    let whole = cap.whole in
    let chunk_low = chunk.low in
    let chunk_whole = chunk.whole in
    let is_chunk : c.count-in-Dynamic.result ≡ count_of node.chunk = grind (arith, to_z-of_z) in
    let is_cap : c.count-in-Dynamic-2.result ≡ count_of node.cap = grind (arith, to_z-of_z) in
    let blocks = c.of_node-blocks-in-Dynamic.result in
    let lengths = c.in_ok-lengths-in-Dynamic.lengths in
    let need = chunk_need shape c.args.index node (drop (c.args.index + 1) shape.nodes) c.args.coords.now lengths (bounds_of blocks.extents) (bounds_of blocks.block) blocks.whole
    c.in-Dynamic.is c.numbering.ensures.point_of_row c.shape-accepted.ensures.accepted split chunk.low c.requires.inside c.pass_cap.ensures.ordered
    c.of_node-blocks-in-Dynamic.ensures.extents c.of_node-blocks-in-Dynamic.ensures.block c.of_node-blocks-in-Dynamic.ensures.whole (λ number. c.in_ok-lengths-in-Dynamic.ensures number) in
    c.pass_cap.ensures.passes
    ∙ ap (λ k. ltb k (sum_by (λ length. div_ceil length c.count-in-Dynamic.result) (values lengths))) is_cap
    ∙ ap (λ k. ltb (count_of node.cap) (sum_by (λ length. div_ceil length k) (values lengths))) is_chunk
    ∙ ap (ltb (count_of node.cap)) (sym need)
