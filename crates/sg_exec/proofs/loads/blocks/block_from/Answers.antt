use Rattle.std.proofs.Common.{◌-◌, arith}
use Rattle.sg_coord.specs.Bounds.{bounds_of}
use Rattle.sg_exec.proofs.BlockRows.{new_block_of}
use Rattle.sg_exec.proofs.loads.blocks.block_from.Goals as goal

pub returns : goal.returns
returns c =
    let store = c.args.store.now in
    new_block_of store c.layout-layout.result.now c.args.run c.args.k c.in_ok-at.at c.in_ok-front.front (bounds_of c.extents-extents.result) c.nodes-last.result (c.nodes-last.result - 1) c.offset-offset.result c.last_span-span.result
    c.layout-layout.ensures.layout (c.paths_tell.ensures.coordinate store.shape) c.extents-extents.ensures.value (c.inside.ensures.inside.0 c.if-not-inside.false) c.in_ok-at.ensures c.in_ok-front.ensures
    c.nodes-last.ensures.value (omega (arith, c.nodes-last.ensures.some)) c.offset-offset.ensures.value (c.is_slot.ensures c.if-not-is_slot.false) c.last_span-span.ensures.some c.last_span-span.ensures.few c.last_span-span.ensures.span
