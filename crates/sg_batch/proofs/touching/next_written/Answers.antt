use Rattle.std.specs.List.{flat_map}
use Rattle.sg_ir.specs.Touches.{written_by}
use Rattle.sg_batch.proofs.Alone.{next_kernel}
use Rattle.sg_batch.proofs.touching.next_written.Goals as goal

pub returns : goal.returns
returns c =
    next_kernel c.args.kernel.now c.as_slice-slice.result.now c.as_slice-code.result.now c.args.from c.lesser.result c.as_slice-slice.ensures c.as_slice-code.ensures
    (c.lesser.ensures (flat_map written_by c.as_slice-slice.result.now) (flat_map written_by c.as_slice-code.result.now) c.args.from c.next_in-wanted.ensures c.next_in-written.ensures)
