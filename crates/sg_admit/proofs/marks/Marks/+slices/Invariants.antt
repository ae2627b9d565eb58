use Rattle.std.proofs.Common.{◌≡◌, ◌++◌, drop}
use Rattle.sg_admit.specs.Slices.{block_slice}
use Rattle.sg_admit.specs.steps.Marked.{unclean_of}
use Rattle.sg_admit.proofs.marks.Marks.+slices.Given as goal

-- what is kept so far, and what is kept of the rest, are what is kept of the whole
abbrev pub invariant-slice_block-loop-stmt : goal.invariant-slice_block-loop-stmt
invariant-slice_block-loop-stmt l =
    l.kept ++ block_slice l.self.walked (unclean_of l.self) (drop l.stmt-index l.block) ≡ block_slice l.self.walked (unclean_of l.self) l.block
