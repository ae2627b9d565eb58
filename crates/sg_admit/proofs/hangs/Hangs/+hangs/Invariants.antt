use Rattle.std.proofs.Common.{take}
use Rattle.sg_admit.specs.Lines.{block_lines}
use Rattle.sg_admit.specs.steps.Hanging.{AddsLinks}
use Rattle.sg_admit.proofs.hangs.Hangs.+hangs.Given as goal

abbrev pub invariant-block-loop-stmt : goal.invariant-block-loop-stmt
invariant-block-loop-stmt l = AddsLinks l.text l.round (block_lines (take l.stmt-index l.block)) l.fn.self l.self
