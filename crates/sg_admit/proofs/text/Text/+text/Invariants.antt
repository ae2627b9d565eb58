use Rattle.std.proofs.Common.{take}
use Rattle.sg_admit.specs.Lines.{block_lines}
use Rattle.sg_admit.specs.steps.Noting.{AreNoted}
use Rattle.sg_admit.proofs.text.Text.+text.Given as goal

abbrev pub invariant-block-loop-stmt : goal.invariant-block-loop-stmt
invariant-block-loop-stmt l = AreNoted (block_lines (take l.stmt-index l.block)) l.fn.self l.self
