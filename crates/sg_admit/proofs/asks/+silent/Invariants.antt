use Rattle.std.proofs.Common.{◌≡◌, drop}
use Rattle.sg_admit.specs.Lines.{Around, block_lines}
use Rattle.sg_admit.proofs.Silent.{is_silent}
use Rattle.sg_admit.proofs.asks.+silent.Given as goal

abbrev pub invariant-block_asks_nothing-loop-stmt : goal.invariant-block_asks_nothing-loop-stmt
invariant-block_asks_nothing-loop-stmt l = (around : Around) → is_silent (block_lines (drop l.stmt-index l.block) around) ≡ is_silent (block_lines l.block around)
