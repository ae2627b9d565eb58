use Rattle.std.proofs.Common.{◌≡◌, ℕ, ◌||◌, drop}
use Rattle.sg_admit.specs.Lines.{Around, block_lines}
use Rattle.sg_admit.specs.Rules.{ways_in, has_own}
use Rattle.sg_lower.specs.steps.Basis.{is_owned}
use Rattle.sg_lower.proofs.owned.+noted.Given as goal

-- what is noted, and the own writes of what is left, are those of the whole
abbrev pub invariant-note_block-loop-stmt : goal.invariant-note_block-loop-stmt
invariant-note_block-loop-stmt l = (around : Around) (layout place : ℕ)
    → (is_owned l.owned layout place || has_own (ways_in (block_lines (drop l.stmt-index l.block) around)) layout place)
    ≡ (is_owned l.fn.owned layout place || has_own (ways_in (block_lines l.block around)) layout place)
