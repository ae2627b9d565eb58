use Rattle.std.proofs.Common.{◌≡◌, drop}
use Rattle.sg_admit.specs.Lines.{Around, block_lines}
use Rattle.sg_admit.specs.Admission.{first_fault}
use Rattle.sg_admit.specs.steps.Marked.{marked_facts}
use Rattle.sg_admit.specs.steps.Reading.{IsRound}
use Rattle.sg_admit.proofs.marks.Marks.+faults.Given as goal

abbrev pub invariant-block_fault-loop-stmt : goal.invariant-block_fault-loop-stmt
invariant-block_fault-loop-stmt l = (around : Around) → IsRound l.self l.clean l.depth l.turns around
    → first_fault (marked_facts l.self) (block_lines (drop l.stmt-index l.block) around) ≡ first_fault (marked_facts l.self) (block_lines l.block around)
