use Rattle.std.proofs.Common.{◌≡◌, ℕ, List, get_or, sym, ap, ◌∙◌}
use Rattle.std.proofs.lemmas.Bool.{ltb-true, ltb-false}
use Rattle.std.proofs.lemmas.Simd.{get_or-replicate}
use Rattle.sg_exec.specs.steps.Rows.{item_in}
use Rattle.sg_exec.proofs.Reading.{part_some, part_none}
use Rattle.sg_exec.proofs.lanes.effects.part_row.Goals as goal
use Rattle.sg_exec.proofs.lanes.effects.part_row.Goals.{in-Some, in-None}

pub returns : goal.returns
returns c = λ k small. elim c.match-get.branch [
  | in-Some w ↦
      ap (λ (words : List ℕ). get_or words k 0) w.result-is
      ∙ w.row_or_zero.ensures k small
      ∙ part_some (item_in c.args.regs.now 0 k) c.args.index.now c.args.axis w.in-Some.reg.now (ltb-true c.args.axis _ (sym w.in-Some.ensures.lookup.0)) w.in-Some.ensures.lookup.1
  | in-None w ↦
      ap (λ (words : List ℕ). get_or words k 0) w.result-is
      ∙ get_or-replicate 32 k 0 0 small
      ∙ part_none (item_in c.args.regs.now 0 k) c.args.index.now c.args.axis (ltb-false c.args.axis _ (sym w.in-None.ensures.lookup.0))
]
