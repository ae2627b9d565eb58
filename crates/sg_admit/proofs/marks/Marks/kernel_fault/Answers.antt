use Rattle.std.proofs.Common.{List, Option, refl, ap, ◌∙◌}
use Rattle.std.specs.Option.{option_or}
use Rattle.sg_types.specs.declared.typed.TypedStmt.{TypedStmt}
use Rattle.sg_admit.specs.declared.admitted.AdmitFault.{AdmitFault}
use Rattle.sg_admit.specs.Lines.{nothing_round, block_lines}
use Rattle.sg_admit.specs.Admission.{first_fault}
use Rattle.sg_admit.specs.steps.Marked.{marked_facts}
use Rattle.sg_admit.proofs.marks.Marks.kernel_fault.Goals as goal

pub returns-in-None : goal.returns-in-None
returns-in-None c =
    let facts = marked_facts c.args.self.now in
    c.block_fault.ensures nothing_round (record { conditions = refl; loops = refl; product = refl })
    ∙ (ap (λ (block : List TypedStmt). first_fault facts (block_lines block nothing_round)) c.as_slice.ensures
    ∙ ap (λ (found : Option AdmitFault). option_or found (first_fault facts (block_lines c.args.kernel.now.body nothing_round))) c.in-None.ensures)
