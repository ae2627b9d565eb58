use Rattle.std.proofs.Common.{ℕ, ◌==◌, List, ap, ◌∙◌}
use Rattle.sg_ir.specs.declared.code.Inst.{Inst}
use Rattle.sg_ir.specs.WellTyped.{setters_in}
use Rattle.sg_ir.proofs.Judgement.{free-is}
use Rattle.sg_ir.proofs.typing.typing_of.Goals as goal

pub returns-clause-free : goal.returns-clause-free
returns-clause-free c =
    let free = λ (n : ℕ). setters_in c.args.code.now.body n == 0 in
    let at = λ (n : ℕ) (body : List Inst). setters_in body n == 0 in
    λ v. free-is c.is_unset-a.result c.is_unset-b.result c.is_unset-c.result free
    (c.is_unset-a.ensures ∙ ap (at 0) c.as_slice-body.ensures) (c.is_unset-b.ensures ∙ ap (at 1) c.as_slice-body.ensures) (c.is_unset-c.ensures ∙ ap (at 2) c.as_slice-body.ensures) v
