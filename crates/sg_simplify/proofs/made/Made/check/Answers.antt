use Rattle.std.proofs.Common.{sym, ap, ◌∙◌}
use Rattle.std.proofs.lemmas.Result.{IfOk-weaker}
use Rattle.sg_ir.specs.Trimmed.{is_within}
use Rattle.sg_simplify.proofs.Taking.{within-goes, check-goes}
use Rattle.sg_simplify.proofs.made.Made.check.Goals as goal

pub returns-then-is_within : goal.returns-then-is_within
returns-then-is_within c =
    within-goes c.args.axis c.args.extent c.args.index c.args.place c.args.self.now c.args.out.now
    (ap (is_within c.args.extent) (sym c.span.ensures) ∙ sym c.is_within.ensures ∙ c.if-is_within.true)

pub returns : goal.returns
returns c =
    IfOk-weaker c.stepped.result _ _
    (λ to goes. check-goes c.args.axis c.args.extent c.args.index c.args.place to c.args.self.now c.stepped.new.self c.args.out.now c.stepped.new.out
    (ap (is_within c.args.extent) (sym c.span.ensures) ∙ sym c.is_within.ensures ∙ c.if-is_within.false) goes) c.stepped.ensures
