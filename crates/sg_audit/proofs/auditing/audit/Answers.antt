use Rattle.std.proofs.Common.{Option, subst}
use Rattle.sg_audit.specs.declared.verdict.Verdict.{Verdict}
use Rattle.sg_audit.specs.Reading.{entry_of, entries_of}
use Rattle.sg_audit.specs.steps.Stepping.{StepsFrom}
use Rattle.sg_audit.proofs.Stepped.{going_verdict, going_on}
use Rattle.sg_audit.proofs.auditing.audit.Goals as goal

pub returns-in-Some-2 : goal.returns-in-Some-2
returns-in-Some-2 c =
    going_verdict c.args.layouts.now.list c.args.bytes.now c.loop-line.tables c.step.new.tables c.loop-line.line c.loop-line.rest.now c.in-Some.text.now c.in-Some.later.now c.in-Some-2.verdict c.loop-line.invariant c.in-Some.ensures.0
    (subst (λ (v : Option Verdict). StepsFrom c.loop-line.tables c.step.new.tables c.loop-line.line (entry_of c.in-Some.text.now) (entries_of c.in-Some.later.now) v) c.in-Some-2.is c.in_ok-verdict.ensures)

pub loop-line-preserved : goal.loop-line-preserved
loop-line-preserved c =
    going_on c.args.layouts.now.list c.args.bytes.now c.loop-line.tables c.step.new.tables c.loop-line.line c.loop-line.rest.now c.in-Some.text.now c.in-Some.later.now c.loop-line.invariant c.in-Some.ensures.0 c.in-Some.ensures.1 c.in-Some.ensures.2
    (subst (λ (v : Option Verdict). StepsFrom c.loop-line.tables c.step.new.tables c.loop-line.line (entry_of c.in-Some.text.now) (entries_of c.in-Some.later.now) v) c.in_default-2.is c.in_ok-verdict.ensures)
