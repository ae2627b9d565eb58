use Rattle.sg_audit.proofs.Stepped.{IsGoing}
use Rattle.sg_audit.proofs.auditing.audit.Given as goal

abbrev pub invariant-loop-line : goal.invariant-loop-line
invariant-loop-line l = IsGoing l.layouts.list l.bytes l.tables l.line l.rest
