use Rattle.std.proofs.Common.{subst, arith}
use Rattle.sg_batch.specs.steps.Next.{IsNext}
use Rattle.sg_batch.proofs.Finding.{next_first, next_left, next_right}
use Rattle.sg_batch.proofs.touching.least.Goals as goal

pub returns-in-None : goal.returns-in-None
returns-in-None c = λ first second from here there. next_first first second from c.args.left here (subst (IsNext second from) c.in-None.is there)

pub returns-then-right-left : goal.returns-then-right-left
returns-then-right-left c = λ first second from here there. next_right first second from c.args.left c.in-Some.right here (subst (IsNext second from) c.in-Some.is there) (omega arith)

pub returns-else-right-left : goal.returns-else-right-left
returns-else-right-left c = λ first second from here there. next_left first second from c.args.left c.in-Some.right here (subst (IsNext second from) c.in-Some.is there) (omega arith)
