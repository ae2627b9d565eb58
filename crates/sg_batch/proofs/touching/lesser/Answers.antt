use Rattle.std.proofs.Common.{subst}
use Rattle.sg_batch.specs.steps.Next.{IsNext}
use Rattle.sg_batch.proofs.Finding.{next_second}
use Rattle.sg_batch.proofs.touching.lesser.Goals as goal

pub returns-in-None : goal.returns-in-None
returns-in-None c = λ first second from here there. next_second first second from c.args.other (subst (IsNext first from) c.in-None.is here) there

pub returns-in-Some : goal.returns-in-Some
returns-in-Some c = λ first second from here there. c.least.ensures first second from (subst (IsNext first from) c.in-Some.is here) there
