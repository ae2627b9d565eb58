use Rattle.std.proofs.Common.{Err, refl, subst}
use Rattle.sg_words.specs.declared.memory.Stop.{Stop}
use Rattle.sg_flat.specs.declared.effects.RunFault.{RunFault}
use Rattle.sg_batch.specs.steps.Ready.{IsPreparedAt}
use Rattle.sg_batch.proofs.Readied.{ready_memory, ready_refused}
use Rattle.sg_batch.proofs.readying.refused_at.Goals as goal

pub returns-in-Refused : goal.returns-in-Refused
returns-in-Refused c = λ shapes kernels stores number rest below prepared.
    ready_refused shapes kernels stores c.args.at number rest below c.in-Refused.fault _
    (subst (λ (why : Stop RunFault). IsPreparedAt shapes kernels stores number (Err why)) c.in-Refused.is prepared) c.new-made.ensures.items refl

pub returns-in-Memory : goal.returns-in-Memory
returns-in-Memory c = λ shapes kernels stores number rest below prepared. ready_memory shapes kernels stores c.args.at _ _
