use Rattle.std.proofs.Common.{subst}
use Rattle.sg_batch.specs.steps.Ready.{IsPreparedAt}
use Rattle.sg_batch.proofs.readying.with_first.Goals as goal

pub returns-in-Ok : goal.returns-in-Ok
returns-in-Ok c = λ shapes kernels stores number rest below prepared later.
    c.behind.ensures shapes kernels stores c.args.at number rest below (subst (IsPreparedAt shapes kernels stores number) c.in-Ok.is prepared) later

pub returns-in-Err : goal.returns-in-Err
returns-in-Err c = λ shapes kernels stores number rest below prepared later.
    c.refused_at.ensures shapes kernels stores number rest below (subst (IsPreparedAt shapes kernels stores number) c.in-Err.is prepared)
