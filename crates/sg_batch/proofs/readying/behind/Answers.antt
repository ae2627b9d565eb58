use Rattle.std.proofs.Common.{◌+◌, subst}
use Rattle.sg_batch.specs.steps.Ready.{IsReadyFrom}
use Rattle.sg_batch.proofs.Readied.{ready_memory, ready_first}
use Rattle.sg_batch.proofs.readying.behind.Goals as goal

pub returns-in-Ok : goal.returns-in-Ok
returns-in-Ok c = λ shapes kernels stores at number rest below prepared later.
    ready_first shapes kernels stores at number rest below c.args.made c.in-Ok.ready c.pushed.result prepared
    (subst (IsReadyFrom shapes kernels stores (at + 1) rest) c.in-Ok.is later) c.pushed.ensures.items c.pushed.ensures.refused

pub returns-in-Err : goal.returns-in-Err
returns-in-Err c = λ shapes kernels stores at number rest below prepared later. ready_memory shapes kernels stores at _ _
