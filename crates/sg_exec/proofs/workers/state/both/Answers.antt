use Rattle.sg_exec.proofs.Halves.{of_both}
use Rattle.sg_exec.proofs.workers.state.both.Goals as goal

pub returns-clause-joined : goal.returns-clause-joined
returns-clause-joined c = of_both c.args.left c.args.right c.joined.result c.in_ok-hand.hand c.in_ok-other.other c.in_ok-hand.was c.in_ok-other.was c.joined.ensures.joined c.joined.ensures.puts
