use Rattle.std.proofs.Common.{arith}
use Rattle.sg_links.proofs.Orders.{rest_unused, past_unused}
use Rattle.sg_links.proofs.order.heads_used.Goals as goal

pub returns-then-rest-eq0-clause-rest : goal.returns-then-rest-eq0-clause-rest
returns-then-rest-eq0-clause-rest c = λ head past. rest_unused c.args.heads.now c.end-used.result.1 c.end-used.result.0 head c.end-used.ensures.rest c.if-rest-eq0.true past

pub returns-else-rest-eq0-clause-rest : goal.returns-else-rest-eq0-clause-rest
returns-else-rest-eq0-clause-rest c = λ head past. past_unused c.args.heads.now head (omega (arith, past, c.len.ensures))
