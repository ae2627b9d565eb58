use Rattle.std.proofs.Common.{arith}
use Rattle.sg_pool.proofs.KeptPools.{kept_made}
use Rattle.sg_pool.proofs.pool.Pool.make.Goals as goal

pub invariant_of-result : goal.invariant_of-result
invariant_of-result c = kept_made c.in_ok-no_live.field-0 c.in_ok-one_list.field-0 c.args.places (omega arith) c.in_ok-no_live.ensures c.in_ok-one_list.ensures
