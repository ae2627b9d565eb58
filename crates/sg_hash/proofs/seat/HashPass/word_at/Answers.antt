use Rattle.std.proofs.Common.{arith}
use Rattle.sg_hash.proofs.seat.HashPass.word_at.Goals as goal

pub overflow_add-result : goal.overflow_add-result
overflow_add-result c = let few = c.args.self.now.few in omega arith
