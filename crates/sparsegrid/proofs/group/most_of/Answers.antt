use Rattle.std.proofs.Common.{sym, arith}
use Rattle.std.proofs.Math.Nat.{min-eq_left, min-eq_right}
use Rattle.sparsegrid.proofs.group.most_of.Goals as goal

pub returns-then-workers-lt-MOST_MEMBERS : goal.returns-then-workers-lt-MOST_MEMBERS
returns-then-workers-lt-MOST_MEMBERS c = sym (min-eq_right (omega arith))

pub returns-else-workers-lt-MOST_MEMBERS : goal.returns-else-workers-lt-MOST_MEMBERS
returns-else-workers-lt-MOST_MEMBERS c = sym (min-eq_left (omega arith))
