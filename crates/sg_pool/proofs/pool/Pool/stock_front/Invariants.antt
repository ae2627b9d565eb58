use Rattle.std.proofs.Common.{◌≡◌, ◌++◌, ◌-◌, ◌≤◌, take}
use Rattle.std.specs.List.{range_with_len}
use Rattle.sg_pool.proofs.pool.Pool.stock_front.Given as goal

abbrev pub invariant-loop-number : goal.invariant-loop-number
invariant-loop-number l = record {
  above : l.self.mark ≤ l.number;
  listed : l.stock ≡ take l.listed l.self.free ++ range_with_len l.self.mark (l.number - l.self.mark);
}
