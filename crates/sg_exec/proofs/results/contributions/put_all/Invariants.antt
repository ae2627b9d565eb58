use Rattle.std.proofs.Common.{◌≡◌, ◌++◌, take}
use Rattle.sg_exec.specs.steps.Machines.{AreCells}
use Rattle.sg_exec.specs.steps.Racing.{last_own}
use Rattle.sg_exec.specs.steps.Puts.{kept_writes}
use Rattle.sg_exec.proofs.results.contributions.put_all.Given as goal

abbrev pub invariant-loop-own : goal.invariant-loop-own
invariant-loop-own l = record {
  puts : (kept_writes l.puts) ≡ (kept_writes l.fn.puts) ++ last_own (take l.own-index l.owned) l.cells.writes;
  cells : AreCells l.cells.stores (kept_writes l.fn.puts) → AreCells l.cells.stores (kept_writes l.puts);
}
