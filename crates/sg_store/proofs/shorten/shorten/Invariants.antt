use Rattle.std.proofs.Common.{◌≡◌, ◌≤◌}
use Rattle.sg_pool.specs.Numbers.{live_count}
use Rattle.sg_dynamic.specs.Chunks.{IsExact}
use Rattle.sg_store.proofs.Turns.{cut_to}
use Rattle.sg_store.proofs.shorten.shorten.Given as goal

abbrev pub invariant-loop-place : goal.invariant-loop-place
invariant-loop-place l = record {
  cut : l.chains ≡ cut_to l.fn.chains l.head l.wanted l.place;
  exact : IsExact l.chains l.pool;
  fewer : live_count l.pool ≤ live_count l.fn.pool;
}
