use Rattle.std.proofs.Common.{◌≤◌}
use Rattle.sg_pool.specs.Numbers.{live_count}
use Rattle.sg_dynamic.specs.Chunks.{IsExact}
use Rattle.sg_store.specs.steps.Cuts.{CutSoFar}
use Rattle.sg_store.proofs.shorten.shorten_all.Given as goal

abbrev pub invariant-loop-head : goal.invariant-loop-head
invariant-loop-head l = record {
  cut : CutSoFar l.fn.chains l.chains l.lengths l.chunk l.head;
  exact : IsExact l.chains l.pool;
  fewer : live_count l.pool ≤ live_count l.fn.pool;
}
