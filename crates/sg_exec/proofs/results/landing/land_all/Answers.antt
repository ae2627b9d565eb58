use Rattle.std.proofs.Common.{arith}
use Rattle.sg_exec.proofs.StoresLanded.{lands_nothing}
use Rattle.sg_exec.proofs.Following.{lands_next}
use Rattle.sg_exec.proofs.TreesKept.{trees_itself, trees_then}
use Rattle.sg_exec.proofs.results.landing.land_all.Goals as goal

pub loop-write-init : goal.loop-write-init
loop-write-init c = record { room = c.requires.room; lands = lands_nothing _; trees = trees_itself _ }

pub loop-write-preserved : goal.loop-write-preserved
loop-write-preserved c = record {
  room = c.in_ok-land.ensures.room;
  lands = lands_next _ _ _ c.args.writes.now c.loop-write.write-index _ (omega arith) c.loop-write.invariant.lands c.in_ok-land.ensures.lands;
  trees = trees_then _ _ _ c.loop-write.invariant.trees c.in_ok-land.ensures.trees;
}

pub returns-in_err-land-clause-trees : goal.returns-in_err-land-clause-trees
returns-in_err-land-clause-trees c = trees_then _ _ _ c.loop-write.invariant.trees c.in_err-land.ensures.trees
