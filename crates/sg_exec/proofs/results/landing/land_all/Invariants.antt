use Rattle.std.proofs.Common.{◌≡◌, length, take}
use Rattle.sg_exec.specs.steps.Landing.{current, Lands}
use Rattle.sg_exec.specs.steps.Made.{HaveTrees}
use Rattle.sg_exec.proofs.results.landing.land_all.Given as goal

abbrev pub invariant-loop-write : goal.invariant-loop-write
invariant-loop-write l = record {
  room : length l.copies.items ≡ length l.stores.list;
  lands : Lands (current l.fn.copies.items l.stores.list) (current l.copies.items l.stores.list) (take l.write-index l.writes);
  trees : HaveTrees (current l.fn.copies.items l.stores.list) (current l.copies.items l.stores.list);
}
