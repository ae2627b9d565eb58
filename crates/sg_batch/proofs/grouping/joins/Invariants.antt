use Rattle.std.proofs.Common.{◌≡◌, true, take}
use Rattle.std.specs.List.{list_all}
use Rattle.sg_batch.specs.Batches.{members}
use Rattle.sg_batch.specs.Independent.{are_independent}
use Rattle.sg_batch.proofs.grouping.joins.Given as goal

abbrev pub invariant-loop-other : goal.invariant-loop-other
invariant-loop-other l = list_all (are_independent l.kernel) (members l.kernels (take l.other-index l.before)) ≡ true
