use Rattle.std.proofs.Common.{◌≡◌, ◌≤◌, take}
use Rattle.sg_batch.specs.Batches.{members}
use Rattle.sg_batch.specs.Independent.{AreApart}
use Rattle.sg_batch.proofs.grouping.group_of.Given as goal

abbrev pub invariant-loop-number : goal.invariant-loop-number
invariant-loop-number l = record {
  count : l.count ≡ l.number-index;
  few : l.count ≤ l.most;
  apart : AreApart (members l.kernels (take l.count l.order));
}
