use Rattle.std.proofs.Common.{◌≡◌, ◌+◌, length, []}
use Rattle.std.specs.Prelude.{slice_index_or}
use Rattle.sg_elements.specs.steps.Levels.{level_at, rows_upto}
use Rattle.sg_elements.proofs.branches.count_between.Given as goal

abbrev pub ghost-count_below : goal.ghost-count_below
ghost-count_below a = slice_index_or (level_at a.store.now a.node) a.index []

abbrev pub invariant-loop-index : goal.invariant-loop-index
invariant-loop-index l = length (rows_upto l.store l.node l.index) ≡ length (rows_upto l.store l.node l.from) + l.count
