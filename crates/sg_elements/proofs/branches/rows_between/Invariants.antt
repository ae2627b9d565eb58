use Rattle.std.proofs.Common.{◌≡◌, ◌++◌, []}
use Rattle.std.specs.Prelude.{slice_index_or}
use Rattle.sg_elements.specs.steps.Levels.{level_at, rows_upto}
use Rattle.sg_elements.proofs.branches.rows_between.Given as goal

abbrev pub ghost-push_rows : goal.ghost-push_rows
ghost-push_rows a = slice_index_or (level_at a.store.now a.node) a.index []

abbrev pub invariant-loop-index : goal.invariant-loop-index
invariant-loop-index l = rows_upto l.store l.node l.index ≡ rows_upto l.store l.node l.from ++ l.rows.items
