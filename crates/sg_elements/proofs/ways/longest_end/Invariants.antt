use Rattle.std.proofs.Common.{◌≤◌, []}
use Rattle.std.specs.Prelude.{slice_index_or}
use Rattle.sg_elements.specs.steps.Levels.{level_at, node_size}
use Rattle.sg_elements.proofs.Ends.{EndsUpto}
use Rattle.sg_elements.proofs.ways.longest_end.Given as goal

abbrev pub ghost-list_end : goal.ghost-list_end
ghost-list_end a = slice_index_or (level_at a.store.now a.node) a.index []

abbrev pub invariant-loop-index : goal.invariant-loop-index
invariant-loop-index l = record {
  within : l.end ≤ node_size l.store l.node;
  ends : EndsUpto l.store l.node l.end l.index;
}
