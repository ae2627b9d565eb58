use Rattle.std.proofs.Common.{[], suc, take}
use Rattle.std.specs.Prelude.{slice_index_or}
use Rattle.std.specs.List.{flat_map}
use Rattle.sg_elements.specs.steps.Levels.{AreBranches, led_below, level_at, node_size}
use Rattle.sg_elements.proofs.branches.next_level.Given as goal

abbrev pub ghost-push_below : goal.ghost-push_below
ghost-push_below a = slice_index_or (level_at a.store.now a.node) a.index []

abbrev pub invariant-loop-index : goal.invariant-loop-index
invariant-loop-index l =
    AreBranches l.store (suc l.node) l.next.items (flat_map (led_below l.store (node_size l.store l.node)) (take l.index (level_at l.store l.node)))
