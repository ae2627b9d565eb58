use Rattle.std.proofs.Common.{◌≡◌, suc, ◌≤◌}
use Rattle.sg_activate.specs.Descending.{is_pointer, number_among}
use Rattle.sg_activate.proofs.descent.start.pointers_to.Given as goal

abbrev pub invariant-loop-index : goal.invariant-loop-index
invariant-loop-index l = (l.many ≡ number_among is_pointer l.nodes (suc l.index)) × (l.many ≤ l.index)
