use Rattle.std.proofs.Common.{◌≡◌}
use Rattle.std.specs.Prelude.{is_some}
use Rattle.sg_store.specs.Links.{node_above}
use Rattle.sg_store.proofs.store.Store.has_parent.Given as goal

abbrev pub invariant-loop-above : goal.invariant-loop-above
invariant-loop-above l = l.found ≡ is_some (node_above l.nodes l.above)
