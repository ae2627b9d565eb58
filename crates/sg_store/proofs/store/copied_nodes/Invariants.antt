use Rattle.std.proofs.Common.{◌≡◌, take}
use Rattle.sg_store.proofs.store.copied_nodes.Given as goal

abbrev pub invariant-loop-kept : goal.invariant-loop-kept
invariant-loop-kept l = l.copy.items ≡ take l.kept-index l.nodes
