use Rattle.std.proofs.Common.{◌≡◌, List, [], map, take}
use Rattle.sg_layout.specs.declared.shape.NodeShape.{NodeShape}
use Rattle.sg_store.specs.declared.links.LinkAt.{LinkAt}
use Rattle.sg_journal.proofs.placing.no_links.Given as goal

abbrev pub invariant-loop-node : goal.invariant-loop-node
invariant-loop-node l = l.nodes ≡ map (λ (node : NodeShape). let out : List LinkAt = [] in out) (take l.node-index l.node-items)
