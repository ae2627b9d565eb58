use Rattle.std.proofs.Common.{◌≡◌, ◌++◌, take}
use Rattle.sg_simplify.specs.steps.Needed.{link_all}
use Rattle.sg_simplify.proofs.needs.Needs.all.Given as goal

abbrev pub invariant-loop-node : goal.invariant-loop-node
invariant-loop-node l = (l.self.links ≡ l.fn.self.links ++ link_all l.from (take l.node-index l.to)) × (l.self.blocks ≡ l.fn.self.blocks)
