use Rattle.std.proofs.Common.{◌≡◌, ◌++◌, map, take}
use Rattle.sg_simplify.specs.steps.Needed.{reg_node, link_all}
use Rattle.sg_simplify.proofs.needs.Needs.index.Given as goal

abbrev pub invariant-loop-reg : goal.invariant-loop-reg
invariant-loop-reg l = (l.self.links ≡ l.fn.self.links ++ link_all l.from (map reg_node (take l.reg-index l.regs))) × (l.self.blocks ≡ l.fn.self.blocks)
