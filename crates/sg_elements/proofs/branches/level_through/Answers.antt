use Rattle.std.proofs.Common.{◌≡◌, ℕ, List, sym, subst, arith}
use Rattle.sg_elements.specs.declared.branches.Branch.{Branch}
use Rattle.sg_elements.specs.steps.Levels.{AreBranches, level_at}
use Rattle.sg_elements.proofs.Growing.{root_level}
use Rattle.sg_elements.proofs.branches.level_through.Goals as goal

pub loop-node-init : goal.loop-node-init
loop-node-init c =
    let store = c.args.store.now in
    subst (λ (list : List Branch). AreBranches store 0 list (level_at store 0)) (sym c.in_ok-level.ensures.items) (root_level store c.root.result c.root.ensures)

pub returns : goal.returns
returns c =
    let end : c.loop-node.node ≡ c.args.nodes = omega (arith, c.loop-node-test.false, c.loop-node.auto.node-end) in
    subst (λ (n : ℕ). AreBranches c.args.store.now n c.loop-node.level.items (level_at c.args.store.now n)) end c.loop-node.invariant
