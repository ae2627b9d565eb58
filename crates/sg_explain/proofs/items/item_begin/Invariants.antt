use Rattle.std.proofs.Common.{◌≡◌, ◌+◌, length, take}
use Rattle.sg_ast.specs.Stmt.{joined_lists}
use Rattle.sg_ast.specs.Items.{items_of}
use Rattle.sg_explain.specs.Fronts.{items_before}
use Rattle.sg_explain.proofs.items.item_begin.Given as goal

abbrev pub invariant-loop-left : goal.invariant-loop-left
invariant-loop-left l =
    (l.taken + length (joined_lists (take l.left (items_of l.rest))) ≡ length (items_before l.tokens l.number))
    × (l.taken + length l.rest ≡ length l.tokens)

abbrev pub decreases-loop-left : goal.decreases-loop-left
decreases-loop-left l = l.left
