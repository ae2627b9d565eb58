use Rattle.std.proofs.Common.{◌≡◌, ◌≤◌, ◌+◌, ◌*◌, List, map, length, reverse}
use Rattle.sg_words.specs.declared.operators.Ty.{Ty}
use Rattle.sg_ir.specs.Blocks.{chained, link, block_of}
use Rattle.sg_ir.proofs.Uses.{depth}
use Rattle.sg_simplify.specs.Kept.{kept_part}
use Rattle.sg_words.specs.Spread.{bears_mark}
use Rattle.sg_simplify.specs.steps.Needed.{kept_by}
use Rattle.sg_simplify.proofs.KeptDepths.{depths}
use Rattle.sg_simplify.proofs.lean.+kept.Given as goal

abbrev pub decreases-kept : goal.decreases-kept
decreases-kept l = 2 * depths l.insts + 1

abbrev pub decreases-keep : goal.decreases-keep
decreases-keep l = 2 * depth l.inst

abbrev pub invariant-kept-loop-inst : goal.invariant-kept-loop-inst
invariant-kept-loop-inst l =
    ((types : List Ty) → kept_part (kept_by (bears_mark l.marks)) (block_of types l.fn.insts) ≡ chained (map (link types) l.out) (kept_part (kept_by (bears_mark l.marks)) (block_of types (reverse l.last_first))))
    × (depths l.last_first ≤ depths l.fn.insts)

abbrev pub decreases-kept-loop-inst : goal.decreases-kept-loop-inst
decreases-kept-loop-inst l = length l.last_first
