use Rattle.std.proofs.Common.{◌≡◌, List, map, drop}
use Rattle.sg_words.specs.declared.operators.Ty.{Ty}
use Rattle.sg_ir.specs.Blocks.{Block, chained, link}
use Rattle.sg_simplify.specs.steps.Pass.{roots_in}
use Rattle.sg_simplify.proofs.roots.Roots.+roots.Given as goal

abbrev pub invariant-block-loop-inst : goal.invariant-block-loop-inst
invariant-block-loop-inst l =
    (types : List Ty) (rest : Block) → roots_in l.fn.self.layouts.entries (chained (map (link types) l.block) rest) ≡ roots_in l.self.layouts.entries (chained (map (link types) (drop l.inst-index l.block)) rest)
