use Rattle.std.proofs.Common.{◌≡◌, ◌+◌, ◌++◌, List, map, drop}
use Rattle.sg_words.specs.declared.operators.Ty.{Ty}
use Rattle.sg_ir.specs.Blocks.{Block, chained, link}
use Rattle.sg_simplify.specs.steps.Needed.{blocks_in, needs_of}
use Rattle.sg_simplify.proofs.needs.Needs.+needs.Given as goal

abbrev pub invariant-block-loop-inst : goal.invariant-block-loop-inst
invariant-block-loop-inst l =
    ((types : List Ty) (rest : Block) → l.fn.self.links ++ needs_of l.inside l.fn.self.blocks (chained (map (link types) l.block) rest) ≡ l.self.links ++ needs_of l.inside l.self.blocks (chained (map (link types) (drop l.inst-index l.block)) rest))
    × ((types : List Ty) (rest : Block) → l.self.blocks + blocks_in (chained (map (link types) (drop l.inst-index l.block)) rest) ≡ l.fn.self.blocks + blocks_in (chained (map (link types) l.block) rest))
