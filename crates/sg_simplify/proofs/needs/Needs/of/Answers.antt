use Rattle.std.proofs.Common.{◌++◌, sym, ap, ◌∙◌}
use Rattle.std.proofs.lemmas.List.{append-nil}
use Rattle.sg_ir.specs.Blocks.{End, block_of}
use Rattle.sg_simplify.specs.steps.Needed.{needs_of}
use Rattle.sg_simplify.proofs.needs.Needs.of.Goals as goal

pub returns : goal.returns
returns c = λ types.
    sym (append-nil c.block.new.self.links) ∙ (sym (c.in_ok-block.ensures.links types End) ∙ ap (λ links. links ++ needs_of 3 1 (block_of types c.args.block.now)) c.new.ensures)
