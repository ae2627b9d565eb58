use Rattle.std.proofs.Common.{ℕ, List, sym, ap, ◌∙◌}
use Rattle.sg_ir.specs.Blocks.{End, block_of}
use Rattle.sg_simplify.specs.steps.Pass.{roots_in}
use Rattle.sg_simplify.proofs.roots.Roots.of.Goals as goal

pub returns : goal.returns
returns c = λ types. sym (c.in_ok-block.ensures types End) ∙ ap (λ (roots : List (ℕ × ℕ)). roots_in roots (block_of types c.args.block.now)) c.new.ensures.empty
