use Rattle.std.proofs.Common.{◌≡◌, ℕ, ◌+◌, nat_eq, ap, ◌∙◌, arith}
use Rattle.std.specs.Map.{lookup}
use Rattle.sg_ir.specs.Blocks.{block_of}
use Rattle.sg_ir.specs.Span.{sets}
use Rattle.sg_simplify.specs.steps.Tally.{tally}
use Rattle.sg_simplify.proofs.setters.Setters.of.Goals as goal

pub returns-clause-counts : goal.returns-clause-counts
returns-clause-counts c = λ types var.
    let none : (n : ℕ) → 0 + n ≡ n = λ n. omega arith in
    c.in_ok-block.ensures.counts types (λ v. 0) (λ x. ap (lookup (nat_eq x)) c.new.ensures.empty) var ∙ ap tally (none (sets var (block_of types c.args.block.now)))
