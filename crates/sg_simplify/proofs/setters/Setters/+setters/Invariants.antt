use Rattle.std.proofs.Common.{◌≡◌, ◌+◌, ℕ, List, map, take, true}
use Rattle.std.specs.List.{list_all}
use Rattle.sg_words.specs.declared.operators.Ty.{Ty}
use Rattle.sg_ir.specs.Blocks.{block_of}
use Rattle.sg_ir.specs.Span.{sets}
use Rattle.sg_simplify.specs.steps.Counted.{has_words}
use Rattle.sg_simplify.specs.steps.Tally.{TellsCounts}
use Rattle.sg_simplify.proofs.setters.Setters.+setters.Given as goal

abbrev pub invariant-block-loop-inst : goal.invariant-block-loop-inst
invariant-block-loop-inst l =
    ((types : List Ty) (count : ℕ → ℕ) → TellsCounts count l.fn.self.again.entries → TellsCounts (λ v. count v + sets v (block_of types (take l.inst-index l.block))) l.self.again.entries)
    × (list_all (λ b. b) (map has_words (take l.inst-index l.block)) ≡ true)
