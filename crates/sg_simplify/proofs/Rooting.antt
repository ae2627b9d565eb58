-- From which roots the places of a block come, instruction by instruction.
use Rattle.std.specs.Prelude.{◌≡◌, ℕ, ℤ, List}
use Rattle.std.proofs.Common.{ap, ◌∙◌}
use Rattle.sg_words.specs.declared.operators.Ty.{Ty}
use Rattle.sg_ir.specs.declared.code.Inst.{Inst}
use Rattle.sg_ir.specs.declared.code.Inst.TheVariants as v
use Rattle.sg_ir.specs.Blocks.{Block, Link, link_step, link, block_of}
use Rattle.sg_ir.proofs.Uses.{fold-If, fold-For}
use Rattle.sg_simplify.specs.steps.Pass.{roots_in}

pub if_roots : (types : List Ty) (inst : Inst) (cond : ℕ) (whole otherwise : List Inst) (old first second : List (ℕ × ℕ)) (rest : Block) → inst ≡ v.If cond whole otherwise
    → roots_in old (block_of types whole) ≡ first → roots_in first (block_of types otherwise) ≡ second → roots_in old (link types inst rest) ≡ roots_in second rest
if_roots types inst cond whole otherwise old first second rest is one two =
    ap (λ it. roots_in old (link types it rest)) is
    ∙ (ap (λ (k : Link). roots_in old (k rest)) (fold-If (link_step types) cond whole otherwise)
    ∙ (ap (λ (roots : List (ℕ × ℕ)). roots_in (roots_in roots (block_of types otherwise)) rest) one ∙ ap (λ (roots : List (ℕ × ℕ)). roots_in roots rest) two))

pub for_roots : (types : List Ty) (inst : Inst) (var : ℕ) (lo hi : ℤ) (body : List Inst) (old first : List (ℕ × ℕ)) (rest : Block) → inst ≡ v.For var lo hi body
    → roots_in old (block_of types body) ≡ first → roots_in old (link types inst rest) ≡ roots_in first rest
for_roots types inst var lo hi body old first rest is one =
    ap (λ it. roots_in old (link types it rest)) is
    ∙ (ap (λ (k : Link). roots_in old (k rest)) (fold-For (link_step types) var lo hi body) ∙ ap (λ (roots : List (ℕ × ℕ)). roots_in roots rest) one)
