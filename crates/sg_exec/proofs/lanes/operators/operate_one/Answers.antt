use Rattle.std.proofs.Common.{ℕ, List, get_or, ap, ◌∙◌, arith}
use Rattle.std.proofs.lemmas.List.{get_or-map}
use Rattle.sg_words.specs.Words.{applied_un}
use Rattle.sg_exec.proofs.lanes.operators.operate_one.Goals as goal

pub returns : goal.returns
returns c = λ k small.
    ap (λ (words : List ℕ). get_or words k 0) c.mapped.ensures
    ∙ get_or-map (applied_un c.args.op) c.args.a k 0 0 (omega (arith, small, c.fits-a.0))
