use Rattle.std.proofs.Common.{ℕ, ◌+◌, ◌-◌, ◌%◌, ◌^◌, ◌∙◌}
use Rattle.std.proofs.lemmas.Simd.{zip2_splat_left}
use Rattle.sg_words.specs.Words.{applied_un}
use Rattle.sg_words.specs.declared.operators.UnOp.TheVariants as un
use Rattle.sg_exec.proofs.EachLane.{map_so, neg_is}
use Rattle.sg_exec.proofs.lanes.operators.neg.Goals as goal

pub returns : goal.returns
returns c = zip2_splat_left (λ (x y : ℕ). (x + (2 ^ 32 - y)) % 2 ^ 32) 0 32 c.args.a c.fits-a.0 ∙ map_so (λ (y : ℕ). (0 + (2 ^ 32 - y)) % 2 ^ 32) (applied_un un.Neg) neg_is c.args.a c.fits-a.1
