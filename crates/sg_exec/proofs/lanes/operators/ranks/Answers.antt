use Rattle.std.proofs.Common.{ℕ, ◌+◌, ◌%◌, ◌^◌, ◌∙◌}
use Rattle.std.proofs.lemmas.Simd.{zip2_splat}
use Rattle.sg_words.specs.Words.{rank_of}
use Rattle.sg_exec.proofs.EachLane.{map_so}
use Rattle.sg_exec.proofs.lanes.operators.ranks.Goals as goal

pub returns : goal.returns
returns c = zip2_splat (λ (x y : ℕ). (x + y) % 2 ^ 32) c.args.a 32 c.raise.result c.fits-a.0 ∙ map_so (λ (x : ℕ). (x + c.raise.result) % 2 ^ 32) (rank_of c.args.ty) (λ a below. c.raise.ensures a below) c.args.a c.fits-a.1
