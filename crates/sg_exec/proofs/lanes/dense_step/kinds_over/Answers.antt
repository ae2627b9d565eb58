use Rattle.std.proofs.Common.{ℕ, List, Bool, eqb, ltb, get_or, ap₂, ◌∙◌, w32}
use Rattle.std.specs.Prelude.{replicate}
use Rattle.std.proofs.lemmas.Simd.{tops_compared}
use lib.Lanes.{sel_l}
use Rattle.sg_exec.proofs.DenseSteps.{kinds_over_at}
use Rattle.sg_exec.proofs.lanes.dense_step.kinds_over.Goals as goal

pub returns : goal.returns
returns c = λ k small.
    ap₂ (λ (ms ns : List Bool). get_or (sel_l {A = ℕ} ms (sel_l {A = ℕ} ns (replicate 32 0) (replicate 32 c.args.next)) (replicate 32 0)) k 0)
    (tops_compared w32 ltb c.args.offsets (replicate 32 c.args.size)) (tops_compared w32 eqb c.args.kinds (replicate 32 0))
    ∙ kinds_over_at c.args.kinds c.args.offsets c.args.next c.args.size k small c.fits-kinds.0 c.fits-offsets.0
