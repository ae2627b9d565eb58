use Rattle.std.proofs.Common.{ℕ, List, Bool, cond, eqb, get_or, ap, ◌∙◌, w32}
use Rattle.std.specs.Prelude.{replicate, ◌==◌}
use Rattle.std.proofs.lemmas.Simd.{tops_compared, length-replicate, get_or-replicate}
use lib.Lanes.{sel_l}
use Rattle.sg_exec.proofs.Rows.{mixed_at}
use Rattle.sg_exec.proofs.lanes.held_row.filled.Goals as goal

pub returns : goal.returns
returns c = λ k small.
    ap (λ (ms : List Bool). get_or (sel_l {A = ℕ} ms (replicate 32 c.args.one) c.args.kinds) k 0) (tops_compared w32 eqb c.args.kinds (replicate 32 0))
    ∙ mixed_at c.args.kinds c.args.kinds (replicate 32 c.args.one) k small c.fits-kinds.0 c.fits-kinds.0 (length-replicate {A = ℕ} 32 c.args.one)
    ∙ ap (λ (x : ℕ). cond (get_or c.args.kinds k 0 == 0) x (get_or c.args.kinds k 0)) (get_or-replicate 32 k c.args.one 0 small)
