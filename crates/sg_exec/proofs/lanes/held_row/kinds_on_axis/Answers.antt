use Rattle.std.proofs.Common.{ℕ, List, Bool, cond, get_or, ltb, ap, ap₂, ◌∙◌, arith, w32}
use Rattle.std.specs.Prelude.{replicate}
use Rattle.std.proofs.lemmas.Simd.{tops_compared, length-replicate, get_or-replicate, Each1-get_or}
use lib.Lanes.{sel_l}
use Rattle.sg_exec.proofs.HeldWords.{select_at}
use Rattle.sg_exec.proofs.lanes.held_row.kinds_on_axis.Goals as goal

pub returns : goal.returns
returns c = λ k small.
    let end : ℕ = c.axis_end.result in
    ap (λ (ms : List Bool). get_or (sel_l {A = ℕ} ms c.args.kinds (replicate 32 0)) k 0) (tops_compared w32 ltb c.args.words (replicate 32 end))
    ∙ select_at ltb c.args.words (replicate 32 end) c.args.kinds (replicate 32 0) k small c.fits-words.0 (length-replicate {A = ℕ} 32 end) c.fits-kinds.0 (length-replicate {A = ℕ} 32 0)
    ∙ ap₂ (λ (b : Bool) (x : ℕ). cond b (get_or c.args.kinds k 0) x)
    (ap (λ (x : ℕ). ltb (get_or c.args.words k 0) x) (get_or-replicate 32 k end 0 small) ∙ c.axis_end.ensures (get_or c.args.words k 0) (Each1-get_or _ c.args.words k 0 (omega (arith, small, c.fits-words.0)) c.fits-words.1).fits) (get_or-replicate 32 k 0 0 small)
