use Rattle.std.proofs.Common.{◌≡◌, ◌%◌, ◌^◌, ℕ, List, Bool, eqb, length, sym, ap, ◌∙◌, arith, w32}
use Rattle.std.specs.Prelude.{not, replicate}
use Rattle.std.proofs.lemmas.Bool.Decides.{nat_tests}
use Rattle.std.proofs.lemmas.Simd.{tops_compared, mask_l-mod, length-zip2, length-replicate}
use lib.Lanes.{zip2, mask_l}
use Rattle.sg_exec.proofs.Masks.{all_same}
use Rattle.sg_exec.proofs.lanes.operators.are_all.Goals as goal

pub returns : goal.returns
returns c = λ none k small.
    let differ : ℕ → ℕ → Bool = λ a b. not (eqb a b) in
    let ms : List Bool = zip2 {C = Bool} differ c.args.a (replicate 32 c.args.word) in
    let long : length ms ≡ 32 = length-zip2 differ c.args.a (replicate 32 c.args.word) (omega (arith, c.fits-a.0, length-replicate {A = ℕ} 32 c.args.word)) ∙ c.fits-a.0 in
    let nil : mask_l ms % 2 ^ 64 ≡ 0 = ap (λ (bs : List Bool). mask_l bs % 2 ^ 64) (sym (tops_compared w32 differ c.args.a (replicate 32 c.args.word))) ∙ grind (arith, nat_tests, none) in
    all_same c.args.a c.args.word c.fits-a.0 (sym (mask_l-mod ms 64 (omega (arith, long))) ∙ nil) k small
