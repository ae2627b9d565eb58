use Rattle.std.proofs.Common.{◌≡◌, ◌%◌, ◌^◌, ℕ, List, Bool, eqb, length, sym, ap, ◌∙◌, arith, w32}
use Rattle.std.specs.Prelude.{replicate}
use Rattle.std.proofs.lemmas.Bool.Decides.{nat_tests}
use Rattle.std.proofs.lemmas.Simd.{tops_compared, mask_l-mod, length-zip2, length-replicate}
use lib.Lanes.{zip2, mask_l}
use Rattle.sg_exec.proofs.Masks.{all_set}
use Rattle.sg_exec.proofs.lanes.columns.are_set.Goals as goal

pub returns : goal.returns
returns c = λ none k small.
    let ms : List Bool = zip2 {C = Bool} eqb c.args.on (replicate 32 0) in
    let long : length ms ≡ 32 = length-zip2 eqb c.args.on (replicate 32 0) (omega (arith, c.fits-on.0, length-replicate {A = ℕ} 32 0)) ∙ c.fits-on.0 in
    let nil : mask_l ms % 2 ^ 64 ≡ 0 = ap (λ (bs : List Bool). mask_l bs % 2 ^ 64) (sym (tops_compared w32 eqb c.args.on (replicate 32 0))) ∙ grind (arith, nat_tests, none) in
    all_set c.args.on c.fits-on.0 (sym (mask_l-mod ms 64 (omega (arith, long))) ∙ nil) k small
