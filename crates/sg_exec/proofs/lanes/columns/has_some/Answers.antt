use Rattle.std.proofs.Common.{◌≡◌, ◌%◌, ◌^◌, ℕ, List, Bool, ltb, length, sym, ap, ◌∙◌, arith, w32}
use Rattle.std.specs.Prelude.{replicate}
use Rattle.std.proofs.lemmas.Bool.Decides.{nat_tests}
use Rattle.std.proofs.lemmas.Simd.{tops_compared, mask_l-mod, length-zip2, length-replicate}
use lib.Lanes.{zip2, mask_l}
use Rattle.sg_exec.proofs.Masks.{none_set}
use Rattle.sg_exec.proofs.lanes.columns.has_some.Goals as goal

pub returns : goal.returns
returns c = λ none k small on.
    let ms : List Bool = zip2 {C = Bool} ltb (replicate 32 0) c.args.columns.now.on in
    let long : length ms ≡ 32 = length-zip2 ltb (replicate 32 0) c.args.columns.now.on (sym c.args.columns.now.long) in
    let nil : mask_l ms % 2 ^ 64 ≡ 0 = ap (λ (bs : List Bool). mask_l bs % 2 ^ 64) (sym (tops_compared w32 ltb (replicate 32 0) c.args.columns.now.on)) ∙ grind (arith, nat_tests, none) in
    none_set c.args.columns.now.on c.args.columns.now.long (sym (mask_l-mod ms 64 (omega (arith, long))) ∙ nil) k small on
