use Rattle.std.proofs.Common.{◌≡◌, ℕ, eqb, ltb, ap, ◌∙◌, arith, w32}
use Rattle.std.specs.Prelude.{not, count_ones}
use Rattle.std.proofs.lemmas.Simd.{bitmask_splat, ones-mask_l}
use Rattle.sg_exec.proofs.lanes.columns.has_several.Goals as goal

pub returns : goal.returns
returns c =
    ap (λ (mask : ℕ). ltb 1 (count_ones mask)) (bitmask_splat w32 (λ a b. not (eqb a b)) c.args.columns.now.on 32 0 c.args.columns.now.long (omega arith))
    ∙ ap (ltb 1) (ones-mask_l (λ x. not (eqb x 0)) c.args.columns.now.on)
