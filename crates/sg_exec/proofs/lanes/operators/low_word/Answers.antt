use Rattle.std.proofs.Common.{◌≡◌, ◌/◌, ◌%◌, ◌^◌, ◌∙◌, ℕ, ap, arith, rules, w64, to_z, of_z}
use mir.Val.{SFits}
use Rattle.std.proofs.lemmas.Int.{to_z-of_z}
use Rattle.sg_exec.proofs.LowBits.{low_bits}
use Rattle.sg_exec.proofs.lanes.operators.low_word.Goals as goal

pub returns : goal.returns
returns c =
    let fits : SFits w64 c.args.product = search rules in
    let same : to_z w64 (of_z w64 c.args.product) ≡ c.args.product = to_z-of_z w64 c.args.product fits in
    ap (λ (x : ℕ). x / 2 ^ (c.args.s % 32) % 2 ^ 32) (c.cast_unsigned.ensures ∙ ap (of_z w64) same) ∙ low_bits c.args.product (c.args.s % 32) fits (omega arith)
