use Rattle.std.proofs.Common.{◌≡◌, ◌+◌, ◌-◌, ◌%◌, ◌^◌, ◌∙◌, arith}
use Rattle.sg_exec.proofs.ByWord.{choose_low, choose_high}
use Rattle.sg_exec.proofs.lanes.by_word.with_sign.Goals as goal

pub returns-then-a-lt2147483648 : goal.returns-then-a-lt2147483648
returns-then-a-lt2147483648 c = choose_low c.args.a c.args.size ((2 ^ 32 - c.args.size) % 2 ^ 32) (omega (arith, c.if-a-lt2147483648.true))

pub returns-else-a-lt2147483648 : goal.returns-else-a-lt2147483648
returns-else-a-lt2147483648 c = let same : (0 + (2 ^ 32 - c.args.size)) % 2 ^ 32 ≡ (2 ^ 32 - c.args.size) % 2 ^ 32 = omega (arith, c.requires) in same ∙ choose_high c.args.a c.args.size ((2 ^ 32 - c.args.size) % 2 ^ 32) (omega (arith, c.if-a-lt2147483648.false))
