use Rattle.std.proofs.Common.{◌≡◌, ◌+◌, ◌-◌, ◌%◌, ◌^◌, ◌∙◌, arith}
use Rattle.sg_exec.proofs.ByWord.{choose_low, choose_high}
use Rattle.sg_exec.proofs.lanes.by_word.size_of.Goals as goal

pub returns-then-a-lt2147483648-clause-is : goal.returns-then-a-lt2147483648-clause-is
returns-then-a-lt2147483648-clause-is c = choose_low c.args.a c.args.a (2 ^ 32 - c.args.a) (omega (arith, c.if-a-lt2147483648.true))

pub returns-else-a-lt2147483648-clause-is : goal.returns-else-a-lt2147483648-clause-is
returns-else-a-lt2147483648-clause-is c = let same : (0 + (2 ^ 32 - c.args.a)) % 2 ^ 32 ≡ 2 ^ 32 - c.args.a = omega (arith, c.if-a-lt2147483648.false) in same ∙ choose_high c.args.a c.args.a (2 ^ 32 - c.args.a) (omega (arith, c.if-a-lt2147483648.false))
