use Rattle.std.specs.Prelude.{◌≡◌, ◌^◌, min, take}
use Rattle.sg_lexer.specs.Lexing.{decimal_value}
use Rattle.sparsegrid.proofs.number.decimal_value.Given as goal

abbrev pub invariant-loop-digit : goal.invariant-loop-digit
invariant-loop-digit l = l.value ≡ min (decimal_value (take l.digit-index l.digits)) (2 ^ 32)
