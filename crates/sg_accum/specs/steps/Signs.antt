-- Whether the ranks of a type are shifted.
use Rattle.std.specs.Prelude.{Bool, true, false}
use Rattle.sg_words.specs.declared.operators.Ty.{Ty}
use Rattle.sg_words.specs.declared.operators.Ty.TheVariants as ty

-- whether words of a type are signed, as those of I32 alone are: then the rank of 0 is 2 ^ 31
abbrev pub is_signed : Ty → Bool
is_signed ty.I32 = true
is_signed ty.U32 = false
is_signed ty.Bool = false
