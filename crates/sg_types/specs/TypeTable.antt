-- The types that operators take and give.
use Rattle.std.specs.Prelude.{Bool, true, false, ◌&&◌, if◌then◌else◌, Option, Some, None}
use Rattle.sg_words.specs.declared.operators.Ty.{Ty}
use Rattle.sg_words.specs.declared.operators.Ty.TheVariants as ty
use Rattle.sg_words.specs.declared.operators.BinOp.{BinOp}
use Rattle.sg_words.specs.declared.operators.BinOp.TheVariants as b
use Rattle.sg_words.specs.declared.operators.UnOp.{UnOp}
use Rattle.sg_words.specs.declared.operators.UnOp.TheVariants as u

-- the type of numbers, with a sign or without
abbrev pub is_numeric : Ty → Bool
is_numeric ty.I32 = true
is_numeric ty.U32 = true
is_numeric ty.Bool = false

-- the type of numbers with a sign
abbrev pub is_signed : Ty → Bool
is_signed ty.I32 = true
is_signed ty.U32 = false
is_signed ty.Bool = false

-- the type of truth values
abbrev pub is_truth : Ty → Bool
is_truth ty.I32 = false
is_truth ty.U32 = false
is_truth ty.Bool = true

-- two types are one
abbrev pub same_ty : Ty → Ty → Bool
same_ty ty.I32 other = is_signed other
same_ty ty.U32 ty.U32 = true
same_ty ty.U32 other = false
same_ty ty.Bool other = is_truth other

-- a type, where operands are taken
abbrev pub given_if : Bool → Ty → Option Ty
given_if takes given = if takes then Some given else None

-- both numbers of one type, and gives that type
abbrev pub arithmetic_ty : Ty → Ty → Option Ty
arithmetic_ty left right = given_if (is_numeric left && same_ty left right) left

-- both numbers, each of its own type, and gives that of the left
abbrev pub shift_ty : Ty → Ty → Option Ty
shift_ty left right = given_if (is_numeric left && is_numeric right) left

-- both numbers of one type, and gives a truth value
abbrev pub comparison_ty : Ty → Ty → Option Ty
comparison_ty left right = given_if (is_numeric left && same_ty left right) ty.Bool

-- both truth values, and gives one
abbrev pub logic_ty : Ty → Ty → Option Ty
logic_ty left right = given_if (is_truth left && is_truth right) ty.Bool

-- the type that an operator gives on operands of two types, where it takes them
abbrev pub bin_ty : BinOp → Ty → Ty → Option Ty
bin_ty b.Add = arithmetic_ty
bin_ty b.Sub = arithmetic_ty
bin_ty b.Mul = arithmetic_ty
bin_ty b.Div = arithmetic_ty
bin_ty b.Rem = arithmetic_ty
bin_ty b.And = arithmetic_ty
bin_ty b.Or = arithmetic_ty
bin_ty b.Xor = arithmetic_ty
bin_ty b.LAnd = logic_ty
bin_ty b.LOr = logic_ty
bin_ty b.Shl = shift_ty
bin_ty b.Shr = shift_ty
bin_ty b.Min = arithmetic_ty
bin_ty b.Max = arithmetic_ty
bin_ty b.Eq = comparison_ty
bin_ty b.Ne = comparison_ty
bin_ty b.Lt = comparison_ty
bin_ty b.Le = comparison_ty
bin_ty b.Gt = comparison_ty
bin_ty b.Ge = comparison_ty

-- the type that an operator before its operand gives, where it takes it
abbrev pub un_ty : UnOp → Ty → Option Ty
un_ty u.Neg of = given_if (is_numeric of) of
un_ty u.Not of = given_if (is_numeric of) of
un_ty u.LNot of = given_if (is_truth of) ty.Bool
