-- Spans: the interval of whole numbers that a register's word, as I32, is known to lie in, by the instruction that sets it.
use Rattle.std.specs.Prelude.{ℕ, Bool, zero, suc, ◌+◌, ◌==◌, ◌&&◌, if◌then◌else◌, List, [], ◌∷◌, get_or, slice_get, Option, Some, None, ℤ, pos, negsuc, ◌+ℤ◌, ◌-ℤ◌, ◌*ℤ◌, int_le, int_lt, nat_le}
use Rattle.sg_ir.specs.declared.span.Span.{Span}
use Rattle.sg_words.specs.declared.operators.Ty.{Ty}
use Rattle.sg_words.specs.declared.operators.Ty.TheVariants as ty
use Rattle.sg_words.specs.declared.operators.BinOp.{BinOp}
use Rattle.sg_words.specs.declared.operators.BinOp.TheVariants as bin
use Rattle.sg_words.specs.Words.{number}
use Rattle.sg_coord.specs.declared.coord.Coord.{Coord}
use Rattle.sg_layout.specs.declared.shape.Shape.{Shape}
use Rattle.sg_layout.specs.Axes.{bounds_of_shape}
use Rattle.sg_flat.specs.declared.effects.Domain.{Domain}
use Rattle.sg_flat.specs.declared.effects.Domain.TheVariants.{Walk, Range}
use Rattle.sg_ir.specs.declared.op.Op.{Op}
use Rattle.sg_ir.specs.declared.op.Op.TheVariants as op
use Rattle.sg_ir.specs.Places.{extents_in}
use Rattle.sg_ir.specs.Blocks.{Block, End, Word, Spot, Cell, Do, Branch, Loop, Act, SetVar, WriteOwn, Contribute, Wish}

-- one number and no other
abbrev pub only : ℤ → Span
only z = record { lo = z; hi = z }

-- all numbers of an I32
abbrev pub whole_i32 : Span
whole_i32 = record { lo = negsuc 2147483647; hi = pos 2147483647 }

-- a number fits I32
abbrev pub fits_i32 : ℤ → Bool
fits_i32 z = int_le (negsuc 2147483647) z && int_le z (pos 2147483647)

-- the interval if both ends fit I32, else all of I32
abbrev pub cut_to_i32 : ℤ → ℤ → Span
cut_to_i32 lo hi = if fits_i32 lo && fits_i32 hi then record { lo = lo; hi = hi } else whole_i32

-- the one of two numbers that is not above the other
abbrev pub lesser_of : ℤ → ℤ → ℤ
lesser_of a b = if int_le a b then a else b

-- the one of two numbers that is not below the other
abbrev pub greater_of : ℤ → ℤ → ℤ
greater_of a b = if int_le a b then b else a

-- the least and the greatest product of numbers of two spans are products of two of their ends
abbrev pub product_span : Span → Span → Span
product_span x y = cut_to_i32
    (lesser_of (lesser_of (x.lo *ℤ y.lo) (x.lo *ℤ y.hi)) (lesser_of (x.hi *ℤ y.lo) (x.hi *ℤ y.hi)))
    (greater_of (greater_of (x.lo *ℤ y.lo) (x.lo *ℤ y.hi)) (greater_of (x.hi *ℤ y.lo) (x.hi *ℤ y.hi)))

-- the span of an operator in a type: sums, differences and products of I32 alone have a narrower one
abbrev pub bin_span : BinOp → Ty → Span → Span → Span
bin_span bin.Add ty.I32 x y = cut_to_i32 (x.lo +ℤ y.lo) (x.hi +ℤ y.hi)
bin_span bin.Sub ty.I32 x y = cut_to_i32 (x.lo -ℤ y.hi) (x.hi -ℤ y.lo)
bin_span bin.Mul ty.I32 x y = product_span x y
bin_span how given x y = whole_i32

-- the numbers from `lo` up to below `hi`; 0 alone if there are none
abbrev pub range_span : ℤ → ℤ → Span
range_span lo hi = if int_lt lo hi then cut_to_i32 lo (hi -ℤ pos 1) else only (pos 0)

-- what is known: spans of registers that are set here or in a block round here, the last first; those of the variables of the inner
-- loops round here; and those of the other variables
pub record Spans : Type 0 where
  pub regs : List (ℕ × Span)
  pub loops : List (ℕ × Span)
  pub others : ℕ → Span

-- the first entry with this number, else another span
abbrev pub held : Span → List (ℕ × Span) → ℕ → Span
held other [] key = other
held other (entry ∷ entries) key = if key == entry.0 then entry.1 else held other entries key

-- where a register's word lies: in all of I32 where the register isn't set here or in a block round here
abbrev pub reg_span : Spans → ℕ → Span
reg_span spans r = held whole_i32 spans.regs r

-- where a variable's word lies: in the numbers of the innermost loop round here with this variable, or by `others` if none is
abbrev pub var_span : Spans → ℕ → Span
var_span spans var = held (spans.others var) spans.loops var

-- the span of a word that an operation gives
abbrev pub op_span : Spans → Op → Span
op_span spans (op.Const word truth) = only (number ty.I32 word)
op_span spans (op.Var var) = var_span spans var
op_span spans (op.Bin how given a b) = bin_span how given (reg_span spans a) (reg_span spans b)
op_span spans (op.Un how given a) = whole_i32
op_span spans (op.Mulq a b s) = whole_i32
op_span spans (op.Extract div size from) = whole_i32
op_span spans (op.Offset high size low) = whole_i32
op_span spans (op.Read place layout field) = whole_i32
op_span spans (op.Active place) = whole_i32
op_span spans (op.OwnRead layout field) = whole_i32

-- what is known after a register that is set, and in an inner loop
abbrev pub with_span : ℕ → Span → Spans → Spans
with_span to span spans = record { regs = (to, span) ∷ spans.regs; loops = spans.loops; others = spans.others }

-- what is known in the body of an inner loop, whose variable has the numbers from `lo` up to below `hi`
abbrev pub in_loop : ℕ → ℤ → ℤ → Spans → Spans
in_loop var lo hi spans = record { regs = spans.regs; loops = (var, range_span lo hi) ∷ spans.loops; others = spans.others }

-- how many instructions of a block set a variable
abbrev pub sets : ℕ → Block → ℕ
sets var End = 0
sets var (Word to how rest) = sets var rest
sets var (Spot to how rest) = sets var rest
sets var (Cell to place sight index rest) = sets var rest
sets var (Do what rest) = act_sets what + sets var rest
  where
    act_sets : Act → ℕ
    act_sets (SetVar set from) = if set == var then 1 else 0
    act_sets (WriteOwn layout field from stmt) = 0
    act_sets (Contribute how layout field place from index stmt) = 0
    act_sets (Wish layout index stmt) = 0
sets var (Branch cond block otherwise rest) = sets var block + (sets var otherwise + sets var rest)
sets var (Loop set lo hi body rest) = (if set == var then 1 else 0) + (sets var body + sets var rest)

-- the parts that coordinates have on an axis with an extent: 0 to the extent minus 1
abbrev pub extent_span : ℕ → Span
extent_span extent = range_span (pos 0) (pos extent)

-- the parts on an axis, counted from 0: over a layout that may be there; and over a box, where an axis past its own has 0 alone
abbrev pub walk_span : Option Shape → ℕ → Span
walk_span None var = whole_i32
walk_span (Some shape) var = extent_span (get_or (extents_in (bounds_of_shape shape)) var 1)

-- the parts on an axis of a box from `lo` up to below `hi`; 0 alone past its axes, and if it has none
abbrev pub box_span : Coord → Coord → ℕ → Span
box_span lo hi zero = if nat_le 1 lo.n then range_span lo.a hi.a else only (pos 0)
box_span lo hi (suc zero) = if nat_le 2 lo.n then range_span lo.b hi.b else only (pos 0)
box_span lo hi (suc (suc zero)) = if nat_le 3 lo.n then range_span lo.c hi.c else only (pos 0)
box_span lo hi (suc (suc (suc var))) = only (pos 0)

-- the span of a variable of the kernel's loop
abbrev pub domain_span : List Shape → Domain → ℕ → Span
domain_span shapes (Walk layout) var = walk_span (slice_get shapes layout) var
domain_span shapes (Range lo hi) var = box_span lo hi var

-- At the start of a code a variable that no instruction sets is one of the kernel's loop; any other has all of I32.
abbrev pub first_spans : List Shape → Domain → Block → Spans
first_spans shapes domain block = record {
  regs = [];
  loops = [];
  others = λ var. if sets var block == 0 then domain_span shapes domain var else whole_i32;
}
