-- Worked equations of spans, of shared code and of trimmed code.
use Rattle.std.specs.Prelude.{◌≡◌, refl, ℕ, ◌+◌, true, false, [], ◌∷◌, ℤ, pos, negsuc}
use Rattle.sg_words.specs.declared.operators.Ty.TheVariants as ty
use Rattle.sg_words.specs.declared.operators.BinOp.TheVariants as bin
use Rattle.sg_layout.specs.declared.shape.Kind.TheVariants.{Dense}
use Rattle.sg_layout.specs.declared.shape.Shape.{Shape}
use Rattle.sg_flat.specs.declared.effects.Domain.TheVariants.{Walk, Range}
use Rattle.sg_ir.specs.declared.op.Op.TheVariants as op
use Rattle.sg_ir.specs.declared.op.Step.TheVariants as step
use Rattle.sg_ir.specs.declared.op.Descent.TheVariants as by
use Rattle.sg_ir.specs.Blocks.{Value, Block, End, Word, Spot, Cell, Do, Branch, SetVar}
use Rattle.sg_ir.specs.declared.span.Span.{Span}
use Rattle.sg_ir.specs.Span.{whole_i32, only, bin_span, range_span, op_span, var_span, first_spans}
use Rattle.sg_ir.specs.Shared.{is_shared}
use Rattle.sg_ir.specs.Trimmed.{is_trimmed}

-- ---- spans
abbrev span : ℤ → ℤ → Span
span lo hi = record { lo = lo; hi = hi }

sum_of_spans : bin_span bin.Add ty.I32 (span (pos 0) (pos 7)) (only (negsuc 0)) ≡ span (negsuc 0) (pos 6)
sum_of_spans = refl

difference_of_spans : bin_span bin.Sub ty.I32 (span (pos 0) (pos 7)) (span (pos 1) (pos 2)) ≡ span (negsuc 1) (pos 6)
difference_of_spans = refl

product_of_spans : bin_span bin.Mul ty.I32 (span (negsuc 2) (pos 2)) (span (negsuc 4) (pos 4)) ≡ span (negsuc 11) (pos 15)
product_of_spans = refl

sum_that_wraps : bin_span bin.Add ty.I32 (span (pos 0) (pos 2147483647)) (only (pos 1)) ≡ whole_i32
sum_that_wraps = refl

sum_of_u32 : bin_span bin.Add ty.U32 (only (pos 1)) (only (pos 1)) ≡ whole_i32
sum_of_u32 = refl

quotient_of_spans : bin_span bin.Div ty.I32 (only (pos 1)) (only (pos 1)) ≡ whole_i32
quotient_of_spans = refl

empty_range : range_span (pos 5) (pos 5) ≡ only (pos 0)
empty_range = refl

-- a layout of one axis with eight cells, walked
abbrev pub row_of_eight : Shape
row_of_eight = record { axes = 1; nodes = record { kind = Dense; sizes = record { axis = 1; extent = pos 8 } ∷ []; cap = pos 0; chunk = pos 0 } ∷ []; fields = ty.I32 ∷ [] }

walked_axis : var_span (first_spans (row_of_eight ∷ []) (Walk 0) End) 0 ≡ span (pos 0) (pos 7)
walked_axis = refl

axis_past_the_last : var_span (first_spans (row_of_eight ∷ []) (Walk 0) End) 1 ≡ only (pos 0)
axis_past_the_last = refl

axis_of_a_box : var_span (first_spans [] (Range (record { n = 2; a = negsuc 2; b = pos 1; c = pos 0 }) (record { n = 2; a = pos 4; b = pos 1; c = pos 0 })) End) 0 ≡ span (negsuc 2) (pos 3)
axis_of_a_box = refl

-- a variable of the loop that an instruction sets has all of I32
variable_that_is_set : var_span (first_spans (row_of_eight ∷ []) (Walk 0) (Do (SetVar 0 0) End)) 0 ≡ whole_i32
variable_that_is_set = refl

constant_below_zero : op_span (first_spans [] (Walk 0) End) (op.Const 4294967295 false) ≡ only (negsuc 0)
constant_below_zero = refl

-- ---- shared code
constant_twice : is_shared (Word 0 (op.Const 5 false) (Word 1 (op.Const 5 false) End)) ≡ false
constant_twice = refl

constant_of_two_types : is_shared (Word 0 (op.Const 1 false) (Word 1 (op.Const 1 true) End)) ≡ true
constant_of_two_types = refl

constant_in_both_branches : is_shared (Branch 9 (Word 0 (op.Const 5 false) End) (Word 1 (op.Const 5 false) End) End) ≡ true
constant_in_both_branches = refl

constant_in_a_branch_again : is_shared (Word 0 (op.Const 5 false) (Branch 9 (Word 1 (op.Const 5 false) End) End End)) ≡ false
constant_in_a_branch_again = refl

constant_behind_a_branch : is_shared (Branch 9 (Word 0 (op.Const 5 false) End) End (Word 1 (op.Const 5 false) End)) ≡ true
constant_behind_a_branch = refl

variable_set_twice : is_shared (Do (SetVar 4 0) (Word 1 (op.Var 4) (Do (SetVar 4 0) (Word 2 (op.Var 4) End)))) ≡ true
variable_set_twice = refl

variable_set_once : is_shared (Do (SetVar 4 0) (Word 1 (op.Var 4) (Word 2 (op.Var 4) End))) ≡ false
variable_set_once = refl

-- ---- trimmed code
-- down to the cell of an index register, from a place
abbrev led_down : ℕ → ℕ → ℕ → Block → Block
led_down place index to rest = Word (10 + to) (op.Extract 1 8 index) (Spot to (step.Down by.Child place 1 (10 + to)) rest)

-- reads at i, and at i - 1 after the check of its axis
abbrev pub two_reads : Block
two_reads =
    Word 0 (op.Var 0) (Spot 0 (step.Root 0) (led_down 0 0 1 (Cell 1 1 (Value 0 0) (0 ∷ [])
    (Word 2 (op.Const 1 false) (Word 3 (op.Bin bin.Sub ty.I32 0 2) (Spot 2 (step.Check 0 0 8 3) (led_down 2 3 3 (Cell 4 3 (Value 0 0) (3 ∷ []) End))))))))

only_what_is_needed : is_trimmed (row_of_eight ∷ []) (Walk 0) two_reads ≡ true
only_what_is_needed = refl

-- over a box that goes past the cells the read at i lacks its check
check_that_lacks : is_trimmed (row_of_eight ∷ []) (Range (record { n = 1; a = pos 0; b = pos 0; c = pos 0 }) (record { n = 1; a = pos 9; b = pos 0; c = pos 0 })) two_reads ≡ false
check_that_lacks = refl

-- over a box that begins at 1 the check of i - 1 is one too many
check_too_many : is_trimmed (row_of_eight ∷ []) (Range (record { n = 1; a = pos 1; b = pos 0; c = pos 0 }) (record { n = 1; a = pos 8; b = pos 0; c = pos 0 })) two_reads ≡ false
check_too_many = refl

-- a check that no access has passed
check_that_serves_none : is_trimmed (row_of_eight ∷ []) (Walk 0) (Word 0 (op.Var 0) (Spot 0 (step.Root 0) (Spot 1 (step.Check 0 0 8 0) End))) ≡ false
check_that_serves_none = refl
