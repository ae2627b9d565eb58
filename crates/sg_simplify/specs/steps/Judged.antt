-- The judgement of a block along its chain: whether what an operation and a step read may be read, and whether its register has a type
-- that fits.
use Rattle.std.specs.Prelude.{◌≡◌, ℕ, Bool, true, false, ◌&&◌, ◌==◌, nat_lt, List, length, slice_get, Option, Some, None, option_map, option_and_then}
use Rattle.sg_words.specs.declared.operators.Ty.{Ty}
use Rattle.sg_layout.specs.declared.shape.Shape.{Shape}
use Rattle.sg_ir.specs.declared.op.Op.{Op}
use Rattle.sg_ir.specs.declared.op.Op.TheVariants as op
use Rattle.sg_ir.specs.declared.op.Step.{Step}
use Rattle.sg_ir.specs.declared.op.Step.TheVariants as step
use Rattle.sg_ir.specs.declared.op.Descent.{Descent}
use Rattle.sg_ir.specs.declared.op.Descent.TheVariants as by
use Rattle.sg_ir.specs.Blocks.{Sight, Value, Activity, sight_op, Block, End, Word, Spot, Cell, Do, Branch, Loop, Act, SetVar, WriteOwn, Contribute, Wish}
use Rattle.sg_ir.specs.WellTyped.{KnownPlace, Scope, Frame, with_reg, with_place, with_var, is_truth, is_truth_as, reads, indexes, is_i32, takes_truth, gives_truth, is_lnot, Way_down, ByChild, ByKey, ByBit, ByLength, holds_of, checkable, descends, is_cell}

-- a type that may be there is that of a truth value, or isn't, as may be known
abbrev pub gives_type : Option Bool → Option Ty → Bool
gives_type None type = false
gives_type (Some truth) type = is_truth_as truth type

-- whether a field holds truth values, and whether an operation gives one; not known of a variable and a field that aren't there
abbrev pub field_truth : List Shape → ℕ → ℕ → Option Bool
field_truth shapes layout field = option_map is_truth (option_and_then (λ (shape : Shape). slice_get shape.fields field) (slice_get shapes layout))

-- whether an operation gives a truth value; not known of a variable or a field that isn't there
abbrev pub truth_of : List Shape → List Ty → Op → Option Bool
truth_of shapes vars (op.Const word truth) = Some truth
truth_of shapes vars (op.Var var) = option_map is_truth (slice_get vars var)
truth_of shapes vars (op.Bin how kind a b) = Some (gives_truth how)
truth_of shapes vars (op.Un how kind a) = Some (is_lnot how)
truth_of shapes vars (op.Mulq a b s) = Some false
truth_of shapes vars (op.Extract div size from) = Some false
truth_of shapes vars (op.Offset high size low) = Some false
truth_of shapes vars (op.Read place layout field) = field_truth shapes layout field
truth_of shapes vars (op.Active place) = Some true
truth_of shapes vars (op.OwnRead layout field) = field_truth shapes layout field

-- what an operation reads may be read
abbrev pub operands_fit : Frame → Scope → Op → Bool
operands_fit at scope (op.Const word truth) = true
operands_fit at scope (op.Var var) = scope.vars var
operands_fit at scope (op.Bin how kind a b) = reads at scope (takes_truth how) a && reads at scope (takes_truth how) b
operands_fit at scope (op.Un how kind a) = reads at scope (is_lnot how) a
operands_fit at scope (op.Mulq a b s) = reads at scope false a && (reads at scope false b && reads at scope false s)
operands_fit at scope (op.Extract div size from) = nat_lt 0 div && (nat_lt 0 size && reads at scope false from)
operands_fit at scope (op.Offset high size low) = nat_lt 0 size && (reads at scope false high && reads at scope false low)
operands_fit at scope (op.Read place layout field) = holds_of (is_cell at layout) (scope.places place)
operands_fit at scope (op.Active place) = holds_of (λ known. is_cell at known.layout known) (scope.places place)
operands_fit at scope (op.OwnRead layout field) = true

-- index registers that name a coordinate of a layout
abbrev pub index_fits : Frame → Scope → ℕ → List ℕ → Bool
index_fits at scope layout index = holds_of (λ shape. indexes at scope shape index) (slice_get at.shapes layout)

-- index registers that name a coordinate of the layout of a place
abbrev pub index_of_place : Frame → Scope → ℕ → List ℕ → Bool
index_of_place at scope place index = holds_of (λ known. index_fits at scope known.layout index) (scope.places place)

-- what sees something at a place has such index registers
abbrev pub IndexIsGood : Frame → Scope → Op → List ℕ → Type 0
IndexIsGood at scope (op.Read place layout field) index = index_fits at scope layout index ≡ true
IndexIsGood at scope (op.Active place) index = index_of_place at scope place index ≡ true
IndexIsGood at scope how index = Unit {0}

-- how a place goes down a node by this instruction: to a child, by a key, by a bit, or below a length
abbrev pub way_by : Descent → Way_down
way_by by.Child = ByChild
way_by by.HashChild = ByKey
way_by by.MaskBit = ByBit
way_by by.DynCell = ByLength

-- what a step reads may be read, and it goes if it may
abbrev pub step_reads : Frame → Scope → Step → Bool
step_reads at scope (step.Root layout) = nat_lt layout (length at.shapes)
step_reads at scope (step.Check place axis extent index) = nat_lt 0 extent && (holds_of (checkable at axis extent) (scope.places place) && reads at scope false index)
step_reads at scope (step.Down descent place node offset) = holds_of (descends at (way_by descent) node) (scope.places place) && reads at scope false offset

-- what is known of the place that a step sets
abbrev pub step_known : Scope → Step → Option KnownPlace
step_known scope (step.Root layout) = Some (record { layout = layout; passed = 0 })
step_known scope (step.Check place axis extent index) = option_map (λ (known : KnownPlace). record { layout = known.layout; passed = 0 }) (scope.places place)
step_known scope (step.Down descent place node offset) = option_map (λ (known : KnownPlace). record { layout = known.layout; passed = node }) (scope.places place)

-- the scope after a place that may be known
abbrev pub and_known : ℕ → Option KnownPlace → Scope → Scope
and_known to None scope = scope
and_known to (Some known) scope = with_place to known scope

-- an act, and the scope after it
abbrev pub act_fits : Frame → Scope → Act → Bool
act_fits at scope (SetVar var from) = scope.regs from && gives_type (option_map is_truth (slice_get at.vars var)) (slice_get at.regs from)
act_fits at scope (WriteOwn layout field from stmt) = scope.regs from && gives_type (field_truth at.shapes layout field) (slice_get at.regs from)
act_fits at scope (Contribute how layout field place from index stmt) =
    holds_of (is_cell at layout) (scope.places place)
    && (scope.regs from && (gives_type (field_truth at.shapes layout field) (slice_get at.regs from) && index_fits at scope layout index))
act_fits at scope (Wish layout index stmt) = index_fits at scope layout index

-- the scope after an act: a variable that is set is in it from here on, and no other act adds anything
abbrev pub behind_act : Act → Scope → Scope
behind_act (SetVar var from) scope = with_var var scope
behind_act (WriteOwn layout field from stmt) scope = scope
behind_act (Contribute how layout field place from index stmt) scope = scope
behind_act (Wish layout index stmt) scope = scope

-- a read of a cell is no plain operation: it has its index registers beside it
abbrev pub is_no_read : Op → Bool
is_no_read (op.Const word truth) = true
is_no_read (op.Var var) = true
is_no_read (op.Bin how kind a b) = true
is_no_read (op.Un how kind a) = true
is_no_read (op.Mulq a b s) = true
is_no_read (op.Extract div size from) = true
is_no_read (op.Offset high size low) = true
is_no_read (op.Read place layout field) = false
is_no_read (op.Active place) = false
is_no_read (op.OwnRead layout field) = true

-- index registers that name a coordinate of the layout at a place of which something is seen
abbrev pub sight_fits : Frame → Scope → ℕ → Sight → List ℕ → Bool
sight_fits at scope place (Value layout field) index = index_fits at scope layout index
sight_fits at scope place Activity index = index_of_place at scope place index

-- a block in a scope
abbrev pub fits_scope : Frame → Scope → Block → Bool
fits_scope at scope End = true
fits_scope at scope (Word to how rest) = (is_no_read how && (operands_fit at scope how && gives_type (truth_of at.shapes at.vars how) (slice_get at.regs to))) && fits_scope at (with_reg to scope) rest
fits_scope at scope (Spot to how rest) = (nat_lt to at.places && step_reads at scope how) && fits_scope at (and_known to (step_known scope how) scope) rest
fits_scope at scope (Cell to place sight index rest) =
    (operands_fit at scope (sight_op place sight) && (gives_type (truth_of at.shapes at.vars (sight_op place sight)) (slice_get at.regs to) && sight_fits at scope place sight index))
    && fits_scope at (with_reg to scope) rest
fits_scope at scope (Do what rest) = act_fits at scope what && fits_scope at (behind_act what scope) rest
fits_scope at scope (Branch cond block otherwise rest) = (reads at scope true cond && (fits_scope at scope block && fits_scope at scope otherwise)) && fits_scope at scope rest
fits_scope at scope (Loop var lo hi body rest) =
    (holds_of is_i32 (slice_get at.vars var) && ((at.setters var == 1) && fits_scope at (with_var var scope) body)) && fits_scope at scope rest
