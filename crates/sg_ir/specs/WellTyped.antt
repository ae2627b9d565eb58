-- Well-typed code: what is used was set before in the same block or a block round it, numbers are in range, truth values join only
-- with truth values, and places go down the nodes of their layouts one by one.
use Rattle.std.specs.Prelude.{ℕ, suc, Bool, true, false, not, ◌&&◌, ◌==◌, nat_lt, List, [], ◌∷◌, ◌++◌, map, length, count_by, slice_get, Option, Some, None, option_and_then}
use Rattle.std.specs.List.{list_all, list_any, flat_map, fold}
use Rattle.sg_words.specs.declared.operators.Ty.{Ty}
use Rattle.sg_words.specs.declared.operators.Ty.TheVariants as ty
use Rattle.sg_words.specs.declared.operators.BinOp.{BinOp}
use Rattle.sg_words.specs.declared.operators.BinOp.TheVariants as bin
use Rattle.sg_words.specs.declared.operators.UnOp.{UnOp}
use Rattle.sg_words.specs.declared.operators.UnOp.TheVariants as un
use Rattle.sg_layout.specs.declared.shape.Kind.{Kind}
use Rattle.sg_layout.specs.declared.shape.Kind.TheVariants.{Dense, Bitmasked, Pointer, Hash, Dynamic}
use Rattle.sg_layout.specs.declared.shape.NodeShape.{NodeShape}
use Rattle.sg_layout.specs.declared.shape.Shape.{Shape}
use Rattle.sg_layout.specs.Axes.{bounds_of_shape}
use Rattle.sg_ir.specs.declared.code.Code.{Code}
use Rattle.sg_ir.specs.declared.code.Inst.{Inst, fold-Inst}
use Rattle.sg_ir.specs.declared.code.Inst.TheOpen as i
use Rattle.sg_ir.specs.declared.code.Inst.TheOpen.{Inst-F}
use Rattle.sg_ir.specs.Runs.{put, node_in}
use Rattle.sg_ir.specs.Places.{extents_in}

-- what is known of a place: its layout, and how many nodes it has passed
pub record KnownPlace : Type 0 where
  pub layout : ℕ
  pub passed : ℕ

-- what is set so far in this block and the blocks round it: registers, places, and variables that may be read
pub record Scope : Type 0 where
  pub regs : ℕ → Bool
  pub places : ℕ → Option KnownPlace
  pub vars : ℕ → Bool

-- what is the same in all of a code: the layouts, the types of registers and variables, how many places there are, and how many
-- instructions set a variable
pub record Frame : Type 0 where
  pub shapes : List Shape
  pub regs : List Ty
  pub places : ℕ
  pub vars : List Ty
  pub setters : ℕ → ℕ

-- the scope where this register is set too
abbrev pub with_reg : ℕ → Scope → Scope
with_reg to scope = record { regs = put to true scope.regs; places = scope.places; vars = scope.vars }

-- the scope where this place is set too, and this is known of it
abbrev pub with_place : ℕ → KnownPlace → Scope → Scope
with_place to known scope = record { regs = scope.regs; places = put to (Some known) scope.places; vars = scope.vars }

-- the scope where this variable may be read too
abbrev pub with_var : ℕ → Scope → Scope
with_var var scope = record { regs = scope.regs; places = scope.places; vars = put var true scope.vars }

-- words of this type are truth values
abbrev pub is_truth : Ty → Bool
is_truth ty.Bool = true
is_truth ty.I32 = false
is_truth ty.U32 = false

-- a type that is there is that of a truth value, or isn't, as asked
abbrev pub is_truth_as : Bool → Option Ty → Bool
is_truth_as truth None = false
is_truth_as true (Some given) = is_truth given
is_truth_as false (Some given) = not (is_truth given)

-- both types are there, and both are that of a truth value or neither
abbrev pub joins : Option Ty → Option Ty → Bool
joins None other = false
joins (Some given) other = is_truth_as (is_truth given) other

-- a register that may be read, of a truth value or not
abbrev pub reads : Frame → Scope → Bool → ℕ → Bool
reads at scope truth r = scope.regs r && is_truth_as truth (slice_get at.regs r)

-- index registers that may be read, one for each axis
abbrev pub indexes : Frame → Scope → Shape → List ℕ → Bool
indexes at scope shape index = (length index == shape.axes) && list_all (reads at scope false) index

-- the type is I32, the only one that an inner loop's variable may have
abbrev pub is_i32 : Ty → Bool
is_i32 ty.I32 = true
is_i32 ty.U32 = false
is_i32 ty.Bool = false

-- which operators take, and which give, truth values
abbrev pub takes_truth : BinOp → Bool
takes_truth bin.LAnd = true
takes_truth bin.LOr = true
takes_truth _ = false

-- operators that give a truth value: logical `and` and `or`, and comparisons
abbrev pub gives_truth : BinOp → Bool
gives_truth bin.LAnd = true
gives_truth bin.LOr = true
gives_truth bin.Eq = true
gives_truth bin.Ne = true
gives_truth bin.Lt = true
gives_truth bin.Le = true
gives_truth bin.Gt = true
gives_truth bin.Ge = true
gives_truth _ = false

-- the one operator on one register that takes and gives a truth value
abbrev pub is_lnot : UnOp → Bool
is_lnot un.LNot = true
is_lnot un.Neg = false
is_lnot un.Not = false

-- the instruction that goes down a node of a kind
pub data Way_down : Type 0 where
  ByChild : Way_down
  ByKey : Way_down
  ByBit : Way_down
  ByLength : Way_down

-- a node of this kind is gone down in this way: dense and pointer by child, hash by key, bitmasked by bit, dynamic by length
abbrev pub goes_down : Way_down → Kind → Bool
goes_down ByChild Dense = true
goes_down ByChild Pointer = true
goes_down ByKey Hash = true
goes_down ByBit Bitmasked = true
goes_down ByLength Dynamic = true
goes_down _ _ = false

-- a test of what may be there; false if it isn't
abbrev pub holds_of : {A : Type 0} → (A → Bool) → Option A → Bool
holds_of test None = false
holds_of test (Some it) = test it

-- one judgement: whether an instruction is good in a scope, and the scope after it
abbrev pub Judge : Type 0
Judge = Scope → Bool × Scope

-- one after the other: all are good
abbrev pub judge_step : Bool × Scope → Judge → Bool × Scope
judge_step reached judge = let next = judge reached.1 in (reached.0 && next.0, next.1)

-- judgements one after the other: whether all are good, and the scope after the last
abbrev pub judge_all : List Judge → Judge
judge_all judges scope = fold judge_step (true, scope) judges

-- a place that may be checked on an axis: it has passed no node, and this is the axis's extent
abbrev pub checkable : Frame → ℕ → ℕ → KnownPlace → Bool
checkable at axis extent known =
    (known.passed == 0) && holds_of (λ (shape : Shape). nat_lt axis shape.axes && holds_of (λ e. e == extent) (slice_get (extents_in (bounds_of_shape shape)) axis)) (slice_get at.shapes known.layout)

-- a place that may go down a node: the first that it hasn't passed, and of the right kind
abbrev pub descends : Frame → Way_down → ℕ → KnownPlace → Bool
descends at way node known =
    (node == suc known.passed) && holds_of (λ (shape : Shape). holds_of (λ (there : NodeShape). goes_down way there.kind) (node_in shape.nodes node)) (slice_get at.shapes known.layout)

-- a place at a cell of a layout: it has passed the last node
abbrev pub is_cell : Frame → ℕ → KnownPlace → Bool
is_cell at layout known = (known.layout == layout) && holds_of (λ (shape : Shape). known.passed == length shape.nodes) (slice_get at.shapes layout)

-- the type of a field that may be there
abbrev pub field_type_at : Frame → ℕ → ℕ → Option Ty
field_type_at at layout field = option_and_then (λ (shape : Shape). slice_get shape.fields field) (slice_get at.shapes layout)

-- the scope after a place that goes on from another
abbrev pub goes_on : ℕ → ℕ → Option KnownPlace → Scope → Scope
goes_on to passed None scope = scope
goes_on to passed (Some known) scope = with_place to (record { layout = known.layout; passed = passed }) scope

-- one step down
abbrev pub step_fits : Frame → Way_down → ℕ → ℕ → ℕ → ℕ → Judge
step_fits at way to place node offset scope =
    (nat_lt to at.places && (holds_of (descends at way node) (scope.places place) && reads at scope false offset), goes_on to node (scope.places place) scope)

-- One layer of an instruction, where it is given the judgements of the instructions in it.
abbrev pub inst_fits : Frame → Inst-F Judge → Judge
inst_fits at (i.Const to word) scope = (nat_lt to (length at.regs), with_reg to scope)
inst_fits at (i.Var to var) scope = (scope.vars var && joins (slice_get at.vars var) (slice_get at.regs to), with_reg to scope)
inst_fits at (i.Set var from) scope = (scope.regs from && joins (slice_get at.vars var) (slice_get at.regs from), with_var var scope)
inst_fits at (i.Bin to op given a b) scope =
    (reads at scope (takes_truth op) a && (reads at scope (takes_truth op) b && is_truth_as (gives_truth op) (slice_get at.regs to)), with_reg to scope)
inst_fits at (i.Un to op given a) scope = (reads at scope (is_lnot op) a && is_truth_as (is_lnot op) (slice_get at.regs to), with_reg to scope)
inst_fits at (i.Mulq to a b s) scope =
    (reads at scope false a && (reads at scope false b && (reads at scope false s && is_truth_as false (slice_get at.regs to))), with_reg to scope)
inst_fits at (i.Root to layout) scope = (nat_lt to at.places && nat_lt layout (length at.shapes), with_place to (record { layout = layout; passed = 0 }) scope)
inst_fits at (i.Check to place axis extent index) scope =
    (nat_lt to at.places && (nat_lt 0 extent && (holds_of (checkable at axis extent) (scope.places place) && reads at scope false index)), goes_on to 0 (scope.places place) scope)
inst_fits at (i.Extract to div size from) scope =
    (nat_lt 0 div && (nat_lt 0 size && (reads at scope false from && is_truth_as false (slice_get at.regs to))), with_reg to scope)
inst_fits at (i.Offset to high size low) scope =
    (nat_lt 0 size && (reads at scope false high && (reads at scope false low && is_truth_as false (slice_get at.regs to))), with_reg to scope)
inst_fits at (i.Child to place node offset) scope = step_fits at ByChild to place node offset scope
inst_fits at (i.HashChild to place node offset) scope = step_fits at ByKey to place node offset scope
inst_fits at (i.MaskBit to place node offset) scope = step_fits at ByBit to place node offset scope
inst_fits at (i.DynCell to place node offset) scope = step_fits at ByLength to place node offset scope
inst_fits at (i.ReadCell to place layout field index) scope =
    (holds_of (is_cell at layout) (scope.places place) && (joins (field_type_at at layout field) (slice_get at.regs to) && holds_of (λ shape. indexes at scope shape index) (slice_get at.shapes layout)), with_reg to scope)
inst_fits at (i.IsActive to place index) scope = (
  holds_of (λ known. is_cell at known.layout known && (holds_of (λ shape. indexes at scope shape index) (slice_get at.shapes known.layout) && is_truth_as true (slice_get at.regs to))) (scope.places place),
  with_reg to scope,
)
inst_fits at (i.OwnRead to layout field) scope = (joins (field_type_at at layout field) (slice_get at.regs to), with_reg to scope)
inst_fits at (i.OwnWrite layout field from stmt) scope = (scope.regs from && joins (field_type_at at layout field) (slice_get at.regs from), scope)
inst_fits at (i.Acc op layout field place from index stmt) scope = (
  holds_of (is_cell at layout) (scope.places place)
      && (scope.regs from && (joins (field_type_at at layout field) (slice_get at.regs from) && holds_of (λ shape. indexes at scope shape index) (slice_get at.shapes layout))),
  scope,
)
inst_fits at (i.Want layout index stmt) scope = (holds_of (λ shape. indexes at scope shape index) (slice_get at.shapes layout), scope)
inst_fits at (i.If cond block otherwise) scope = (reads at scope true cond && ((judge_all block scope).0 && (judge_all otherwise scope).0), scope)
inst_fits at (i.For var lo hi body) scope =
    (holds_of is_i32 (slice_get at.vars var) && ((at.setters var == 1) && (judge_all body (with_var var scope)).0), scope)

-- the judgement of an instruction, and of a block
abbrev pub judges : Frame → Inst → Judge
judges at = fold-Inst Judge (inst_fits at)

-- whether each instruction of a block is good in the scope after those before it, and the scope after the whole block
abbrev pub judged : Frame → List Inst → Judge
judged at block = judge_all (map (judges at) block)

-- what an instruction sets: a register, a place or a variable
pub data SetName : Type 0 where
  SetsReg : ℕ → SetName
  SetsPlace : ℕ → SetName
  SetsVar : ℕ → SetName

-- what instructions set one after the other, as one list
abbrev pub in_order : List (List SetName) → List SetName
in_order = flat_map (λ settings. settings)

-- One layer: what an instruction sets, and what those in it set, in order of the text.
abbrev pub sets_step : Inst-F (List SetName) → List SetName
sets_step (i.Const to word) = SetsReg to ∷ []
sets_step (i.Var to var) = SetsReg to ∷ []
sets_step (i.Set var from) = SetsVar var ∷ []
sets_step (i.Bin to op given a b) = SetsReg to ∷ []
sets_step (i.Un to op given a) = SetsReg to ∷ []
sets_step (i.Mulq to a b s) = SetsReg to ∷ []
sets_step (i.Root to layout) = SetsPlace to ∷ []
sets_step (i.Check to place axis extent index) = SetsPlace to ∷ []
sets_step (i.Extract to div size from) = SetsReg to ∷ []
sets_step (i.Offset to high size low) = SetsReg to ∷ []
sets_step (i.Child to place node offset) = SetsPlace to ∷ []
sets_step (i.HashChild to place node offset) = SetsPlace to ∷ []
sets_step (i.MaskBit to place node offset) = SetsPlace to ∷ []
sets_step (i.DynCell to place node offset) = SetsPlace to ∷ []
sets_step (i.ReadCell to place layout field index) = SetsReg to ∷ []
sets_step (i.IsActive to place index) = SetsReg to ∷ []
sets_step (i.OwnRead to layout field) = SetsReg to ∷ []
sets_step (i.OwnWrite layout field from stmt) = []
sets_step (i.Acc op layout field place from index stmt) = []
sets_step (i.Want layout index stmt) = []
sets_step (i.If cond block otherwise) = in_order block ++ in_order otherwise
sets_step (i.For var lo hi body) = SetsVar var ∷ in_order body

-- all that a block sets, in order of the text
abbrev pub settings : List Inst → List SetName
settings block = flat_map (fold-Inst (List SetName) sets_step) block

-- the number of the register that is set; nothing if a place or a variable is
abbrev pub reg_number : SetName → List ℕ
reg_number (SetsReg r) = r ∷ []
reg_number _ = []

-- the number of the place that is set; nothing if a register or a variable is
abbrev pub place_number : SetName → List ℕ
place_number (SetsPlace p) = p ∷ []
place_number _ = []

-- the number of the variable that is set; nothing if a register or a place is
abbrev pub var_number : SetName → List ℕ
var_number (SetsVar v) = v ∷ []
var_number _ = []

-- the numbers of the registers, places and variables that a block sets, in order of the text
abbrev pub set_regs : List Inst → List ℕ
set_regs block = flat_map reg_number (settings block)

-- the numbers of the places that a block sets, in order of the text
abbrev pub set_places : List Inst → List ℕ
set_places block = flat_map place_number (settings block)

-- the numbers of the variables that a block sets, those of its inner loops among them, in order of the text
abbrev pub set_vars : List Inst → List ℕ
set_vars block = flat_map var_number (settings block)

-- no number stands twice
abbrev pub has_no_twice : List ℕ → Bool
has_no_twice [] = true
has_no_twice (x ∷ xs) = not (list_any (λ y. y == x) xs) && has_no_twice xs

-- the variables of the kernel's loop have numbers below 3
abbrev pub most_loop_vars : ℕ
most_loop_vars = 3

-- how many instructions of a block set a variable
abbrev pub setters_in : List Inst → ℕ → ℕ
setters_in block var = count_by (λ v. v == var) (set_vars block)

-- what is the same in all of a code
abbrev pub frame_of : List Shape → Code → Frame
frame_of shapes code = record { shapes = shapes; regs = code.regs; places = code.places; vars = code.vars; setters = setters_in code.body }

-- At the start nothing is set, and the variables of the kernel's loop may be read. A variable that no instruction sets is one of these
-- where its number is below 3; any other may be read only after what sets it.
abbrev pub first_scope : List Inst → Scope
first_scope block = record { regs = λ r. false; places = λ p. None; vars = λ v. nat_lt v most_loop_vars && (setters_in block v == 0) }

-- code is well typed for layouts of these shapes
abbrev pub is_well_typed : List Shape → Code → Bool
is_well_typed shapes code =
    (judged (frame_of shapes code) code.body (first_scope code.body)).0
    && (has_no_twice (set_regs code.body) && has_no_twice (set_places code.body))
