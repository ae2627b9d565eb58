-- What instructions are judged by, as the test has it.
use Rattle.std.specs.Prelude.{ℕ, Bool, true, false, ◌==◌, ◌&&◌, nat_lt, length, if◌then◌else◌, List, slice_get}
use Rattle.sg_ir.specs.declared.code.Inst.{Inst, fold-Inst}
use Rattle.sg_ir.specs.declared.code.Inst.TheOpen as i
use Rattle.sg_ir.specs.declared.code.Inst.TheOpen.{Inst-F}
use Rattle.sg_ir.specs.declared.before.Before.{Before}
use Rattle.sg_ir.specs.declared.typing.Typing.{Typing}
use Rattle.sg_ir.specs.declared.kinds.StepKind.{StepKind}
use Rattle.sg_ir.specs.declared.kinds.StepKind.TheVariants as step
use Rattle.sg_ir.specs.WellTyped.{Frame, Scope, Way_down, ByChild, ByKey, ByBit, ByLength, setters_in, judges, judged, holds_of, goes_down}
use Rattle.sg_layout.specs.declared.shape.NodeShape.{NodeShape}
use Rattle.sg_layout.specs.declared.shape.Shape.{Shape}
use Rattle.sg_layout.specs.Axes.{bounds_of_shape}
use Rattle.sg_ir.specs.Runs.{node_in}
use Rattle.sg_ir.specs.Places.{extents_in}
use Rattle.sg_ir.specs.steps.Scopes.{scope_at}

-- the variables of the kernel's loop
abbrev pub free_in : Typing → ℕ → Bool
free_in typing var = if var == 0 then typing.a else (if var == 1 then typing.b else (if var == 2 then typing.c else false))

-- what is the same in all of the code that the test goes through
abbrev pub frame_in : Typing → Frame
frame_in typing = record { shapes = typing.layouts.now; regs = typing.regs.now; places = typing.places; vars = typing.vars.now; setters = setters_in typing.body.now }

-- what may be used at a point of the code that the test goes through
abbrev pub scope_in : Typing → Before → Scope
scope_in typing before = scope_at (free_in typing) before

-- whether an instruction, or a block, is good there
abbrev pub is_good : Typing → Before → Inst → Bool
is_good typing before inst = (judges (frame_in typing) inst (scope_in typing before)).0

-- whether a block is good that begins at this point: each of its instructions is, after those before it
abbrev pub are_good : Typing → Before → List Inst → Bool
are_good typing before block = (judged (frame_in typing) block (scope_in typing before)).0

-- the way down a node that the test's kind of step stands for
abbrev pub way_of_step : StepKind → Way_down
way_of_step step.Child = ByChild
way_of_step step.Key = ByKey
way_of_step step.Bit = ByBit
way_of_step step.Length = ByLength

-- an instruction without blocks
abbrev pub without_blocks_step : {A : Type 0} → Inst-F A → Bool
without_blocks_step (i.If cond block otherwise) = false
without_blocks_step (i.For var lo hi body) = false
without_blocks_step _ = true

-- whether an instruction is neither an `if` nor a `for`
abbrev pub is_without_blocks : Inst → Bool
is_without_blocks = fold-Inst Bool without_blocks_step

-- whether an axis of a layout has this extent
abbrev pub has_extent : List Shape → ℕ → ℕ → ℕ → Bool
has_extent shapes layout axis extent =
    holds_of (λ (shape : Shape). nat_lt axis shape.axes && holds_of (λ e. e == extent) (slice_get (extents_in (bounds_of_shape shape)) axis)) (slice_get shapes layout)

-- whether a layout has a node with this number of the kind that is gone down so
abbrev pub has_node : List Shape → ℕ → Way_down → ℕ → Bool
has_node shapes layout way node =
    holds_of (λ (shape : Shape). holds_of (λ (there : NodeShape). goes_down way there.kind) (node_in shape.nodes node)) (slice_get shapes layout)

-- whether a layout has this many nodes
abbrev pub has_nodes : List Shape → ℕ → ℕ → Bool
has_nodes shapes layout nodes = holds_of (λ (shape : Shape). nodes == length shape.nodes) (slice_get shapes layout)
