-- Laws of compiling, and of loads: numbering leaves no command out, code keeps what tasks mean, and no load writes outside.
use Rattle.std.specs.Prelude.{◌≡◌, ◌≢◌, ℕ, IsTrue, List, filter_map, Option, Some, None, Ok, Err, slice_get}
use Rattle.std.specs.List.{AllZip}
use Rattle.sg_ast.specs.declared.command.Command.{Command, out-Command}
use Rattle.sg_ast.specs.declared.command.Command.TheOpen as c
use Rattle.sg_ast.specs.declared.command.Command.TheOpen.{Command-F}
use Rattle.sg_ast.specs.declared.program.Item.{Item}
use Rattle.sg_ast.specs.declared.program.Item.TheVariants as item
use Rattle.sg_ast.specs.declared.program.Program.{Program}
use Rattle.sg_ast.specs.Grammar.{is_program}
use Rattle.sg_coord.specs.declared.coord.Coord.{Coord}
use Rattle.sg_layout.specs.declared.shape.Shape.{Shape}
use Rattle.sg_flat.specs.declared.state.FlatState.{FlatState}
use Rattle.sg_flat.specs.declared.effects.RunFault.TheVariants.{WriteOutside}
use Rattle.sg_flat.specs.State.{IsFlat}
use Rattle.sg_outside.specs.Files.{Reading}
use Rattle.sg_names.specs.declared.tables.FieldAt.{FieldAt}
use Rattle.sg_names.specs.Tables.{Tables, layout_named, field_named, kernel_named}
use Rattle.sg_session.specs.declared.refusal.RunRefusal.TheVariants as refusal
use Rattle.sg_session.specs.declared.tasks.Task.{Task}
use Rattle.sg_session.specs.declared.tasks.Task.TheVariants.{Load, Run, Dump, Image, Stats, Prune, Clear}
use Rattle.sg_session.specs.declared.tasks.Stage.{Stage}
use Rattle.sg_session.specs.declared.tasks.Stage.TheVariants.{Once, Times}
use Rattle.sg_session.specs.Compiled.{CheckedProgram, CompiledProgram, Compiles}
use Rattle.sg_session.specs.Commands.{after_load, task_meaning, compiled_meaning}
use Rattle.sg_session.specs.Compiling.{compiled_tree}

-- the command that an item is
abbrev pub as_command : Item → Option Command
as_command (item.Const decl) = None
as_command (item.Layout decl) = None
as_command (item.Kernel decl) = None
as_command (item.Command command) = Some command

-- the commands of a program, in order
abbrev pub commands_of : Program → List Command
commands_of program = filter_map as_command program.items

-- a task is that of a command: of the field, the kernel or the layout of its name, and an image has its bounds
abbrev pub IsTaskOf : Tables → Command-F Command → Task → Type 0
IsTaskOf names (c.Load field) (Load at) = field_named names field ≡ Some at
IsTaskOf names (c.Run name) (Run kernel) = kernel_named names name ≡ Some kernel
IsTaskOf names (c.Dump field) (Dump at) = field_named names field ≡ Some at
IsTaskOf names (c.Image field lo hi) (Image at low high) = (field_named names field ≡ Some at) × (low ≡ lo) × (high ≡ hi)
IsTaskOf names (c.Stats layout) (Stats number) = layout_named names layout ≡ Some number
IsTaskOf names (c.Prune layout) (Prune number) = layout_named names layout ≡ Some number
IsTaskOf names (c.Clear layout) (Clear number) = layout_named names layout ≡ Some number
IsTaskOf names _ _ = ⊥

-- a stage is that of a command: its task, or for a `times` as many turns, with a task for each command in it, in order
abbrev pub IsStageOf : Tables → Command-F Command → Stage → Type 0
IsStageOf names (c.Times number body) (Times turns tasks) = (turns ≡ number) × AllZip (λ command task. IsTaskOf names (out-Command command) task) body tasks
IsStageOf names layer (Once task) = IsTaskOf names layer task
IsStageOf names _ _ = ⊥

-- The commands of a compiled program, which is a tree of the grammar, are those of its file, one for one and in order.
abbrev pub CommandsAreKept : Type 0
CommandsAreKept = (program : Program) (compiled : CheckedProgram) → IsTrue (is_program program) → compiled_tree program ≡ Ok compiled →
    AllZip (λ command stage. IsStageOf compiled.names (out-Command command) stage) (commands_of program) compiled.commands

-- A task of a compiled program means what it means in each program that is compiled to it.
abbrev pub CompilingKeepsTasks : Type 0
CompilingKeepsTasks = (program : CheckedProgram) (compiled : CompiledProgram) → Compiles program compiled → (state : FlatState) → IsFlat compiled.layouts state →
    (task : Task) (reading : Reading) → compiled_meaning compiled state task reading ≡ task_meaning program state task reading

-- No load writes outside, whatever the read of its file gave: a row of the file that isn't inside is a fault of the text.
abbrev pub LoadsStayInside : Type 0
LoadsStayInside = (layouts : List Shape) (at : FieldAt) (shape : Shape) → slice_get layouts at.layout ≡ Some shape →
    (state : FlatState) (reading : Reading) (stmt : ℕ) (c : Coord) → after_load layouts state at reading ≢ Err (refusal.Run None (WriteOutside stmt c))
