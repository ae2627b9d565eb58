-- Layouts don't matter to values: programs that differ in the nodes of their layouts alone, and run neutral kernels, leave the same values.
use Rattle.std.specs.Prelude.{◌≡◌, refl, ℕ, suc, pos, codes, Bool, true, false, List, [], ◌∷◌, map, Some, Result, Ok, slice_get}
use Rattle.std.specs.List.{AllByRecursion, AllZip}
use Rattle.sg_words.specs.Results.{◌>>=◌}
use Rattle.sg_coord.specs.declared.coord.Coord.{Coord}
use Rattle.sg_ast.specs.declared.program.Item.{Item}
use Rattle.sg_ast.specs.declared.program.Item.TheVariants as item
use Rattle.sg_ast.specs.declared.program.Program.{Program}
use Rattle.sg_words.specs.declared.operators.Ty.TheVariants as ty
use Rattle.sg_layout.specs.declared.shape.Kind.{Kind}
use Rattle.sg_layout.specs.declared.shape.Kind.TheVariants.{Dense, Pointer}
use Rattle.sg_layout.specs.declared.shape.NodeShape.{NodeShape}
use Rattle.sg_layout.specs.declared.shape.Shape.{Shape}
use Rattle.sg_layout.specs.Axes.{bounds_of_shape}
use Rattle.sg_flat.specs.declared.state.FlatState.{FlatState}
use Rattle.sg_flat.specs.State.{value_of, opening}
use Rattle.sg_admit.specs.declared.admitted.Admitted.{Admitted}
use Rattle.sg_admit.specs.Neutral.{is_neutral_kernel}
use Rattle.sg_names.specs.Tables.{no_tables}
use Rattle.std.specs.Fmt.{digits}
use Rattle.sg_grid.specs.Fronts.{rest_after, count_at, number_at, number_before, further_part_at, coordinate_at, length_at, line_at, head_at}
use Rattle.sg_grid.specs.Reading.{run_in, runs_of, rows_of}
use Rattle.sg_outside.specs.Files.{Reading, Bytes}
use Rattle.sg_session.specs.declared.refusal.RunRefusal.{RunRefusal}
use Rattle.sg_session.specs.declared.tasks.Task.{Task}
use Rattle.sg_session.specs.declared.tasks.Task.TheVariants.{Load, Run, Dump, Image, Stats, Prune, Clear}
use Rattle.sg_session.specs.declared.tasks.Stage.TheVariants.{Once}
use Rattle.sg_session.specs.Compiled.{CheckedProgram, unfolded_tasks}
use Rattle.sg_session.specs.Compiling.{spelled_program, compiled_program}
use Rattle.sg_session.specs.Commands.{Left, without_text, task_meaning}

-- ---- programs that differ in the nodes of their layouts

-- two items are the same, or layouts of one name, with the same axes and fields and with whatever nodes
abbrev pub DifferInNodes : Item → Item → Type 0
DifferInNodes (item.Layout one) (item.Layout other) = (one.name ≡ other.name) × (one.axes ≡ other.axes) × (one.fields ≡ other.fields)
DifferInNodes one other = one ≡ other

-- The bytes of two files spell programs that differ in the nodes of their layouts alone, which have the same extents. Each file keeps all rules,
-- with these parts. The lines on which items stand may differ too.
pub record AreSameUpToNodes (file file' : List ℕ) (first second : CheckedProgram) : Type 0 where
  pub one : Program
  pub other : Program
  pub one_is : spelled_program file ≡ Ok one
  pub other_is : spelled_program file' ≡ Ok other
  pub items : AllZip DifferInNodes one.items other.items
  pub first_is : compiled_program file ≡ Ok first
  pub second_is : compiled_program file' ≡ Ok second
  pub extents : map bounds_of_shape first.layouts ≡ map bounds_of_shape second.layouts

-- ---- what the commands of a program leave

-- What tasks leave that are performed from a state on, one after the other, or the first refusal. The first of them has this place among the
-- tasks of the program, and what the read of the file of each gives is told by its place.
abbrev pub left_by : CheckedProgram → (ℕ → Reading) → ℕ → List Task → FlatState → Result (List Left) RunRefusal
left_by program readings place [] state = Ok []
left_by program readings place (task ∷ tasks) state = do
  left ← task_meaning program state task (readings place)
  more ← left_by program readings (suc place) tasks left.state
  Ok (left ∷ more)

-- what each command of a program leaves, from the opening state on, if none is refused
abbrev pub left_by_program : CheckedProgram → (ℕ → Reading) → Result (List Left) RunRefusal
left_by_program program readings = left_by program readings 0 (unfolded_tasks program.commands) (opening program.layouts)

-- the state after all of them
abbrev pub last_after : FlatState → List Left → FlatState
last_after state [] = state
last_after state (left ∷ more) = last_after left.state more

-- the last state of a run
abbrev pub last_state : CheckedProgram → List Left → FlatState
last_state program lefts = last_after (opening program.layouts) lefts

-- ---- the law

-- a kernel that a task runs is neutral
abbrev pub RunsNeutral : CheckedProgram → Task → Type 0
RunsNeutral program (Run number) = (kernel : Admitted) → slice_get program.kernels number ≡ Some kernel → is_neutral_kernel kernel.kernel ≡ true
RunsNeutral program _ = Unit {0}

-- two states, each over layouts of its own, have equal values of every field at every coordinate
abbrev pub HaveSameValues : List Shape → List Shape → FlatState → FlatState → Type 0
HaveSameValues shapes shapes' state state' = (layout place : ℕ) (at : Coord) → value_of shapes state layout place at ≡ value_of shapes' state' layout place at

-- the task draws an image
abbrev pub is_image : Task → Bool
is_image (Image field lo hi) = true
is_image _ = false

-- what one command leaves in two runs: states with the same values, and the same text if it is an image
pub record LeaveSame (shapes shapes' : List Shape) (task : Task) (left right : Left) : Type 0 where
  pub values : HaveSameValues shapes shapes' left.state right.state
  pub image : is_image task ≡ true → left.text ≡ right.text

-- and so each command in turn
abbrev pub AllLeaveSame : List Shape → List Shape → List Task → List Left → List Left → Type 0
AllLeaveSame shapes shapes' [] [] [] = Unit {0}
AllLeaveSame shapes shapes' (task ∷ tasks) (left ∷ lefts) (right ∷ rights) = LeaveSame shapes shapes' task left right × AllLeaveSame shapes shapes' tasks lefts rights
AllLeaveSame shapes shapes' _ _ _ = ⊥

-- what two runs leave: their names and tasks are the same, so they read the same files; after each task the states have the same values, and so
-- have the last ones
pub record RunsLeaveSame (first second : CheckedProgram) (lefts rights : List Left) : Type 0 where
  pub names : first.names ≡ second.names
  pub tasks : unfolded_tasks first.commands ≡ unfolded_tasks second.commands
  pub each : AllLeaveSame first.layouts second.layouts (unfolded_tasks first.commands) lefts rights
  pub last : HaveSameValues first.layouts second.layouts (last_state first lefts) (last_state second rights)

-- The programs of two files that differ in the nodes of their layouts alone are run over the same other files, and no command of either is
-- refused. Where every kernel that is run is neutral, they leave the same values after each command, and draw the same images. What is active
-- may differ.
abbrev pub LayoutsDontMatter : Type 0
LayoutsDontMatter = (file file' : List ℕ) (first second : CheckedProgram) (readings : ℕ → Reading) (lefts rights : List Left) →
    AreSameUpToNodes file file' first second → AllByRecursion (RunsNeutral first) (unfolded_tasks first.commands) →
    left_by_program first readings ≡ Ok lefts → left_by_program second readings ≡ Ok rights → RunsLeaveSame first second lefts rights

-- ---- examples: a line of 4 points, as a whole and in blocks of 2
abbrev node_of : Kind → ℕ → ℕ → NodeShape
node_of kind extent cap = record { kind = kind; sizes = record { axis = 1; extent = pos extent } ∷ []; cap = pos cap; chunk = pos 0 }

abbrev line_of : List NodeShape → Shape
line_of nodes = record { axes = 1; nodes = nodes; fields = ty.I32 ∷ [] }

abbrev whole_line : Shape
whole_line = line_of (node_of Dense 4 0 ∷ [])

abbrev line_in_blocks : Shape
line_in_blocks = line_of (node_of Pointer 2 2 ∷ node_of Dense 2 0 ∷ [])

-- `load x; prune A; clear A;` over it
abbrev loads_and_frees : Shape → CheckedProgram
loads_and_frees shape = record {
  names = no_tables;
  layouts = shape ∷ [];
  kernels = [];
  neutral = [];
  commands = Once (Load (record { number = 0; layout = 0; place = 0; ty = ty.I32 })) ∷ Once (Prune 0) ∷ Once (Clear 0) ∷ [];
}

-- the file of the load lists the values 0 at the point 1 and 7 at the point 2
abbrev two_rows : ℕ → Reading
two_rows place = Bytes (codes "grid 1 2\n1 0\n2 7\n")

abbrev on_line : ℕ → Coord
on_line part = record { n = 1; a = pos part; b = pos 0; c = pos 0 }

-- a command leaves these points active, with these words
abbrev leaves_line : List ℕ → List (ℕ × ℕ) → Left
leaves_line parts words = without_text (record { layouts = record { active = map on_line parts; fields = words ∷ [] } ∷ [] })

-- the values are the same, and what is active isn't: over one dense node all points always are
over_the_whole : left_by_program (loads_and_frees whole_line) two_rows
    ≡ Ok (leaves_line (0 ∷ 1 ∷ 2 ∷ 3 ∷ []) ((2, 7) ∷ []) ∷ leaves_line (0 ∷ 1 ∷ 2 ∷ 3 ∷ []) ((2, 7) ∷ []) ∷ leaves_line (0 ∷ 1 ∷ 2 ∷ 3 ∷ []) [] ∷ [])
unfolding rows_of runs_of head_at run_in line_at length_at coordinate_at further_part_at number_before number_at count_at rest_after digits
over_the_whole = refl

over_blocks : left_by_program (loads_and_frees line_in_blocks) two_rows
    ≡ Ok (leaves_line (0 ∷ 1 ∷ 2 ∷ 3 ∷ []) ((2, 7) ∷ []) ∷ leaves_line (2 ∷ 3 ∷ []) ((2, 7) ∷ []) ∷ leaves_line [] [] ∷ [])
unfolding rows_of runs_of head_at run_in line_at length_at coordinate_at further_part_at number_before number_at count_at rest_after digits
over_blocks = refl

-- the two lines have the same extents
same_extents : map bounds_of_shape (whole_line ∷ []) ≡ map bounds_of_shape (line_in_blocks ∷ [])
same_extents = refl

-- a command that isn't an image may write other texts
only_images : map is_image (Dump (record { number = 0; layout = 0; place = 0; ty = ty.I32 }) ∷ Image (record { number = 0; layout = 0; place = 0; ty = ty.I32 }) (pos 0) (pos 9) ∷ Stats 0 ∷ Run 0 ∷ []) ≡ false ∷ true ∷ false ∷ false ∷ []
only_images = refl
