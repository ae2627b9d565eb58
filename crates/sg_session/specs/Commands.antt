-- What a command makes of a flat state, and the text that it gives.
use Rattle.std.specs.Prelude.{ℕ, zero, suc, ℤ, List, [], ◌∷◌, Option, Some, None, Result, Ok, Err, slice_get, map}
use Rattle.sg_words.specs.Results.{◌>>=◌, fault_as}
use Rattle.sg_coord.specs.Bounds.{Bounds}
use Rattle.sg_ast.specs.declared.token.Name.{Name}
use Rattle.sg_layout.specs.declared.shape.Shape.{Shape}
use Rattle.sg_layout.specs.Axes.{bounds_of_shape}
use Rattle.sg_flat.specs.declared.effects.RunFault.{RunFault}
use Rattle.sg_flat.specs.declared.state.FlatLayout.{FlatLayout}
use Rattle.sg_flat.specs.declared.state.FlatState.{FlatState}
use Rattle.sg_flat.specs.declared.effects.Write.{Write}
use Rattle.sg_flat.specs.declared.effects.Way.TheVariants.{Own}
use Rattle.sg_names.specs.declared.tables.FieldAt.{FieldAt}
use Rattle.sg_flat.specs.Kernel.{kernel_meaning}
use Rattle.sg_names.specs.Tables.{Tables, layout_name_of}
use Rattle.sg_types.specs.Iterations.{kernel_effects}
use Rattle.sg_admit.specs.declared.admitted.Admitted.{Admitted}
use Rattle.sg_grid.specs.declared.grid.GridFault.{GridFault}
use Rattle.sg_grid.specs.declared.grid.GridFault.TheVariants as grid
use Rattle.sg_grid.specs.declared.grid.GridRow.{GridRow}
use Rattle.sg_grid.specs.Reading.{rows_of}
use Rattle.sg_grid.specs.Dump.{dump_text}
use Rattle.sg_image.specs.Image.{image_text}
use Rattle.sg_image.specs.Counts.{stats_text}
use Rattle.sg_flat.specs.State.{opening_layout}
use Rattle.sg_store.specs.Pruning.{pruned}
use Rattle.sg_ir.specs.declared.code.KernelCode.{KernelCode}
use Rattle.sg_exec.specs.Running.{load_meaning, run_meaning}
use Rattle.sg_outside.specs.Files.{Reading, Bytes, TooMany, Missing}
use Rattle.sg_session.specs.declared.refusal.RunRefusal.{RunRefusal}
use Rattle.sg_session.specs.declared.refusal.RunRefusal.TheVariants as refusal
use Rattle.sg_session.specs.declared.tasks.Task.{Task}
use Rattle.sg_session.specs.declared.tasks.Task.TheVariants.{Load, Run, Dump, Image, Stats, Prune, Clear}
use Rattle.sg_session.specs.Compiled.{CheckedProgram, CompiledProgram, world_of}

-- ---- what a task makes of a state

-- what a command leaves: the state after it, and its text
pub record Left : Type 0 where
  pub state : FlatState
  pub text : List ℕ

-- a state without a text
abbrev pub without_text : FlatState → Left
without_text state = record { state = state; text = [] }

-- the run of a kernel that may be there: what its iterations write, each at the state at the start
abbrev pub after_kernel : List Shape → FlatState → Option Admitted → Result FlatState RunFault
after_kernel layouts state None = Ok state
after_kernel layouts state (Some kernel) = kernel_meaning layouts state (kernel_effects (world_of layouts state) kernel.kernel)

-- the run of a kernel's code that may be there
abbrev pub after_code : List Shape → FlatState → Option KernelCode → Result FlatState RunFault
after_code layouts state None = Ok state
after_code layouts state (Some code) = run_meaning layouts state code

-- why bytes are no grid of a field
abbrev pub grid_refusal : ℕ → GridFault → RunRefusal
grid_refusal field (grid.BadText line) = refusal.Grid field line
grid_refusal field (grid.Outside line) = refusal.Grid field line
grid_refusal field (grid.NotRising line) = refusal.Grid field line
grid_refusal field grid.TooManyBytes = refusal.GridBytes field
grid_refusal field grid.TooManyRows = refusal.GridRows field

-- the bounds of a layout that may be there
abbrev pub bounds_or_none : Option Shape → Bounds
bounds_or_none None = record { n = 0; a = 1; b = 1; c = 1 }
bounds_or_none (Some shape) = bounds_of_shape shape

-- the own write of a row into a field
abbrev pub row_write : ℕ → ℕ → GridRow → Write
row_write layout place row = record { layout = layout; place = place; stmt = 0; at = row.at; way = Own; value = row.word }

-- the writes that the rows of a grid text are: each listed coordinate gets its value
abbrev pub field_writes : List Shape → FieldAt → List ℕ → Result (List Write) GridFault
field_writes layouts at bytes = do
  rows ← rows_of (bounds_or_none (slice_get layouts at.layout)) at.ty bytes
  Ok (map (row_write at.layout at.place) rows)

-- the load of bytes: the listed coordinates are written, each with its value, and activated
abbrev pub loaded_state : List Shape → FlatState → FieldAt → List ℕ → Result FlatState RunRefusal
loaded_state layouts state at bytes = do
  rows ← fault_as (grid_refusal at.number) (field_writes layouts at bytes)
  fault_as (refusal.Run None) (load_meaning layouts state rows)

-- what a load makes of what the read of its file gave
abbrev pub after_load : List Shape → FlatState → FieldAt → Reading → Result FlatState RunRefusal
after_load layouts state at Missing = Err (refusal.Read at.number)
after_load layouts state at TooMany = Err (refusal.GridBytes at.number)
after_load layouts state at (Bytes bytes) = loaded_state layouts state at bytes

-- the dump of a field of a layout that may be there
abbrev pub text_of_field : ℕ → Option Shape → Option FlatLayout → List ℕ
text_of_field place None flat = []
text_of_field place (Some shape) None = []
text_of_field place (Some shape) (Some flat) = dump_text shape flat place

-- what a load leaves
abbrev pub load_made : List Shape → FlatState → FieldAt → Reading → Result Left RunRefusal
load_made layouts state at reading = do
  after ← after_load layouts state at reading
  Ok (without_text after)

-- what the run of a kernel of this number leaves
abbrev pub run_made : ℕ → Result FlatState RunFault → Result Left RunRefusal
run_made number ran = do
  after ← fault_as (refusal.Run (Some number)) ran
  Ok (without_text after)

-- what a dump leaves
abbrev pub dump_made : List Shape → FlatState → FieldAt → Result Left RunRefusal
dump_made layouts state at = Ok (record { state = state; text = text_of_field at.place (slice_get layouts at.layout) (slice_get state.layouts at.layout) })

-- the image of a field of a layout that may be there
abbrev pub image_of_field : ℕ → (lo hi : ℤ) → Option Shape → Option FlatLayout → List ℕ
image_of_field place lo hi None flat = []
image_of_field place lo hi (Some shape) None = []
image_of_field place lo hi (Some shape) (Some flat) = image_text shape flat place lo hi

-- what an image leaves
abbrev pub image_made : List Shape → FlatState → FieldAt → (lo hi : ℤ) → Result Left RunRefusal
image_made layouts state at lo hi = Ok (record { state = state; text = image_of_field at.place lo hi (slice_get layouts at.layout) (slice_get state.layouts at.layout) })

-- the counts of a layout that may be there, under a name that may be there
abbrev pub counts_of_layout : Option Name → Option Shape → Option FlatLayout → List ℕ
counts_of_layout (Some name) (Some shape) (Some flat) = stats_text shape flat name.text
counts_of_layout _ _ _ = []

-- what counting leaves
abbrev pub stats_made : Tables → List Shape → FlatState → ℕ → Result Left RunRefusal
stats_made names layouts state layout = Ok (record { state = state; text = counts_of_layout (layout_name_of names layout) (slice_get layouts layout) (slice_get state.layouts layout) })

-- flat layouts of these shapes, of which the one of a number has changed
abbrev pub changed_at : (Shape → FlatLayout → FlatLayout) → List Shape → List FlatLayout → ℕ → List FlatLayout
changed_at change (shape ∷ shapes) (flat ∷ flats) zero = change shape flat ∷ flats
changed_at change (shape ∷ shapes) (flat ∷ flats) (suc number) = flat ∷ changed_at change shapes flats number
changed_at change _ flats _ = flats

-- what a change of one layout leaves
abbrev pub layout_made : (Shape → FlatLayout → FlatLayout) → List Shape → FlatState → ℕ → Result Left RunRefusal
layout_made change layouts state layout = Ok (without_text (record { layouts = changed_at change layouts state.layouts layout }))

-- a layout without values, in which only that is active which is so without any write
abbrev pub cleared_layout : Shape → FlatLayout → FlatLayout
cleared_layout shape flat = opening_layout shape

-- What a task makes of a state, and its text; or its refusal, which leaves the state. The run of the kernel of a number is given; what
-- the read of its file gave counts for a load.
abbrev pub made_of : Tables → List Shape → (ℕ → Result FlatState RunFault) → FlatState → Task → Reading → Result Left RunRefusal
made_of names layouts ran state (Load field) reading = load_made layouts state field reading
made_of names layouts ran state (Run kernel) reading = run_made kernel (ran kernel)
made_of names layouts ran state (Dump field) reading = dump_made layouts state field
made_of names layouts ran state (Image field lo hi) reading = image_made layouts state field lo hi
made_of names layouts ran state (Stats layout) reading = stats_made names layouts state layout
made_of names layouts ran state (Prune layout) reading = layout_made pruned layouts state layout
made_of names layouts ran state (Clear layout) reading = layout_made cleared_layout layouts state layout

-- what a task of a program means: each kernel has the effects of its iterations
abbrev pub task_meaning : CheckedProgram → FlatState → Task → Reading → Result Left RunRefusal
task_meaning program state task reading =
    made_of program.names program.layouts (λ kernel. after_kernel program.layouts state (slice_get program.kernels kernel)) state task reading

-- what a task of a compiled program means: each kernel has the effects of its code
abbrev pub compiled_meaning : CompiledProgram → FlatState → Task → Reading → Result Left RunRefusal
compiled_meaning compiled state task reading =
    made_of compiled.names compiled.layouts (λ kernel. after_code compiled.layouts state (slice_get compiled.kernels kernel)) state task reading
