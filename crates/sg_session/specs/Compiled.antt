-- What a program is compiled to, and what every compiled program keeps.
use Rattle.std.specs.Prelude.{◌≡◌, ℕ, ◌≤◌, ◌<◌, ◌^◌, ℤ, pos, neg_ℤ, ◌≤ℤ◌, ◌<ℤ◌, Bool, true, false, List, [], ◌∷◌, length, Option, Some, option_map, slice_get}
use Rattle.std.specs.List.{AllByRecursion, AllZip, flat_map, repeat}
use Rattle.sg_layout.specs.declared.shape.Shape.{Shape}
use Rattle.sg_layout.specs.StorageWords.{total_words}
use Rattle.sg_layout.specs.Limits.{most_words}
use Rattle.sg_names.specs.declared.tables.FieldAt.{FieldAt}
use Rattle.sg_names.specs.Tables.{Tables}
use Rattle.sg_flat.specs.declared.state.FlatState.{FlatState}
use Rattle.sg_flat.specs.State.{IsFlat}
use Rattle.sg_flat.specs.declared.effects.Domain.{Domain}
use Rattle.sg_types.specs.WellTyped.{field_in}
use Rattle.sg_types.specs.Values.{World}
use Rattle.sg_types.specs.Iterations.{kernel_effects}
use Rattle.sg_admit.specs.declared.admitted.Admitted.{Admitted}
use Rattle.sg_ir.specs.declared.code.Code.{Code}
use Rattle.sg_ir.specs.declared.code.KernelCode.{KernelCode}
use Rattle.sg_ir.specs.Blocks.{block_in}
use Rattle.sg_ir.specs.Shared.{is_shared}
use Rattle.sg_ir.specs.Trimmed.{is_trimmed}
use Rattle.sg_exec.specs.Running.{IsRunnable, code_effects}
use Rattle.sg_session.specs.declared.tasks.Task.{Task}
use Rattle.sg_session.specs.declared.tasks.Task.TheVariants.{Load, Run, Dump, Image, Stats, Prune, Clear}
use Rattle.sg_session.specs.declared.tasks.Stage.{Stage}
use Rattle.sg_session.specs.declared.tasks.Stage.TheVariants.{Once, Times}
use Rattle.sg_session.specs.Limits.{most_times}
use Rattle.sg_session.specs.CommandRules.{has_two_axes, is_large}

-- a file that keeps all rules: its names, the shapes of its layouts, its kernels with what is known of them, for each kernel whether it is
-- neutral, and its commands, all in order of declaration
pub record CheckedProgram : Type 0 where
  pub names : Tables
  pub layouts : List Shape
  pub kernels : List Admitted
  pub neutral : List Bool
  pub commands : List Stage

-- what it is compiled to: the same, with the access code of each kernel in its place
pub record CompiledProgram : Type 0 where
  pub names : Tables
  pub layouts : List Shape
  pub kernels : List KernelCode
  pub neutral : List Bool
  pub commands : List Stage

-- what all iterations of a run see
abbrev pub world_of : List Shape → FlatState → World
world_of shapes state = record { shapes = shapes; state = state }

-- code that is shared and trimmed over a domain: it computes nothing twice in a scope, and has exactly the checks that it needs
pub record IsSharedAndTrimmed (shapes : List Shape) (domain : Domain) (code : Code) : Type 0 where
  pub shared : is_shared (block_in code) ≡ true
  pub trimmed : is_trimmed shapes domain (block_in code) ≡ true

-- Access code that is that of a kernel: it can be run, it goes over the kernel's domain, and over every flat state it has the kernel's effects:
-- in each iteration of the domain, in order, the kernel's writes, those outside included. Its slice and its code are shared and trimmed.
pub record IsCodeOf (shapes : List Shape) (kernel : Admitted) (code : KernelCode) : Type 0 where
  pub runnable : IsRunnable shapes code
  pub domain : code.domain ≡ kernel.domain
  pub effects : (state : FlatState) → IsFlat shapes state → code_effects shapes state code ≡ kernel_effects (world_of shapes state) kernel.kernel
  pub simple_slice : IsSharedAndTrimmed shapes code.domain code.slice
  pub simple_code : IsSharedAndTrimmed shapes code.domain code.code

-- a program is compiled to this: each kernel to its code, one for one and in order, and all else is the same
pub record Compiles (program : CheckedProgram) (compiled : CompiledProgram) : Type 0 where
  pub names : compiled.names ≡ program.names
  pub layouts : compiled.layouts ≡ program.layouts
  pub kernels : AllZip (IsCodeOf program.layouts) program.kernels compiled.kernels
  pub neutral : compiled.neutral ≡ program.neutral
  pub commands : compiled.commands ≡ program.commands

-- where the field of a number is
abbrev pub field_numbered : Tables → ℕ → Option FieldAt
field_numbered names number = option_map (λ named. named.at) (slice_get names.fields number)

-- a field is one of the program: of its number by its names, and of its type by its layout
pub record IsField (compiled : CompiledProgram) (at : FieldAt) : Type 0 where
  pub named : field_numbered compiled.names at.number ≡ Some at
  pub placed : field_in compiled.layouts at.layout at.place ≡ Some at.ty

-- an image is of a field whose layout has 2 axes and not too many points, between bounds that rise and lie between -2^32 and 2^32
pub record IsImageTask (compiled : CompiledProgram) (at : FieldAt) (lo hi : ℤ) : Type 0 where
  pub field : IsField compiled at
  pub plane : has_two_axes (slice_get compiled.layouts at.layout) ≡ true
  pub small : is_large (slice_get compiled.layouts at.layout) ≡ false
  pub rising : lo <ℤ hi
  pub lo_low : neg_ℤ (pos (2 ^ 32)) ≤ℤ lo
  pub hi_high : hi ≤ℤ pos (2 ^ 32)

-- a task names a field, a kernel or a layout of the program, and an image keeps its rules
abbrev pub IsTask : CompiledProgram → Task → Type 0
IsTask compiled (Load field) = IsField compiled field
IsTask compiled (Run kernel) = kernel < length compiled.kernels
IsTask compiled (Dump field) = IsField compiled field
IsTask compiled (Image field lo hi) = IsImageTask compiled field lo hi
IsTask compiled (Stats layout) = layout < length compiled.layouts
IsTask compiled (Prune layout) = layout < length compiled.layouts
IsTask compiled (Clear layout) = layout < length compiled.layouts

-- a command's tasks do, and a `times` has at least one turn, and no more than it may have
abbrev pub IsStage : CompiledProgram → Stage → Type 0
IsStage compiled (Once task) = IsTask compiled task
IsStage compiled (Times number tasks) = (1 ≤ number) × (number ≤ most_times) × AllByRecursion (IsTask compiled) tasks

-- the numbers in names are those of layouts, of their fields, and of kernels
pub record HasNumberedNames (compiled : CompiledProgram) : Type 0 where
  pub layouts : length compiled.names.layouts ≡ length compiled.layouts
  pub kernels : length compiled.names.kernels ≡ length compiled.kernels
  pub fields : (number : ℕ) (at : FieldAt) → field_numbered compiled.names number ≡ Some at → (at.number ≡ number) × IsField compiled at

-- what every compiled program keeps
pub record IsCompiled (compiled : CompiledProgram) : Type 0 where
  pub few_words : total_words compiled.layouts ≤ most_words
  pub numbers : HasNumberedNames compiled
  pub neutral : length compiled.neutral ≡ length compiled.kernels
  pub kernels : AllByRecursion (IsRunnable compiled.layouts) compiled.kernels
  pub commands : AllByRecursion (IsStage compiled) compiled.commands

-- the tasks of a command, one after the other
abbrev pub stage_tasks : Stage → List Task
stage_tasks (Once task) = task ∷ []
stage_tasks (Times number tasks) = repeat number tasks

-- the tasks of all commands, with each `times` unfolded
abbrev pub unfolded_tasks : List Stage → List Task
unfolded_tasks commands = flat_map stage_tasks commands
