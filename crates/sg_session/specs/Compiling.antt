-- What a file is compiled to, or why it is refused before any of its commands runs: the first cause in the one order.
use Rattle.std.specs.Prelude.{◌≡◌, ℕ, suc, nat_le, if◌then◌else◌, List, [], ◌∷◌, map, Result, Ok, Err}
use Rattle.std.specs.Result.{IsOkAnd}
use Rattle.sg_words.specs.declared.memory.Stop.{Stop}
use Rattle.sg_words.specs.declared.memory.Stop.TheVariants as stop
use Rattle.sg_words.specs.Results.{◌>>=◌, fault_or, fault_as}
use Rattle.sg_ast.specs.declared.program.Program.{Program}
use Rattle.sg_lexer.specs.Lexing.{tokens}
use Rattle.sg_parser.specs.Parsed.{program_of}
use Rattle.sg_layout.specs.declared.shape.Shape.{Shape}
use Rattle.sg_layout.specs.Rules.{checked_shape}
use Rattle.sg_layout.specs.StorageWords.{total_words}
use Rattle.sg_layout.specs.Limits.{most_words}
use Rattle.sg_names.specs.Tables.{Tables}
use Rattle.sg_names.specs.Names.{tables_of}
use Rattle.sg_types.specs.declared.typed.TypedKernel.{TypedKernel}
use Rattle.sg_types.specs.Laws.{declared_shapes}
use Rattle.sg_types.specs.Programs.{typed_program}
use Rattle.sg_admit.specs.declared.admitted.Admitted.{Admitted}
use Rattle.sg_admit.specs.Admission.{admission}
use Rattle.sg_admit.specs.Neutral.{is_neutral_kernel}
use Rattle.sg_session.specs.declared.refusal.Refusal.{Refusal}
use Rattle.sg_session.specs.declared.refusal.Refusal.TheVariants as refusal
use Rattle.sg_session.specs.CommandRules.{commands_refusal}
use Rattle.sg_session.specs.Tasks.{stages_of}
use Rattle.sg_session.specs.Compiled.{CheckedProgram, CompiledProgram, Compiles}

-- the program that bytes spell
unfoldable pub spelled_program : List ℕ → Result Program Refusal
spelled_program bytes = do
  found ← fault_as refusal.Lex (tokens bytes)
  fault_as refusal.Parse (program_of found.list)

-- layouts with these shapes, in order, or the fault of the first that has one; the first has the given number
abbrev pub checked_layouts : ℕ → List Shape → Result (List Shape) Refusal
checked_layouts number [] = Ok []
checked_layouts number (shape ∷ shapes) = do
  layout ← fault_as (refusal.Layout number) (checked_shape shape)
  layouts ← checked_layouts (suc number) shapes
  Ok (layout ∷ layouts)

-- the layouts, where they have no more storage words than there may be
abbrev pub few_words : List Shape → Result (List Shape) Refusal
few_words layouts = if nat_le (total_words layouts) most_words then Ok layouts else Err refusal.Words

-- the layouts of a program
unfoldable pub layouts_of : Tables → Program → Result (List Shape) Refusal
layouts_of names program = checked_layouts 0 (declared_shapes names program) >>= few_words

-- kernels with what is known of them, in order, or the fault of the first that isn't admitted; the first has the given number
abbrev pub admitted_kernels : ℕ → List TypedKernel → Result (List Admitted) Refusal
admitted_kernels number [] = Ok []
admitted_kernels number (kernel ∷ kernels) = do
  admitted ← fault_as (refusal.Admit number) (admission kernel)
  more ← admitted_kernels (suc number) kernels
  Ok (admitted ∷ more)

-- the kernels of a program: types, then admission
unfoldable pub kernels_of : Tables → Program → Result (List Admitted) Refusal
kernels_of names program = do
  typed ← fault_as refusal.Types (typed_program names program)
  admitted_kernels 0 typed.kernels

-- a program with these names, layouts and kernels
abbrev pub compiled_parts : Tables → List Shape → List Admitted → Program → CheckedProgram
compiled_parts names layouts kernels program = record {
  names = names;
  layouts = layouts;
  kernels = kernels;
  neutral = map (λ kernel. is_neutral_kernel kernel.kernel) kernels;
  commands = stages_of names program.items;
}

-- a program with these names: layouts, then kernels, then commands
unfoldable pub compiled_with : Tables → Program → Result CheckedProgram Refusal
compiled_with names program = do
  layouts ← layouts_of names program
  kernels ← kernels_of names program
  fault_or (commands_refusal names layouts 1 program.items) (Ok (compiled_parts names layouts kernels program))

-- a program: names, then the rest
unfoldable pub compiled_tree : Program → Result CheckedProgram Refusal
compiled_tree program = do
  names ← fault_as refusal.Name (tables_of program)
  compiled_with names program

-- the bytes of a file
unfoldable pub compiled_program : List ℕ → Result CheckedProgram Refusal
compiled_program bytes = spelled_program bytes >>= compiled_tree

-- what compiling answered is what is defined: with Ok what the defined program is compiled to; a refusal is the defined one; running out of memory is free
abbrev pub CompilesAs : {A : Type 0} → (A → CompiledProgram) → Result A (Stop Refusal) → Result CheckedProgram Refusal → Type 0
CompilesAs view (Ok value) meaning = IsOkAnd meaning (λ program. Compiles program (view value))
CompilesAs view (Err stop.Memory) meaning = Unit {0}
CompilesAs view (Err (stop.Refused refusal)) meaning = meaning ≡ Err refusal
