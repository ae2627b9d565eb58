-- Which statement a fault of admission is at.
use Rattle.std.specs.Prelude.{◌≡◌, ℕ, length, Some, Ok, Err, slice_get}
use Rattle.sg_ast.specs.declared.kernel.KernelDecl.{KernelDecl}
use Rattle.sg_ast.specs.declared.program.Program.{Program}
use Rattle.sg_names.specs.Tables.{Tables}
use Rattle.sg_types.specs.declared.typed.Typed.{Typed}
use Rattle.sg_types.specs.declared.typed.TypedKernel.{TypedKernel}
use Rattle.sg_types.specs.Programs.{typed_program}
use Rattle.sg_admit.specs.declared.admitted.AdmitFault.TheVariants.{Rule}
use Rattle.sg_admit.specs.Lines.{Line, kernel_lines}
use Rattle.sg_admit.specs.Rules.{facts_of, kept_by}
use Rattle.sg_admit.specs.Admission.{admission}
use Rattle.sg_admit.specs.Laws.{IsSmallestBroken}
use Rattle.sg_explain.specs.KernelParts.{part_tokens}
use Rattle.sg_explain.specs.KernelItems.{kernel_decls}

-- A fault is at a statement: the declared kernel of its number has a part for each line of the typed kernel, the line of the fault's number is
-- that of the part of this number, and the rule is the smallest that this line breaks.
pub record IsAtItsLine (program : Program) (number : ℕ) (kernel : TypedKernel) (stmt rule : ℕ) : Type 0 where
  pub decl : KernelDecl
  pub line : Line
  pub of_kernel : slice_get (kernel_decls program.items) number ≡ Some decl
  pub parts : length (part_tokens decl) ≡ length (kernel_lines kernel)
  pub is : slice_get (kernel_lines kernel) stmt ≡ Some line
  pub numbered : line.number ≡ stmt
  pub broken : IsSmallestBroken (kept_by (facts_of kernel) line) rule

-- every fault of admission that is one of a rule is
abbrev pub AdmitFaultsAreAtLines : Type 0
AdmitFaultsAreAtLines = (tables : Tables) (program : Program) (typed : Typed) (number : ℕ) (kernel : TypedKernel) (stmt rule : ℕ)
    → typed_program tables program ≡ Ok typed → slice_get typed.kernels number ≡ Some kernel → admission kernel ≡ Err (Rule stmt rule)
    → IsAtItsLine program number kernel stmt rule
