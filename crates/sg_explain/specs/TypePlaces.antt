-- Which statement a fault of types is at.
use Rattle.std.specs.Prelude.{◌≡◌, List, ◌∷◌, map, Some, Err, slice_get}
use Rattle.sg_ast.specs.declared.stmt.Stmt.{Stmt, out-Stmt}
use Rattle.sg_ast.specs.declared.stmt.Stmt.TheOpen as s
use Rattle.sg_ast.specs.declared.stmt.Stmt.TheOpen.{Stmt-F}
use Rattle.sg_ast.specs.declared.kernel.KernelDecl.{KernelDecl}
use Rattle.sg_ast.specs.declared.program.Program.{Program}
use Rattle.sg_names.specs.Tables.{Tables}
use Rattle.sg_types.specs.declared.fault.TypeFault.{TypeFault}
use Rattle.sg_types.specs.Programs.{typed_program}
use Rattle.sg_types.specs.TypingLines.{Head, Opens, Lets, Assigns, Writes, Tests, Turns, Line, code_of}
use Rattle.sg_explain.specs.Statements.{statements_of}
use Rattle.sg_explain.specs.KernelItems.{kernel_decls}

-- one layer of a statement without what is in its blocks
abbrev pub head_step : {A : Type 0} → Stmt-F A → Head
head_step (s.Let name value) = Lets name value
head_step (s.Assign name value) = Assigns name value
head_step (s.Write field index how value) = Writes field index value
head_step (s.If condition block otherwise) = Tests condition
head_step (s.For name range body) = Turns name range

-- a statement without those in its blocks
abbrev pub head_of : Stmt → Head
head_of statement = head_step (out-Stmt statement)

-- a kernel's loop, which is statement 0, and then its statements, each without those in its blocks
abbrev pub heads_of : KernelDecl → List Head
heads_of kernel = Opens kernel.vars kernel.domain ∷ map head_of (statements_of kernel.body)

-- A fault is at a statement: of the kernel of its number the statement of its number, and its code is the first that applies to that
-- statement where it stands.
pub record IsAtItsStatement (program : Program) (fault : TypeFault) : Type 0 where
  pub decl : KernelDecl
  pub line : Line
  pub kernel : slice_get (kernel_decls program.items) fault.kernel ≡ Some decl
  pub head : slice_get (heads_of decl) fault.stmt ≡ Some line.head
  pub code : code_of line ≡ Some fault.code

-- every fault of types is
abbrev pub TypeFaultsAreAtStatements : Type 0
TypeFaultsAreAtStatements = (tables : Tables) (program : Program) (fault : TypeFault) → typed_program tables program ≡ Err fault → IsAtItsStatement program fault
