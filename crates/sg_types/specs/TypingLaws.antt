-- Which programs typing takes, and with which fault it refuses the others.
use Rattle.std.specs.Prelude.{◌≡◌, ◌↔◌, ℕ, suc, true, List, [], ◌∷◌, ◌++◌, map, length, Some, None, Ok, Err, is_none}
use Rattle.std.specs.List.{list_all, AllByRecursion}
use Rattle.sg_words.specs.declared.operators.Ty.{Ty}
use Rattle.sg_ast.specs.declared.expr.Expr.{Expr}
use Rattle.sg_ast.specs.declared.kernel.KernelDecl.{KernelDecl}
use Rattle.sg_ast.specs.declared.program.Item.{Item}
use Rattle.sg_ast.specs.declared.program.Item.TheVariants as item
use Rattle.sg_ast.specs.declared.program.Program.{Program}
use Rattle.sg_names.specs.Tables.{Tables}
use Rattle.sg_types.specs.declared.fault.TypeFault.{TypeFault}
use Rattle.sg_types.specs.declared.typed.Typed.{Typed}
use Rattle.sg_types.specs.declared.typed.TypedKernel.{TypedKernel}
use Rattle.sg_types.specs.Scopes.{Known}
use Rattle.sg_types.specs.Programs.{typed_program}
use Rattle.sg_types.specs.NamesBack.{marked_kernel, variable_names, named_kernel}
use Rattle.sg_types.specs.HasType.{Context, has_type}
use Rattle.sg_types.specs.TypingLines.{Line, program_lines, is_good_line, code_of}

-- a line to which no code applies
abbrev pub HasNoCode : Line → Type 0
HasNoCode line = code_of line ≡ None

-- a line is well typed exactly where no code applies to it
abbrev pub GoodHasNoCode : Type 0
GoodHasNoCode = (line : Line) → is_good_line line ≡ is_none (code_of line)

-- in these lines the one with this number, counted from 0, is the first to which a code applies, and this is the first of its codes
pub record IsFirstCode (lines : List Line) (stmt code : ℕ) : Type 0 where
  pub front : List Line
  pub line : Line
  pub back : List Line
  pub split : lines ≡ front ++ line ∷ back
  pub good : AllByRecursion HasNoCode front
  pub number : stmt ≡ length front
  pub applies : code_of line ≡ Some code

-- of these kernels, each by its lines, the one with the fault's number is the first that has a line to which a code applies
pub record IsFirstTypeFault (kernels : List (List Line)) (fault : TypeFault) : Type 0 where
  pub before : List (List Line)
  pub lines : List Line
  pub after : List (List Line)
  pub split : kernels ≡ before ++ lines ∷ after
  pub good : AllByRecursion (AllByRecursion HasNoCode) before
  pub kernel : fault.kernel ≡ length before
  pub first : IsFirstCode lines fault.stmt fault.code

-- a program is typed exactly where each line of each of its kernels is well typed
abbrev pub TypedIsGood : Tables → Program → Type 0
TypedIsGood tables program =
    ((typed : Typed) × (typed_program tables program ≡ Ok typed)) ↔ (list_all (list_all is_good_line) (program_lines tables program) ≡ true)

-- a program is refused with a fault exactly where that is its first: the first kernel, in it the first statement, in it the first of
-- the codes 4, 5, 3, 2 and 1
abbrev pub RefusedIsFirst : Tables → Program → Type 0
RefusedIsFirst tables program = (fault : TypeFault) → (typed_program tables program ≡ Err fault) ↔ IsFirstTypeFault (program_lines tables program) fault

-- ---- the typed tree

-- a declared kernel, with what is known before its loop
pub record Declared : Type 0 where
  pub known : Known
  pub decl : KernelDecl

-- the kernels that items declare, where the number of the next kernel and of the constants so far are given
abbrev pub declared_in : Tables → ℕ → ℕ → List Item → List Declared
declared_in tables kernels constants [] = []
declared_in tables kernels constants (item.Const decl ∷ items) = declared_in tables kernels (suc constants) items
declared_in tables kernels constants (item.Layout decl ∷ items) = declared_in tables kernels constants items
declared_in tables kernels constants (item.Kernel decl ∷ items) =
    record { known = record { kernel = kernels; tables = tables; constants = constants }; decl = decl } ∷ declared_in tables (suc kernels) constants items
declared_in tables kernels constants (item.Command command ∷ items) = declared_in tables kernels constants items

-- typed kernels with the names of the declared ones put back
abbrev pub names_back : List Declared → List TypedKernel → List KernelDecl
names_back [] kernels = []
names_back (it ∷ more) [] = []
names_back (it ∷ more) (kernel ∷ kernels) = named_kernel it.decl.name (variable_names it.decl) kernel ∷ names_back more kernels

-- the typed kernels of a program are, with their names put back, the declared ones, where names of constants, fields and layouts are
-- replaced by what they stand for
abbrev pub TypedIsDeclared : Tables → Program → Type 0
TypedIsDeclared tables program = (typed : Typed) → typed_program tables program ≡ Ok typed
    → names_back (declared_in tables 0 0 program.items) typed.kernels ≡ map (λ it. marked_kernel it.known it.decl) (declared_in tables 0 0 program.items)

-- ---- types

-- an expression has at most one type
abbrev pub HasOneType : Type 0
HasOneType = (at : Context) (expr : Expr) (given other : Ty) → has_type at expr given ≡ true → has_type at expr other ≡ true → given ≡ other
