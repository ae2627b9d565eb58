-- What typing and effects keep.
use Rattle.std.specs.Prelude.{◌≡◌, ℕ, true, List, map, length, Ok, Some}
use Rattle.std.specs.List.{list_all, range_with_len}
use Rattle.sg_layout.specs.declared.shape.Shape.{Shape}
use Rattle.sg_ast.specs.declared.token.Name.{Name}
use Rattle.sg_ast.specs.declared.program.Program.{Program}
use Rattle.sg_names.specs.declared.tables.FieldAt.{FieldAt}
use Rattle.sg_names.specs.Tables.{Tables, field_named, axes_of}
use Rattle.sg_names.specs.Names.{tables_of}
use Rattle.sg_names.specs.Shapes.{shape_of}
use Rattle.sg_names.specs.Laws.{layout_decls}
use Rattle.sg_types.specs.declared.typed.Typed.{Typed}
use Rattle.sg_types.specs.declared.typed.TypedKernel.{TypedKernel}
use Rattle.sg_coord.specs.declared.coord.Coord.{Coord}
use Rattle.sg_types.specs.TypeTable.{is_numeric}
use Rattle.sg_ast.specs.declared.kernel.KernelDecl.{KernelDecl}
use Rattle.sg_types.specs.Scopes.{Known}
use Rattle.sg_types.specs.Counting.{block_count}
use Rattle.sg_types.specs.Numbers.{kernel_numbers, kernel_vars}
use Rattle.sg_types.specs.NamesBack.{marked_kernel, variable_names, named_kernel}
use Rattle.sg_types.specs.Values.{World}
use Rattle.sg_types.specs.Iterations.{writes_at}
use Rattle.sg_types.specs.Written.{kernel_writes, is_written}
use Rattle.sg_types.specs.Programs.{typed_kernel, typed_program}
use Rattle.sg_types.specs.WellTyped.{field_in, axes_in, is_well_typed_kernel}

-- layouts are those of the tables: they have the tables' fields with their types, and as many axes; and constants are numbers
pub record TablesFit (tables : Tables) (shapes : List Shape) : Type 0 where
  pub fields : (name : Name) (at : FieldAt) → field_named tables name ≡ Some at → field_in shapes at.layout at.place ≡ Some at.ty
  pub axes : (layout n : ℕ) → axes_of tables layout ≡ Some n → axes_in shapes layout ≡ Some n
  pub constants : list_all (λ named. is_numeric named.constant.ty) tables.constants ≡ true

-- the shapes of the layouts that a program declares, in order of declaration, where its tables are given
abbrev pub declared_shapes : Tables → Program → List Shape
declared_shapes tables program = map (shape_of tables) (layout_decls program.items)

-- the declared layouts of a program fit its tables, so that every program has layouts that do
abbrev pub DeclaredLayoutsFit : Type 0
DeclaredLayoutsFit = (program : Program) (tables : Tables) → tables_of program ≡ Ok tables → TablesFit tables (declared_shapes tables program)

-- the kernels of a typed program are well typed over the layouts of its tables
abbrev pub TypedIsWellTyped : Type 0
TypedIsWellTyped = (tables : Tables) (shapes : List Shape) (program : Program) (typed : Typed)
    → TablesFit tables shapes → typed_program tables program ≡ Ok typed → list_all (is_well_typed_kernel shapes) typed.kernels ≡ true

-- Each write of an iteration is one of a statement of the kernel that writes: of its number, to its field, with as many parts as the
-- statement has indices, in its way.
abbrev pub EffectsAreWritten : Type 0
EffectsAreWritten = (world : World) (kernel : TypedKernel) (at : Coord) → list_all (is_written (kernel_writes kernel)) (writes_at world kernel at) ≡ true

-- A typed kernel has as many variables as its declaration has names for them, and with these put back it is the declared kernel: typing
-- loses nothing, and invents nothing.
abbrev pub NamesComeBack : Type 0
NamesComeBack = (known : Known) (decl : KernelDecl) (kernel : TypedKernel) → typed_kernel known decl ≡ Ok kernel
    → (length kernel.types ≡ length (variable_names decl)) × (named_kernel decl.name (variable_names decl) kernel ≡ marked_kernel known decl)

-- The statements of a typed kernel, in the order of their first tokens, have the numbers 1, 2, 3 and so on, up to the number of the
-- statements that are declared.
abbrev pub StatementsAreNumbered : Type 0
StatementsAreNumbered = (known : Known) (decl : KernelDecl) (kernel : TypedKernel) → typed_kernel known decl ≡ Ok kernel
    → kernel_numbers kernel ≡ range_with_len 1 (block_count decl.body)

-- The variables of a typed kernel are numbered from 0 up to the number of their types: first those of its loop, then its locals and
-- the variables of its inner loops in the order of their first tokens. So no two of them share a number.
abbrev pub VariablesAreNumbered : Type 0
VariablesAreNumbered = (known : Known) (decl : KernelDecl) (kernel : TypedKernel) → typed_kernel known decl ≡ Ok kernel
    → kernel_vars kernel ≡ range_with_len 0 (length kernel.types)
