-- The laws of names: which programs have tables, and what is in them.
use Rattle.std.specs.Prelude.{◌≡◌, ◌↔◌, ℕ, ◌<◌, suc, false, List, ◌++◌, map, fold, sum_by, take, length, flat_map, filter_map, slice_get, Option, Some, None, Ok, Err}
use Rattle.sg_ast.specs.declared.token.Name.{Name}
use Rattle.sg_ast.specs.declared.layout.FieldDecl.{FieldDecl}
use Rattle.sg_ast.specs.declared.layout.LayoutDecl.{LayoutDecl}
use Rattle.sg_ast.specs.declared.kernel.KernelDecl.{KernelDecl}
use Rattle.sg_ast.specs.declared.program.ConstDecl.{ConstDecl}
use Rattle.sg_ast.specs.declared.program.Item.{Item}
use Rattle.sg_ast.specs.declared.program.Item.TheVariants as item
use Rattle.sg_ast.specs.declared.program.Program.{Program}
use Rattle.sg_names.specs.declared.fault.NameFault.{NameFault}
use Rattle.sg_names.specs.declared.tables.Constant.{Constant}
use Rattle.sg_names.specs.declared.tables.FieldAt.{FieldAt}
use Rattle.sg_names.specs.declared.tables.NamedField.{NamedField}
use Rattle.sg_names.specs.Tables.{Tables, no_tables, constant_named, constant_number_of, layout_named, field_named, kernel_named, layout_name_of, field_name_of, kernel_name_of}
use Rattle.sg_names.specs.Declares.{commands_in, constant_of, declare}
use Rattle.sg_names.specs.Names.{has_repeat, fault_in, tables_of}

-- what the items before a place declare, one after the other; places are counted from 0
abbrev pub tables_before : List Item → ℕ → Tables
tables_before items place = fold declare no_tables (take place items)

-- how many commands the items before a place have
abbrev pub commands_before : List Item → ℕ → ℕ
commands_before items place = sum_by commands_in (take place items)

-- what is wrong with the item at a place, as seen from the items before it
abbrev pub item_fault : List Item → ℕ → Item → Option NameFault
item_fault items place item = fault_in (tables_before items place) (commands_before items place) (suc place) item

-- no item has a fault
abbrev pub NoFault : List Item → Type 0
NoFault items = (place : ℕ) (item : Item) → slice_get items place ≡ Some item → item_fault items place item ≡ None

-- no item before this place has one
abbrev pub NoFaultBefore : List Item → ℕ → Type 0
NoFaultBefore items end =
    (place : ℕ) (item : Item) → place < end → slice_get items place ≡ Some item → item_fault items place item ≡ None

-- a program has tables exactly when none of its items has a fault, and they are what its items declare, one after
-- the other
abbrev pub AcceptedIsFaultless : Program → Type 0
AcceptedIsFaultless program =
    (tables : Tables) →
    (tables_of program ≡ Ok tables) ↔ (NoFault program.items × (tables ≡ fold declare no_tables program.items))

-- the item at this place has the fault, and none before it has one
pub record IsFirstItemFault (items : List Item) (fault : NameFault) (place : ℕ) (item : Item) : Type 0 where
  pub there : slice_get items place ≡ Some item
  pub before : NoFaultBefore items place
  pub has : item_fault items place item ≡ Some fault

-- a program is refused with a fault exactly when that is the fault of its first item that has one
abbrev pub RefusedIsFirst : Program → Type 0
RefusedIsFirst program =
    (fault : NameFault) →
    (tables_of program ≡ Err fault) ↔ ((place : ℕ) × (item : Item) × IsFirstItemFault program.items fault place item)

-- the constant that an item declares
abbrev pub as_const : Item → Option ConstDecl
as_const (item.Const decl) = Some decl
as_const (item.Layout decl) = None
as_const (item.Kernel decl) = None
as_const (item.Command command) = None

-- the layout that an item declares
abbrev pub as_layout : Item → Option LayoutDecl
as_layout (item.Const decl) = None
as_layout (item.Layout decl) = Some decl
as_layout (item.Kernel decl) = None
as_layout (item.Command command) = None

-- the kernel that an item declares
abbrev pub as_kernel : Item → Option KernelDecl
as_kernel (item.Const decl) = None
as_kernel (item.Layout decl) = None
as_kernel (item.Kernel decl) = Some decl
as_kernel (item.Command command) = None

-- the constants that items declare, in order
abbrev pub const_decls : List Item → List ConstDecl
const_decls = filter_map as_const

-- the layouts that items declare
abbrev pub layout_decls : List Item → List LayoutDecl
layout_decls = filter_map as_layout

-- the kernels that items declare
abbrev pub kernel_decls : List Item → List KernelDecl
kernel_decls = filter_map as_kernel

-- the constants of the tables are those declared, in order, each with its name and what it stands for
abbrev pub ConstantsAreDeclared : Program → Type 0
ConstantsAreDeclared program =
    (tables : Tables) → tables_of program ≡ Ok tables →
    tables.constants
    ≡ map (λ decl. record { name = decl.name; constant = constant_of decl }) (const_decls program.items)

-- the layouts are those declared, in order, each with its name and the number of its axes
abbrev pub LayoutsAreDeclared : Program → Type 0
LayoutsAreDeclared program =
    (tables : Tables) → tables_of program ≡ Ok tables →
    tables.layouts ≡ map (λ decl. record { name = decl.name; axes = length decl.axes }) (layout_decls program.items)

-- the kernels are those declared, in order
abbrev pub KernelsAreDeclared : Program → Type 0
KernelsAreDeclared program =
    (tables : Tables) → tables_of program ≡ Ok tables →
    tables.kernels ≡ map (λ decl. decl.name) (kernel_decls program.items)

-- the names of the fields are those declared: those of the first layout in order, then those of the second, and so on
abbrev pub FieldsAreDeclared : Program → Type 0
FieldsAreDeclared program =
    (tables : Tables) → tables_of program ≡ Ok tables →
    map (λ named. named.name) tables.fields
    ≡ flat_map (λ decl. map (λ field. field.name) decl.fields) (layout_decls program.items)

-- the field with this number is that of its place in the layout of its number, among these declarations
pub record IsPlaced (decls : List LayoutDecl) (number : ℕ) (named : NamedField) (decl : LayoutDecl) (field : FieldDecl)
    : Type 0 where
  pub number_is : named.at.number ≡ number
  pub layout_is : slice_get decls named.at.layout ≡ Some decl
  pub place_is : slice_get decl.fields named.at.place ≡ Some field
  pub name_is : named.name ≡ field.name
  pub type_is : named.at.ty ≡ field.ty

-- a field's number is its place among the fields, and it is what was declared at its place in its layout
abbrev pub FieldsArePlaced : Program → Type 0
FieldsArePlaced program =
    (tables : Tables) → tables_of program ≡ Ok tables →
    (number : ℕ) (named : NamedField) → slice_get tables.fields number ≡ Some named →
    (decl : LayoutDecl) × (field : FieldDecl) × IsPlaced (layout_decls program.items) number named decl field

-- all names of the tables: of constants, layouts, fields and kernels
abbrev pub all_names : Tables → List Name
all_names tables =
    map (λ named. named.name) tables.constants
    ++ (map (λ named. named.name) tables.layouts ++ (map (λ named. named.name) tables.fields ++ tables.kernels))

-- no name stands twice in the tables of a program, whatever it stands for
abbrev pub NamesAreDistinct : Program → Type 0
NamesAreDistinct program = (tables : Tables) → tables_of program ≡ Ok tables → has_repeat (all_names tables) ≡ false

-- so each name that is there stands at one place
abbrev pub NamesStandOnce : Program → Type 0
NamesStandOnce program =
    (tables : Tables) → tables_of program ≡ Ok tables → (name : Name) (place other : ℕ) →
    slice_get (all_names tables) place ≡ Some name → slice_get (all_names tables) other ≡ Some name → place ≡ other

-- a name stands for a constant exactly when the constant has this name
abbrev pub ConstantsAreFound : Program → Type 0
ConstantsAreFound program =
    (tables : Tables) → tables_of program ≡ Ok tables → (name : Name) (constant : Constant) →
    (constant_named tables name ≡ Some constant)
    ↔ ((number : ℕ) × (constant_number_of tables name ≡ Some number)
    × (slice_get tables.constants number ≡ Some (record { name = name; constant = constant })))

-- a name has a constant's number exactly when the constant of this number has the name
abbrev pub ConstantsAreNumbered : Program → Type 0
ConstantsAreNumbered program =
    (tables : Tables) → tables_of program ≡ Ok tables → (name : Name) (number : ℕ) →
    (constant_number_of tables name ≡ Some number)
    ↔ ((constant : Constant) × (slice_get tables.constants number ≡ Some (record { name = name; constant = constant })))

-- a name has a layout's number exactly when the number has the name
abbrev pub LayoutsAreFound : Program → Type 0
LayoutsAreFound program =
    (tables : Tables) → tables_of program ≡ Ok tables → (name : Name) (number : ℕ) →
    (layout_named tables name ≡ Some number) ↔ (layout_name_of tables number ≡ Some name)

-- a name is that of a field exactly when the field of its number has the name
abbrev pub FieldsAreFound : Program → Type 0
FieldsAreFound program =
    (tables : Tables) → tables_of program ≡ Ok tables → (name : Name) (at : FieldAt) →
    (field_named tables name ≡ Some at) ↔ (slice_get tables.fields at.number ≡ Some (record { name = name; at = at }))

-- a number has a field's name exactly when the name is that of the field of this number
abbrev pub FieldsAreNumbered : Program → Type 0
FieldsAreNumbered program =
    (tables : Tables) → tables_of program ≡ Ok tables → (name : Name) (number : ℕ) →
    (field_name_of tables number ≡ Some name)
    ↔ ((at : FieldAt) × (field_named tables name ≡ Some at) × (at.number ≡ number))

-- a name has a kernel's number exactly when the number has the name
abbrev pub KernelsAreFound : Program → Type 0
KernelsAreFound program =
    (tables : Tables) → tables_of program ≡ Ok tables → (name : Name) (number : ℕ) →
    (kernel_named tables name ≡ Some number) ↔ (kernel_name_of tables number ≡ Some name)
