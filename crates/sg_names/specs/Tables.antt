-- The tables of names that a program declares, and what is looked up in them.
use Rattle.std.specs.Prelude.{ℕ, Bool, ◌||◌, List, [], Option, option_map, is_some, find, position, slice_get}
use Rattle.sg_ast.specs.declared.token.Name.{Name}
use Rattle.sg_ast.specs.Token.{same_name}
use Rattle.sg_names.specs.declared.tables.Constant.{Constant}
use Rattle.sg_names.specs.declared.tables.FieldAt.{FieldAt}
use Rattle.sg_names.specs.declared.tables.NamedConstant.{NamedConstant}
use Rattle.sg_names.specs.declared.tables.NamedLayout.{NamedLayout}
use Rattle.sg_names.specs.declared.tables.NamedField.{NamedField}

-- what a program declares, in order of declaration: constants with their words, layouts with the numbers of their axes,
-- fields with their places, and kernels
pub record Tables : Type 0 where
  pub constants : List NamedConstant
  pub layouts : List NamedLayout
  pub fields : List NamedField
  pub kernels : List Name

-- no names
abbrev pub no_tables : Tables
no_tables = record { constants = []; layouts = []; fields = []; kernels = [] }

-- What a name stands for. Numbers are places in order of declaration, from 0.

-- the constant of a name
abbrev pub constant_named : Tables → Name → Option Constant
constant_named tables name = option_map (λ named. named.constant) (find (λ named. same_name name named.name) tables.constants)

-- the number of the layout of a name
abbrev pub layout_named : Tables → Name → Option ℕ
layout_named tables name = position (λ named. same_name name named.name) tables.layouts

-- where the field of a name is
abbrev pub field_named : Tables → Name → Option FieldAt
field_named tables name = option_map (λ named. named.at) (find (λ named. same_name name named.name) tables.fields)

-- the number of the kernel of a name
abbrev pub kernel_named : Tables → Name → Option ℕ
kernel_named tables name = position (same_name name) tables.kernels

-- the place of a constant among the constants
abbrev pub constant_number_of : Tables → Name → Option ℕ
constant_number_of tables name = position (λ named. same_name name named.name) tables.constants

-- the name of the layout with a number
abbrev pub layout_name_of : Tables → ℕ → Option Name
layout_name_of tables number = option_map (λ named. named.name) (slice_get tables.layouts number)

-- the name of the field with a number
abbrev pub field_name_of : Tables → ℕ → Option Name
field_name_of tables number = option_map (λ named. named.name) (slice_get tables.fields number)

-- the name of the kernel with a number
abbrev pub kernel_name_of : Tables → ℕ → Option Name
kernel_name_of tables number = slice_get tables.kernels number

-- how many axes the layout with a number has
abbrev pub axes_of : Tables → ℕ → Option ℕ
axes_of tables number = option_map (λ named. named.axes) (slice_get tables.layouts number)

-- a name is declared, as whatever
abbrev pub is_known : Tables → Name → Bool
is_known tables name =
    is_some (constant_named tables name) || (is_some (layout_named tables name) || (is_some (field_named tables name) || is_some (kernel_named tables name)))
