-- The tables of a program, or what is wrong with its names.
use Rattle.std.specs.Prelude.{ℕ, ◌+◌, suc, Bool, true, false, not, ◌||◌, if◌then◌else◌, nat_lt, List, [], ◌∷◌, length, Option, Some, None, option_map, Result, Ok, is_none}
use Rattle.std.specs.List.{list_any}
use Rattle.sg_words.specs.declared.operators.Ty.{Ty}
use Rattle.sg_words.specs.declared.operators.Ty.TheVariants as ty
use Rattle.sg_ast.specs.declared.token.Name.{Name}
use Rattle.sg_ast.specs.declared.program.Item.{Item}
use Rattle.sg_ast.specs.declared.program.Program.{Program}
use Rattle.sg_names.specs.declared.fault.Which.{Which}
use Rattle.sg_names.specs.declared.fault.Which.TheVariants.{Layouts, Fields, Kernels, Commands}
use Rattle.sg_names.specs.declared.fault.NameFault.{NameFault}
use Rattle.sg_names.specs.declared.fault.NameFault.TheVariants.{Unknown, Twice, TooMany}
use Rattle.sg_names.specs.declared.tables.Constant.{Constant}
use Rattle.sg_ast.specs.Token.{same_name}
use Rattle.sg_names.specs.Tables.{Tables, no_tables, constant_named, layout_named, field_named, kernel_named, is_known}
use Rattle.sg_names.specs.Limits.{most_layouts, most_program_fields, most_kernels, most_commands}
use Rattle.sg_words.specs.Results.{fault_or}
use Rattle.sg_names.specs.Uses.{sizes_used, layouts_used, fields_used, kernels_used}
use Rattle.sg_names.specs.Declares.{declared_names, axes_declared, commands_in, declare}

-- the type of a constant that serves as a size: I32
abbrev pub is_size_ty : Ty → Bool
is_size_ty ty.I32 = true
is_size_ty ty.U32 = false
is_size_ty ty.Bool = false

-- a constant is there, and serves as a size
abbrev pub serves_as_size : Option Constant → Bool
serves_as_size None = false
serves_as_size (Some constant) = is_size_ty constant.ty

-- a name is not what a use needs: no constant that serves as a size
abbrev pub is_no_size : Tables → Name → Bool
is_no_size before name = not (serves_as_size (constant_named before name))

-- no layout
abbrev pub is_no_layout : Tables → Name → Bool
is_no_layout before name = is_none (layout_named before name)

-- no field
abbrev pub is_no_field : Tables → Name → Bool
is_no_field before name = is_none (field_named before name)

-- no kernel
abbrev pub is_no_kernel : Tables → Name → Bool
is_no_kernel before name = is_none (kernel_named before name)

-- an item uses a name that the items before it don't declare as what the use needs
abbrev pub uses_unknown : Tables → Item → Bool
uses_unknown before item =
    list_any (is_no_size before) (sizes_used item) || (list_any (is_no_layout before) (layouts_used item)
    || (list_any (is_no_field before) (fields_used item) || list_any (is_no_kernel before) (kernels_used item)))

-- a name stands twice in a list
abbrev pub has_repeat : List Name → Bool
has_repeat [] = false
has_repeat (name ∷ names) = list_any (same_name name) names || has_repeat names

-- an item declares a name that an earlier item declares, or one twice; or an axis stands twice in its list of axes
abbrev pub declares_twice : Tables → Item → Bool
declares_twice before item =
    list_any (is_known before) (declared_names item) || (has_repeat (declared_names item) || has_repeat (axes_declared item))

-- the first of four numbers that passes its limit: of layouts, fields, kernels, commands
abbrev pub first_past : ℕ → ℕ → ℕ → ℕ → Option Which
first_past layouts fields kernels commands =
    if nat_lt most_layouts layouts then Some Layouts
    else (if nat_lt most_program_fields fields then Some Fields
    else (if nat_lt most_kernels kernels then Some Kernels
    else (if nat_lt most_commands commands then Some Commands else None)))

-- what there is too much of
abbrev pub too_many : Tables → ℕ → Option Which
too_many tables commands = first_past (length tables.layouts) (length tables.fields) (length tables.kernels) commands

-- what is wrong with the item of a number, where the tables of the items before it and the number of their commands are given
abbrev pub fault_in : Tables → ℕ → ℕ → Item → Option NameFault
fault_in before commands number item =
    if uses_unknown before item then Some (Unknown number)
    else (if declares_twice before item then Some (Twice number)
    else option_map TooMany (too_many (declare before item) (commands + commands_in item)))

-- the tables of the items of a program, where some items came before: their tables, their number of commands, and the number of the
-- next item are given
abbrev pub tables_from : Tables → ℕ → ℕ → List Item → Result Tables NameFault
tables_from before commands number [] = Ok before
tables_from before commands number (item ∷ items) =
    fault_or (fault_in before commands number item) (tables_from (declare before item) (commands + commands_in item) (suc number) items)

-- the tables of a program, or the fault of its first item that has one
abbrev pub tables_of : Program → Result Tables NameFault
tables_of program = tables_from no_tables 0 1 program.items
