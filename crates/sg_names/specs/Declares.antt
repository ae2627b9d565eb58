-- What an item declares: names, and what they stand for.
use Rattle.std.specs.Prelude.{ℕ, ◌+◌, suc, if◌then◌else◌, List, [], ◌∷◌, ◌++◌, map, length, sum}
use Rattle.sg_words.specs.declared.operators.Ty.TheVariants as ty
use Rattle.sg_words.specs.declared.operators.UnOp.TheVariants as un
use Rattle.sg_words.specs.Words.{applied_un}
use Rattle.sg_ast.specs.declared.token.Name.{Name}
use Rattle.sg_ast.specs.declared.layout.FieldDecl.{FieldDecl}
use Rattle.sg_ast.specs.declared.command.Command.{Command, fold-Command}
use Rattle.sg_ast.specs.declared.command.Command.TheOpen as c
use Rattle.sg_ast.specs.declared.command.Command.TheOpen.{Command-F}
use Rattle.sg_ast.specs.declared.program.ConstDecl.{ConstDecl}
use Rattle.sg_ast.specs.declared.program.Item.{Item}
use Rattle.sg_ast.specs.declared.program.Item.TheVariants as item
use Rattle.sg_names.specs.declared.tables.Constant.{Constant}
use Rattle.sg_names.specs.declared.tables.NamedField.{NamedField}
use Rattle.sg_names.specs.Tables.{Tables}

-- the names that an item declares: a constant, a layout and its fields, a kernel
abbrev pub declared_names : Item → List Name
declared_names (item.Const decl) = decl.name ∷ []
declared_names (item.Layout decl) = decl.name ∷ map (λ field. field.name) decl.fields
declared_names (item.Kernel decl) = decl.name ∷ []
declared_names (item.Command command) = []

-- the list of axes that an item has: that of a layout
abbrev pub axes_declared : Item → List Name
axes_declared (item.Const decl) = []
axes_declared (item.Layout decl) = decl.axes
axes_declared (item.Kernel decl) = []
axes_declared (item.Command command) = []

-- one layer of a command, where the numbers of commands in those inside are given
abbrev pub commands_step : Command-F ℕ → ℕ
commands_step (c.Load field) = 1
commands_step (c.Run kernel) = 1
commands_step (c.Times number body) = 1 + sum body
commands_step (c.Dump field) = 1
commands_step (c.Image field lo hi) = 1
commands_step (c.Stats layout) = 1
commands_step (c.Prune layout) = 1
commands_step (c.Clear layout) = 1

-- how many commands a command is: itself, and those inside a `times`
abbrev pub command_count : Command → ℕ
command_count = fold-Command ℕ commands_step

-- how many commands an item has
abbrev pub commands_in : Item → ℕ
commands_in (item.Const decl) = 0
commands_in (item.Layout decl) = 0
commands_in (item.Kernel decl) = 0
commands_in (item.Command command) = command_count command

-- what a constant stands for: the word of its number, with a minus negated, as U32 where the number has a `u`, else as I32
abbrev pub constant_of : ConstDecl → Constant
constant_of decl = record {
  word = if decl.minus then applied_un un.Neg decl.value else decl.value;
  ty = if decl.unsigned then ty.U32 else ty.I32;
}

-- fields of the layout with a number, where the first has the given number over the whole program and the given place
abbrev pub fields_from : ℕ → ℕ → ℕ → List FieldDecl → List NamedField
fields_from layout number place [] = []
fields_from layout number place (field ∷ fields) =
    record { name = field.name; at = record { number = number; layout = layout; place = place; ty = field.ty } }
    ∷ fields_from layout (suc number) (suc place) fields

-- the tables of the items before an item, with what the item declares
abbrev pub declare : Tables → Item → Tables
declare tables (item.Const decl) =
    record tables { constants = tables.constants ++ record { name = decl.name; constant = constant_of decl } ∷ [] }
declare tables (item.Layout decl) = record tables {
  layouts = tables.layouts ++ record { name = decl.name; axes = length decl.axes } ∷ [];
  fields = tables.fields ++ fields_from (length tables.layouts) (length tables.fields) 0 decl.fields;
}
declare tables (item.Kernel decl) = record tables { kernels = tables.kernels ++ decl.name ∷ [] }
declare tables (item.Command command) = tables
