-- What a plain name stands for: a local or a variable of a loop, or an earlier constant.
use Rattle.std.specs.Prelude.{ℕ, Bool, ◌||◌, List, take, find, is_some, Option, Some, None, option_map}
use Rattle.sg_ast.specs.declared.token.Name.{Name}
use Rattle.sg_names.specs.declared.tables.Constant.{Constant}
use Rattle.sg_ast.specs.Token.{same_name}
use Rattle.sg_names.specs.Tables.{Tables, constant_named}
use Rattle.sg_types.specs.declared.scope.Local.{Local}
use Rattle.sg_types.specs.declared.typed.TypedExpr.{TypedExpr}
use Rattle.sg_types.specs.declared.typed.Form.TheVariants as form

-- what is known in a kernel before its loop: its number, the tables of the program, and how many constants earlier items declare
pub record Known : Type 0 where
  pub kernel : ℕ
  pub tables : Tables
  pub constants : ℕ

-- a name in scope, with what it stands for: a local, or a variable of a loop round it
pub record NamedLocal : Type 0 where
  pub name : Name
  pub local : Local

-- the constant of a name, where an earlier item declares it
abbrev pub earlier_constant : Known → Name → Option Constant
earlier_constant known name = constant_named (record known.tables { constants = take known.constants known.tables.constants }) name

-- the local or variable of a name
abbrev pub local_named : List NamedLocal → Name → Option Local
local_named scope name = option_map (λ named. named.local) (find (λ named. same_name name named.name) scope)

-- the name is in scope, in one of the three ways
abbrev pub is_taken : Known → List NamedLocal → Name → Bool
is_taken known scope name = is_some (local_named scope name) || is_some (earlier_constant known name)

-- a constant as an expression
abbrev pub constant_expr : Option Constant → Option TypedExpr
constant_expr None = None
constant_expr (Some constant) = Some (record { ty = constant.ty; form = form.Constant constant.word })

-- what a plain name stands for, as an expression
abbrev pub local_or_constant : Option Local → Option Constant → Option TypedExpr
local_or_constant (Some local) constant = Some (record { ty = local.ty; form = form.Var local.var })
local_or_constant None constant = constant_expr constant

-- what a plain name stands for, as an expression: first as a local, then as a constant
abbrev pub name_expr : Known → List NamedLocal → Name → Option TypedExpr
name_expr known scope name = local_or_constant (local_named scope name) (earlier_constant known name)
