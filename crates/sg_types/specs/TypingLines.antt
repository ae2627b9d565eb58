-- A declared kernel as a list of lines, one for each statement in the order of first tokens, each with the context that it stands in;
-- when a line is well typed; and for each code when it applies, without a word on the other codes.
use Rattle.std.specs.Prelude.{ℕ, suc, Bool, true, false, not, ◌&&◌, ◌||◌, ◌==◌, if◌then◌else◌, List, [], ◌∷◌, ◌++◌, map, fold, length, take, find, is_some, Option, Some, None, option_map}
use Rattle.std.specs.List.{list_all, list_any, flat_map}
use Rattle.sg_words.specs.declared.operators.Ty.{Ty}
use Rattle.sg_words.specs.declared.operators.Ty.TheVariants as ty
use Rattle.sg_ast.specs.declared.token.Name.{Name}
use Rattle.sg_ast.specs.declared.expr.Expr.{Expr}
use Rattle.sg_ast.specs.declared.stmt.RangeDecl.{RangeDecl}
use Rattle.sg_ast.specs.declared.stmt.Stmt.{Stmt, fold-Stmt}
use Rattle.sg_ast.specs.declared.stmt.Stmt.TheOpen as s
use Rattle.sg_ast.specs.declared.stmt.Stmt.TheOpen.{Stmt-F}
use Rattle.sg_ast.specs.declared.kernel.DomainDecl.{DomainDecl}
use Rattle.sg_ast.specs.declared.kernel.DomainDecl.TheVariants as domain
use Rattle.sg_ast.specs.declared.kernel.KernelDecl.{KernelDecl}
use Rattle.sg_ast.specs.declared.program.Item.{Item}
use Rattle.sg_ast.specs.declared.program.Item.TheVariants as item
use Rattle.sg_ast.specs.declared.program.Program.{Program}
use Rattle.sg_names.specs.Tables.{Tables, field_named}
use Rattle.sg_names.specs.Names.{has_repeat}
use Rattle.sg_types.specs.Expressions.{field_axes, equals_some}
use Rattle.sg_types.specs.Programs.{layout_axes}
use Rattle.sg_types.specs.HasType.{Bound, Context, bound_named, constant_before, is_bound, with_bound, has_type, has_a_type, type_of, Use, Access, Plain, Walk, uses_in, is_there, is_counted}

-- ---- lines

-- a statement without those in its blocks; the loop of the kernel is one too
pub data Head : Type 0 where
  Opens : (vars : List Name) (over : DomainDecl) → Head
  Lets : (name : Name) (value : Expr) → Head
  Assigns : (name : Name) (value : Expr) → Head
  Writes : (field : Name) (index : List Expr) (value : Expr) → Head
  Tests : (condition : Expr) → Head
  Turns : (name : Name) (range : RangeDecl) → Head

-- a statement with the context that it stands in
pub record Line : Type 0 where
  pub at : Context
  pub head : Head

-- the lines of a statement, and the context after it
pub record Walked : Type 0 where
  pub lines : List Line
  pub after : Context

-- a statement that has its line in the context in which it stands
abbrev pub Walking : Type 0
Walking = Context → Walked

-- the lines of statements, each in the context after the one before
abbrev pub lines_of : List Walking → Context → List Line
lines_of [] at = []
lines_of (walk ∷ more) at = (walk at).lines ++ lines_of more (walk at).after

-- the lines of an `else`, where there is one
abbrev pub else_lines : Option (List Walking) → Context → List Line
else_lines None at = []
else_lines (Some block) at = lines_of block at

-- a local of the type that its value has; none where it has no type
abbrev pub with_local : Name → Option Ty → Context → Context
with_local name None at = at
with_local name (Some given) at = with_bound name given false at

-- One layer of a statement. A local is in scope from after its `let` to the end of its block, the variable of a loop in its block.
abbrev pub walk_step : Stmt-F Walking → Walking
walk_step (s.Let name value) at = record { lines = record { at = at; head = Lets name value } ∷ []; after = with_local name (type_of at value) at }
walk_step (s.Assign name value) at = record { lines = record { at = at; head = Assigns name value } ∷ []; after = at }
walk_step (s.Write field index how value) at = record { lines = record { at = at; head = Writes field index value } ∷ []; after = at }
walk_step (s.If condition block otherwise) at =
    record { lines = record { at = at; head = Tests condition } ∷ (lines_of block at ++ else_lines otherwise at); after = at }
walk_step (s.For name range body) at =
    record { lines = record { at = at; head = Turns name range } ∷ lines_of body (with_bound name ty.I32 true at); after = at }

-- the lines of a statement in a context, and the context after it
abbrev pub walked : Stmt → Walking
walked = fold-Stmt Walking walk_step

-- the lines of the statements of a block
abbrev pub block_lines : List Stmt → Context → List Line
block_lines block = lines_of (map walked block)

-- the context of a kernel's body: its loop's variables are in scope
abbrev pub with_vars : List Name → Context → Context
with_vars vars at = fold (λ at name. with_bound name ty.I32 true at) at vars

-- the lines of a kernel: that of its loop, which is statement 0, and then those of its body
abbrev pub typing_lines : Context → KernelDecl → List Line
typing_lines at kernel = record { at = at; head = Opens kernel.vars kernel.domain } ∷ block_lines kernel.body (with_vars kernel.vars at)

-- the lines of each kernel among items, where it is given how many constants came before
abbrev pub item_lines : Tables → ℕ → List Item → List (List Line)
item_lines tables constants [] = []
item_lines tables constants (item.Const decl ∷ items) = item_lines tables (suc constants) items
item_lines tables constants (item.Layout decl ∷ items) = item_lines tables constants items
item_lines tables constants (item.Kernel decl ∷ items) =
    typing_lines (record { tables = tables; constants = take constants tables.constants; bound = [] }) decl ∷ item_lines tables constants items
item_lines tables constants (item.Command command ∷ items) = item_lines tables constants items

-- the lines of the kernels of a program, in order of declaration
abbrev pub program_lines : Tables → Program → List (List Line)
program_lines tables program = item_lines tables 0 program.items

-- ---- what a line uses

-- what the bounds of a range use
abbrev pub range_uses : RangeDecl → List Use
range_uses range = uses_in range.lo ++ uses_in range.hi

-- what a statement uses by itself, without those in its blocks
abbrev pub head_uses : Head → List Use
head_uses (Opens vars (domain.Layout layout)) = Walk layout (length vars) ∷ []
head_uses (Opens vars (domain.Ranges ranges)) = flat_map range_uses ranges
head_uses (Lets name value) = uses_in value
head_uses (Assigns name value) = Plain name ∷ uses_in value
head_uses (Writes field index value) = Access field (length index) ∷ (flat_map uses_in index ++ uses_in value)
head_uses (Tests condition) = uses_in condition
head_uses (Turns name range) = range_uses range

-- ---- the codes, each by itself

-- 4: it uses what isn't there
abbrev pub is_unknown : Line → Bool
is_unknown line = not (list_all (is_there line.at) (head_uses line.head))

-- 5: it names a local or a variable as what is in scope already, or two variables of the kernel's loop alike
abbrev pub names_twice : Context → Head → Bool
names_twice at (Opens vars over) = has_repeat vars || list_any (is_bound at) vars
names_twice at (Lets name value) = is_bound at name
names_twice at (Turns name range) = is_bound at name
names_twice at head = false

-- code 5, of a line
abbrev pub is_twice : Line → Bool
is_twice line = names_twice line.at line.head

-- a variable of a loop; where the name is no local and no variable, a constant
abbrev pub is_kept : Option Bound → Bool → Bool
is_kept None constant = constant
is_kept (Some it) constant = it.is_loop

-- 3: it assigns to a variable of a loop or to a constant
abbrev pub assigns_fixed : Context → Head → Bool
assigns_fixed at (Assigns name value) = is_kept (bound_named at name) (is_some (constant_before at name))
assigns_fixed at head = false

-- code 3, of a line
abbrev pub is_fixed : Line → Bool
is_fixed line = assigns_fixed line.at line.head

-- a kernel's loop over ranges has one for each variable
abbrev pub has_its_ranges : Head → Bool
has_its_ranges (Opens vars (domain.Ranges ranges)) = length ranges == length vars
has_its_ranges head = true

-- 2: it has a wrong number of indices, of variables or of ranges
abbrev pub is_miscounted : Line → Bool
is_miscounted line = not (has_its_ranges line.head && list_all (is_counted line.at) (head_uses line.head))

-- bounds of I32
abbrev pub are_bounds : Context → RangeDecl → Bool
are_bounds at range = has_type at range.lo ty.I32 && has_type at range.hi ty.I32

-- a value has a type that is there
abbrev pub has_that : Context → Expr → Option Ty → Bool
has_that at value None = false
has_that at value (Some given) = has_type at value given

-- Conditions are truth values, bounds and indices I32; an assigned or written value has the type of the local or field; the value of a
-- `let` has a type.
abbrev pub types_fit : Context → Head → Bool
types_fit at (Opens vars (domain.Layout layout)) = true
types_fit at (Opens vars (domain.Ranges ranges)) = list_all (are_bounds at) ranges
types_fit at (Lets name value) = has_a_type at value
types_fit at (Assigns name value) = has_that at value (option_map (λ it. it.ty) (bound_named at name))
types_fit at (Writes field index value) =
    list_all (λ part. has_type at part ty.I32) index && has_that at value (option_map (λ it. it.ty) (field_named at.tables field))
types_fit at (Tests condition) = has_type at condition ty.Bool
types_fit at (Turns name range) = are_bounds at range

-- 1: its types don't fit
abbrev pub is_mistyped : Line → Bool
is_mistyped line = not (types_fit line.at line.head)

-- a code, and whether it applies
pub record Code : Type 0 where
  pub number : ℕ
  pub applies : Bool

-- the codes in the order in which they count
abbrev pub codes_of : Line → List Code
codes_of line =
    record { number = 4; applies = is_unknown line } ∷ record { number = 5; applies = is_twice line } ∷ record { number = 3; applies = is_fixed line }
    ∷ record { number = 2; applies = is_miscounted line } ∷ record { number = 1; applies = is_mistyped line } ∷ []

-- the first code that applies to a line
abbrev pub code_of : Line → Option ℕ
code_of line = option_map (λ code. code.number) (find (λ code. code.applies) (codes_of line))

-- ---- well typed lines

-- an expression is well typed, and has this type: each access in it has as many indices as its layout has axes
abbrev pub is_of : Context → Ty → Expr → Bool
is_of at given expr = has_type at expr given && list_all (is_counted at) (uses_in expr)

-- a value that is well typed has a type that is there
abbrev pub is_of_that : Context → Option Ty → Expr → Bool
is_of_that at None expr = false
is_of_that at (Some given) expr = is_of at given expr

-- bounds that are well typed I32
abbrev pub is_good_range : Context → RangeDecl → Bool
is_good_range at range = is_of at ty.I32 range.lo && is_of at ty.I32 range.hi

-- the type of a local that may be assigned
abbrev pub assignable : Option Bound → Option Ty
assignable None = None
assignable (Some it) = if it.is_loop then None else Some it.ty

-- a statement is well typed in its context, without those in its blocks
abbrev pub is_good : Context → Head → Bool
is_good at (Opens vars (domain.Layout layout)) =
    not (has_repeat vars || list_any (is_bound at) vars) && equals_some (layout_axes at.tables layout) (length vars)
is_good at (Opens vars (domain.Ranges ranges)) =
    not (has_repeat vars || list_any (is_bound at) vars) && ((length ranges == length vars) && list_all (is_good_range at) ranges)
is_good at (Lets name value) = not (is_bound at name) && (is_of at ty.I32 value || (is_of at ty.U32 value || is_of at ty.Bool value))
is_good at (Assigns name value) = is_of_that at (assignable (bound_named at name)) value
is_good at (Writes field index value) =
    equals_some (field_axes at.tables field) (length index)
    && (list_all (is_of at ty.I32) index && is_of_that at (option_map (λ it. it.ty) (field_named at.tables field)) value)
is_good at (Tests condition) = is_of at ty.Bool condition
is_good at (Turns name range) = not (is_bound at name) && is_good_range at range

-- a line is well typed
abbrev pub is_good_line : Line → Bool
is_good_line line = is_good line.at line.head
