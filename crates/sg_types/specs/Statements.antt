-- Statements and kernels: the typed statement, or the first fault. Each statement is judged by itself and in order; in it the first
-- of the codes 4, 5, 3, 2 and 1 counts.
use Rattle.std.specs.Prelude.{ℕ, suc, Bool, true, false, not, ◌&&◌, if◌then◌else◌, List, [], ◌∷◌, ◌++◌, map, length, is_some, Option, Some, None, option_map, option_and_then, Result, Ok, Err}
use Rattle.std.specs.List.{list_all}
use Rattle.sg_words.specs.Options.{only_where}
use Rattle.sg_words.specs.Results.{◌>>=◌, fault_as}
use Rattle.sg_words.specs.declared.operators.Ty.{Ty}
use Rattle.sg_words.specs.declared.operators.Ty.TheVariants as ty
use Rattle.sg_ast.specs.declared.token.Name.{Name}
use Rattle.sg_ast.specs.declared.expr.Expr.{Expr}
use Rattle.sg_ast.specs.declared.stmt.WayDecl.{WayDecl}
use Rattle.sg_ast.specs.declared.stmt.WayDecl.TheVariants as way
use Rattle.sg_ast.specs.declared.stmt.RangeDecl.{RangeDecl}
use Rattle.sg_ast.specs.declared.stmt.Stmt.{Stmt, fold-Stmt}
use Rattle.sg_ast.specs.declared.stmt.Stmt.TheOpen as s
use Rattle.sg_ast.specs.declared.stmt.Stmt.TheOpen.{Stmt-F}
use Rattle.sg_flat.specs.declared.effects.Way.{Way}
use Rattle.sg_flat.specs.declared.effects.Way.TheVariants.{Own, Acc}
use Rattle.sg_names.specs.declared.tables.FieldAt.{FieldAt}
use Rattle.sg_names.specs.Tables.{field_named}
use Rattle.sg_types.specs.declared.fault.TypeFault.{TypeFault}
use Rattle.sg_types.specs.declared.wrongs.Wrongs.{Wrongs}
use Rattle.sg_types.specs.declared.scope.Local.{Local}
use Rattle.sg_types.specs.declared.typed.TypedExpr.{TypedExpr}
use Rattle.sg_types.specs.declared.typed.TypedRange.{TypedRange}
use Rattle.sg_types.specs.declared.typed.TypedKind.{TypedKind}
use Rattle.sg_types.specs.declared.typed.TypedKind.TheVariants as kind
use Rattle.sg_types.specs.declared.typed.TypedStmt.{TypedStmt}
use Rattle.sg_types.specs.TypeTable.{is_truth, same_ty}
use Rattle.sg_types.specs.Scopes.{Known, NamedLocal, local_named, is_taken}
use Rattle.sg_types.specs.Expressions.{knows, counts, field_axes, equals_some, all_some, is_signed_expr, typed_expr}

-- ---- one statement

-- the first code that applies to a statement before its types are looked at: 4 for an unknown name, 5 for a name given twice, 3 for
-- an assignment to what may not be assigned, 2 for a wrong number
abbrev pub first_code : Wrongs → Option ℕ
first_code wrongs =
    if wrongs.unknown then Some 4
    else (if wrongs.twice then Some 5
    else (if wrongs.fixed then Some 3
    else (if wrongs.miscounted then Some 2 else None)))

-- a statement's part, or its code: 1 if types don't fit, only if no other code applies
abbrev pub part_or_code : {A : Type 0} → Option ℕ → Option A → Result A ℕ
part_or_code (Some code) typed = Err code
part_or_code None None = Err 1
part_or_code None (Some typed) = Ok typed

-- a statement's part, or the first of its codes
abbrev pub judged_part : {A : Type 0} → Wrongs → Option A → Result A ℕ
judged_part wrongs typed = part_or_code (first_code wrongs) typed

-- what may be wrong with `let NAME = VALUE;`, and its value
abbrev pub let_wrongs : Known → List NamedLocal → Name → Expr → Wrongs
let_wrongs known scope name value = record {
  unknown = not (knows known scope value);
  twice = is_taken known scope name;
  fixed = false;
  miscounted = not (counts known.tables value);
}

-- the value of a local, or the first of its codes
abbrev pub let_part : Known → List NamedLocal → Name → Expr → Result TypedExpr ℕ
let_part known scope name value = judged_part (let_wrongs known scope name value) (typed_expr known scope value)

-- only a local may be assigned
abbrev pub may_not_assign : Option Local → Bool
may_not_assign None = true
may_not_assign (Some local) = local.is_loop

-- the assigned value has the type of the local
abbrev pub assign_kind : Option Local → Option TypedExpr → Option TypedKind
assign_kind None value = None
assign_kind (Some local) value = option_map (λ typed. kind.Assign local.var typed) (only_where (λ typed. same_ty typed.ty local.ty) value)

-- what may be wrong with `NAME = VALUE;`, and what it is typed to
abbrev pub assign_wrongs : Known → List NamedLocal → Name → Expr → Wrongs
assign_wrongs known scope name value = record {
  unknown = not (is_taken known scope name && knows known scope value);
  twice = false;
  fixed = may_not_assign (local_named scope name);
  miscounted = not (counts known.tables value);
}

-- an assignment, or the first of its codes
abbrev pub assign_part : Known → List NamedLocal → Name → Expr → Result TypedKind ℕ
assign_part known scope name value = judged_part (assign_wrongs known scope name value) (assign_kind (local_named scope name) (typed_expr known scope value))

-- how a declared write writes
abbrev pub declared_way : WayDecl → Way
declared_way way.Own = Own
declared_way (way.Acc op) = Acc op

-- indices of I32, and a value of the field's type
abbrev pub write_kind : WayDecl → Option FieldAt → Option (List TypedExpr) → Option TypedExpr → Option TypedKind
write_kind how None index value = None
write_kind how (Some at) index value =
    option_and_then (λ is. option_map (λ typed. kind.Write at.layout at.place is (declared_way how) typed) (only_where (λ typed. same_ty typed.ty at.ty) value))
    (option_and_then (λ is. if list_all is_signed_expr is then Some is else None) index)

-- what may be wrong with `FIELD[INDEX, ..] = VALUE;` and the accumulations, and what they are typed to
abbrev pub write_wrongs : Known → List NamedLocal → Name → List Expr → WayDecl → Expr → Wrongs
write_wrongs known scope field index how value = record {
  unknown = not (is_some (field_named known.tables field) && (list_all (knows known scope) index && knows known scope value));
  twice = false;
  fixed = false;
  miscounted = not (equals_some (field_axes known.tables field) (length index) && (list_all (counts known.tables) index && counts known.tables value));
}

-- a write, or the first of its codes
abbrev pub write_part : Known → List NamedLocal → Name → List Expr → WayDecl → Expr → Result TypedKind ℕ
write_part known scope field index how value = judged_part (write_wrongs known scope field index how value) (write_kind how (field_named known.tables field) (all_some (map (typed_expr known scope) index)) (typed_expr known scope value))

-- what may be wrong with `if CONDITION`, and its condition
abbrev pub if_wrongs : Known → List NamedLocal → Expr → Wrongs
if_wrongs known scope condition = record {
  unknown = not (knows known scope condition);
  twice = false;
  fixed = false;
  miscounted = not (counts known.tables condition);
}

-- the condition, which is a truth value, or the first of its codes
abbrev pub if_part : Known → List NamedLocal → Expr → Result TypedExpr ℕ
if_part known scope condition = judged_part (if_wrongs known scope condition) (only_where (λ typed. is_truth typed.ty) (typed_expr known scope condition))

-- every name in the bounds is known
abbrev pub knows_range : Known → List NamedLocal → RangeDecl → Bool
knows_range known scope range = knows known scope range.lo && knows known scope range.hi

-- every read in the bounds has as many indices as its layout has axes
abbrev pub counts_range : Known → RangeDecl → Bool
counts_range known range = counts known.tables range.lo && counts known.tables range.hi

-- bounds of I32
abbrev pub range_of : Option TypedExpr → Option TypedExpr → Option TypedRange
range_of lo hi =
    option_and_then (λ low. option_map (λ high. record { lo = low; hi = high }) (only_where is_signed_expr hi)) (only_where is_signed_expr lo)

-- the typed bounds, where their types fit
abbrev pub typed_range : Known → List NamedLocal → RangeDecl → Option TypedRange
typed_range known scope range = range_of (typed_expr known scope range.lo) (typed_expr known scope range.hi)

-- what may be wrong with `for NAME in LO..HI`, and its range
abbrev pub for_wrongs : Known → List NamedLocal → Name → RangeDecl → Wrongs
for_wrongs known scope name range = record {
  unknown = not (knows_range known scope range);
  twice = is_taken known scope name;
  fixed = false;
  miscounted = not (counts_range known range);
}

-- the range, or the first of its codes
abbrev pub for_part : Known → List NamedLocal → Name → RangeDecl → Result TypedRange ℕ
for_part known scope name range = judged_part (for_wrongs known scope name range) (typed_range known scope range)

-- ---- statements in order

-- how far typing has come: the number of the next statement, the types of the variables so far, and the names in scope
pub record Reached : Type 0 where
  pub number : ℕ
  pub types : List Ty
  pub scope : List NamedLocal

-- a part, or the fault of its code at the statement with this number
abbrev pub stmt_fault : {A : Type 0} → Known → ℕ → Result A ℕ → Result A TypeFault
stmt_fault known number part = fault_as (λ code. record { kernel = known.kernel; stmt = number; code = code }) part

-- the next statement is reached
abbrev pub next_statement : Reached → Reached
next_statement at = record at { number = suc at.number }

-- a variable more, with the next number; it is in scope
abbrev pub with_variable : Name → Ty → Bool → Reached → Reached
with_variable name given is_loop at = record {
  number = at.number;
  types = at.types ++ given ∷ [];
  scope = at.scope ++ record { name = name; local = record { var = length at.types; ty = given; is_loop = is_loop } } ∷ [];
}

-- a statement is typed from where typing has come to; with it, how far typing comes
abbrev pub TypingStep : Type 0
TypingStep = Reached → Result (TypedStmt × Reached) TypeFault

-- statements one after the other
abbrev pub in_turn : List TypingStep → Reached → Result (List TypedStmt × Reached) TypeFault
in_turn [] at = Ok ([], at)
in_turn (step ∷ steps) at = do
  first ← step at
  more ← in_turn steps first.1
  Ok (first.0 ∷ more.0, more.1)

-- a block: what it declares is in scope to its end
abbrev pub in_block : List TypingStep → Reached → Result (List TypedStmt × Reached) TypeFault
in_block steps at = do
  done ← in_turn steps at
  Ok (done.0, record done.1 { scope = at.scope })

-- an `else`, with whether there is one
abbrev pub in_else : Option (List TypingStep) → Reached → Result (List TypedStmt × Bool × Reached) TypeFault
in_else None at = Ok ([], false, at)
in_else (Some steps) at = do
  done ← in_block steps at
  Ok (done.0, true, done.1)

-- a statement of a kind, with the number at which typing was; and how far typing comes
abbrev pub numbered_stmt : Reached → TypedKind → Reached → TypedStmt × Reached
numbered_stmt at kind after = (record { number = at.number; kind = kind }, after)

-- a local is in scope from after its `let`
abbrev pub let_step : Known → Name → Expr → TypingStep
let_step known name value at = do
  typed ← stmt_fault known at.number (let_part known at.scope name value)
  Ok (numbered_stmt at (kind.Let (length at.types) typed) (with_variable name typed.ty false (next_statement at)))

-- a statement that declares nothing and has no blocks
abbrev pub simple_step : Known → Result TypedKind ℕ → TypingStep
simple_step known part at = do
  typed ← stmt_fault known at.number part
  Ok (numbered_stmt at typed (next_statement at))

-- the condition, then the block, and then what comes after `else`
abbrev pub if_step : Known → Expr → List TypingStep → Option (List TypingStep) → TypingStep
if_step known condition block otherwise at = do
  typed ← stmt_fault known at.number (if_part known at.scope condition)
  inside ← in_block block (next_statement at)
  behind ← in_else otherwise inside.1
  Ok (numbered_stmt at (kind.If typed inside.0 behind.0 behind.1) behind.2)

-- the bounds, and then the block, in which the loop's variable is in scope
abbrev pub for_step : Known → Name → RangeDecl → List TypingStep → TypingStep
for_step known name range body at = do
  typed ← stmt_fault known at.number (for_part known at.scope name range)
  done ← in_turn body (with_variable name ty.I32 true (next_statement at))
  Ok (numbered_stmt at (kind.For (length at.types) typed done.0) (record done.1 { scope = at.scope }))

-- one layer of a statement, where the steps of the statements in it are given
abbrev pub typed_stmt_step : Known → Stmt-F TypingStep → TypingStep
typed_stmt_step known (s.Let name value) at = let_step known name value at
typed_stmt_step known (s.Assign name value) at = simple_step known (assign_part known at.scope name value) at
typed_stmt_step known (s.Write field index how value) at = simple_step known (write_part known at.scope field index how value) at
typed_stmt_step known (s.If condition block otherwise) at = if_step known condition block otherwise at
typed_stmt_step known (s.For name range body) at = for_step known name range body at

-- the typed statement, or the first fault
abbrev pub typed_stmt : Known → Stmt → TypingStep
typed_stmt known = fold-Stmt TypingStep (typed_stmt_step known)

-- the typed statements of a block
abbrev pub typed_block : Known → List Stmt → Reached → Result (List TypedStmt × Reached) TypeFault
typed_block known block = in_block (map (typed_stmt known) block)
