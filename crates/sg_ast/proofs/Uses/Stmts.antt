-- What the words on statements are at each variant, and cases and induction over the variants.
use Rattle.std.specs.Prelude.{◌≡◌, ℕ, zero, suc, ◌≤◌, max, Bool, ◌&&◌, List, [], ◌∷◌, ◌++◌, map, refl, Option, Some, None, option_map}
use Rattle.std.proofs.Common.{◌∙◌, arith}
use Rattle.std.specs.List.{list_all, AllByRecursion}
use Rattle.std.proofs.Math.Nat.{le-max_left, le-max_right}
use Rattle.std.proofs.lemmas.List.Folds.{list_all-map}
use Rattle.sg_ast.specs.declared.token.Name.{Name}
use Rattle.sg_ast.specs.declared.token.Word.TheVariants as w
use Rattle.sg_ast.specs.declared.token.Sign.TheVariants as s
use Rattle.sg_ast.specs.declared.token.Token.TheVariants as t
use Rattle.sg_ast.specs.declared.expr.Expr.{Expr}
use Rattle.sg_ast.specs.declared.stmt.WayDecl.{WayDecl}
use Rattle.sg_ast.specs.declared.stmt.RangeDecl.{RangeDecl}
use Rattle.sg_ast.specs.declared.stmt.Stmt.{Stmt, out-Stmt, roll-Stmt, roll-out-Stmt}
use Rattle.sg_ast.specs.declared.stmt.Stmt.TheVariants as stmt
use Rattle.sg_ast.specs.declared.stmt.Stmt.TheVariants.{rolls-Let, rolls-Assign, rolls-Write, rolls-If, rolls-For}
use Rattle.sg_ast.specs.declared.stmt.Stmt.TheOpen as f
use Rattle.sg_ast.specs.declared.stmt.Stmt.TheOpen.{Stmt-F}
use Rattle.sg_ast.specs.Token.{is_name}
use Rattle.sg_ast.specs.Expr.{tokens_of, access_tokens, largest}
use Rattle.sg_ast.specs.Stmt.{stmt_tokens, stmt_step, way_tokens, range_tokens, block_tokens, else_tokens, stmt_nesting, nesting_step, nesting, else_nesting}
use Rattle.sg_ast.specs.Grammar.{is_expr, one_or_more, is_range, is_else, is_stmt, is_stmt_step}
use Rattle.sg_ast.proofs.Uses.Folds.{fold-Let_stmt, fold-Assign_stmt, fold-Write_stmt, fold-If_stmt, fold-If_else_stmt, fold-For_stmt}

-- the tokens
pub stmt_tokens-Let : (name : Name) (value : Expr) → stmt_tokens (stmt.Let name value) ≡ t.Word w.Let ∷ t.Name name ∷ t.Sign s.Equal ∷ (tokens_of value ++ t.Sign s.Semicolon ∷ [])
stmt_tokens-Let name value = fold-Let_stmt stmt_step name value

pub stmt_tokens-Assign : (name : Name) (value : Expr) → stmt_tokens (stmt.Assign name value) ≡ t.Name name ∷ t.Sign s.Equal ∷ (tokens_of value ++ t.Sign s.Semicolon ∷ [])
stmt_tokens-Assign name value = fold-Assign_stmt stmt_step name value

pub stmt_tokens-Write : (field : Name) (index : List Expr) (how : WayDecl) (value : Expr) → stmt_tokens (stmt.Write field index how value) ≡ access_tokens field (map tokens_of index) ++ (way_tokens how ++ (tokens_of value ++ t.Sign s.Semicolon ∷ []))
stmt_tokens-Write field index how value = fold-Write_stmt stmt_step field index how value

pub stmt_tokens-If : (condition : Expr) (then : List Stmt) (otherwise : Option (List Stmt)) → stmt_tokens (stmt.If condition then otherwise) ≡ t.Word w.If ∷ (tokens_of condition ++ (block_tokens then ++ else_tokens (option_map (map stmt_tokens) otherwise)))
stmt_tokens-If condition then None = fold-If_stmt stmt_step condition then
stmt_tokens-If condition then (Some otherwise) = fold-If_else_stmt stmt_step condition then otherwise

pub stmt_tokens-For : (name : Name) (range : RangeDecl) (body : List Stmt) → stmt_tokens (stmt.For name range body) ≡ t.Word w.For ∷ t.Name name ∷ t.Word w.In ∷ (range_tokens range ++ block_tokens body)
stmt_tokens-For name range body = fold-For_stmt stmt_step name range body

-- how deep blocks nest
pub stmt_nesting-Let : (name : Name) (value : Expr) → stmt_nesting (stmt.Let name value) ≡ 0
stmt_nesting-Let name value = fold-Let_stmt nesting_step name value

pub stmt_nesting-Assign : (name : Name) (value : Expr) → stmt_nesting (stmt.Assign name value) ≡ 0
stmt_nesting-Assign name value = fold-Assign_stmt nesting_step name value

pub stmt_nesting-Write : (field : Name) (index : List Expr) (how : WayDecl) (value : Expr) → stmt_nesting (stmt.Write field index how value) ≡ 0
stmt_nesting-Write field index how value = fold-Write_stmt nesting_step field index how value

pub stmt_nesting-If : (condition : Expr) (then : List Stmt) (otherwise : Option (List Stmt)) → stmt_nesting (stmt.If condition then otherwise) ≡ max (nesting then) (else_nesting (option_map (map stmt_nesting) otherwise))
stmt_nesting-If condition then None = fold-If_stmt nesting_step condition then
stmt_nesting-If condition then (Some otherwise) = fold-If_else_stmt nesting_step condition then otherwise

pub stmt_nesting-For : (name : Name) (range : RangeDecl) (body : List Stmt) → stmt_nesting (stmt.For name range body) ≡ nesting body
stmt_nesting-For name range body = fold-For_stmt nesting_step name range body

-- whether it is one of the grammar's
pub is_stmt-Let : (name : Name) (value : Expr) → is_stmt (stmt.Let name value) ≡ (is_name name && is_expr value)
is_stmt-Let name value = fold-Let_stmt is_stmt_step name value

pub is_stmt-Assign : (name : Name) (value : Expr) → is_stmt (stmt.Assign name value) ≡ (is_name name && is_expr value)
is_stmt-Assign name value = fold-Assign_stmt is_stmt_step name value

pub is_stmt-Write : (field : Name) (index : List Expr) (how : WayDecl) (value : Expr) → is_stmt (stmt.Write field index how value) ≡ ((is_name field && one_or_more is_expr index) && is_expr value)
is_stmt-Write field index how value = fold-Write_stmt is_stmt_step field index how value

pub is_stmt-If : (condition : Expr) (then : List Stmt) (otherwise : Option (List Stmt)) → is_stmt (stmt.If condition then otherwise) ≡ (is_expr condition && (list_all is_stmt then && is_else is_stmt otherwise))
is_stmt-If condition then None = fold-If_stmt is_stmt_step condition then ∙ rw list_all-map refl
is_stmt-If condition then (Some otherwise) = fold-If_else_stmt is_stmt_step condition then otherwise ∙ rw (list_all-map (λ (part : Bool). part) is_stmt then, list_all-map (λ (part : Bool). part) is_stmt otherwise) refl

pub is_stmt-For : (name : Name) (range : RangeDecl) (body : List Stmt) → is_stmt (stmt.For name range body) ≡ (is_name name && (is_range range && list_all is_stmt body))
is_stmt-For name range body = fold-For_stmt is_stmt_step name range body ∙ rw list_all-map refl

-- all of them, to compute with
pub ruleset stmt_equations = (
  stmt_tokens-Let,
  stmt_tokens-Assign,
  stmt_tokens-Write,
  stmt_tokens-If,
  stmt_tokens-For,
  stmt_nesting-Let,
  stmt_nesting-Assign,
  stmt_nesting-Write,
  stmt_nesting-If,
  stmt_nesting-For,
  is_stmt-Let,
  is_stmt-Assign,
  is_stmt-Write,
  is_stmt-If,
  is_stmt-For,
)

-- a claim on every statement, from the claim on each variant
module _ (P : Stmt → Type 0)
    (on_let : (name : Name) (value : Expr) → P (stmt.Let name value))
    (on_assign : (name : Name) (value : Expr) → P (stmt.Assign name value))
    (on_write : (field : Name) (index : List Expr) (how : WayDecl) (value : Expr) → P (stmt.Write field index how value))
    (on_if : (condition : Expr) (then : List Stmt) (otherwise : Option (List Stmt)) → P (stmt.If condition then otherwise))
    (on_for : (name : Name) (range : RangeDecl) (body : List Stmt) → P (stmt.For name range body)) where
  by_layer : (layer : Stmt-F Stmt) → P (roll-Stmt layer)
  by_layer (f.Let name value) = rw (rolls-Let name value) (on_let name value)
  by_layer (f.Assign name value) = rw (rolls-Assign name value) (on_assign name value)
  by_layer (f.Write field index how value) = rw (rolls-Write field index how value) (on_write field index how value)
  by_layer (f.If condition then otherwise) = rw (rolls-If condition then otherwise) (on_if condition then otherwise)
  by_layer (f.For name range body) = rw (rolls-For name range body) (on_for name range body)

  pub by_stmt_variant : (statement : Stmt) → P statement
  by_stmt_variant statement = rw (← roll-out-Stmt statement) (by_layer (out-Stmt statement))

-- a claim on the statements of an `else`, if there is one
abbrev pub AllInElse : (Stmt → Type 0) → Option (List Stmt) → Type 0
AllInElse P None = Unit {0}
AllInElse P (Some block) = AllByRecursion P block

-- a claim on every statement, from the claim on each variant with the claim on the statements in it
module _ (P : Stmt → Type 0)
    (on_let : (name : Name) (value : Expr) → P (stmt.Let name value))
    (on_assign : (name : Name) (value : Expr) → P (stmt.Assign name value))
    (on_write : (field : Name) (index : List Expr) (how : WayDecl) (value : Expr) → P (stmt.Write field index how value))
    (on_if : (condition : Expr) (block : List Stmt) (otherwise : Option (List Stmt)) → AllByRecursion P block → AllInElse P otherwise → P (stmt.If condition block otherwise))
    (on_for : (name : Name) (range : RangeDecl) (body : List Stmt) → AllByRecursion P body → P (stmt.For name range body)) where
  module _ (d : ℕ) (below : (statement : Stmt) → suc (stmt_nesting statement) ≤ d → P statement) where
    parts : (block : List Stmt) → nesting block ≤ d → AllByRecursion P block
    parts [] h = tt
    parts (statement ∷ more) h = (
      below statement (omega (arith, le-max_left (stmt_nesting statement) (largest (map stmt_nesting more)))),
      parts more (omega (arith, le-max_right (stmt_nesting statement) (largest (map stmt_nesting more)))),
    )

    else_parts : (otherwise : Option (List Stmt)) → else_nesting (option_map (map stmt_nesting) otherwise) ≤ d → AllInElse P otherwise
    else_parts None h = tt
    else_parts (Some block) h = parts block h

    at_depth : (statement : Stmt) → stmt_nesting statement ≤ d → P statement
    at_depth = by_stmt_variant (λ statement. stmt_nesting statement ≤ d → P statement)
        (λ name value h. on_let name value)
        (λ name value h. on_assign name value)
        (λ field index how value h. on_write field index how value)
        (λ condition block otherwise h. on_if condition block otherwise
        (parts block (omega (arith, stmt_nesting-If condition block otherwise, le-max_left (nesting block) (else_nesting (option_map (map stmt_nesting) otherwise)))))
        (else_parts otherwise (omega (arith, stmt_nesting-If condition block otherwise, le-max_right (nesting block) (else_nesting (option_map (map stmt_nesting) otherwise))))))
        (λ name range body h. on_for name range body (parts body (omega (arith, stmt_nesting-For name range body))))

  below_depth : (d : ℕ) (statement : Stmt) → suc (stmt_nesting statement) ≤ d → P statement
  below_depth zero statement h = absurd (omega arith)
  below_depth (suc d) statement h = at_depth d (below_depth d) statement (omega arith)

  pub by_statements : (statement : Stmt) → P statement
  by_statements statement = below_depth (suc (stmt_nesting statement)) statement (omega arith)
