-- Each statement and each block is read from its tokens.
use Rattle.std.specs.Prelude.{◌≡◌, refl, ℕ, zero, suc, ◌≤◌, true, ◌&&◌, nat_le, List, [], ◌∷◌, ◌++◌, map, length, Option, Some, None}
use Rattle.std.specs.List.{AllByRecursion, list_all}
use Rattle.std.proofs.Common.{sym, ◌∙◌, arith, append_assoc, lit≤}
use Rattle.std.proofs.lemmas.Bool.{and_parts, leb-true}
use Rattle.sg_words.specs.declared.operators.AccOp.TheVariants as acc
use Rattle.sg_ast.specs.declared.token.Name.{Name}
use Rattle.sg_ast.specs.declared.token.Word.TheVariants as w
use Rattle.sg_ast.specs.declared.token.Sign.TheVariants as s
use Rattle.sg_ast.specs.declared.token.Token.{Token}
use Rattle.sg_ast.specs.declared.token.Token.TheVariants as t
use Rattle.sg_ast.specs.declared.expr.Expr.{Expr}
use Rattle.sg_ast.specs.declared.stmt.WayDecl.{WayDecl}
use Rattle.sg_ast.specs.declared.stmt.WayDecl.TheVariants as way
use Rattle.sg_ast.specs.declared.stmt.RangeDecl.{RangeDecl}
use Rattle.sg_ast.specs.declared.stmt.Stmt.{Stmt}
use Rattle.sg_ast.specs.declared.stmt.Stmt.TheVariants as stmt
use Rattle.sg_ast.specs.Token.{is_name}
use Rattle.sg_ast.specs.Expr.{tokens_of, largest}
use Rattle.sg_ast.specs.Stmt.{joined_lists, range_tokens, way_tokens, stmt_tokens, block_tokens, stmt_nesting}
use Rattle.sg_ast.specs.Limits.{max_depth}
use Rattle.sg_ast.specs.Grammar.{is_expr, one_or_more, is_range, is_stmt}
use Rattle.sg_ast.proofs.Uses.{by_stmt_variant, stmt_tokens-Let, stmt_tokens-Assign, stmt_tokens-Write, stmt_tokens-If, stmt_tokens-For, stmt_nesting-If, stmt_nesting-For, is_stmt-Let, is_stmt-Assign, is_stmt-Write, is_stmt-If, is_stmt-For}
use Rattle.sg_parser.specs.Front.{Reader, after_sign, after_word}
use Rattle.sg_parser.specs.ReadExpr.{expr_at, read_expr}
use Rattle.sg_parser.specs.ReadStmt.{read_range, value_to_end, next_way, assigned_value, read_let, read_write, assign_or_write, read_if, for_head, read_for, statement, block_at}
use Rattle.sg_parser.proofs.ExprSound.{Fit}
use Rattle.sg_parser.proofs.ExprComplete.{Ends, expr_at_complete, indices_complete, fit_of_expr, ends_semicolon, ends_dots, ends_brace}
use Rattle.sg_parser.proofs.ListLemmas.{repeated_complete}
use Rattle.sg_parser.proofs.StmtSound.{GoodExpr, GoodRange, GoodStmt, GoodBlock, range_parts, let_parts, assign_parts, write_parts, if_parts, for_parts, block_parts}

-- what may stand after a statement: no `else`
abbrev pub NoElse : List Token → Type 0
NoElse rest = after_word w.Else rest ≡ None

pub expr_complete : (a : Expr) (rest : List Token) → GoodExpr a → Ends 1 rest → read_expr (tokens_of a ++ rest) ≡ Some (a, rest)
expr_complete a rest good ends = expr_at_complete max_depth 1 a rest (lit≤ tt) (fit_of_expr a good) ends

pub range_complete : (range : RangeDecl) (rest : List Token) → GoodRange range → Ends 1 rest → read_range (range_tokens range ++ rest) ≡ Some (range, rest)
unfolding read_range
range_complete range rest good ends =
    let p = and_parts (is_expr range.lo) (is_expr range.hi) good in
    rw (range_parts range rest, expr_complete range.lo (t.Sign s.DotDot ∷ (tokens_of range.hi ++ rest)) p.0 (ends_dots 1 (tokens_of range.hi ++ rest)), expr_complete range.hi rest p.1 ends) refl

pub ended_complete : (value : Expr) (rest : List Token) → GoodExpr value → value_to_end (tokens_of value ++ t.Sign s.Semicolon ∷ rest) ≡ Some (value, rest)
unfolding value_to_end
ended_complete value rest good = rw (expr_complete value (t.Sign s.Semicolon ∷ rest) good (ends_semicolon 1 rest)) refl

assigned_complete : (value : Expr) (rest : List Token) → GoodExpr value → assigned_value (t.Sign s.Equal ∷ (tokens_of value ++ t.Sign s.Semicolon ∷ rest)) ≡ Some (value, rest)
unfolding assigned_value
assigned_complete value rest good = ended_complete value rest good

way_complete : (how : WayDecl) (rest : List Token) → next_way (way_tokens how ++ rest) ≡ Some (how, rest)
way_complete way.Own rest = refl
way_complete (way.Acc acc.Add) rest = refl
way_complete (way.Acc acc.Min) rest = refl
way_complete (way.Acc acc.Max) rest = refl
way_complete (way.Acc acc.Or) rest = refl
way_complete (way.Acc acc.And) rest = refl
way_complete (way.Acc acc.Xor) rest = refl

all_fits : (parts : List Expr) → list_all is_expr parts ≡ true → AllByRecursion (Fit 1 max_depth) parts
all_fits [] h = tt
all_fits (a ∷ parts) h = let p = and_parts (is_expr a) (list_all is_expr parts) h in (fit_of_expr a p.0, all_fits parts p.1)

module _ (d : ℕ) (block : Reader (List Stmt)) (complete : (body : List Stmt) (rest : List Token) → GoodBlock d body → block (block_tokens body ++ rest) ≡ Some (body, rest)) where
  let_complete : (name : Name) (value : Expr) (rest : List Token) → GoodStmt d (stmt.Let name value) → statement block (stmt_tokens (stmt.Let name value) ++ rest) ≡ Some (stmt.Let name value, rest)
  unfolding statement read_let
  let_complete name value rest fit =
      let p = and_parts (is_name name) (is_expr value) (sym (is_stmt-Let name value) ∙ fit.good) in
      rw (let_parts name value rest, p.0, assigned_complete value rest p.1) refl

  assign_complete : (name : Name) (value : Expr) (rest : List Token) → GoodStmt d (stmt.Assign name value) → statement block (stmt_tokens (stmt.Assign name value) ++ rest) ≡ Some (stmt.Assign name value, rest)
  unfolding statement assign_or_write
  assign_complete name value rest fit =
      let p = and_parts (is_name name) (is_expr value) (sym (is_stmt-Assign name value) ∙ fit.good) in
      rw (assign_parts name value rest, p.0, assigned_complete value rest p.1) refl

  write_complete : (field : Name) (index : List Expr) (how : WayDecl) (value : Expr) (rest : List Token) → GoodStmt d (stmt.Write field index how value)
      → statement block (stmt_tokens (stmt.Write field index how value) ++ rest) ≡ Some (stmt.Write field index how value, rest)
  unfolding statement assign_or_write read_write
  write_complete field index how value rest fit =
      let p = and_parts (is_name field && one_or_more is_expr index) (is_expr value) (sym (is_stmt-Write field index how value) ∙ fit.good) in
      let q = and_parts (is_name field) (one_or_more is_expr index) p.0 in
      let r = and_parts (nat_le 1 (length index)) (list_all is_expr index) q.1 in
      rw (
        write_parts field index how value rest,
        q.0,
        indices_complete max_depth (expr_at max_depth) (expr_at_complete max_depth) index (way_tokens how ++ (tokens_of value ++ t.Sign s.Semicolon ∷ rest)) (leb-true 1 (length index) r.0) (all_fits index r.1),
        way_complete how (tokens_of value ++ t.Sign s.Semicolon ∷ rest),
        ended_complete value rest p.1,
      ) refl

  block_begins : (body : List Stmt) (rest : List Token) → Ends 1 (block_tokens body ++ rest)
  block_begins body rest = rw (block_parts body rest) (ends_brace 1 (joined_lists (map stmt_tokens body) ++ t.Sign s.CloseBrace ∷ rest))

  if_complete : (condition : Expr) (chosen : List Stmt) (otherwise : Option (List Stmt)) (rest : List Token) → GoodStmt d (stmt.If condition chosen otherwise) → NoElse rest
      → statement block (stmt_tokens (stmt.If condition chosen otherwise) ++ rest) ≡ Some (stmt.If condition chosen otherwise, rest)
  unfolding statement read_if
  if_complete condition chosen None rest fit no_else =
      let p = and_parts (is_expr condition) _ (sym (is_stmt-If condition chosen None) ∙ fit.good) in
      let q = and_parts (list_all is_stmt chosen) true p.1 in
      let below = fit.shallow in
      let good : GoodBlock d chosen = record { good = q.0; shallow = omega (arith, stmt_nesting-If condition chosen None) } in
      rw (if_parts condition chosen None rest, expr_complete condition (block_tokens chosen ++ rest) p.0 (block_begins chosen rest), complete chosen rest good, no_else) refl
  if_complete condition chosen (Some other) rest fit no_else =
      let p = and_parts (is_expr condition) _ (sym (is_stmt-If condition chosen (Some other)) ∙ fit.good) in
      let q = and_parts (list_all is_stmt chosen) (list_all is_stmt other) p.1 in
      let below = fit.shallow in
      let good : GoodBlock d chosen = record { good = q.0; shallow = omega (arith, stmt_nesting-If condition chosen (Some other)) } in
      let good_other : GoodBlock d other = record { good = q.1; shallow = omega (arith, stmt_nesting-If condition chosen (Some other)) } in
      let more : List Token = t.Word w.Else ∷ (block_tokens other ++ rest) in
      rw (if_parts condition chosen (Some other) rest, expr_complete condition (block_tokens chosen ++ more) p.0 (block_begins chosen more), complete chosen more good, complete other rest good_other) refl

  for_complete : (name : Name) (range : RangeDecl) (body : List Stmt) (rest : List Token) → GoodStmt d (stmt.For name range body) → statement block (stmt_tokens (stmt.For name range body) ++ rest) ≡ Some (stmt.For name range body, rest)
  unfolding statement read_for for_head
  for_complete name range body rest fit =
      let p = and_parts (is_name name) _ (sym (is_stmt-For name range body) ∙ fit.good) in
      let q = and_parts (is_range range) (list_all is_stmt body) p.1 in
      let below = fit.shallow in
      let good : GoodBlock d body = record { good = q.1; shallow = omega (arith, stmt_nesting-For name range body) } in
      rw (for_parts name range body rest, p.0, range_complete range (block_tokens body ++ rest) q.0 (block_begins body rest), complete body rest good) refl

  pub statement_complete : (a : Stmt) (rest : List Token) → GoodStmt d a → NoElse rest → statement block (stmt_tokens a ++ rest) ≡ Some (a, rest)
  statement_complete a rest fit no_else = by_stmt_variant (λ a. GoodStmt d a → statement block (stmt_tokens a ++ rest) ≡ Some (a, rest))
      (λ name value fit. let_complete name value rest fit)
      (λ name value fit. assign_complete name value rest fit)
      (λ field index how value fit. write_complete field index how value rest fit)
      (λ condition chosen otherwise fit. if_complete condition chosen otherwise rest fit no_else)
      (λ name range body fit. for_complete name range body rest fit) a fit

-- how a statement begins
stmt_no_else : (a : Stmt) (more : List Token) → NoElse (stmt_tokens a ++ more)
stmt_no_else = by_stmt_variant (λ a. (more : List Token) → NoElse (stmt_tokens a ++ more))
    (λ name value more. rw (let_parts name value more) refl)
    (λ name value more. rw (assign_parts name value more) refl)
    (λ field index how value more. rw (write_parts field index how value more) refl)
    (λ condition chosen otherwise more. rw (if_parts condition chosen otherwise more) refl)
    (λ name range body more. rw (for_parts name range body more) refl)

stmt_no_brace : (a : Stmt) (more : List Token) → after_sign s.CloseBrace (stmt_tokens a ++ more) ≡ None
stmt_no_brace = by_stmt_variant (λ a. (more : List Token) → after_sign s.CloseBrace (stmt_tokens a ++ more) ≡ None)
    (λ name value more. rw (let_parts name value more) refl)
    (λ name value more. rw (assign_parts name value more) refl)
    (λ field index how value more. rw (write_parts field index how value more) refl)
    (λ condition chosen otherwise more. rw (if_parts condition chosen otherwise more) refl)
    (λ name range body more. rw (for_parts name range body more) refl)

stmt_some : (a : Stmt) → 1 ≤ length (stmt_tokens a)
stmt_some = by_stmt_variant (λ a. 1 ≤ length (stmt_tokens a))
    (λ name value. rw (stmt_tokens-Let name value) (omega arith))
    (λ name value. rw (stmt_tokens-Assign name value) (omega arith))
    (λ field index how value. rw (stmt_tokens-Write field index how value) (omega arith))
    (λ condition chosen otherwise. rw (stmt_tokens-If condition chosen otherwise) (omega arith))
    (λ name range body. rw (stmt_tokens-For name range body) (omega arith))

all_stmts : (d : ℕ) (body : List Stmt) → list_all is_stmt body ≡ true → largest (map stmt_nesting body) ≤ d → AllByRecursion (GoodStmt d) body
all_stmts d [] h shallow = tt
all_stmts d (a ∷ body) h shallow =
    let p = and_parts (is_stmt a) (list_all is_stmt body) h in
    (record { good = p.0; shallow = omega arith }, all_stmts d body p.1 (omega arith))

pub block_at_complete : (limit : ℕ) (body : List Stmt) (rest : List Token) → GoodBlock limit body → block_at limit (block_tokens body ++ rest) ≡ Some (body, rest)
unfolding block_at
block_at_complete zero body rest fit = let below = fit.shallow in absurd (omega arith)
block_at_complete (suc d) body rest fit =
    let below = fit.shallow in
    rw (append_assoc (joined_lists (map stmt_tokens body)) (t.Sign s.CloseBrace ∷ []) rest)
    (repeated_complete Stmt (statement (block_at d)) stmt_tokens (GoodStmt d) NoElse (statement_complete d (block_at d) (block_at_complete d))
    (after_sign s.CloseBrace) (λ x more good. stmt_no_else x more) (λ x more good. stmt_no_brace x more) (λ x good. stmt_some x)
    body (t.Sign s.CloseBrace ∷ rest) rest (all_stmts d body fit.good (omega arith)) refl (omega arith) refl)
