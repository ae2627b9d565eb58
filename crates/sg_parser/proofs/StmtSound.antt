-- The tokens of statements, by their parts, and what is read of them.
use Rattle.std.specs.Prelude.{◌≡◌, refl, ℕ, zero, suc, ◌≤◌, true, ◌&&◌, nat_le, List, [], ◌∷◌, ◌++◌, map, length, Option, Some, None, option_map}
use Rattle.std.specs.List.{AllByRecursion, list_all}
use Rattle.std.proofs.Common.{◌∙◌, ap, subst, arith, append_assoc, lit≤}
use Rattle.std.proofs.lemmas.Bool.{and_from, le-leb}
use Rattle.std.proofs.lemmas.Option.{same_Some, some_pair_parts}
use Rattle.sg_words.specs.declared.operators.AccOp.TheVariants as acc
use Rattle.sg_ast.specs.declared.token.Name.{Name}
use Rattle.sg_ast.specs.declared.token.Word.{Word}
use Rattle.sg_ast.specs.declared.token.Word.TheVariants as w
use Rattle.sg_ast.specs.declared.token.Sign.TheVariants as s
use Rattle.sg_ast.specs.declared.token.Token.{Token}
use Rattle.sg_ast.specs.declared.token.Token.TheVariants as t
use Rattle.sg_ast.specs.declared.expr.Expr.{Expr}
use Rattle.sg_ast.specs.declared.stmt.WayDecl.{WayDecl}
use Rattle.sg_ast.specs.declared.stmt.WayDecl.TheVariants as way
use Rattle.sg_ast.specs.declared.stmt.RangeDecl.{RangeDecl}
use Rattle.sg_ast.specs.declared.stmt.Stmt.{Stmt}
use Rattle.sg_ast.specs.declared.stmt.Stmt.TheVariants as stmt
use Rattle.sg_ast.specs.Token.{is_name}
use Rattle.sg_ast.specs.Expr.{tokens_of, with_commas, largest}
use Rattle.sg_ast.specs.Stmt.{joined_lists, range_tokens, way_tokens, else_tokens, stmt_tokens, block_tokens, stmt_nesting, nesting}
use Rattle.sg_ast.specs.Limits.{max_depth}
use Rattle.sg_ast.specs.Grammar.{is_expr, one_or_more, is_range, is_stmt}
use Rattle.sg_ast.proofs.Uses.{stmt_tokens-Let, stmt_tokens-Assign, stmt_tokens-Write, stmt_tokens-If, stmt_tokens-For, stmt_nesting-Let, stmt_nesting-Assign, stmt_nesting-Write, stmt_nesting-If, stmt_nesting-For, is_stmt-Let, is_stmt-Assign, is_stmt-Write, is_stmt-If, is_stmt-For}
use Rattle.sg_parser.specs.Front.{Reader, after_sign, after_word, next_name, list_to_end}
use Rattle.sg_words.specs.Options.{◌>>=◌}
use Rattle.sg_parser.specs.ReadExpr.{expr_at, read_expr, read_indices}
use Rattle.sg_parser.specs.ReadStmt.{read_range, value_to_end, behind_equal, next_way, assigned_value, read_let, read_write, assign_or_write_on, assign_or_write, else_on, read_if, for_head, read_for, word_stmt, statement, block_at}
use Rattle.sg_parser.proofs.StepLemmas.{bind_some, only_if_some, after_sign_is, after_word_is, next_name_is}
use Rattle.sg_parser.proofs.ExprSound.{Fit, expr_at_sound, indices_sound, expr_of_fit}
use Rattle.sg_parser.proofs.ListLemmas.{IsSoundReader, repeated_sound}

abbrev pub GoodExpr : Expr → Type 0
GoodExpr a = is_expr a ≡ true

abbrev pub GoodRange : RangeDecl → Type 0
GoodRange range = is_range range ≡ true

-- a statement of the grammar in which blocks nest at most so deep
pub record GoodStmt (limit : ℕ) (a : Stmt) : Type 0 where
  pub good : is_stmt a ≡ true
  pub shallow : stmt_nesting a ≤ limit

-- a block of the grammar, itself counted
pub record GoodBlock (limit : ℕ) (body : List Stmt) : Type 0 where
  pub good : list_all is_stmt body ≡ true
  pub shallow : nesting body ≤ limit

-- what is read is what it was said to be
pub made_is : {A : Type 0} (P : A → List Token → Type 0) (made a : A) (left rest : List Token) → P made left → ◌≡◌ {A = Option (A × List Token)} (Some (made, left)) (Some (a, rest)) → P a rest
made_is {A} P made a left rest p h = subst (λ (q : A × List Token). P q.0 q.1) (same_Some {A = A × List Token} (made, left) (a, rest) h) p

-- two values that are read are what they were said to be
pub made_two : {A B : Type 0} (P : A → B → List Token → Type 0) (x a : A) (y b : B) (left rest : List Token) → P x y left
    → ◌≡◌ {A = Option (A × B × List Token)} (Some (x, y, left)) (Some (a, b, rest)) → P a b rest
made_two {A} {B} P x a y b left rest p h = subst (λ (q : A × B × List Token). P q.0 q.1 q.2) (same_Some {A = A × B × List Token} (x, y, left) (a, b, rest) h) p

pub range_parts : (range : RangeDecl) (rest : List Token) → range_tokens range ++ rest ≡ tokens_of range.lo ++ t.Sign s.DotDot ∷ (tokens_of range.hi ++ rest)
range_parts range rest = append_assoc (tokens_of range.lo) (t.Sign s.DotDot ∷ tokens_of range.hi) rest

pub let_parts : (name : Name) (value : Expr) (rest : List Token) → stmt_tokens (stmt.Let name value) ++ rest ≡ t.Word w.Let ∷ t.Name name ∷ t.Sign s.Equal ∷ (tokens_of value ++ t.Sign s.Semicolon ∷ rest)
let_parts name value rest = rw (stmt_tokens-Let name value, append_assoc (tokens_of value) (t.Sign s.Semicolon ∷ []) rest) refl

pub assign_parts : (name : Name) (value : Expr) (rest : List Token) → stmt_tokens (stmt.Assign name value) ++ rest ≡ t.Name name ∷ t.Sign s.Equal ∷ (tokens_of value ++ t.Sign s.Semicolon ∷ rest)
assign_parts name value rest = rw (stmt_tokens-Assign name value, append_assoc (tokens_of value) (t.Sign s.Semicolon ∷ []) rest) refl

pub write_parts : (field : Name) (index : List Expr) (how : WayDecl) (value : Expr) (rest : List Token) → stmt_tokens (stmt.Write field index how value) ++ rest
    ≡ t.Name field ∷ t.Sign s.OpenBracket ∷ (with_commas (map tokens_of index) ++ t.Sign s.CloseBracket ∷ (way_tokens how ++ (tokens_of value ++ t.Sign s.Semicolon ∷ rest)))
write_parts field index how value rest = rw (stmt_tokens-Write field index how value) (simp append_assoc)

pub if_parts : (condition : Expr) (chosen : List Stmt) (otherwise : Option (List Stmt)) (rest : List Token) → stmt_tokens (stmt.If condition chosen otherwise) ++ rest
    ≡ t.Word w.If ∷ (tokens_of condition ++ (block_tokens chosen ++ (else_tokens (option_map (map stmt_tokens) otherwise) ++ rest)))
if_parts condition chosen otherwise rest =
    rw (
      stmt_tokens-If condition chosen otherwise,
      append_assoc (tokens_of condition) (block_tokens chosen ++ else_tokens (option_map (map stmt_tokens) otherwise)) rest,
      append_assoc (block_tokens chosen) (else_tokens (option_map (map stmt_tokens) otherwise)) rest,
    ) refl

pub for_parts : (name : Name) (range : RangeDecl) (body : List Stmt) (rest : List Token) → stmt_tokens (stmt.For name range body) ++ rest
    ≡ t.Word w.For ∷ t.Name name ∷ t.Word w.In ∷ (range_tokens range ++ (block_tokens body ++ rest))
for_parts name range body rest = rw (stmt_tokens-For name range body, append_assoc (range_tokens range) (block_tokens body) rest) refl

pub block_parts : (body : List Stmt) (rest : List Token) → block_tokens body ++ rest ≡ t.Sign s.OpenBrace ∷ (joined_lists (map stmt_tokens body) ++ t.Sign s.CloseBrace ∷ rest)
block_parts body rest = ap (λ r. t.Sign s.OpenBrace ∷ r) (append_assoc (joined_lists (map stmt_tokens body)) (t.Sign s.CloseBrace ∷ []) rest)

pub expr_sound : IsSoundReader tokens_of GoodExpr read_expr
expr_sound tokens a rest h = let taken = expr_at_sound max_depth 1 tokens a rest (lit≤ tt) h in (expr_of_fit a taken.fit, taken.parts)

pub range_sound : IsSoundReader range_tokens GoodRange read_range
unfolding read_range
range_sound tokens a rest h =
    let p = bind_some (read_expr tokens) _ (a, rest) h in
    let q = bind_some (after_sign s.DotDot p.0.1) _ (a, rest) p.2 in
    let r = bind_some (read_expr q.0) _ (a, rest) q.2 in
    let lo = expr_sound tokens p.0.0 p.0.1 p.1 in
    let hi = expr_sound q.0 r.0.0 r.0.1 r.1 in
    let range : RangeDecl = record { lo = p.0.0; hi = r.0.0 } in
    let dots = after_sign_is s.DotDot p.0.1 q.0 q.1 in
    made_is (λ (a : RangeDecl) (rest : List Token). (GoodRange a) × (tokens ≡ range_tokens a ++ rest)) range a r.0.1 rest
    (and_from (is_expr p.0.0) (is_expr r.0.0) lo.0 hi.0, rw (range_parts range r.0.1) (cc (lo.1, hi.1, dots))) r.2

pub ended_sound : (tokens : List Token) (a : Expr) (rest : List Token) → value_to_end tokens ≡ Some (a, rest) → (is_expr a ≡ true) × (tokens ≡ tokens_of a ++ t.Sign s.Semicolon ∷ rest)
unfolding value_to_end
ended_sound tokens a rest h =
    let p = bind_some (read_expr tokens) _ (a, rest) h in
    let q = bind_some (after_sign s.Semicolon p.0.1) _ (a, rest) p.2 in
    let value = expr_sound tokens p.0.0 p.0.1 p.1 in
    let semicolon = after_sign_is s.Semicolon p.0.1 q.0 q.1 in
    made_is (λ (a : Expr) (rest : List Token). (is_expr a ≡ true) × (tokens ≡ tokens_of a ++ t.Sign s.Semicolon ∷ rest)) p.0.0 a q.0 rest (value.0, cc (value.1, semicolon)) q.2

pub assigned_sound : (tokens : List Token) (a : Expr) (rest : List Token) → assigned_value tokens ≡ Some (a, rest) → (is_expr a ≡ true) × (tokens ≡ t.Sign s.Equal ∷ (tokens_of a ++ t.Sign s.Semicolon ∷ rest))
unfolding assigned_value
assigned_sound tokens a rest h =
    let p = bind_some (after_sign s.Equal tokens) _ (a, rest) h in
    let equal = after_sign_is s.Equal tokens p.0 p.1 in
    let value = ended_sound p.0 a rest p.2 in
    (value.0, cc (equal, value.1))

behind_equal_sound : (how a : WayDecl) (tokens rest : List Token) → behind_equal how tokens ≡ Some (a, rest) → (how ≡ a) × (tokens ≡ t.Sign s.Equal ∷ rest)
behind_equal_sound how a tokens rest h =
    let p = bind_some (after_sign s.Equal tokens) _ (a, rest) h in
    let q = some_pair_parts how a p.0 rest p.2 in
    let equal = after_sign_is s.Equal tokens p.0 p.1 in
    (q.0, cc (equal, q.1))

way_given : (how a : WayDecl) (left rest : List Token) → ◌≡◌ {A = Option (WayDecl × List Token)} (Some (how, left)) (Some (a, rest)) → way_tokens how ++ left ≡ way_tokens a ++ rest
way_given how a left rest h = made_is (λ (a : WayDecl) (rest : List Token). way_tokens how ++ left ≡ way_tokens a ++ rest) how a left rest refl h

way_behind : (how a : WayDecl) (tokens rest : List Token) (word : Word) → way_tokens how ≡ t.Word word ∷ t.Sign s.Equal ∷ [] → behind_equal how tokens ≡ Some (a, rest) → t.Word word ∷ tokens ≡ way_tokens a ++ rest
way_behind how a tokens rest word is h =
    let p = behind_equal_sound how a tokens rest h in
    rw (← p.0, is, p.1) refl

pub way_sound : (tokens : List Token) (a : WayDecl) (rest : List Token) → next_way tokens ≡ Some (a, rest) → tokens ≡ way_tokens a ++ rest
way_sound [] a rest h = absurd (cc)
way_sound (t.Sign s.Equal ∷ tokens) a rest h = way_given way.Own a tokens rest h
way_sound (t.Sign s.PlusEqual ∷ tokens) a rest h = way_given (way.Acc acc.Add) a tokens rest h
way_sound (t.Word w.Min ∷ tokens) a rest h = way_behind (way.Acc acc.Min) a tokens rest w.Min refl h
way_sound (t.Word w.Max ∷ tokens) a rest h = way_behind (way.Acc acc.Max) a tokens rest w.Max refl h
way_sound (t.Sign s.OrEqual ∷ tokens) a rest h = way_given (way.Acc acc.Or) a tokens rest h
way_sound (t.Sign s.AndEqual ∷ tokens) a rest h = way_given (way.Acc acc.And) a tokens rest h
way_sound (t.Sign s.CaretEqual ∷ tokens) a rest h = way_given (way.Acc acc.Xor) a tokens rest h
way_sound (_ ∷ tokens) a rest h = absurd (cc)

all_exprs : (parts : List Expr) → AllByRecursion (Fit 1 max_depth) parts → list_all is_expr parts ≡ true
all_exprs [] h = refl
all_exprs (a ∷ parts) h = and_from (is_expr a) (list_all is_expr parts) (expr_of_fit a h.0) (all_exprs parts h.1)

let_sound : (d : ℕ) (tokens : List Token) (a : Stmt) (rest : List Token) → read_let tokens ≡ Some (a, rest) → GoodStmt d a × (t.Word w.Let ∷ tokens ≡ stmt_tokens a ++ rest)
unfolding read_let
let_sound d tokens a rest h =
    let p = bind_some (next_name tokens) _ (a, rest) h in
    let q = bind_some (assigned_value p.0.1) _ (a, rest) p.2 in
    let name = next_name_is tokens p.0.1 p.0.0 p.1 in
    let value = assigned_sound p.0.1 q.0.0 q.0.1 q.1 in
    made_is (λ (a : Stmt) (rest : List Token). GoodStmt d a × (t.Word w.Let ∷ tokens ≡ stmt_tokens a ++ rest)) (stmt.Let p.0.0 q.0.0) a q.0.1 rest (
      record {
        good = is_stmt-Let p.0.0 q.0.0 ∙ and_from (is_name p.0.0) (is_expr q.0.0) name.1 value.0;
        shallow = omega (arith, stmt_nesting-Let p.0.0 q.0.0);
      },
      rw (let_parts p.0.0 q.0.0 q.0.1) (cc (name.0, value.1)),
    ) q.2

write_sound : (d : ℕ) (field : Name) (tokens : List Token) (a : Stmt) (rest : List Token) → is_name field ≡ true → read_write field tokens ≡ Some (a, rest)
    → GoodStmt d a × (t.Name field ∷ t.Sign s.OpenBracket ∷ tokens ≡ stmt_tokens a ++ rest)
unfolding read_write
write_sound d field tokens a rest read_name_expr h =
    let p = bind_some (read_indices (expr_at max_depth) tokens) _ (a, rest) h in
    let q = bind_some (next_way p.0.1) _ (a, rest) p.2 in
    let r = bind_some (value_to_end q.0.1) _ (a, rest) q.2 in
    let index = indices_sound max_depth (expr_at max_depth) (expr_at_sound max_depth) tokens p.0.0 p.0.1 p.1 in
    let how = way_sound p.0.1 q.0.0 q.0.1 q.1 in
    let value = ended_sound q.0.1 r.0.0 r.0.1 r.1 in
    made_is (λ (a : Stmt) (rest : List Token). GoodStmt d a × (t.Name field ∷ t.Sign s.OpenBracket ∷ tokens ≡ stmt_tokens a ++ rest)) (stmt.Write field p.0.0 q.0.0 r.0.0) a r.0.1 rest (
      record {
        good = is_stmt-Write field p.0.0 q.0.0 r.0.0 ∙ and_from (is_name field && one_or_more is_expr p.0.0) (is_expr r.0.0)
            (and_from (is_name field) _ read_name_expr (and_from (nat_le 1 (length p.0.0)) _ (le-leb 1 (length p.0.0) index.0) (all_exprs p.0.0 index.1))) value.0;
        shallow = omega (arith, stmt_nesting-Write field p.0.0 q.0.0 r.0.0);
      },
      rw (write_parts field p.0.0 q.0.0 r.0.0 r.0.1) (cc (index.2, how, value.1)),
    ) r.2

placed_sound : (d : ℕ) (name : Name) (tokens : List Token) (a : Stmt) (rest : List Token) → assign_or_write name tokens ≡ Some (a, rest) → GoodStmt d a × (t.Name name ∷ tokens ≡ stmt_tokens a ++ rest)
unfolding assign_or_write
placed_sound d name tokens a rest h =
    let p = only_if_some (is_name name) (assign_or_write_on name tokens (after_sign s.OpenBracket tokens)) (a, rest) h in
    go p.0 (after_sign s.OpenBracket tokens) refl p.1 where
      go : is_name name ≡ true → (after : Option (List Token)) → after_sign s.OpenBracket tokens ≡ after → assign_or_write_on name tokens after ≡ Some (a, rest) → GoodStmt d a × (t.Name name ∷ tokens ≡ stmt_tokens a ++ rest)
      go good None is h =
          let p = bind_some (assigned_value tokens) _ (a, rest) h in
          let value = assigned_sound tokens p.0.0 p.0.1 p.1 in
          made_is (λ (a : Stmt) (rest : List Token). GoodStmt d a × (t.Name name ∷ tokens ≡ stmt_tokens a ++ rest)) (stmt.Assign name p.0.0) a p.0.1 rest (
            record {
              good = is_stmt-Assign name p.0.0 ∙ and_from (is_name name) (is_expr p.0.0) good value.0;
              shallow = omega (arith, stmt_nesting-Assign name p.0.0);
            },
            rw (assign_parts name p.0.0 p.0.1) (cc (value.1)),
          ) p.2
      go good (Some behind) is h =
          let bracket = after_sign_is s.OpenBracket tokens behind is in
          let taken = write_sound d name behind a rest good h in
          (taken.0, cc (bracket, taken.1))

-- `NAME in LO..HI`, and what comes after it
abbrev IsForHead : List Token → Name → RangeDecl → List Token → Type 0
IsForHead tokens name range rest = (is_name name ≡ true) × GoodRange range × (tokens ≡ t.Name name ∷ t.Word w.In ∷ (range_tokens range ++ rest))

for_head_sound : (tokens : List Token) (name : Name) (range : RangeDecl) (rest : List Token) → for_head tokens ≡ Some (name, range, rest) → IsForHead tokens name range rest
unfolding for_head
for_head_sound tokens name range rest h =
    let p = bind_some (next_name tokens) _ (name, range, rest) h in
    let q = bind_some (after_word w.In p.0.1) _ (name, range, rest) p.2 in
    let r = bind_some (read_range q.0) _ (name, range, rest) q.2 in
    let first = next_name_is tokens p.0.1 p.0.0 p.1 in
    let word = after_word_is w.In p.0.1 q.0 q.1 in
    let bounds = range_sound q.0 r.0.0 r.0.1 r.1 in
    made_two (IsForHead tokens) p.0.0 name r.0.0 range r.0.1 rest
    (first.1, bounds.0, first.0 ∙ ap (λ k. t.Name p.0.0 ∷ k) (word ∙ ap (λ k. t.Word w.In ∷ k) bounds.1)) r.2

-- one layer, where the reader of blocks is sound
module _ (d : ℕ) (block : Reader (List Stmt)) (sound : IsSoundReader block_tokens (GoodBlock d) block) where
  if_sound : (tokens : List Token) (a : Stmt) (rest : List Token) → read_if block tokens ≡ Some (a, rest) → GoodStmt d a × (t.Word w.If ∷ tokens ≡ stmt_tokens a ++ rest)
  unfolding read_if
  if_sound tokens a rest h =
      let p = bind_some (read_expr tokens) (λ (c : Expr × List Token). block c.1 >>= λ y. else_on block c.0 y.0 y.1 (after_word w.Else y.1)) (a, rest) h in
      let q = bind_some (block p.0.1) (λ (y : List Stmt × List Token). else_on block p.0.0 y.0 y.1 (after_word w.Else y.1)) (a, rest) p.2 in
      let condition = expr_sound tokens p.0.0 p.0.1 p.1 in
      let chosen = sound p.0.1 q.0.0 q.0.1 q.1 in
      go p.0.0 p.0.1 condition q.0.0 q.0.1 chosen (after_word w.Else q.0.1) refl q.2 where
        go : (c : Expr) (left : List Token) → GoodExpr c × (tokens ≡ tokens_of c ++ left) → (chosen : List Stmt) (behind : List Token) → GoodBlock d chosen × (left ≡ block_tokens chosen ++ behind)
            → (after : Option (List Token)) → after_word w.Else behind ≡ after → else_on block c chosen behind after ≡ Some (a, rest) → GoodStmt d a × (t.Word w.If ∷ tokens ≡ stmt_tokens a ++ rest)
        go c left condition chosen behind yields None is h =
            let shallow = yields.0.shallow in
            made_is (λ (a : Stmt) (rest : List Token). GoodStmt d a × (t.Word w.If ∷ tokens ≡ stmt_tokens a ++ rest)) (stmt.If c chosen None) a behind rest (
              record {
                good = is_stmt-If c chosen None ∙ and_from (is_expr c) _ condition.0 (and_from (list_all is_stmt chosen) true yields.0.good refl);
                shallow = omega (arith, stmt_nesting-If c chosen None);
              },
              rw (if_parts c chosen None behind) (cc (condition.1, yields.1)),
            ) h
        go c left condition chosen behind yields (Some after) is h =
            let p = bind_some (block after) (λ (no : List Stmt × List Token). Some (stmt.If c chosen (Some no.0), no.1)) (a, rest) h in
            let other = sound after p.0.0 p.0.1 p.1 in
            let word = after_word_is w.Else behind after is in
            let shallow = yields.0.shallow in
            let shallow_other = other.0.shallow in
            made_is (λ (a : Stmt) (rest : List Token). GoodStmt d a × (t.Word w.If ∷ tokens ≡ stmt_tokens a ++ rest)) (stmt.If c chosen (Some p.0.0)) a p.0.1 rest (
              record {
                good = is_stmt-If c chosen (Some p.0.0) ∙ and_from (is_expr c) _ condition.0 (and_from (list_all is_stmt chosen) (list_all is_stmt p.0.0) yields.0.good other.0.good);
                shallow = omega (arith, stmt_nesting-If c chosen (Some p.0.0));
              },
              rw (if_parts c chosen (Some p.0.0) p.0.1) (cc (condition.1, yields.1, word, other.1)),
            ) p.2

  for_sound : (tokens : List Token) (a : Stmt) (rest : List Token) → read_for block tokens ≡ Some (a, rest) → GoodStmt d a × (t.Word w.For ∷ tokens ≡ stmt_tokens a ++ rest)
  unfolding read_for
  for_sound tokens a rest h =
      let p = bind_some (for_head tokens) _ (a, rest) h in
      let q = bind_some (block p.0.2) _ (a, rest) p.2 in
      let head = for_head_sound tokens p.0.0 p.0.1 p.0.2 p.1 in
      let body = sound p.0.2 q.0.0 q.0.1 q.1 in
      let shallow = body.0.shallow in
      made_is (λ (a : Stmt) (rest : List Token). GoodStmt d a × (t.Word w.For ∷ tokens ≡ stmt_tokens a ++ rest)) (stmt.For p.0.0 p.0.1 q.0.0) a q.0.1 rest (
        record {
          good = is_stmt-For p.0.0 p.0.1 q.0.0 ∙ and_from (is_name p.0.0) _ head.0 (and_from (is_range p.0.1) (list_all is_stmt q.0.0) head.1 body.0.good);
          shallow = omega (arith, stmt_nesting-For p.0.0 p.0.1 q.0.0);
        },
        rw (for_parts p.0.0 p.0.1 q.0.0 q.0.1) (ap (λ r. t.Word w.For ∷ r) (head.2 ∙ ap (λ r. t.Name p.0.0 ∷ t.Word w.In ∷ (range_tokens p.0.1 ++ r)) body.1)),
      ) q.2

  worded_stmt_sound : (word : Word) (tokens : List Token) (a : Stmt) (rest : List Token) → word_stmt block word tokens ≡ Some (a, rest) → GoodStmt d a × (t.Word word ∷ tokens ≡ stmt_tokens a ++ rest)
  worded_stmt_sound w.Let tokens a rest h = let_sound d tokens a rest h
  worded_stmt_sound w.If tokens a rest h = if_sound tokens a rest h
  worded_stmt_sound w.For tokens a rest h = for_sound tokens a rest h
  worded_stmt_sound _ tokens a rest h = absurd (cc)

  pub statement_sound : IsSoundReader stmt_tokens (GoodStmt d) (statement block)
  unfolding statement
  statement_sound [] a rest h = absurd (cc)
  statement_sound (t.Name name ∷ tokens) a rest h = placed_sound d name tokens a rest h
  statement_sound (t.Word word ∷ tokens) a rest h = worded_stmt_sound word tokens a rest h
  statement_sound (_ ∷ tokens) a rest h = absurd (cc)

all_good : (d : ℕ) (body : List Stmt) → AllByRecursion (GoodStmt d) body → (list_all is_stmt body ≡ true) × (largest (map stmt_nesting body) ≤ d)
all_good d [] h = (refl, omega arith)
all_good d (a ∷ body) h =
    let more = all_good d body h.1 in
    let shallow = h.0.shallow in
    let shallow_more = more.1 in
    (and_from (is_stmt a) (list_all is_stmt body) h.0.good more.0, omega arith)

pub block_at_sound : (limit : ℕ) → IsSoundReader block_tokens (GoodBlock limit) (block_at limit)
unfolding block_at
block_at_sound zero tokens a rest h = absurd (cc)
block_at_sound (suc d) tokens a rest h =
    let p = bind_some (after_sign s.OpenBrace tokens) (λ (behind : List Token). list_to_end (after_sign s.CloseBrace) (statement (block_at d)) behind) (a, rest) h in
    let brace = after_sign_is s.OpenBrace tokens p.0 p.1 in
    let taken = repeated_sound Stmt (statement (block_at d)) stmt_tokens (GoodStmt d) (statement_sound d (block_at d) (block_at_sound d)) (after_sign s.CloseBrace) p.0 a rest p.2 in
    let close = after_sign_is s.CloseBrace taken.0 rest taken.3 in
    let all = all_good d a taken.1 in
    let shallow = all.1 in
    (record { good = all.0; shallow = omega arith }, rw (block_parts a rest) (cc (brace, taken.2, close)))
