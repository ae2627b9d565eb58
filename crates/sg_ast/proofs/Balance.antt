-- The braces in the tokens of trees.
use Rattle.std.specs.Prelude.{◌≡◌, refl, ℕ, suc, ◌-◌, Bool, true, false, nat_le, List, [], ◌∷◌, ◌++◌, map, Option, Some, None, option_map}
use Rattle.std.specs.List.{AllByRecursion}
use Rattle.std.proofs.Common.{◌∙◌, arith, add-one}
use Rattle.std.proofs.lemmas.Bool.{leb-true, ne_eqb, false_from_ne_true}
use Rattle.sg_words.specs.declared.operators.BinOp.{BinOp}
use Rattle.sg_words.specs.declared.operators.BinOp.TheVariants as b
use Rattle.sg_words.specs.declared.operators.UnOp.{UnOp}
use Rattle.sg_words.specs.declared.operators.UnOp.TheVariants as u
use Rattle.sg_words.specs.declared.operators.AccOp.TheVariants as acc
use Rattle.sg_ast.specs.declared.token.Name.{Name}
use Rattle.sg_ast.specs.declared.token.Sign.TheVariants as s
use Rattle.sg_ast.specs.declared.token.Token.{Token}
use Rattle.sg_ast.specs.declared.token.Token.TheVariants as t
use Rattle.sg_ast.specs.declared.expr.Callee.{Callee}
use Rattle.sg_ast.specs.declared.expr.Callee.TheVariants as c
use Rattle.sg_ast.specs.declared.expr.Expr.{Expr}
use Rattle.sg_ast.specs.declared.stmt.WayDecl.{WayDecl}
use Rattle.sg_ast.specs.declared.stmt.WayDecl.TheVariants as way
use Rattle.sg_ast.specs.declared.stmt.RangeDecl.{RangeDecl}
use Rattle.sg_ast.specs.declared.stmt.Stmt.{Stmt}
use Rattle.sg_ast.specs.Expr.{tokens_of, with_commas, each_more, op_token, un_token, callee_token, truth_token, access_tokens}
use Rattle.sg_ast.specs.Stmt.{joined_lists, in_braces, stmt_tokens, block_tokens, way_tokens, range_tokens, else_tokens}
use Rattle.sg_ast.proofs.Uses.Exprs.{by_exprs, tokens_of-Number, tokens_of-Truth, tokens_of-Name, tokens_of-Read, tokens_of-Paren, tokens_of-Un, tokens_of-Bin, tokens_of-Call, tokens_of-Active}
use Rattle.sg_ast.proofs.Uses.Stmts.{AllInElse, by_statements, stmt_tokens-Let, stmt_tokens-Assign, stmt_tokens-Write, stmt_tokens-If, stmt_tokens-For}
use Rattle.sg_ast.proofs.Cuts.{braces_after, braces_after-append}

-- no item ends in the list, and as many braces are open after it as before it
abbrev pub IsPlain : List Token → Type 0
IsPlain xs = (n : ℕ) → braces_after n xs ≡ Some n

abbrev pub ArePlain : List (List Token) → Type 0
ArePlain = AllByRecursion IsPlain

-- what holds of the tokens of each of some trees holds of each of their token lists
pub all_mapped : {A : Type 0} (P : List Token → Type 0) (tokens : A → List Token) (trees : List A) → AllByRecursion (λ tree. P (tokens tree)) trees → AllByRecursion P (map tokens trees)
all_mapped P tokens [] h = tt
all_mapped P tokens (tree ∷ more) h = (h.0, all_mapped P tokens more h.1)

pub each_mapped : {A : Type 0} (P : List Token → Type 0) (tokens : A → List Token) → ((tree : A) → P (tokens tree)) → (trees : List A) → AllByRecursion P (map tokens trees)
each_mapped P tokens each [] = tt
each_mapped P tokens each (tree ∷ more) = (each tree, each_mapped P tokens each more)

pub plain-append : (xs ys : List Token) → IsPlain xs → IsPlain ys → IsPlain (xs ++ ys)
plain-append xs ys p q n = braces_after-append n n xs ys (p n) ∙ q n

pub plain-each_more : (parts : List (List Token)) → ArePlain parts → IsPlain (each_more parts)
plain-each_more [] h n = refl
plain-each_more (xs ∷ more) h n = plain-append xs (each_more more) h.0 (plain-each_more more h.1) n

pub plain-separated : (parts : List (List Token)) → ArePlain parts → IsPlain (with_commas parts)
plain-separated [] h n = refl
plain-separated (xs ∷ more) h n = plain-append xs (each_more more) h.0 (plain-each_more more h.1) n

pub plain-access : (field : Name) (parts : List (List Token)) → ArePlain parts → IsPlain (access_tokens field parts)
plain-access field parts h n = plain-append (with_commas parts) (t.Sign s.CloseBracket ∷ []) (plain-separated parts h) (λ k. refl) n

plain-op : (op : BinOp) (xs : List Token) → IsPlain xs → IsPlain (op_token op ∷ xs)
plain-op b.Add xs h n = h n
plain-op b.Sub xs h n = h n
plain-op b.Mul xs h n = h n
plain-op b.Div xs h n = h n
plain-op b.Rem xs h n = h n
plain-op b.And xs h n = h n
plain-op b.Or xs h n = h n
plain-op b.Xor xs h n = h n
plain-op b.LAnd xs h n = h n
plain-op b.LOr xs h n = h n
plain-op b.Shl xs h n = h n
plain-op b.Shr xs h n = h n
plain-op b.Min xs h n = h n
plain-op b.Max xs h n = h n
plain-op b.Eq xs h n = h n
plain-op b.Ne xs h n = h n
plain-op b.Lt xs h n = h n
plain-op b.Le xs h n = h n
plain-op b.Gt xs h n = h n
plain-op b.Ge xs h n = h n

plain-un : (op : UnOp) (xs : List Token) → IsPlain xs → IsPlain (un_token op ∷ xs)
plain-un u.Neg xs h n = h n
plain-un u.Not xs h n = h n
plain-un u.LNot xs h n = h n

plain-callee : (callee : Callee) (xs : List Token) → IsPlain xs → IsPlain (callee_token callee ∷ xs)
plain-callee c.Min xs h n = h n
plain-callee c.Max xs h n = h n
plain-callee c.Mulq xs h n = h n
plain-callee c.I32 xs h n = h n
plain-callee c.U32 xs h n = h n

plain-truth : (truth : Bool) → IsPlain (truth_token truth ∷ [])
plain-truth true n = refl
plain-truth false n = refl

abbrev pub IsPlainExpr : Expr → Type 0
IsPlainExpr expr = IsPlain (tokens_of expr)

pub plain_expr : (expr : Expr) → IsPlainExpr expr
plain_expr = by_exprs IsPlainExpr
    (λ value unsigned. rw (tokens_of-Number value unsigned) (λ n. refl))
    (λ truth. rw (tokens_of-Truth truth) (plain-truth truth))
    (λ name. rw (tokens_of-Name name) (λ n. refl))
    (λ field index h. rw (tokens_of-Read field index) (plain-access field (map tokens_of index) (all_mapped IsPlain tokens_of index h)))
    (λ inner h. rw (tokens_of-Paren inner) (plain-append (tokens_of inner) (t.Sign s.CloseParen ∷ []) h (λ n. refl)))
    (λ op operand h. rw (tokens_of-Un op operand) (plain-un op (tokens_of operand) h))
    (λ op left right hl hr. rw (tokens_of-Bin op left right) (plain-append (tokens_of left) (op_token op ∷ tokens_of right) hl
    (plain-op op (tokens_of right) hr)))
    (λ callee arguments h. rw (tokens_of-Call callee arguments) (plain-callee callee (t.Sign s.OpenParen ∷ (with_commas (map tokens_of arguments) ++ t.Sign s.CloseParen ∷ []))
    (plain-append (with_commas (map tokens_of arguments)) (t.Sign s.CloseParen ∷ [])
    (plain-separated (map tokens_of arguments) (all_mapped IsPlain tokens_of arguments h)) (λ n. refl))))
    (λ field index h. rw (tokens_of-Active field index) (plain-append (access_tokens field (map tokens_of index)) (t.Sign s.CloseParen ∷ [])
    (plain-access field (map tokens_of index) (all_mapped IsPlain tokens_of index h)) (λ n. refl)))

pub plain_exprs : (exprs : List Expr) → ArePlain (map tokens_of exprs)
plain_exprs = each_mapped IsPlain tokens_of plain_expr

pub plain_range : (range : RangeDecl) → IsPlain (range_tokens range)
plain_range range = plain-append (tokens_of range.lo) (t.Sign s.DotDot ∷ tokens_of range.hi) (plain_expr range.lo) (plain_expr range.hi)

-- no item ends in the list inside braces, and as many are open after it as before it
abbrev pub IsBalanced : List Token → Type 0
IsBalanced xs = (n : ℕ) → braces_after (suc n) xs ≡ Some (suc n)

pub balanced-append : (xs ys : List Token) → IsBalanced xs → IsBalanced ys → IsBalanced (xs ++ ys)
balanced-append xs ys p q n = braces_after-append (suc n) (suc n) xs ys (p n) ∙ q n

pub balanced_plain : (xs : List Token) → IsPlain xs → IsBalanced xs
balanced_plain xs p n = p (suc n)

pub balanced_semicolon : IsBalanced (t.Sign s.Semicolon ∷ [])
balanced_semicolon n = rw (ne_eqb (suc n) 0 (λ h. omega arith)) refl

-- what ends in a semicolon
pub balanced_ended : (xs : List Token) → IsPlain xs → IsBalanced (xs ++ t.Sign s.Semicolon ∷ [])
balanced_ended xs p = balanced-append xs (t.Sign s.Semicolon ∷ []) (balanced_plain xs p) balanced_semicolon

-- a closing brace where two are open
pub braces_after-close : (n : ℕ) (xs : List Token) → braces_after (suc (suc n)) (t.Sign s.CloseBrace ∷ xs) ≡ braces_after (suc n) xs
braces_after-close n xs =
    let inside : nat_le (suc (suc n)) 1 ≡ false = false_from_ne_true _ (λ h. omega (arith, leb-true (suc (suc n)) 1 h)) in
    let one_less : suc (suc n) - 1 ≡ suc n = omega arith in
    rw (inside, one_less) refl

pub balanced-braced : (parts : List (List Token)) → IsBalanced (joined_lists parts) → IsBalanced (in_braces parts)
balanced-braced parts p n =
    rw add-one (braces_after-append (suc (suc n)) (suc (suc n)) (joined_lists parts) (t.Sign s.CloseBrace ∷ []) (p (suc n)) ∙ braces_after-close n [])

abbrev pub AreBalanced : List (List Token) → Type 0
AreBalanced = AllByRecursion IsBalanced

pub balanced-joined : (parts : List (List Token)) → AreBalanced parts → IsBalanced (joined_lists parts)
balanced-joined [] h n = refl
balanced-joined (xs ∷ more) h n = balanced-append xs (joined_lists more) h.0 (balanced-joined more h.1) n

plain-way : (how : WayDecl) → IsPlain (way_tokens how)
plain-way way.Own n = refl
plain-way (way.Acc acc.Add) n = refl
plain-way (way.Acc acc.Min) n = refl
plain-way (way.Acc acc.Max) n = refl
plain-way (way.Acc acc.Or) n = refl
plain-way (way.Acc acc.And) n = refl
plain-way (way.Acc acc.Xor) n = refl

abbrev pub IsBalancedStmt : Stmt → Type 0
IsBalancedStmt statement = IsBalanced (stmt_tokens statement)

balanced_block : (block : List Stmt) → AllByRecursion IsBalancedStmt block → IsBalanced (block_tokens block)
balanced_block block h = balanced-braced (map stmt_tokens block) (balanced-joined (map stmt_tokens block) (all_mapped IsBalanced stmt_tokens block h))

balanced_else : (otherwise : Option (List Stmt)) → AllInElse IsBalancedStmt otherwise → IsBalanced (else_tokens (option_map (map stmt_tokens) otherwise))
balanced_else None h n = refl
balanced_else (Some block) h n = balanced_block block h n

pub balanced_stmt : (statement : Stmt) → IsBalancedStmt statement
balanced_stmt = by_statements IsBalancedStmt
    (λ name value. rw (stmt_tokens-Let name value) (balanced_ended (tokens_of value) (plain_expr value)))
    (λ name value. rw (stmt_tokens-Assign name value) (balanced_ended (tokens_of value) (plain_expr value)))
    (λ field index how value. rw (stmt_tokens-Write field index how value) (balanced-append (access_tokens field (map tokens_of index)) (way_tokens how ++ (tokens_of value ++ t.Sign s.Semicolon ∷ []))
    (balanced_plain (access_tokens field (map tokens_of index)) (plain-access field (map tokens_of index) (plain_exprs index)))
    (balanced-append (way_tokens how) (tokens_of value ++ t.Sign s.Semicolon ∷ []) (balanced_plain (way_tokens how) (plain-way how)) (balanced_ended (tokens_of value) (plain_expr value)))))
    (λ condition block otherwise h else_h. rw (stmt_tokens-If condition block otherwise) (balanced-append (tokens_of condition) (block_tokens block ++ else_tokens (option_map (map stmt_tokens) otherwise))
    (balanced_plain (tokens_of condition) (plain_expr condition))
    (balanced-append (block_tokens block) (else_tokens (option_map (map stmt_tokens) otherwise)) (balanced_block block h) (balanced_else otherwise else_h))))
    (λ name range body h. rw (stmt_tokens-For name range body) (balanced-append (range_tokens range) (block_tokens body)
    (balanced_plain (range_tokens range) (plain_range range)) (balanced_block body h)))

pub balanced_block_tokens : (block : List Stmt) → IsBalanced (block_tokens block)
balanced_block_tokens block = balanced-braced (map stmt_tokens block) (balanced-joined (map stmt_tokens block) (each_mapped IsBalanced stmt_tokens balanced_stmt block))
