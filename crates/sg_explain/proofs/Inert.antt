-- Tokens in which no part of an item begins or ends: those of expressions, ranges, accesses and lists of names.
use Rattle.std.specs.Prelude.{◌≡◌, refl, Bool, true, false, List, [], ◌∷◌, ◌++◌, map}
use Rattle.std.specs.List.{AllByRecursion}
use Rattle.std.proofs.Common.{◌∙◌}
use Rattle.std.proofs.lemmas.List.{append_assoc}
use Rattle.sg_words.specs.declared.operators.BinOp.{BinOp}
use Rattle.sg_words.specs.declared.operators.BinOp.TheVariants as b
use Rattle.sg_words.specs.declared.operators.UnOp.{UnOp}
use Rattle.sg_words.specs.declared.operators.UnOp.TheVariants as u
use Rattle.sg_words.specs.declared.operators.AccOp.TheVariants as acc
use Rattle.sg_ast.specs.declared.token.Name.{Name}
use Rattle.sg_ast.specs.declared.token.Sign.TheVariants as s
use Rattle.sg_ast.specs.declared.token.Token.{Token}
use Rattle.sg_ast.specs.declared.token.Token.TheVariants as t
use Rattle.sg_ast.specs.declared.expr.Callee.{Callee}
use Rattle.sg_ast.specs.declared.expr.Callee.TheVariants as c
use Rattle.sg_ast.specs.declared.expr.Expr.{Expr}
use Rattle.sg_ast.specs.declared.stmt.WayDecl.{WayDecl}
use Rattle.sg_ast.specs.declared.stmt.WayDecl.TheVariants as way
use Rattle.sg_ast.specs.declared.stmt.RangeDecl.{RangeDecl}
use Rattle.sg_ast.specs.declared.kernel.DomainDecl.{DomainDecl}
use Rattle.sg_ast.specs.declared.kernel.DomainDecl.TheVariants as domain
use Rattle.sg_ast.specs.Expr.{tokens_of, with_commas, each_more, op_token, un_token, callee_token, truth_token, access_tokens}
use Rattle.sg_ast.specs.Stmt.{way_tokens, range_tokens}
use Rattle.sg_ast.specs.Layout.{names_tokens}
use Rattle.sg_ast.specs.Kernel.{domain_tokens}
use Rattle.sg_ast.proofs.Uses.{by_exprs, tokens_of-Number, tokens_of-Truth, tokens_of-Name, tokens_of-Read, tokens_of-Paren, tokens_of-Un, tokens_of-Bin, tokens_of-Call, tokens_of-Active}
use Rattle.sg_explain.specs.Parts.{parts_from}

-- no part begins or ends in the list, where none may begin at its front
abbrev pub IsInert : List Token → Type 0
IsInert xs = (rest : List Token) → parts_from false (xs ++ rest) ≡ parts_from false rest

abbrev pub AreInert : List (List Token) → Type 0
AreInert = AllByRecursion IsInert

-- what holds of the tokens of each of some trees holds of each of their token lists
all_mapped : {A : Type 0} (tokens : A → List Token) (trees : List A) → AllByRecursion (λ tree. IsInert (tokens tree)) trees → AreInert (map tokens trees)
all_mapped tokens [] h = tt
all_mapped tokens (tree ∷ more) h = (h.0, all_mapped tokens more h.1)

each_mapped : {A : Type 0} (tokens : A → List Token) → ((tree : A) → IsInert (tokens tree)) → (trees : List A) → AreInert (map tokens trees)
each_mapped tokens each [] = tt
each_mapped tokens each (tree ∷ more) = (each tree, each_mapped tokens each more)

inert-append : (xs ys : List Token) → IsInert xs → IsInert ys → IsInert (xs ++ ys)
inert-append xs ys p q rest = rw (append_assoc xs ys rest) (p (ys ++ rest) ∙ q rest)

inert-each_more : (parts : List (List Token)) → AreInert parts → IsInert (each_more parts)
inert-each_more [] h rest = refl
inert-each_more (xs ∷ more) h rest = inert-append xs (each_more more) h.0 (inert-each_more more h.1) rest

inert-separated : (parts : List (List Token)) → AreInert parts → IsInert (with_commas parts)
inert-separated [] h rest = refl
inert-separated (xs ∷ more) h rest = inert-append xs (each_more more) h.0 (inert-each_more more h.1) rest

inert-access : (field : Name) (parts : List (List Token)) → AreInert parts → IsInert (access_tokens field parts)
inert-access field parts h rest = inert-append (with_commas parts) (t.Sign s.CloseBracket ∷ []) (inert-separated parts h) (λ rest. refl) rest

inert-op : (op : BinOp) (xs : List Token) → IsInert xs → IsInert (op_token op ∷ xs)
inert-op b.Add xs h rest = h rest
inert-op b.Sub xs h rest = h rest
inert-op b.Mul xs h rest = h rest
inert-op b.Div xs h rest = h rest
inert-op b.Rem xs h rest = h rest
inert-op b.And xs h rest = h rest
inert-op b.Or xs h rest = h rest
inert-op b.Xor xs h rest = h rest
inert-op b.LAnd xs h rest = h rest
inert-op b.LOr xs h rest = h rest
inert-op b.Shl xs h rest = h rest
inert-op b.Shr xs h rest = h rest
inert-op b.Min xs h rest = h rest
inert-op b.Max xs h rest = h rest
inert-op b.Eq xs h rest = h rest
inert-op b.Ne xs h rest = h rest
inert-op b.Lt xs h rest = h rest
inert-op b.Le xs h rest = h rest
inert-op b.Gt xs h rest = h rest
inert-op b.Ge xs h rest = h rest

inert-un : (op : UnOp) (xs : List Token) → IsInert xs → IsInert (un_token op ∷ xs)
inert-un u.Neg xs h rest = h rest
inert-un u.Not xs h rest = h rest
inert-un u.LNot xs h rest = h rest

inert-callee : (callee : Callee) (xs : List Token) → IsInert xs → IsInert (callee_token callee ∷ xs)
inert-callee c.Min xs h rest = h rest
inert-callee c.Max xs h rest = h rest
inert-callee c.Mulq xs h rest = h rest
inert-callee c.I32 xs h rest = h rest
inert-callee c.U32 xs h rest = h rest

inert-truth : (truth : Bool) → IsInert (truth_token truth ∷ [])
inert-truth true rest = refl
inert-truth false rest = refl

abbrev IsInertExpr : Expr → Type 0
IsInertExpr expr = IsInert (tokens_of expr)

pub inert_expr : (expr : Expr) → IsInertExpr expr
inert_expr = by_exprs IsInertExpr
    (λ value unsigned. rw (tokens_of-Number value unsigned) (λ rest. refl))
    (λ truth. rw (tokens_of-Truth truth) (inert-truth truth))
    (λ name. rw (tokens_of-Name name) (λ rest. refl))
    (λ field index h. rw (tokens_of-Read field index) (inert-access field (map tokens_of index) (all_mapped tokens_of index h)))
    (λ inner h. rw (tokens_of-Paren inner) (inert-append (tokens_of inner) (t.Sign s.CloseParen ∷ []) h (λ rest. refl)))
    (λ op operand h. rw (tokens_of-Un op operand) (inert-un op (tokens_of operand) h))
    (λ op left right hl hr. rw (tokens_of-Bin op left right) (inert-append (tokens_of left) (op_token op ∷ tokens_of right) hl
    (inert-op op (tokens_of right) hr)))
    (λ callee arguments h. rw (tokens_of-Call callee arguments) (inert-callee callee (t.Sign s.OpenParen ∷ (with_commas (map tokens_of arguments) ++ t.Sign s.CloseParen ∷ []))
    (inert-append (with_commas (map tokens_of arguments)) (t.Sign s.CloseParen ∷ [])
    (inert-separated (map tokens_of arguments) (all_mapped tokens_of arguments h)) (λ rest. refl))))
    (λ field index h. rw (tokens_of-Active field index) (inert-append (access_tokens field (map tokens_of index)) (t.Sign s.CloseParen ∷ [])
    (inert-access field (map tokens_of index) (all_mapped tokens_of index h)) (λ rest. refl)))

pub inert_range : (range : RangeDecl) → IsInert (range_tokens range)
inert_range range = inert-append (tokens_of range.lo) (t.Sign s.DotDot ∷ tokens_of range.hi) (inert_expr range.lo) (inert_expr range.hi)

-- the brackets and indices of an access, behind its name
pub inert_indices : (index : List Expr) → IsInert (t.Sign s.OpenBracket ∷ (with_commas (map tokens_of index) ++ t.Sign s.CloseBracket ∷ []))
inert_indices index rest =
    inert-append (with_commas (map tokens_of index)) (t.Sign s.CloseBracket ∷ []) (inert-separated (map tokens_of index) (each_mapped tokens_of inert_expr index)) (λ rest. refl) rest

pub inert_way : (how : WayDecl) → IsInert (way_tokens how)
inert_way way.Own rest = refl
inert_way (way.Acc acc.Add) rest = refl
inert_way (way.Acc acc.Min) rest = refl
inert_way (way.Acc acc.Max) rest = refl
inert_way (way.Acc acc.Or) rest = refl
inert_way (way.Acc acc.And) rest = refl
inert_way (way.Acc acc.Xor) rest = refl

pub inert_names : (names : List Name) → IsInert (names_tokens names)
inert_names names = inert-separated (map (λ name. t.Name name ∷ []) names) (each_mapped (λ name. t.Name name ∷ []) (λ name rest. refl) names)

pub inert_domain : (given : DomainDecl) → IsInert (domain_tokens given)
inert_domain (domain.Layout name) rest = refl
inert_domain (domain.Ranges ranges) rest = inert-separated (map range_tokens ranges) (each_mapped range_tokens inert_range ranges) rest

-- such a list, and then a `;`
pub inert_ended : (xs rest : List Token) → IsInert xs → parts_from false ((xs ++ t.Sign s.Semicolon ∷ []) ++ rest) ≡ parts_from true rest
inert_ended xs rest h = rw (append_assoc xs (t.Sign s.Semicolon ∷ []) rest) (h (t.Sign s.Semicolon ∷ rest))

-- such a list, and then more
pub inert_before : (xs ys rest : List Token) → IsInert xs → parts_from false ((xs ++ ys) ++ rest) ≡ parts_from false (ys ++ rest)
inert_before xs ys rest h = rw (append_assoc xs ys rest) (h (ys ++ rest))
