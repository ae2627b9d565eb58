-- What the words on expressions are at each variant, and cases and induction over the variants.
use Rattle.std.specs.Prelude.{◌≡◌, ℕ, zero, suc, ◌+◌, max, Bool, true, ◌&&◌, ◌==◌, nat_le, ◌<◌, ◌≤◌, List, [], ◌∷◌, ◌++◌, map, length, refl}
use Rattle.std.proofs.Common.{sym, ◌∙◌, ap, lit<, lit≤, arith}
use Rattle.std.specs.List.{list_all, AllByRecursion}
use Rattle.std.proofs.Math.Nat.{le-max_left, le-max_right}
use Rattle.std.proofs.lemmas.List.Folds.{list_all-map}
use Rattle.std.proofs.Math.ListN.{length-map}
use Rattle.sg_words.specs.declared.operators.BinOp.{BinOp}
use Rattle.sg_words.specs.declared.operators.BinOp.TheVariants as b
use Rattle.sg_words.specs.declared.operators.UnOp.{UnOp}
use Rattle.sg_ast.specs.declared.token.Name.{Name}
use Rattle.sg_ast.specs.declared.token.Word.TheVariants as w
use Rattle.sg_ast.specs.declared.token.Sign.TheVariants as s
use Rattle.sg_ast.specs.declared.token.Token.TheVariants as t
use Rattle.sg_ast.specs.declared.expr.Callee.{Callee}
use Rattle.sg_ast.specs.declared.expr.Expr.{Expr, out-Expr, roll-Expr, roll-out-Expr, para-roll-Expr}
use Rattle.sg_ast.specs.declared.expr.Expr.TheVariants as e
use Rattle.sg_ast.specs.declared.expr.Expr.TheVariants.{rolls-Number, rolls-Truth, rolls-Name, rolls-Read, rolls-Paren, rolls-Un, rolls-Bin, rolls-Call, rolls-Active}
use Rattle.sg_ast.specs.declared.expr.Expr.TheOpen as f
use Rattle.sg_ast.specs.declared.expr.Expr.TheOpen.{Expr-F}
use Rattle.sg_ast.specs.Token.{is_name, is_number}
use Rattle.sg_ast.specs.Expr.{tokens_of, tokens_step, access_tokens, with_commas, op_token, un_token, callee_token, truth_token, depth, depth_step, largest, level, level_step, op_level, un_level, primary_level, left_needs, right_needs, levelled, levelled_step}
use Rattle.sg_ast.specs.Grammar.{is_formed, formed_step, is_infix, arity, one_or_more}
use Rattle.sg_ast.proofs.Uses.Folds.{fold-Number_expr, fold-Truth_expr, fold-Name_expr, fold-Read_expr, fold-Paren_expr, fold-Un_expr, fold-Bin_expr, fold-Call_expr, fold-Active_expr}

-- the tokens
pub tokens_of-Number : (value : ℕ) (unsigned : Bool) → tokens_of (e.Number value unsigned) ≡ t.Number value unsigned ∷ []
tokens_of-Number value unsigned = fold-Number_expr tokens_step value unsigned

pub tokens_of-Truth : (truth : Bool) → tokens_of (e.Truth truth) ≡ truth_token truth ∷ []
tokens_of-Truth truth = fold-Truth_expr tokens_step truth

pub tokens_of-Name : (name : Name) → tokens_of (e.Name name) ≡ t.Name name ∷ []
tokens_of-Name name = fold-Name_expr tokens_step name

pub tokens_of-Read : (field : Name) (index : List Expr) → tokens_of (e.Read field index) ≡ access_tokens field (map tokens_of index)
tokens_of-Read field index = fold-Read_expr tokens_step field index

pub tokens_of-Paren : (inner : Expr) → tokens_of (e.Paren inner) ≡ t.Sign s.OpenParen ∷ (tokens_of inner ++ t.Sign s.CloseParen ∷ [])
tokens_of-Paren inner = fold-Paren_expr tokens_step inner

pub tokens_of-Un : (op : UnOp) (operand : Expr) → tokens_of (e.Un op operand) ≡ un_token op ∷ tokens_of operand
tokens_of-Un op operand = fold-Un_expr tokens_step op operand

pub tokens_of-Bin : (op : BinOp) (left right : Expr) → tokens_of (e.Bin op left right) ≡ tokens_of left ++ op_token op ∷ tokens_of right
tokens_of-Bin op left right = fold-Bin_expr tokens_step op left right

pub tokens_of-Call : (callee : Callee) (arguments : List Expr) → tokens_of (e.Call callee arguments) ≡ callee_token callee ∷ t.Sign s.OpenParen ∷ (with_commas (map tokens_of arguments) ++ t.Sign s.CloseParen ∷ [])
tokens_of-Call callee arguments = fold-Call_expr tokens_step callee arguments

pub tokens_of-Active : (field : Name) (index : List Expr) → tokens_of (e.Active field index) ≡ t.Word w.Active ∷ t.Sign s.OpenParen ∷ (access_tokens field (map tokens_of index) ++ t.Sign s.CloseParen ∷ [])
tokens_of-Active field index = fold-Active_expr tokens_step field index

-- the depth
pub depth-Number : (value : ℕ) (unsigned : Bool) → depth (e.Number value unsigned) ≡ 1
depth-Number value unsigned = fold-Number_expr depth_step value unsigned

pub depth-Truth : (truth : Bool) → depth (e.Truth truth) ≡ 1
depth-Truth truth = fold-Truth_expr depth_step truth

pub depth-Name : (name : Name) → depth (e.Name name) ≡ 1
depth-Name name = fold-Name_expr depth_step name

pub depth-Read : (field : Name) (index : List Expr) → depth (e.Read field index) ≡ largest (map depth index) + 1
depth-Read field index = fold-Read_expr depth_step field index

pub depth-Paren : (inner : Expr) → depth (e.Paren inner) ≡ depth inner + 1
depth-Paren inner = fold-Paren_expr depth_step inner

pub depth-Un : (op : UnOp) (operand : Expr) → depth (e.Un op operand) ≡ depth operand + 1
depth-Un op operand = fold-Un_expr depth_step op operand

pub depth-Bin : (op : BinOp) (left right : Expr) → depth (e.Bin op left right) ≡ max (depth left) (depth right) + 1
depth-Bin op left right = fold-Bin_expr depth_step op left right

pub depth-Call : (callee : Callee) (arguments : List Expr) → depth (e.Call callee arguments) ≡ largest (map depth arguments) + 1
depth-Call callee arguments = fold-Call_expr depth_step callee arguments

pub depth-Active : (field : Name) (index : List Expr) → depth (e.Active field index) ≡ largest (map depth index) + 1
depth-Active field index = fold-Active_expr depth_step field index

-- the level
pub level-Number : (value : ℕ) (unsigned : Bool) → level (e.Number value unsigned) ≡ primary_level
level-Number value unsigned = fold-Number_expr level_step value unsigned

pub level-Truth : (truth : Bool) → level (e.Truth truth) ≡ primary_level
level-Truth truth = fold-Truth_expr level_step truth

pub level-Name : (name : Name) → level (e.Name name) ≡ primary_level
level-Name name = fold-Name_expr level_step name

pub level-Read : (field : Name) (index : List Expr) → level (e.Read field index) ≡ primary_level
level-Read field index = fold-Read_expr level_step field index

pub level-Paren : (inner : Expr) → level (e.Paren inner) ≡ primary_level
level-Paren inner = fold-Paren_expr level_step inner

pub level-Un : (op : UnOp) (operand : Expr) → level (e.Un op operand) ≡ un_level
level-Un op operand = fold-Un_expr level_step op operand

pub level-Bin : (op : BinOp) (left right : Expr) → level (e.Bin op left right) ≡ op_level op
level-Bin op left right = fold-Bin_expr level_step op left right

pub level-Call : (callee : Callee) (arguments : List Expr) → level (e.Call callee arguments) ≡ primary_level
level-Call callee arguments = fold-Call_expr level_step callee arguments

pub level-Active : (field : Name) (index : List Expr) → level (e.Active field index) ≡ primary_level
level-Active field index = fold-Active_expr level_step field index

-- whether it is levelled
pub levelled-Number : (value : ℕ) (unsigned : Bool) → levelled (e.Number value unsigned) ≡ true
levelled-Number value unsigned = ap levelled (sym (rolls-Number value unsigned)) ∙ para-roll-Expr Bool levelled_step (f.Number value unsigned)

pub levelled-Truth : (truth : Bool) → levelled (e.Truth truth) ≡ true
levelled-Truth truth = ap levelled (sym (rolls-Truth truth)) ∙ para-roll-Expr Bool levelled_step (f.Truth truth)

pub levelled-Name : (name : Name) → levelled (e.Name name) ≡ true
levelled-Name name = ap levelled (sym (rolls-Name name)) ∙ para-roll-Expr Bool levelled_step (f.Name name)

pub levelled-Read : (field : Name) (index : List Expr) → levelled (e.Read field index) ≡ list_all levelled index
levelled-Read field index = ap levelled (sym (rolls-Read field index)) ∙ para-roll-Expr Bool levelled_step (f.Read field index) ∙ list_all-map (λ (part : Expr × Bool). part.1) (λ part. (part, levelled part)) index

pub levelled-Paren : (inner : Expr) → levelled (e.Paren inner) ≡ levelled inner
levelled-Paren inner = ap levelled (sym (rolls-Paren inner)) ∙ para-roll-Expr Bool levelled_step (f.Paren inner)

pub levelled-Un : (op : UnOp) (operand : Expr) → levelled (e.Un op operand) ≡ (nat_le un_level (level operand) && levelled operand)
levelled-Un op operand = ap levelled (sym (rolls-Un op operand)) ∙ para-roll-Expr Bool levelled_step (f.Un op operand)

pub levelled-Bin : (op : BinOp) (left right : Expr) → levelled (e.Bin op left right) ≡ ((nat_le (left_needs op) (level left) && nat_le (right_needs op) (level right)) && (levelled left && levelled right))
levelled-Bin op left right = ap levelled (sym (rolls-Bin op left right)) ∙ para-roll-Expr Bool levelled_step (f.Bin op left right)

pub levelled-Call : (callee : Callee) (arguments : List Expr) → levelled (e.Call callee arguments) ≡ list_all levelled arguments
levelled-Call callee arguments = ap levelled (sym (rolls-Call callee arguments)) ∙ para-roll-Expr Bool levelled_step (f.Call callee arguments) ∙ list_all-map (λ (part : Expr × Bool). part.1) (λ part. (part, levelled part)) arguments

pub levelled-Active : (field : Name) (index : List Expr) → levelled (e.Active field index) ≡ list_all levelled index
levelled-Active field index = ap levelled (sym (rolls-Active field index)) ∙ para-roll-Expr Bool levelled_step (f.Active field index) ∙ list_all-map (λ (part : Expr × Bool). part.1) (λ part. (part, levelled part)) index

-- whether each node is one of the grammar's
pub is_formed-Number : (value : ℕ) (unsigned : Bool) → is_formed (e.Number value unsigned) ≡ is_number value unsigned
is_formed-Number value unsigned = fold-Number_expr formed_step value unsigned

pub is_formed-Truth : (truth : Bool) → is_formed (e.Truth truth) ≡ true
is_formed-Truth truth = fold-Truth_expr formed_step truth

pub is_formed-Name : (name : Name) → is_formed (e.Name name) ≡ is_name name
is_formed-Name name = fold-Name_expr formed_step name

pub is_formed-Read : (field : Name) (index : List Expr) → is_formed (e.Read field index) ≡ (is_name field && one_or_more is_formed index)
is_formed-Read field index = fold-Read_expr formed_step field index ∙ rw (length-map, list_all-map) refl

pub is_formed-Paren : (inner : Expr) → is_formed (e.Paren inner) ≡ is_formed inner
is_formed-Paren inner = fold-Paren_expr formed_step inner

pub is_formed-Un : (op : UnOp) (operand : Expr) → is_formed (e.Un op operand) ≡ is_formed operand
is_formed-Un op operand = fold-Un_expr formed_step op operand

pub is_formed-Bin : (op : BinOp) (left right : Expr) → is_formed (e.Bin op left right) ≡ (is_infix op && (is_formed left && is_formed right))
is_formed-Bin op left right = fold-Bin_expr formed_step op left right

pub is_formed-Call : (callee : Callee) (arguments : List Expr) → is_formed (e.Call callee arguments) ≡ ((length arguments == arity callee) && list_all is_formed arguments)
is_formed-Call callee arguments = fold-Call_expr formed_step callee arguments ∙ rw (length-map, list_all-map) refl

pub is_formed-Active : (field : Name) (index : List Expr) → is_formed (e.Active field index) ≡ (is_name field && one_or_more is_formed index)
is_formed-Active field index = fold-Active_expr formed_step field index ∙ rw (length-map, list_all-map) refl

-- all of them, to compute with
pub ruleset expr_equations = (
  tokens_of-Number,
  tokens_of-Truth,
  tokens_of-Name,
  tokens_of-Read,
  tokens_of-Paren,
  tokens_of-Un,
  tokens_of-Bin,
  tokens_of-Call,
  tokens_of-Active,
  depth-Number,
  depth-Truth,
  depth-Name,
  depth-Read,
  depth-Paren,
  depth-Un,
  depth-Bin,
  depth-Call,
  depth-Active,
  level-Number,
  level-Truth,
  level-Name,
  level-Read,
  level-Paren,
  level-Un,
  level-Bin,
  level-Call,
  level-Active,
  levelled-Number,
  levelled-Truth,
  levelled-Name,
  levelled-Read,
  levelled-Paren,
  levelled-Un,
  levelled-Bin,
  levelled-Call,
  levelled-Active,
  is_formed-Number,
  is_formed-Truth,
  is_formed-Name,
  is_formed-Read,
  is_formed-Paren,
  is_formed-Un,
  is_formed-Bin,
  is_formed-Call,
  is_formed-Active,
)

-- the left operand of an operator holds as tightly as the operator
pub op_level-left_needs : (op : BinOp) → op_level op ≤ left_needs op
op_level-left_needs b.Add = lit≤ tt
op_level-left_needs b.Sub = lit≤ tt
op_level-left_needs b.Mul = lit≤ tt
op_level-left_needs b.Div = lit≤ tt
op_level-left_needs b.Rem = lit≤ tt
op_level-left_needs b.And = lit≤ tt
op_level-left_needs b.Or = lit≤ tt
op_level-left_needs b.Xor = lit≤ tt
op_level-left_needs b.LAnd = lit≤ tt
op_level-left_needs b.LOr = lit≤ tt
op_level-left_needs b.Shl = lit≤ tt
op_level-left_needs b.Shr = lit≤ tt
op_level-left_needs b.Min = lit≤ tt
op_level-left_needs b.Max = lit≤ tt
op_level-left_needs b.Eq = lit≤ tt
op_level-left_needs b.Ne = lit≤ tt
op_level-left_needs b.Lt = lit≤ tt
op_level-left_needs b.Le = lit≤ tt
op_level-left_needs b.Gt = lit≤ tt
op_level-left_needs b.Ge = lit≤ tt

-- an operator before its operand holds more tightly than one between two
pub op_level-un_level : (op : BinOp) → op_level op < un_level
op_level-un_level b.Add = lit< tt
op_level-un_level b.Sub = lit< tt
op_level-un_level b.Mul = lit< tt
op_level-un_level b.Div = lit< tt
op_level-un_level b.Rem = lit< tt
op_level-un_level b.And = lit< tt
op_level-un_level b.Or = lit< tt
op_level-un_level b.Xor = lit< tt
op_level-un_level b.LAnd = lit< tt
op_level-un_level b.LOr = lit< tt
op_level-un_level b.Shl = lit< tt
op_level-un_level b.Shr = lit< tt
op_level-un_level b.Min = lit< tt
op_level-un_level b.Max = lit< tt
op_level-un_level b.Eq = lit< tt
op_level-un_level b.Ne = lit< tt
op_level-un_level b.Lt = lit< tt
op_level-un_level b.Le = lit< tt
op_level-un_level b.Gt = lit< tt
op_level-un_level b.Ge = lit< tt

-- a claim on every expression, from the claim on each variant
module _ (P : Expr → Type 0)
    (on_number : (value : ℕ) (unsigned : Bool) → P (e.Number value unsigned))
    (on_truth : (truth : Bool) → P (e.Truth truth))
    (on_name : (name : Name) → P (e.Name name))
    (on_read : (field : Name) (index : List Expr) → P (e.Read field index))
    (on_paren : (inner : Expr) → P (e.Paren inner))
    (on_un : (op : UnOp) (operand : Expr) → P (e.Un op operand))
    (on_bin : (op : BinOp) (left right : Expr) → P (e.Bin op left right))
    (on_call : (callee : Callee) (arguments : List Expr) → P (e.Call callee arguments))
    (on_active : (field : Name) (index : List Expr) → P (e.Active field index)) where
  by_layer : (layer : Expr-F Expr) → P (roll-Expr layer)
  by_layer (f.Number value unsigned) = rw (rolls-Number value unsigned) (on_number value unsigned)
  by_layer (f.Truth truth) = rw (rolls-Truth truth) (on_truth truth)
  by_layer (f.Name name) = rw (rolls-Name name) (on_name name)
  by_layer (f.Read field index) = rw (rolls-Read field index) (on_read field index)
  by_layer (f.Paren inner) = rw (rolls-Paren inner) (on_paren inner)
  by_layer (f.Un op operand) = rw (rolls-Un op operand) (on_un op operand)
  by_layer (f.Bin op left right) = rw (rolls-Bin op left right) (on_bin op left right)
  by_layer (f.Call callee arguments) = rw (rolls-Call callee arguments) (on_call callee arguments)
  by_layer (f.Active field index) = rw (rolls-Active field index) (on_active field index)

  pub by_variant : (expr : Expr) → P expr
  by_variant expr = rw (← roll-out-Expr expr) (by_layer (out-Expr expr))

-- every expression has a depth of at least 1
pub depth_some : (expr : Expr) → 1 ≤ depth expr
depth_some = by_variant (λ expr. 1 ≤ depth expr)
    (λ value unsigned. omega (arith, depth-Number value unsigned))
    (λ truth. omega (arith, depth-Truth truth))
    (λ name. omega (arith, depth-Name name))
    (λ field index. omega (arith, depth-Read field index))
    (λ inner. omega (arith, depth-Paren inner))
    (λ op operand. omega (arith, depth-Un op operand))
    (λ op left right. omega (arith, depth-Bin op left right))
    (λ callee arguments. omega (arith, depth-Call callee arguments))
    (λ field index. omega (arith, depth-Active field index))

-- a claim on every expression, from the claim on each variant with the claim on its parts
module _ (P : Expr → Type 0)
    (on_number : (value : ℕ) (unsigned : Bool) → P (e.Number value unsigned))
    (on_truth : (truth : Bool) → P (e.Truth truth))
    (on_name : (name : Name) → P (e.Name name))
    (on_read : (field : Name) (index : List Expr) → AllByRecursion P index → P (e.Read field index))
    (on_paren : (inner : Expr) → P inner → P (e.Paren inner))
    (on_un : (op : UnOp) (operand : Expr) → P operand → P (e.Un op operand))
    (on_bin : (op : BinOp) (left right : Expr) → P left → P right → P (e.Bin op left right))
    (on_call : (callee : Callee) (arguments : List Expr) → AllByRecursion P arguments → P (e.Call callee arguments))
    (on_active : (field : Name) (index : List Expr) → AllByRecursion P index → P (e.Active field index)) where
  module _ (d : ℕ) (below : (expr : Expr) → depth expr ≤ d → P expr) where
    parts : (exprs : List Expr) → largest (map depth exprs) ≤ d → AllByRecursion P exprs
    parts [] h = tt
    parts (expr ∷ more) h = (
      below expr (omega (arith, le-max_left (depth expr) (largest (map depth more)))),
      parts more (omega (arith, le-max_right (depth expr) (largest (map depth more)))),
    )

    at_depth : (expr : Expr) → depth expr ≤ suc d → P expr
    at_depth = by_variant (λ expr. depth expr ≤ suc d → P expr)
        (λ value unsigned h. on_number value unsigned)
        (λ truth h. on_truth truth)
        (λ name h. on_name name)
        (λ field index h. on_read field index (parts index (omega (arith, depth-Read field index))))
        (λ inner h. on_paren inner (below inner (omega (arith, depth-Paren inner))))
        (λ op operand h. on_un op operand (below operand (omega (arith, depth-Un op operand))))
        (λ op left right h. on_bin op left right
        (below left (omega (arith, depth-Bin op left right, le-max_left (depth left) (depth right))))
        (below right (omega (arith, depth-Bin op left right, le-max_right (depth left) (depth right)))))
        (λ callee arguments h. on_call callee arguments (parts arguments (omega (arith, depth-Call callee arguments))))
        (λ field index h. on_active field index (parts index (omega (arith, depth-Active field index))))

  below_depth : (d : ℕ) (expr : Expr) → depth expr ≤ d → P expr
  below_depth zero expr h = absurd (omega (arith, depth_some expr))
  below_depth (suc d) expr h = at_depth d (below_depth d) expr h

  pub by_exprs : (expr : Expr) → P expr
  by_exprs expr = below_depth (depth expr) expr (omega arith)
