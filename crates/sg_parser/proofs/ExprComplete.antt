-- Each expression is read from its tokens, whatever follows that cannot go on with it.
use Rattle.std.specs.Prelude.{◌≡◌, refl, ℕ, zero, suc, ◌+◌, ◌≤◌, ◌<◌, max, Bool, true, false, ◌&&◌, ◌==◌, nat_le, nat_lt, List, [], ◌∷◌, ◌++◌, map, length, Option, Some, None}
use Rattle.std.specs.List.{AllByRecursion, list_all}
use Rattle.std.proofs.Common.{sym, ◌∙◌, ap, arith, append_assoc, lit≤}
use Rattle.std.proofs.Math.Nat.{le-max_left, le-max_right}
use Rattle.std.proofs.lemmas.Bool.{and_parts, and_from, leb-true, le-leb, lt-leb, lt-ltb, eqb-true}
use Rattle.std.proofs.lemmas.Option.{some_pair_parts}
use Rattle.sg_words.specs.declared.operators.BinOp.{BinOp}
use Rattle.sg_words.specs.declared.operators.UnOp.{UnOp}
use Rattle.sg_words.specs.declared.operators.UnOp.TheVariants as u
use Rattle.sg_ast.specs.declared.token.Name.{Name}
use Rattle.sg_ast.specs.declared.token.Sign.{Sign}
use Rattle.sg_ast.specs.declared.token.Sign.TheVariants as s
use Rattle.sg_ast.specs.declared.token.Token.{Token}
use Rattle.sg_ast.specs.declared.token.Token.TheVariants as t
use Rattle.sg_ast.specs.declared.expr.Callee.{Callee}
use Rattle.sg_ast.specs.declared.expr.Callee.TheVariants as c
use Rattle.sg_ast.specs.declared.expr.Expr.{Expr}
use Rattle.sg_ast.specs.declared.expr.Expr.TheVariants as e
use Rattle.sg_ast.specs.Token.{is_name, is_number}
use Rattle.sg_ast.specs.Expr.{tokens_of, with_commas, op_token, un_token, callee_token, depth, largest, level, levelled, op_level, left_needs, right_needs, un_level}
use Rattle.sg_ast.specs.Limits.{max_depth}
use Rattle.sg_ast.specs.Grammar.{is_formed, is_infix, arity, is_expr, one_or_more}
use Rattle.sg_ast.proofs.Uses.{by_variant, depth_some, tokens_of-Number, tokens_of-Truth, tokens_of-Name, tokens_of-Read, tokens_of-Paren, tokens_of-Un, tokens_of-Bin, tokens_of-Call, tokens_of-Active, depth-Read, depth-Paren, depth-Un, depth-Bin, depth-Call, depth-Active, level-Number, level-Truth, level-Name, level-Read, level-Paren, level-Un, level-Bin, level-Call, level-Active, levelled-Read, levelled-Paren, levelled-Un, levelled-Bin, levelled-Call, levelled-Active, is_formed-Number, is_formed-Name, is_formed-Read, is_formed-Paren, is_formed-Un, is_formed-Bin, is_formed-Call, is_formed-Active, op_level-un_level, op_level-left_needs}
use Rattle.sg_parser.specs.Front.{Reader, after_sign, next_op}
use Rattle.sg_words.specs.Options.{◌>>=◌}
use Rattle.sg_parser.specs.ReadExpr.{operator_goes_on, read_indices, read_name_expr, read_call_expr, active_expr, paren_expr, unary_expr, prefix, climb, climb_on, expr_at}
use Rattle.sg_parser.proofs.StepLemmas.{only_if_true, next_op-at, op-no_bracket, infix_level}
use Rattle.sg_parser.proofs.ListLemmas.{listed_complete}
use Rattle.sg_parser.proofs.ExprSound.{Fit}

-- what may stand after an expression of at least a level: no operator that would go on with it, and no `[`
pub record Ends (least : ℕ) (rest : List Token) : Type 0 where
  pub no_op : (op : BinOp) (after : List Token) → next_op rest ≡ Some (op, after) → op_level op < least
  pub no_bracket : after_sign s.OpenBracket rest ≡ None

abbrev pub IsComplete : ℕ → (ℕ → Reader Expr) → Type 0
IsComplete limit expr = (least : ℕ) (a : Expr) (rest : List Token) → least ≤ un_level → Fit least limit a → Ends least rest → expr least (tokens_of a ++ rest) ≡ Some (a, rest)

-- what may stand after one of a level may after one of a lower
ends_more : (least more : ℕ) (rest : List Token) → least ≤ more → Ends least rest → Ends more rest
ends_more least more rest h ends = record {
  no_op = λ op after is. let below = ends.no_op op after is in omega arith;
  no_bracket = ends.no_bracket;
}

-- before no operator between two operands anything of the level of those before one ends
ends_un : (rest : List Token) → after_sign s.OpenBracket rest ≡ None → Ends un_level rest
ends_un rest h = record { no_op = λ op after is. op_level-un_level op; no_bracket = h }

pub ends_sign : (least : ℕ) (sign : Sign) (rest : List Token) → next_op (t.Sign sign ∷ rest) ≡ None → after_sign s.OpenBracket (t.Sign sign ∷ rest) ≡ None → Ends least (t.Sign sign ∷ rest)
ends_sign least sign rest no_op no_bracket = record { no_op = λ op after is. absurd (cc); no_bracket = no_bracket }

pub ends_comma : (least : ℕ) (rest : List Token) → Ends least (t.Sign s.Comma ∷ rest)
ends_comma least rest = ends_sign least s.Comma rest refl refl

pub ends_close : (least : ℕ) (rest : List Token) → Ends least (t.Sign s.CloseParen ∷ rest)
ends_close least rest = ends_sign least s.CloseParen rest refl refl

pub ends_bracket : (least : ℕ) (rest : List Token) → Ends least (t.Sign s.CloseBracket ∷ rest)
ends_bracket least rest = ends_sign least s.CloseBracket rest refl refl

pub ends_semicolon : (least : ℕ) (rest : List Token) → Ends least (t.Sign s.Semicolon ∷ rest)
ends_semicolon least rest = ends_sign least s.Semicolon rest refl refl

pub ends_dots : (least : ℕ) (rest : List Token) → Ends least (t.Sign s.DotDot ∷ rest)
ends_dots least rest = ends_sign least s.DotDot rest refl refl

pub ends_brace : (least : ℕ) (rest : List Token) → Ends least (t.Sign s.OpenBrace ∷ rest)
ends_brace least rest = ends_sign least s.OpenBrace rest refl refl

-- a claim on every expression, from that on those that no operator between two operands takes apart, and on the others
cases_bin : (P : Expr → Type 0) → ((a : Expr) → un_level ≤ level a → P a) → ((op : BinOp) (left right : Expr) → P (e.Bin op left right)) → (a : Expr) → P a
cases_bin P on_high on_bin = by_variant P
    (λ value unsigned. on_high (e.Number value unsigned) (omega (arith, level-Number value unsigned)))
    (λ truth. on_high (e.Truth truth) (omega (arith, level-Truth truth)))
    (λ name. on_high (e.Name name) (omega (arith, level-Name name)))
    (λ field index. on_high (e.Read field index) (omega (arith, level-Read field index)))
    (λ inner. on_high (e.Paren inner) (omega (arith, level-Paren inner)))
    (λ op operand. on_high (e.Un op operand) (omega (arith, level-Un op operand)))
    on_bin
    (λ callee arguments. on_high (e.Call callee arguments) (omega (arith, level-Call callee arguments)))
    (λ field index. on_high (e.Active field index) (omega (arith, level-Active field index)))

-- the parts of what is formed and levelled, where an operator stands between two
pub record Parts (limit : ℕ) (op : BinOp) (left right : Expr) : Type 0 where
  pub between : is_infix op ≡ true
  pub left_formed : is_formed left ≡ true
  pub right_formed : is_formed right ≡ true
  pub left_even : levelled left ≡ true
  pub right_even : levelled right ≡ true
  pub left_high : left_needs op ≤ level left
  pub right_high : right_needs op ≤ level right
  pub left_shallow : depth left ≤ limit
  pub right_shallow : depth right ≤ limit

parts_of : (least limit : ℕ) (op : BinOp) (left right : Expr) → Fit least (suc limit) (e.Bin op left right) → Parts limit op left right
parts_of least limit op left right fit =
    let f = and_parts (is_infix op) (is_formed left && is_formed right) (sym (is_formed-Bin op left right) ∙ fit.formed) in
    let g = and_parts (is_formed left) (is_formed right) f.1 in
    let v = and_parts (nat_le (left_needs op) (level left) && nat_le (right_needs op) (level right)) (levelled left && levelled right) (sym (levelled-Bin op left right) ∙ fit.even) in
    let n = and_parts (nat_le (left_needs op) (level left)) (nat_le (right_needs op) (level right)) v.0 in
    let o = and_parts (levelled left) (levelled right) v.1 in
    let below = fit.shallow in
    record {
      between = f.0;
      left_formed = g.0;
      right_formed = g.1;
      left_even = o.0;
      right_even = o.1;
      left_high = leb-true (left_needs op) (level left) n.0;
      right_high = leb-true (right_needs op) (level right) n.1;
      left_shallow = omega (arith, depth-Bin op left right);
      right_shallow = omega (arith, depth-Bin op left right);
    }

-- what is formed has a level of at least 1
level_some : (a : Expr) → is_formed a ≡ true → 1 ≤ level a
level_some = cases_bin (λ a. is_formed a ≡ true → 1 ≤ level a)
    (λ a high formed. omega arith)
    (λ op left right formed. omega (arith, level-Bin op left right, infix_level op (and_parts (is_infix op) (is_formed left && is_formed right) (sym (is_formed-Bin op left right) ∙ formed)).0))

all_fit : (limit : ℕ) (parts : List Expr) → list_all is_formed parts ≡ true → list_all levelled parts ≡ true → largest (map depth parts) ≤ limit → AllByRecursion (Fit 1 limit) parts
all_fit limit [] formed even shallow = tt
all_fit limit (a ∷ parts) formed even shallow =
    let f = and_parts (is_formed a) (list_all is_formed parts) formed in
    let v = and_parts (levelled a) (list_all levelled parts) even in
    (record { formed = f.0; even = v.0; high = level_some a f.0; shallow = omega arith }, all_fit limit parts f.1 v.1 (omega arith))

module _ (d : ℕ) (expr : ℕ → Reader Expr) (complete : IsComplete d expr) where
  one_complete : (a : Expr) (rest : List Token) → Fit 1 d a → Ends 1 rest → expr 1 (tokens_of a ++ rest) ≡ Some (a, rest)
  one_complete a rest fit ends = complete 1 a rest (lit≤ tt) fit ends

  pub indices_complete : (index : List Expr) (rest : List Token) → 1 ≤ length index → AllByRecursion (Fit 1 d) index
      → read_indices expr (with_commas (map tokens_of index) ++ t.Sign s.CloseBracket ∷ rest) ≡ Some (index, rest)
  unfolding read_indices
  indices_complete index rest some good =
      rw (listed_complete Expr (expr 1) tokens_of (Fit 1 d) (Ends 1) one_complete (ends_comma 1) index (t.Sign s.CloseBracket ∷ rest) some good (ends_bracket 1 rest) (omega arith) refl) refl

  read_complete : (field : Name) (index : List Expr) (rest : List Token) → Fit un_level (suc d) (e.Read field index) → prefix expr (tokens_of (e.Read field index) ++ rest) ≡ Some (e.Read field index, rest)
  unfolding prefix read_name_expr
  read_complete field index rest fit =
      let f = and_parts (is_name field) (one_or_more is_formed index) (sym (is_formed-Read field index) ∙ fit.formed) in
      let g = and_parts (nat_le 1 (length index)) (list_all is_formed index) f.1 in
      let below = fit.shallow in
      let good = all_fit d index g.1 (sym (levelled-Read field index) ∙ fit.even) (omega (arith, depth-Read field index)) in
      rw (tokens_of-Read field index, append_assoc (with_commas (map tokens_of index)) (t.Sign s.CloseBracket ∷ []) rest, f.0, indices_complete index rest (leb-true 1 (length index) g.0) good) refl

  active_complete : (field : Name) (index : List Expr) (rest : List Token) → Fit un_level (suc d) (e.Active field index) → prefix expr (tokens_of (e.Active field index) ++ rest) ≡ Some (e.Active field index, rest)
  unfolding prefix active_expr
  active_complete field index rest fit =
      let f = and_parts (is_name field) (one_or_more is_formed index) (sym (is_formed-Active field index) ∙ fit.formed) in
      let g = and_parts (nat_le 1 (length index)) (list_all is_formed index) f.1 in
      let below = fit.shallow in
      let good = all_fit d index g.1 (sym (levelled-Active field index) ∙ fit.even) (omega (arith, depth-Active field index)) in
      rw (
        tokens_of-Active field index,
        append_assoc (with_commas (map tokens_of index) ++ t.Sign s.CloseBracket ∷ []) (t.Sign s.CloseParen ∷ []) rest,
        append_assoc (with_commas (map tokens_of index)) (t.Sign s.CloseBracket ∷ []) (t.Sign s.CloseParen ∷ rest),
        f.0,
        indices_complete index (t.Sign s.CloseParen ∷ rest) (leb-true 1 (length index) g.0) good,
      ) refl

  name_complete : (name : Name) (rest : List Token) → Fit un_level (suc d) (e.Name name) → after_sign s.OpenBracket rest ≡ None → prefix expr (tokens_of (e.Name name) ++ rest) ≡ Some (e.Name name, rest)
  unfolding prefix read_name_expr
  name_complete name rest fit no_bracket =
      let good : is_name name ≡ true = sym (is_formed-Name name) ∙ fit.formed in
      rw (tokens_of-Name name, good, no_bracket) refl

  call_complete : (callee : Callee) (arguments : List Expr) (rest : List Token) → is_formed (e.Call callee arguments) ≡ true → levelled (e.Call callee arguments) ≡ true → depth (e.Call callee arguments) ≤ suc d
      → 1 ≤ arity callee → read_call_expr expr callee (t.Sign s.OpenParen ∷ (with_commas (map tokens_of arguments) ++ t.Sign s.CloseParen ∷ rest)) ≡ Some (e.Call callee arguments, rest)
  unfolding read_call_expr
  call_complete callee arguments rest formed even shallow some =
      let f = and_parts (length arguments == arity callee) (list_all is_formed arguments) (sym (is_formed-Call callee arguments) ∙ formed) in
      let count = eqb-true (length arguments) (arity callee) f.0 in
      let good = all_fit d arguments f.1 (sym (levelled-Call callee arguments) ∙ even) (omega (arith, depth-Call callee arguments)) in
      rw (listed_complete Expr (expr 1) tokens_of (Fit 1 d) (Ends 1) one_complete (ends_comma 1) arguments (t.Sign s.CloseParen ∷ rest) (omega arith) good (ends_close 1 rest) (omega arith) refl, f.0) refl

  called : (callee : Callee) (arguments : List Expr) (rest : List Token) → Fit un_level (suc d) (e.Call callee arguments)
      → prefix expr (callee_token callee ∷ t.Sign s.OpenParen ∷ (with_commas (map tokens_of arguments) ++ t.Sign s.CloseParen ∷ rest)) ≡ Some (e.Call callee arguments, rest)
  unfolding prefix
  called c.Min arguments rest fit = call_complete c.Min arguments rest fit.formed fit.even fit.shallow (lit≤ tt)
  called c.Max arguments rest fit = call_complete c.Max arguments rest fit.formed fit.even fit.shallow (lit≤ tt)
  called c.Mulq arguments rest fit = call_complete c.Mulq arguments rest fit.formed fit.even fit.shallow (lit≤ tt)
  called c.I32 arguments rest fit = call_complete c.I32 arguments rest fit.formed fit.even fit.shallow (lit≤ tt)
  called c.U32 arguments rest fit = call_complete c.U32 arguments rest fit.formed fit.even fit.shallow (lit≤ tt)

  paren_complete : (inner : Expr) (rest : List Token) → Fit un_level (suc d) (e.Paren inner) → prefix expr (tokens_of (e.Paren inner) ++ rest) ≡ Some (e.Paren inner, rest)
  unfolding prefix paren_expr
  paren_complete inner rest fit =
      let formed : is_formed inner ≡ true = sym (is_formed-Paren inner) ∙ fit.formed in
      let below = fit.shallow in
      rw (
        tokens_of-Paren inner,
        append_assoc (tokens_of inner) (t.Sign s.CloseParen ∷ []) rest,
        one_complete inner (t.Sign s.CloseParen ∷ rest) (record { formed = formed; even = sym (levelled-Paren inner) ∙ fit.even; high = level_some inner formed; shallow = omega (arith, depth-Paren inner) }) (ends_close 1 rest),
      ) refl

  unary_complete : (op : UnOp) (operand : Expr) (rest : List Token) → is_formed (e.Un op operand) ≡ true → levelled (e.Un op operand) ≡ true → depth (e.Un op operand) ≤ suc d → after_sign s.OpenBracket rest ≡ None
      → unary_expr expr op (tokens_of operand ++ rest) ≡ Some (e.Un op operand, rest)
  unfolding unary_expr
  unary_complete op operand rest formed even shallow no_bracket =
      let v = and_parts (nat_le un_level (level operand)) (levelled operand) (sym (levelled-Un op operand) ∙ even) in
      rw (complete un_level operand rest (omega arith) (record { formed = sym (is_formed-Un op operand) ∙ formed; even = v.1; high = leb-true un_level (level operand) v.0; shallow = omega (arith, depth-Un op operand) }) (ends_un rest no_bracket)) refl

  un_complete : (op : UnOp) (operand : Expr) (rest : List Token) → Fit un_level (suc d) (e.Un op operand) → after_sign s.OpenBracket rest ≡ None
      → prefix expr (un_token op ∷ (tokens_of operand ++ rest)) ≡ Some (e.Un op operand, rest)
  unfolding prefix
  un_complete u.Neg operand rest fit no_bracket = unary_complete u.Neg operand rest fit.formed fit.even fit.shallow no_bracket
  un_complete u.Not operand rest fit no_bracket = unary_complete u.Not operand rest fit.formed fit.even fit.shallow no_bracket
  un_complete u.LNot operand rest fit no_bracket = unary_complete u.LNot operand rest fit.formed fit.even fit.shallow no_bracket

  number_complete : (value : ℕ) (unsigned : Bool) (rest : List Token) → Fit un_level (suc d) (e.Number value unsigned) → prefix expr (tokens_of (e.Number value unsigned) ++ rest) ≡ Some (e.Number value unsigned, rest)
  unfolding prefix
  number_complete value unsigned rest fit =
      let good : is_number value unsigned ≡ true = sym (is_formed-Number value unsigned) ∙ fit.formed in
      rw (tokens_of-Number value unsigned) (only_if_true (is_number value unsigned) (Some (e.Number value unsigned, rest)) good)

  truth_complete : (truth : Bool) (rest : List Token) → prefix expr (tokens_of (e.Truth truth) ++ rest) ≡ Some (e.Truth truth, rest)
  unfolding prefix
  truth_complete true rest = rw (tokens_of-Truth true) refl
  truth_complete false rest = rw (tokens_of-Truth false) refl

  abbrev PrefixReads : Expr → Type 0
  PrefixReads a = (rest : List Token) → un_level ≤ level a → Fit un_level (suc d) a → after_sign s.OpenBracket rest ≡ None → prefix expr (tokens_of a ++ rest) ≡ Some (a, rest)

  prefix_complete : (a : Expr) → PrefixReads a
  prefix_complete = by_variant PrefixReads
      (λ value unsigned rest high fit no_bracket. number_complete value unsigned rest fit)
      (λ truth rest high fit no_bracket. truth_complete truth rest)
      (λ name rest high fit no_bracket. name_complete name rest fit no_bracket)
      (λ field index rest high fit no_bracket. read_complete field index rest fit)
      (λ inner rest high fit no_bracket. paren_complete inner rest fit)
      (λ op operand rest high fit no_bracket. rw (tokens_of-Un op operand) (un_complete op operand rest fit no_bracket))
      (λ op left right rest high fit no_bracket. absurd (omega (arith, level-Bin op left right, op_level-un_level op)))
      (λ callee arguments rest high fit no_bracket. rw (tokens_of-Call callee arguments, append_assoc (with_commas (map tokens_of arguments)) (t.Sign s.CloseParen ∷ []) rest) (called callee arguments rest fit))
      (λ field index rest high fit no_bracket. active_complete field index rest fit)

  -- reading comes to the place where the tree is what was read so far
  record Reached (least : ℕ) (tokens : List Token) (a : Expr) (rest : List Token) : Type 0 where
    turns : ℕ
    enough : suc d < turns + depth a
    is : (prefix expr tokens >>= λ first. climb expr (suc d) least (suc d) first.0 first.1) ≡ climb expr (suc d) least turns a rest

  reach_high : (least : ℕ) (a : Expr) (rest : List Token) → un_level ≤ level a → Fit least (suc d) a → after_sign s.OpenBracket rest ≡ None → Reached least (tokens_of a ++ rest) a rest
  reach_high least a rest high fit no_bracket = record {
    turns = suc d;
    enough = omega (arith, depth_some a);
    is = rw (prefix_complete a rest high (record { formed = fit.formed; even = fit.even; high = high; shallow = fit.shallow }) no_bracket) refl;
  }

  -- one operator more
  climb_turn : (least turns : ℕ) (op : BinOp) (left right : Expr) (rest : List Token) → least ≤ op_level op → Parts d op left right → Ends (suc (op_level op)) rest
      → climb expr (suc d) least (suc turns) left (op_token op ∷ (tokens_of right ++ rest)) ≡ climb expr (suc d) least turns (e.Bin op left right) rest
  unfolding climb
  climb_turn least turns op left right rest low parts ends =
      let next = next_op-at op (tokens_of right ++ rest) parts.between in
      let wanted : operator_goes_on least left op ≡ true = and_from (nat_le least (op_level op)) (nat_le (left_needs op) (level left)) (le-leb least (op_level op) low) (le-leb (left_needs op) (level left) parts.left_high) in
      let above = parts.left_shallow in
      let within : nat_lt (depth left) (suc d) ≡ true = lt-ltb (depth left) (suc d) (omega arith) in
      let operand = complete (right_needs op) right rest (omega (arith, op_level-un_level op))
      (record { formed = parts.right_formed; even = parts.right_even; high = parts.right_high; shallow = parts.right_shallow })
      (ends_more (suc (op_level op)) (right_needs op) rest (omega arith) ends) in
      rw (next, wanted, within, operand) refl

  reach_bin : (least : ℕ) (op : BinOp) (left right : Expr) (rest : List Token) → Fit least (suc d) (e.Bin op left right) → Ends (suc (level (e.Bin op left right))) rest
      → Reached least (tokens_of left ++ op_token op ∷ (tokens_of right ++ rest)) left (op_token op ∷ (tokens_of right ++ rest)) → Reached least (tokens_of (e.Bin op left right) ++ rest) (e.Bin op left right) rest
  reach_bin least op left right rest fit ends before =
      let parts = parts_of least d op left right fit in
      let high = fit.high in
      let low : least ≤ op_level op = omega (arith, level-Bin op left right) in
      let left_low = parts.left_shallow in
      go parts low before.turns before.enough before.is where
        go : Parts d op left right → least ≤ op_level op → (turns : ℕ) → suc d < turns + depth left
            → (prefix expr (tokens_of left ++ op_token op ∷ (tokens_of right ++ rest)) >>= λ first. climb expr (suc d) least (suc d) first.0 first.1) ≡ climb expr (suc d) least turns left (op_token op ∷ (tokens_of right ++ rest))
            → Reached least (tokens_of (e.Bin op left right) ++ rest) (e.Bin op left right) rest
        go parts low zero enough is = let below = parts.left_shallow in absurd (omega arith)
        go parts low (suc turns) enough is = record {
          turns = turns;
          enough = omega (arith, depth-Bin op left right, le-max_left (depth left) (depth right));
          is = rw (tokens_of-Bin op left right, append_assoc (tokens_of left) (op_token op ∷ tokens_of right) rest)
              (is ∙ climb_turn least turns op left right rest low parts (ends_more (suc (level (e.Bin op left right))) (suc (op_level op)) rest (omega (arith, level-Bin op left right)) ends));
        }

  ends_op : (op : BinOp) (left : Expr) (more : List Token) → is_infix op ≡ true → left_needs op ≤ level left → Ends (suc (level left)) (op_token op ∷ more)
  ends_op op left more between high = record {
    no_op = λ other after is.
        let same = some_pair_parts op other more after (sym (next_op-at op more between) ∙ is) in
        let level_same : op_level op ≡ op_level other = ap op_level same.0 in
        omega (arith, op_level-left_needs op);
    no_bracket = op-no_bracket op more;
  }

  reach : (m least : ℕ) (a : Expr) → depth a ≤ m → Fit least (suc d) a → (rest : List Token) → Ends (suc (level a)) rest → Reached least (tokens_of a ++ rest) a rest
  reach zero least a small fit rest ends = absurd (omega (arith, depth_some a))
  reach (suc m) least a small fit rest ends = go (reach m least) a small fit rest ends where
    go : ((a : Expr) → depth a ≤ m → Fit least (suc d) a → (rest : List Token) → Ends (suc (level a)) rest → Reached least (tokens_of a ++ rest) a rest)
        → (a : Expr) → depth a ≤ suc m → Fit least (suc d) a → (rest : List Token) → Ends (suc (level a)) rest → Reached least (tokens_of a ++ rest) a rest
    go more = cases_bin (λ a. depth a ≤ suc m → Fit least (suc d) a → (rest : List Token) → Ends (suc (level a)) rest → Reached least (tokens_of a ++ rest) a rest)
        (λ a high small fit rest ends. reach_high least a rest high fit ends.no_bracket)
        (λ op left right small fit rest ends.
        let parts = parts_of least d op left right fit in
        let high = fit.high in
        let left_high = parts.left_high in
        let left_low = parts.left_shallow in
        reach_bin least op left right rest fit ends (more left (omega (arith, depth-Bin op left right, le-max_left (depth left) (depth right)))
        (record { formed = parts.left_formed; even = parts.left_even; high = omega (arith, level-Bin op left right, op_level-left_needs op); shallow = omega arith })
        (op_token op ∷ (tokens_of right ++ rest)) (ends_op op left (tokens_of right ++ rest) parts.between parts.left_high)))

  stops : (least turns : ℕ) (a : Expr) (rest : List Token) → Ends least rest → climb expr (suc d) least (suc turns) a rest ≡ Some (a, rest)
  unfolding climb
  stops least turns a rest ends = go (next_op rest) refl where
    go : (next : Option (BinOp × List Token)) → next_op rest ≡ next → climb_on expr (suc d) least (climb expr (suc d) least turns) a rest next ≡ Some (a, rest)
    go None is = refl
    go (Some next) is =
        let not_on : nat_le least (op_level next.0) ≡ false = lt-leb least (op_level next.0) (ends.no_op next.0 next.1 is) in
        rw not_on refl

  stops_at : (least turns : ℕ) (a : Expr) (rest : List Token) → 1 ≤ turns → Ends least rest → climb expr (suc d) least turns a rest ≡ Some (a, rest)
  stops_at least zero a rest some ends = absurd (omega arith)
  stops_at least (suc turns) a rest some ends = stops least turns a rest ends

  pub layer_complete : (least : ℕ) (a : Expr) (rest : List Token) → Fit least (suc d) a → Ends least rest
      → (prefix expr (tokens_of a ++ rest) >>= λ first. climb expr (suc d) least (suc d) first.0 first.1) ≡ Some (a, rest)
  layer_complete least a rest fit ends =
      let high = fit.high in
      let r = reach (depth a) least a (omega arith) fit rest (ends_more least (suc (level a)) rest (omega arith) ends) in
      let enough = r.enough in
      let below = fit.shallow in
      r.is ∙ stops_at least r.turns a rest (omega arith) ends

pub expr_at_complete : (limit : ℕ) → IsComplete limit (expr_at limit)
unfolding expr_at
expr_at_complete zero least a rest low fit ends = let below = fit.shallow in absurd (omega (arith, depth_some a))
expr_at_complete (suc d) least a rest low fit ends = layer_complete d (expr_at d) (expr_at_complete d) least a rest fit ends

-- the parts of what is an expression of the grammar
pub fit_of_expr : (a : Expr) → is_expr a ≡ true → Fit 1 max_depth a
fit_of_expr a h =
    let p = and_parts (is_formed a) (levelled a && nat_le (depth a) max_depth) h in
    let q = and_parts (levelled a) (nat_le (depth a) max_depth) p.1 in
    record { formed = p.0; even = q.0; high = level_some a p.0; shallow = leb-true (depth a) max_depth q.1 }

-- no two expressions of the grammar, of any depth, have the same tokens
pub same_expr : (a b : Expr) → is_formed a ≡ true → levelled a ≡ true → is_formed b ≡ true → levelled b ≡ true → tokens_of a ≡ tokens_of b → a ≡ b
same_expr a b fa va fb vb same =
    let ends : Ends 1 [] = record { no_op = λ op after is. absurd (cc); no_bracket = refl } in
    let limit : ℕ = max (depth a) (depth b) in
    let ra = expr_at_complete limit 1 a [] (lit≤ tt) (record { formed = fa; even = va; high = level_some a fa; shallow = le-max_left (depth a) (depth b) }) ends in
    let rb = expr_at_complete limit 1 b [] (lit≤ tt) (record { formed = fb; even = vb; high = level_some b fb; shallow = le-max_right (depth a) (depth b) }) ends in
    (some_pair_parts a b [] [] (sym ra ∙ ap (λ ts. expr_at limit 1 (ts ++ [])) same ∙ rb)).0
