-- What is read as an expression is one, and the tokens that were taken are its tokens.
use Rattle.std.specs.Prelude.{◌≡◌, refl, ℕ, zero, suc, ◌≤◌, Bool, true, false, ◌==◌, nat_le, nat_lt, if◌then◌else◌, List, [], ◌∷◌, ◌++◌, map, length, Option, Some, None}
use Rattle.std.specs.List.{AllByRecursion, list_all}
use Rattle.std.proofs.Common.{sym, ◌∙◌, ap, subst, arith, append_assoc, lit≤}
use Rattle.std.proofs.lemmas.Bool.{and_parts, and_from, leb-true, le-leb, ltb-true}
use Rattle.std.proofs.lemmas.Option.{same_Some, some_pair_parts}
use Rattle.sg_words.specs.declared.operators.BinOp.{BinOp}
use Rattle.sg_words.specs.declared.operators.UnOp.{UnOp}
use Rattle.sg_words.specs.declared.operators.UnOp.TheVariants as u
use Rattle.sg_ast.specs.declared.token.Name.{Name}
use Rattle.sg_ast.specs.declared.token.Word.{Word}
use Rattle.sg_ast.specs.declared.token.Word.TheVariants as w
use Rattle.sg_ast.specs.declared.token.Sign.{Sign}
use Rattle.sg_ast.specs.declared.token.Sign.TheVariants as s
use Rattle.sg_ast.specs.declared.token.Token.{Token}
use Rattle.sg_ast.specs.declared.token.Token.TheVariants as t
use Rattle.sg_ast.specs.declared.expr.Callee.{Callee}
use Rattle.sg_ast.specs.declared.expr.Callee.TheVariants as c
use Rattle.sg_ast.specs.declared.expr.Expr.{Expr}
use Rattle.sg_ast.specs.declared.expr.Expr.TheVariants as e
use Rattle.sg_ast.specs.Token.{is_name, is_number}
use Rattle.sg_ast.specs.Expr.{tokens_of, with_commas, op_token, un_token, callee_token, depth, largest, level, levelled, op_level, left_needs, right_needs, un_level}
use Rattle.sg_ast.specs.Limits.{max_depth}
use Rattle.sg_ast.specs.Grammar.{is_formed, is_infix, arity, is_expr}
use Rattle.sg_ast.proofs.Uses.{tokens_of-Number, tokens_of-Truth, tokens_of-Name, tokens_of-Read, tokens_of-Paren, tokens_of-Un, tokens_of-Bin, tokens_of-Call, tokens_of-Active, depth-Number, depth-Truth, depth-Name, depth-Read, depth-Paren, depth-Un, depth-Bin, depth-Call, depth-Active, level-Number, level-Truth, level-Name, level-Read, level-Paren, level-Un, level-Bin, level-Call, level-Active, levelled-Number, levelled-Truth, levelled-Name, levelled-Read, levelled-Paren, levelled-Un, levelled-Bin, levelled-Call, levelled-Active, is_formed-Number, is_formed-Truth, is_formed-Name, is_formed-Read, is_formed-Paren, is_formed-Un, is_formed-Bin, is_formed-Call, is_formed-Active, op_level-un_level}
use Rattle.sg_parser.specs.Front.{Reader, after_sign, next_name, next_op, comma_list}
use Rattle.sg_words.specs.Options.{only_if, ◌>>=◌}
use Rattle.sg_parser.specs.ReadExpr.{operator_goes_on, read_indices, read_name_expr, read_name_expr_on, read_call_expr, active_expr, paren_expr, unary_expr, word_expr, sign_expr, prefix, climb, climb_on, expr_at}
use Rattle.sg_parser.proofs.StepLemmas.{bind_some, only_if_some, after_sign_is, next_name_is, next_op_is}
use Rattle.sg_parser.proofs.ListLemmas.{IsSoundReader, listed_sound}

-- an expression of the grammar of at least a level and at most a depth
pub record Fit (least limit : ℕ) (a : Expr) : Type 0 where
  pub formed : is_formed a ≡ true
  pub even : levelled a ≡ true
  pub high : least ≤ level a
  pub shallow : depth a ≤ limit

-- such an expression, and it has the tokens that were taken
pub record Taken (least limit : ℕ) (tokens : List Token) (a : Expr) (rest : List Token) : Type 0 where
  pub fit : Fit least limit a
  pub parts : tokens ≡ tokens_of a ++ rest

abbrev pub IsSound : ℕ → (ℕ → Reader Expr) → Type 0
IsSound limit expr = (least : ℕ) (tokens : List Token) (a : Expr) (rest : List Token) → least ≤ un_level → expr least tokens ≡ Some (a, rest) → Taken least limit tokens a rest

pub all_formed : (least limit : ℕ) (parts : List Expr) → AllByRecursion (Fit least limit) parts → list_all is_formed parts ≡ true
all_formed least limit [] h = refl
all_formed least limit (a ∷ parts) h = and_from (is_formed a) (list_all is_formed parts) h.0.formed (all_formed least limit parts h.1)

pub all_even : (least limit : ℕ) (parts : List Expr) → AllByRecursion (Fit least limit) parts → list_all levelled parts ≡ true
all_even least limit [] h = refl
all_even least limit (a ∷ parts) h = and_from (levelled a) (list_all levelled parts) h.0.even (all_even least limit parts h.1)

pub all_shallow : (least limit : ℕ) (parts : List Expr) → AllByRecursion (Fit least limit) parts → largest (map depth parts) ≤ limit
all_shallow least limit [] h = omega arith
all_shallow least limit (a ∷ parts) h = let first = h.0.shallow in omega (arith, all_shallow least limit parts h.1)

-- what is read is what it was said to be
pub given : (least limit : ℕ) (tokens : List Token) (made a : Expr) (left rest : List Token) → Taken least limit tokens made left → ◌≡◌ {A = Option (Expr × List Token)} (Some (made, left)) (Some (a, rest)) → Taken least limit tokens a rest
given least limit tokens made a left rest taken h = subst (λ (q : Expr × List Token). Taken least limit tokens q.0 q.1) (same_Some {A = Expr × List Token} (made, left) (a, rest) h) taken

-- the tokens of a question, from what was taken one after the other
pub asked_parts : (field : Name) (index : List Expr) (tokens behind bracket inside close rest : List Token)
    → tokens ≡ t.Sign s.OpenParen ∷ behind → behind ≡ t.Name field ∷ bracket → bracket ≡ t.Sign s.OpenBracket ∷ inside
    → inside ≡ with_commas (map tokens_of index) ++ t.Sign s.CloseBracket ∷ close → close ≡ t.Sign s.CloseParen ∷ rest
    → t.Word w.Active ∷ tokens ≡ tokens_of (e.Active field index) ++ rest
asked_parts field index tokens behind bracket inside close rest first second third fourth fifth =
    rw (
      first,
      second,
      third,
      fourth,
      fifth,
      tokens_of-Active field index,
      append_assoc (with_commas (map tokens_of index) ++ t.Sign s.CloseBracket ∷ []) (t.Sign s.CloseParen ∷ []) rest,
      append_assoc (with_commas (map tokens_of index)) (t.Sign s.CloseBracket ∷ []) (t.Sign s.CloseParen ∷ rest),
    ) refl

module _ (d : ℕ) (expr : ℕ → Reader Expr) (sound : IsSound d expr) where
  one_sound : IsSoundReader tokens_of (Fit 1 d) (expr 1)
  one_sound tokens x rest h = let taken = sound 1 tokens x rest (lit≤ tt) h in (taken.fit, taken.parts)

  pub indices_sound : (tokens : List Token) (index : List Expr) (rest : List Token) → read_indices expr tokens ≡ Some (index, rest)
      → (1 ≤ length index) × AllByRecursion (Fit 1 d) index × (tokens ≡ with_commas (map tokens_of index) ++ t.Sign s.CloseBracket ∷ rest)
  unfolding read_indices
  indices_sound tokens index rest h =
      let p = bind_some (comma_list (expr 1) tokens) _ (index, rest) h in
      let q = bind_some (after_sign s.CloseBracket p.0.1) _ (index, rest) p.2 in
      let taken = listed_sound Expr (expr 1) tokens_of (Fit 1 d) one_sound tokens p.0.0 p.0.1 p.1 in
      let same = some_pair_parts p.0.0 index q.0 rest q.2 in
      rw (← same.0) (taken.0, taken.1, taken.2 ∙ ap (λ r. with_commas (map tokens_of p.0.0) ++ r) (after_sign_is s.CloseBracket p.0.1 q.0 q.1 ∙ ap (λ r. t.Sign s.CloseBracket ∷ r) same.1))

  named_sound : (name : Name) (tokens : List Token) (a : Expr) (rest : List Token) → read_name_expr expr name tokens ≡ Some (a, rest) → Taken un_level (suc d) (t.Name name ∷ tokens) a rest
  unfolding read_name_expr
  named_sound name tokens a rest h =
      let p = only_if_some (is_name name) (read_name_expr_on expr name tokens (after_sign s.OpenBracket tokens)) (a, rest) h in
      go p.0 (after_sign s.OpenBracket tokens) refl p.1 where
        go : is_name name ≡ true → (after : Option (List Token)) → after_sign s.OpenBracket tokens ≡ after → read_name_expr_on expr name tokens after ≡ Some (a, rest)
            → Taken un_level (suc d) (t.Name name ∷ tokens) a rest
        go good None is h = given un_level (suc d) (t.Name name ∷ tokens) (e.Name name) a tokens rest (record {
          fit = record {
            formed = is_formed-Name name ∙ good;
            even = levelled-Name name;
            high = omega (arith, level-Name name);
            shallow = omega (arith, depth-Name name);
          };
          parts = rw (tokens_of-Name name) refl;
        }) h
        go good (Some behind) is h =
            let p = bind_some (read_indices expr behind) (λ (index : List Expr × List Token). Some (e.Read name index.0, index.1)) (a, rest) h in
            let taken = indices_sound behind p.0.0 p.0.1 p.1 in
            given un_level (suc d) (t.Name name ∷ tokens) (e.Read name p.0.0) a p.0.1 rest (record {
              fit = record {
                formed = is_formed-Read name p.0.0 ∙ and_from (is_name name) _ good (and_from (nat_le 1 (length p.0.0)) _ (le-leb 1 (length p.0.0) taken.0) (all_formed 1 d p.0.0 taken.1));
                even = levelled-Read name p.0.0 ∙ all_even 1 d p.0.0 taken.1;
                high = omega (arith, level-Read name p.0.0);
                shallow = omega (arith, depth-Read name p.0.0, all_shallow 1 d p.0.0 taken.1);
              };
              parts = rw (tokens_of-Read name p.0.0, append_assoc (with_commas (map tokens_of p.0.0)) (t.Sign s.CloseBracket ∷ []) p.0.1)
                  (ap (λ r. t.Name name ∷ r) (after_sign_is s.OpenBracket tokens behind is ∙ ap (λ r. t.Sign s.OpenBracket ∷ r) taken.2));
            }) p.2

  call_sound : (callee : Callee) (tokens : List Token) (a : Expr) (rest : List Token) → read_call_expr expr callee tokens ≡ Some (a, rest) → Taken un_level (suc d) (callee_token callee ∷ tokens) a rest
  unfolding read_call_expr
  call_sound callee tokens a rest h =
      let p = bind_some (after_sign s.OpenParen tokens) _ (a, rest) h in
      let q = bind_some (comma_list (expr 1) p.0) _ (a, rest) p.2 in
      let r = bind_some (after_sign s.CloseParen q.0.1) _ (a, rest) q.2 in
      let o = only_if_some (length q.0.0 == arity callee) (Some (e.Call callee q.0.0, r.0)) (a, rest) r.2 in
      let taken = listed_sound Expr (expr 1) tokens_of (Fit 1 d) one_sound p.0 q.0.0 q.0.1 q.1 in
      given un_level (suc d) (callee_token callee ∷ tokens) (e.Call callee q.0.0) a r.0 rest (record {
        fit = record {
          formed = is_formed-Call callee q.0.0 ∙ and_from (length q.0.0 == arity callee) _ o.0 (all_formed 1 d q.0.0 taken.1);
          even = levelled-Call callee q.0.0 ∙ all_even 1 d q.0.0 taken.1;
          high = omega (arith, level-Call callee q.0.0);
          shallow = omega (arith, depth-Call callee q.0.0, all_shallow 1 d q.0.0 taken.1);
        };
        parts = rw (tokens_of-Call callee q.0.0, append_assoc (with_commas (map tokens_of q.0.0)) (t.Sign s.CloseParen ∷ []) r.0)
            (ap (λ r. callee_token callee ∷ r) (after_sign_is s.OpenParen tokens p.0 p.1
            ∙ ap (λ r. t.Sign s.OpenParen ∷ r) (taken.2 ∙ ap (λ r. with_commas (map tokens_of q.0.0) ++ r) (after_sign_is s.CloseParen q.0.1 r.0 r.1))));
      }) o.1

  active_sound : (tokens : List Token) (a : Expr) (rest : List Token) → active_expr expr tokens ≡ Some (a, rest) → Taken un_level (suc d) (t.Word w.Active ∷ tokens) a rest
  unfolding active_expr
  active_sound tokens a rest h =
      let p = bind_some (after_sign s.OpenParen tokens) _ (a, rest) h in
      let q = bind_some (next_name p.0) _ (a, rest) p.2 in
      let r = bind_some (after_sign s.OpenBracket q.0.1) _ (a, rest) q.2 in
      let i = bind_some (read_indices expr r.0) _ (a, rest) r.2 in
      let o = bind_some (after_sign s.CloseParen i.0.1) _ (a, rest) i.2 in
      let field = next_name_is p.0 q.0.1 q.0.0 q.1 in
      let taken = indices_sound r.0 i.0.0 i.0.1 i.1 in
      given un_level (suc d) (t.Word w.Active ∷ tokens) (e.Active q.0.0 i.0.0) a o.0 rest (record {
        fit = record {
          formed = is_formed-Active q.0.0 i.0.0 ∙ and_from (is_name q.0.0) _ field.1 (and_from (nat_le 1 (length i.0.0)) _ (le-leb 1 (length i.0.0) taken.0) (all_formed 1 d i.0.0 taken.1));
          even = levelled-Active q.0.0 i.0.0 ∙ all_even 1 d i.0.0 taken.1;
          high = omega (arith, level-Active q.0.0 i.0.0);
          shallow = omega (arith, depth-Active q.0.0 i.0.0, all_shallow 1 d i.0.0 taken.1);
        };
        parts = asked_parts q.0.0 i.0.0 tokens p.0 q.0.1 r.0 i.0.1 o.0
            (after_sign_is s.OpenParen tokens p.0 p.1) field.0 (after_sign_is s.OpenBracket q.0.1 r.0 r.1) taken.2 (after_sign_is s.CloseParen i.0.1 o.0 o.1);
      }) o.2

  paren_sound : (tokens : List Token) (a : Expr) (rest : List Token) → paren_expr expr tokens ≡ Some (a, rest) → Taken un_level (suc d) (t.Sign s.OpenParen ∷ tokens) a rest
  unfolding paren_expr
  paren_sound tokens a rest h =
      let p = bind_some (expr 1 tokens) _ (a, rest) h in
      let q = bind_some (after_sign s.CloseParen p.0.1) _ (a, rest) p.2 in
      let taken = sound 1 tokens p.0.0 p.0.1 (lit≤ tt) p.1 in
      given un_level (suc d) (t.Sign s.OpenParen ∷ tokens) (e.Paren p.0.0) a q.0 rest (record {
        fit = record {
          formed = is_formed-Paren p.0.0 ∙ taken.fit.formed;
          even = levelled-Paren p.0.0 ∙ taken.fit.even;
          high = omega (arith, level-Paren p.0.0);
          shallow = let below = taken.fit.shallow in omega (arith, depth-Paren p.0.0);
        };
        parts = rw (tokens_of-Paren p.0.0, append_assoc (tokens_of p.0.0) (t.Sign s.CloseParen ∷ []) q.0)
            (ap (λ r. t.Sign s.OpenParen ∷ r) (taken.parts ∙ ap (λ r. tokens_of p.0.0 ++ r) (after_sign_is s.CloseParen p.0.1 q.0 q.1)));
      }) q.2

  unary_sound : (op : UnOp) (tokens : List Token) (a : Expr) (rest : List Token) → unary_expr expr op tokens ≡ Some (a, rest) → Taken un_level (suc d) (un_token op ∷ tokens) a rest
  unfolding unary_expr
  unary_sound op tokens a rest h =
      let p = bind_some (expr un_level tokens) _ (a, rest) h in
      let taken = sound un_level tokens p.0.0 p.0.1 (omega arith) p.1 in
      given un_level (suc d) (un_token op ∷ tokens) (e.Un op p.0.0) a p.0.1 rest (record {
        fit = record {
          formed = is_formed-Un op p.0.0 ∙ taken.fit.formed;
          even = levelled-Un op p.0.0 ∙ and_from (nat_le un_level (level p.0.0)) (levelled p.0.0) (le-leb un_level (level p.0.0) taken.fit.high) taken.fit.even;
          high = omega (arith, level-Un op p.0.0);
          shallow = let below = taken.fit.shallow in omega (arith, depth-Un op p.0.0);
        };
        parts = rw (tokens_of-Un op p.0.0) (ap (λ r. un_token op ∷ r) taken.parts);
      }) p.2

  truth_sound : (truth : Bool) (word : Word) (tokens : List Token) (a : Expr) (rest : List Token) → t.Word word ∷ [] ≡ tokens_of (e.Truth truth)
      → ◌≡◌ {A = Option (Expr × List Token)} (Some (e.Truth truth, tokens)) (Some (a, rest)) → Taken un_level (suc d) (t.Word word ∷ tokens) a rest
  truth_sound truth word tokens a rest is h = given un_level (suc d) (t.Word word ∷ tokens) (e.Truth truth) a tokens rest (record {
    fit = record {
      formed = is_formed-Truth truth;
      even = levelled-Truth truth;
      high = omega (arith, level-Truth truth);
      shallow = omega (arith, depth-Truth truth);
    };
    parts = ap (λ r. r ++ tokens) is;
  }) h

  worded_sound : (word : Word) (tokens : List Token) (a : Expr) (rest : List Token) → word_expr expr word tokens ≡ Some (a, rest) → Taken un_level (suc d) (t.Word word ∷ tokens) a rest
  worded_sound w.True tokens a rest h = truth_sound true w.True tokens a rest (sym (tokens_of-Truth true)) h
  worded_sound w.False tokens a rest h = truth_sound false w.False tokens a rest (sym (tokens_of-Truth false)) h
  worded_sound w.Min tokens a rest h = call_sound c.Min tokens a rest h
  worded_sound w.Max tokens a rest h = call_sound c.Max tokens a rest h
  worded_sound w.Mulq tokens a rest h = call_sound c.Mulq tokens a rest h
  worded_sound w.I32 tokens a rest h = call_sound c.I32 tokens a rest h
  worded_sound w.U32 tokens a rest h = call_sound c.U32 tokens a rest h
  worded_sound w.Active tokens a rest h = active_sound tokens a rest h
  worded_sound _ tokens a rest h = absurd (cc)

  signed_sound : (sign : Sign) (tokens : List Token) (a : Expr) (rest : List Token) → sign_expr expr sign tokens ≡ Some (a, rest) → Taken un_level (suc d) (t.Sign sign ∷ tokens) a rest
  signed_sound s.OpenParen tokens a rest h = paren_sound tokens a rest h
  signed_sound s.Minus tokens a rest h = unary_sound u.Neg tokens a rest h
  signed_sound s.Tilde tokens a rest h = unary_sound u.Not tokens a rest h
  signed_sound s.Not tokens a rest h = unary_sound u.LNot tokens a rest h
  signed_sound _ tokens a rest h = absurd (cc)

  prefix_sound : (tokens : List Token) (a : Expr) (rest : List Token) → prefix expr tokens ≡ Some (a, rest) → Taken un_level (suc d) tokens a rest
  unfolding prefix
  prefix_sound [] a rest h = absurd (cc)
  prefix_sound (t.Number value unsigned ∷ tokens) a rest h =
      let p = only_if_some (is_number value unsigned) (Some (e.Number value unsigned, tokens)) (a, rest) h in
      given un_level (suc d) (t.Number value unsigned ∷ tokens) (e.Number value unsigned) a tokens rest (record {
        fit = record {
          formed = is_formed-Number value unsigned ∙ p.0;
          even = levelled-Number value unsigned;
          high = omega (arith, level-Number value unsigned);
          shallow = omega (arith, depth-Number value unsigned);
        };
        parts = rw (tokens_of-Number value unsigned) refl;
      }) p.1
  prefix_sound (t.Name name ∷ tokens) a rest h = named_sound name tokens a rest h
  prefix_sound (t.Word word ∷ tokens) a rest h = worded_sound word tokens a rest h
  prefix_sound (t.Sign sign ∷ tokens) a rest h = signed_sound sign tokens a rest h

  -- what an operator that goes on says of its operand
  on_parts : (least : ℕ) (left : Expr) (op : BinOp) → operator_goes_on least left op ≡ true → (least ≤ op_level op) × (left_needs op ≤ level left)
  on_parts least left op h =
      let p = and_parts (nat_le least (op_level op)) (nat_le (left_needs op) (level left)) h in
      (leb-true least (op_level op) p.0, leb-true (left_needs op) (level left) p.1)

  climb_sound : (turns least : ℕ) (left : Expr) (tokens : List Token) (a : Expr) (rest : List Token) → Fit least (suc d) left
      → climb expr (suc d) least turns left tokens ≡ Some (a, rest) → Taken least (suc d) (tokens_of left ++ tokens) a rest
  unfolding climb
  climb_sound zero least left tokens a rest fit h = absurd (cc)
  climb_sound (suc turns) least left tokens a rest fit h = go (climb_sound turns least) (next_op tokens) refl h where
    stop : ◌≡◌ {A = Option (Expr × List Token)} (Some (left, tokens)) (Some (a, rest)) → Taken least (suc d) (tokens_of left ++ tokens) a rest
    stop h = given least (suc d) (tokens_of left ++ tokens) left a tokens rest (record { fit = fit; parts = refl }) h

    joined : (op : BinOp) (right : Expr) (left_over after : List Token) → tokens ≡ op_token op ∷ after → after ≡ tokens_of right ++ left_over
        → tokens_of left ++ tokens ≡ tokens_of (e.Bin op left right) ++ left_over
    joined op right left_over after is parts = rw (is, parts, tokens_of-Bin op left right, append_assoc (tokens_of left) (op_token op ∷ tokens_of right) left_over) refl

    on : ((made : Expr) (after : List Token) (a : Expr) (rest : List Token) → Fit least (suc d) made → climb expr (suc d) least turns made after ≡ Some (a, rest) → Taken least (suc d) (tokens_of made ++ after) a rest)
        → (op : BinOp) (after : List Token) → next_op tokens ≡ Some (op, after) → (on : Bool) → operator_goes_on least left op ≡ on
        → (if on then only_if (nat_lt (depth left) (suc d)) (expr (right_needs op) after >>= λ right. climb expr (suc d) least turns (e.Bin op left right.0) right.1) else Some (left, tokens)) ≡ Some (a, rest)
        → Taken least (suc d) (tokens_of left ++ tokens) a rest
    on more op after is false does h = stop h
    on more op after is true does h =
        let low = on_parts least left op does in
        let p = only_if_some (nat_lt (depth left) (suc d)) _ (a, rest) h in
        let above = ltb-true (depth left) (suc d) p.0 in
        let q = bind_some (expr (right_needs op) after) (λ (right : Expr × List Token). climb expr (suc d) least turns (e.Bin op left right.0) right.1) (a, rest) p.1 in
        let taken = sound (right_needs op) after q.0.0 q.0.1 (omega (arith, op_level-un_level op)) q.1 in
        let read = next_op_is tokens after op is in
        let right : Expr = q.0.0 in
        let below = taken.fit.shallow in
        let made : Taken least (suc d) (tokens_of (e.Bin op left right) ++ q.0.1) a rest = more (e.Bin op left right) q.0.1 a rest (record {
          formed = is_formed-Bin op left right ∙ and_from (is_infix op) _ read.1 (and_from (is_formed left) (is_formed right) fit.formed taken.fit.formed);
          even = levelled-Bin op left right ∙ and_from _ _ (and_from _ _ (le-leb (left_needs op) (level left) low.1) (le-leb (right_needs op) (level right) taken.fit.high)) (and_from (levelled left) (levelled right) fit.even taken.fit.even);
          high = omega (arith, level-Bin op left right);
          shallow = omega (arith, depth-Bin op left right);
        }) q.2 in
        record { fit = made.fit; parts = joined op right q.0.1 after read.0 taken.parts ∙ made.parts }

    go : ((made : Expr) (after : List Token) (a : Expr) (rest : List Token) → Fit least (suc d) made → climb expr (suc d) least turns made after ≡ Some (a, rest) → Taken least (suc d) (tokens_of made ++ after) a rest)
        → (next : Option (BinOp × List Token)) → next_op tokens ≡ next → climb_on expr (suc d) least (climb expr (suc d) least turns) left tokens next ≡ Some (a, rest)
        → Taken least (suc d) (tokens_of left ++ tokens) a rest
    go more None is h = stop h
    go more (Some next) is h = on more next.0 next.1 is (operator_goes_on least left next.0) refl h

  -- one layer more
  pub layer_sound : (least : ℕ) (tokens : List Token) (a : Expr) (rest : List Token) → least ≤ un_level
      → (prefix expr tokens >>= λ first. climb expr (suc d) least (suc d) first.0 first.1) ≡ Some (a, rest) → Taken least (suc d) tokens a rest
  layer_sound least tokens a rest low h =
      let p = bind_some (prefix expr tokens) (λ (first : Expr × List Token). climb expr (suc d) least (suc d) first.0 first.1) (a, rest) h in
      let first = prefix_sound tokens p.0.0 p.0.1 p.1 in
      let high = first.fit.high in
      let taken = climb_sound (suc d) least p.0.0 p.0.1 a rest (record { formed = first.fit.formed; even = first.fit.even; high = omega arith; shallow = first.fit.shallow }) p.2 in
      record { fit = taken.fit; parts = first.parts ∙ taken.parts }

pub expr_at_sound : (limit : ℕ) → IsSound limit (expr_at limit)
unfolding expr_at
expr_at_sound zero least tokens a rest low h = absurd (cc)
expr_at_sound (suc d) least tokens a rest low h = layer_sound d (expr_at d) (expr_at_sound d) least tokens a rest low h

-- an expression of the grammar, and what is one by its parts
pub expr_of_fit : (a : Expr) → Fit 1 max_depth a → is_expr a ≡ true
expr_of_fit a fit = and_from (is_formed a) _ fit.formed (and_from (levelled a) _ fit.even (le-leb (depth a) max_depth fit.shallow))
