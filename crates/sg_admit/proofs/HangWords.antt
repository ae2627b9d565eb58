-- The links of expressions and statements, as they are gone through.
use Rattle.std.proofs.Common.{◌≡◌, ℕ, ◌+◌, ◌<◌, Bool, true, false, not, ◌&&◌, ◌||◌, List, [], ◌∷◌, ◌++◌, take, length, get_or, refl, sym, ap, subst, ◌∙◌, arith}
use Rattle.std.proofs.lemmas.Bool.{and_parts, and_from, both_ways}
use Rattle.std.proofs.lemmas.List.{length-append}
use Rattle.std.proofs.lemmas.List.Folds.{list_all-append}
use Rattle.sg_types.specs.declared.typed.TypedExpr.{TypedExpr}
use Rattle.sg_types.specs.declared.typed.Form.{Form}
use Rattle.sg_types.specs.declared.typed.Form.TheVariants as form
use Rattle.sg_types.specs.declared.typed.TypedKind.{TypedKind}
use Rattle.sg_types.specs.declared.typed.TypedKind.TheVariants as kind
use Rattle.sg_types.specs.declared.typed.TypedStmt.{TypedStmt}
use Rattle.sg_admit.specs.declared.text.Text.{Text}
use Rattle.sg_admit.specs.declared.hangs.Links.{Links}
use Rattle.sg_admit.specs.declared.hangs.Hangs.{Hangs}
use Rattle.sg_admit.specs.Lines.{Tests, Around, Line, line_of, within_if, stmt_lines, block_lines}
use Rattle.sg_admit.specs.Clean.{Unclean, is_clean, Giving, givings_of, givings}
use Rattle.sg_admit.specs.Slices.{stmt_of}
use Rattle.sg_admit.specs.steps.Noting.{tests_in, deed_tests}
use Rattle.sg_words.specs.Spread.{has_spread}
use Rattle.sg_admit.specs.steps.Hanging.{PlaceSet, Test, unclean_beside, is_noted_in, vars_in, is_clean_by, are_clean_by, is_in_set, SpreadWhereTested, IsSpread, has_givings, has_given, AreSettled, AddsLinks}
use Rattle.sg_admit.proofs.CleanWords.{clean-Read, clean-Mulq, clean-Active}
use Rattle.sg_admit.proofs.StmtWords.{lines-If}
use Rattle.sg_admit.proofs.TextWords.{flat_append, one_more}

and_assoc : (a b c : Bool) → ((a && b) && c) ≡ (a && (b && c))
and_assoc true b c = refl
and_assoc false b c = refl

and_true : (a : Bool) → (a && true) ≡ a
and_true true = refl
and_true false = refl

or_true : (a : Bool) → (a || true) ≡ true
or_true true = refl
or_true false = refl

-- both of two depend on one
or_both : (p q t : Bool) → ((p || t) && (q || t)) ≡ ((p && q) || t)
or_both true true t = refl
or_both true false true = refl
or_both true false false = refl
or_both false true true = refl
or_both false true false = refl
or_both false false true = refl
or_both false false false = refl

or_three : (p q r t : Bool) → ((p || t) && ((q || t) && (r || t))) ≡ ((p && (q && r)) || t)
or_three p q r t = ap (λ (x : Bool). (p || t) && x) (or_both q r t) ∙ or_both p (q && r) t

-- ---- links

pub given_both : (one two : Test) (a b c : Links) → SpreadWhereTested one a b → SpreadWhereTested two b c → SpreadWhereTested (λ places. one places && two places) a c
given_both one two a b c h k places = k places ∙ (ap (λ (x : Bool). x && two places) (h places) ∙ and_assoc (has_spread places a.links a.start) (one places) (two places))

pub given_like : (one two : Test) (a b : Links) → ((places : PlaceSet) → one places ≡ two places) → SpreadWhereTested one a b → SpreadWhereTested two a b
given_like one two a b h k places = k places ∙ ap (λ (x : Bool). has_spread places a.links a.start && x) (h places)

-- ---- expressions

module _ (text : Text) (to : ℕ) where
  abbrev Hang : TypedExpr → Links → Links → Type 0
  Hang expr a b = SpreadWhereTested (λ places. is_clean_by text places expr || places to) a b

  abbrev HangAll : List TypedExpr → Links → Links → Type 0
  HangAll exprs a b = SpreadWhereTested (λ places. are_clean_by text places exprs || places to) a b

  abbrev beside_text : PlaceSet → Unclean
  beside_text places = unclean_beside (is_noted_in text.writes) (vars_in text places)

  -- an expression by its form
  at_form : (places : PlaceSet) (expr : TypedExpr) (it : Form) → expr.form ≡ it → is_clean_by text places expr ≡ is_clean (beside_text places) (record { ty = expr.ty; form = it })
  at_form places expr it is = ap (λ (x : Form). is_clean (beside_text places) (record { ty = expr.ty; form = x })) is

  pub hang-Read : (expr : TypedExpr) (layout place : ℕ) (index given : List TypedExpr) → expr.form ≡ form.Read layout place index → given ≡ index → (a b c : Links)
      → SpreadWhereTested (λ places. not (is_noted_in text.writes layout place) || places to) a b → HangAll given b c → Hang expr a c
  hang-Read expr layout place index given is same a b c h k =
      given_like (λ places. (not (is_noted_in text.writes layout place) || places to) && (are_clean_by text places given || places to)) (λ places. is_clean_by text places expr || places to) a c
      (λ places. or_both (not (is_noted_in text.writes layout place)) (are_clean_by text places given) (places to)
      ∙ ap (λ (x : Bool). x || places to) (ap (λ (xs : List TypedExpr). not (is_noted_in text.writes layout place) && are_clean_by text places xs) same
      ∙ sym (at_form places expr (form.Read layout place index) is ∙ clean-Read (beside_text places) expr.ty layout place index)))
      (given_both (λ places. not (is_noted_in text.writes layout place) || places to) (λ places. are_clean_by text places given || places to) a b c h k)

  pub hang-Active : (expr : TypedExpr) (layout : ℕ) (index given : List TypedExpr) → expr.form ≡ form.Active layout index → given ≡ index → (a b : Links) → HangAll given a b → Hang expr a b
  hang-Active expr layout index given is same a b h =
      given_like (λ places. are_clean_by text places given || places to) (λ places. is_clean_by text places expr || places to) a b
      (λ places. ap (λ (x : Bool). x || places to) (ap (λ xs. are_clean_by text places xs) same
      ∙ sym (at_form places expr (form.Active layout index) is ∙ clean-Active (beside_text places) expr.ty layout index))) h

  pub hang-Mulq : (expr x y z gx gy gz : TypedExpr) → expr.form ≡ form.Mulq x y z → gx ≡ x → gy ≡ y → gz ≡ z → (a b c d : Links) → Hang gx a b → Hang gy b c → Hang gz c d → Hang expr a d
  hang-Mulq expr x y z gx gy gz is ex ey ez a b c d h k l =
      given_like (λ places. (is_clean_by text places gx || places to) && ((is_clean_by text places gy || places to) && (is_clean_by text places gz || places to)))
      (λ places. is_clean_by text places expr || places to) a d
      (λ places. or_three (is_clean_by text places gx) (is_clean_by text places gy) (is_clean_by text places gz) (places to)
      ∙ ap (λ (b : Bool). b || places to) (ap (λ (it : TypedExpr). is_clean_by text places it && (is_clean_by text places gy && is_clean_by text places gz)) ex
      ∙ (ap (λ (it : TypedExpr). is_clean_by text places x && (is_clean_by text places it && is_clean_by text places gz)) ey
      ∙ (ap (λ (it : TypedExpr). is_clean_by text places x && (is_clean_by text places y && is_clean_by text places it)) ez
      ∙ sym (at_form places expr (form.Mulq x y z) is ∙ clean-Mulq (beside_text places) expr.ty x y z)))))
      (given_both (λ places. is_clean_by text places gx || places to) (λ places. (is_clean_by text places gy || places to) && (is_clean_by text places gz || places to)) a b d h
      (given_both (λ places. is_clean_by text places gy || places to) (λ places. is_clean_by text places gz || places to) b c d k l))

-- ---- statements

module _ (text : Text) where
  abbrev fields : ℕ → ℕ → Bool
  fields = is_noted_in text.writes

  both_parts : (places : PlaceSet) (xs ys : List Line) → has_given text places (xs ++ ys) ≡ (has_given text places xs && has_given text places ys)
  both_parts places xs ys =
      ap (λ (all : List Giving). has_givings fields all (vars_in text places)) (flat_append (λ (line : Line). givings_of line.around line.deed) xs ys)
      ∙ list_all-append _ (givings xs) (givings ys)

  tests_both : (xs ys : List Line) → tests_in (xs ++ ys) ≡ tests_in xs ++ tests_in ys
  tests_both xs ys = flat_append (λ (line : Line). deed_tests line.around line.deed) xs ys

  settled_front : (places : PlaceSet) (at : ℕ) (xs ys : List (List TypedExpr)) → AreSettled text places at (xs ++ ys) → AreSettled text places at xs
  settled_front places at [] ys h = tt
  settled_front places at (x ∷ xs) ys h = (h.0, settled_front places (at + 1) xs ys h.1)

  settled_back : (places : PlaceSet) (at past : ℕ) (xs ys : List (List TypedExpr)) → past ≡ at + length xs → AreSettled text places at (xs ++ ys) → AreSettled text places past ys
  settled_back places at past [] ys e h = subst (λ (n : ℕ). AreSettled text places n ys) (omega (arith, e)) h
  settled_back places at past (x ∷ xs) ys e h = settled_back places (at + 1) past xs ys (omega (arith, e)) h.1

  module _ (round : ℕ) where
    pub linked_like : (xs ys : Around → List Line) → ((around : Around) → ys around ≡ xs around) → (a b : Hangs) → AddsLinks text round xs a b → AddsLinks text round ys a b
    linked_like xs ys h a b k = record {
      ifs = λ around. k.ifs around ∙ ap (λ (it : List Line). a.ifs + length (tests_in it)) (sym (h around));
      keeps = k.keeps;
      sound = λ places around r s. ap (has_given text places) (h around) ∙ k.sound places around r s;
      complete = λ places around r settled s given. k.complete places around r (subst (λ (it : List Line). AreSettled text places a.ifs (tests_in it)) (h around) settled) s
          (sym (ap (has_given text places) (h around)) ∙ given);
    }

    pub linked_both : (xs ys : Around → List Line) (a b c : Hangs) → AddsLinks text round xs a b → AddsLinks text round ys b c → AddsLinks text round (λ around. xs around ++ ys around) a c
    linked_both xs ys a b c h k = record {
      ifs = λ around. let l = ap length (tests_both (xs around) (ys around)) ∙ length-append (tests_in (xs around)) (tests_in (ys around)) in let hi = h.ifs around in let ki = k.ifs around in omega (arith, l, hi, ki);
      keeps = λ places s. h.keeps places (k.keeps places s);
      sound = λ places around r s. both_parts places (xs around) (ys around)
          ∙ and_from (has_given text places (xs around)) (has_given text places (ys around)) (h.sound places around r (k.keeps places s)) (k.sound places around r s);
      complete = λ places around r settled s given.
          let parts = and_parts (has_given text places (xs around)) (has_given text places (ys around)) (sym (both_parts places (xs around) (ys around)) ∙ given) in
          let all = subst (AreSettled text places a.ifs) (tests_both (xs around) (ys around)) settled in
          k.complete places around r (settled_back places a.ifs b.ifs (tests_in (xs around)) (tests_in (ys around)) (h.ifs around) all)
          (h.complete places around r (settled_front places a.ifs (tests_in (xs around)) (tests_in (ys around)) all) s parts.0) parts.1;
    }

    -- a condition v, conditions k round it, the place r of the `if` round it and its own s
    if_sound : (v k r s : Bool) → (r ≡ false → k ≡ true) → ((v || s) && (not r || s)) ≡ true → s ≡ false → (v && k) ≡ true
    if_sound v k r true h e f = absurd (both_ways true f refl)
    if_sound true k true false h e f = absurd (both_ways false refl e)
    if_sound true k false false h e f = h refl
    if_sound false k r false h e f = e

    if_complete : (v k r s : Bool) → r ≡ not k → s ≡ not (v && k) → ((v || s) && (not r || s)) ≡ true
    if_complete true true r s h e = ap (λ (x : Bool). not x || s) h
    if_complete true false r s h e = ap (λ (x : Bool). not r || x) e ∙ or_true (not r)
    if_complete false k r s h e = ap (λ (x : Bool). x && (not r || x)) e ∙ or_true (not r)

    pub linked_if : (number : ℕ) (condition : TypedExpr) (xs ys : Around → List Line) (a b c d : Hangs) → b.ifs ≡ a.ifs + 1 → SpreadWhereTested (λ places. is_in_set text places round a.ifs condition) a.links b.links
        → AddsLinks text a.ifs xs b c → AddsLinks text a.ifs ys c d
        → AddsLinks text round (λ around. line_of number around (Tests condition) ∷ (xs (within_if condition around) ++ ys (within_if condition around))) a d
    linked_if number condition xs ys a b c d more given h k = record {
      ifs = λ around.
          let inside = within_if condition around in
          let l = ap length (tests_both (xs inside) (ys inside)) ∙ length-append (tests_in (xs inside)) (tests_in (ys inside)) in
          let hi = h.ifs inside in
          let ki = k.ifs inside in
          omega (arith, l, hi, ki, more);
      keeps = λ places s. (parts places s).0;
      sound = λ places around r s.
          let inside = within_if condition around in
          let here = if_sound (is_clean_by text places condition) (are_clean_by text places around.conditions) (places round) (places a.ifs) r (parts places s).1 in
          both_parts places (xs inside) (ys inside)
          ∙ and_from (has_given text places (xs inside)) (has_given text places (ys inside)) (h.sound places inside here (k.keeps places s)) (k.sound places inside here s);
      complete = λ places around r settled s g.
          let inside = within_if condition around in
          let gs = and_parts (has_given text places (xs inside)) (has_given text places (ys inside)) (sym (both_parts places (xs inside) (ys inside)) ∙ g) in
          let all = subst (λ (n : ℕ). AreSettled text places n (tests_in (xs inside) ++ tests_in (ys inside))) (sym more) (subst (AreSettled text places (a.ifs + 1)) (tests_both (xs inside) (ys inside)) settled.1) in
          let begun : IsSpread b.links places = given places
          ∙ and_from (has_spread places a.links.links a.links.start) (is_in_set text places round a.ifs condition) s
          (if_complete (is_clean_by text places condition) (are_clean_by text places around.conditions) (places round) (places a.ifs) r settled.0) in
          k.complete places inside settled.0 (settled_back places b.ifs c.ifs (tests_in (xs inside)) (tests_in (ys inside)) (h.ifs inside) all)
          (h.complete places inside settled.0 (settled_front places b.ifs (tests_in (xs inside)) (tests_in (ys inside)) all) begun gs.0) gs.1;
    }
      where
        parts : (places : PlaceSet) → IsSpread d.links places → IsSpread a.links places × (is_in_set text places round a.ifs condition ≡ true)
        parts places s = and_parts (has_spread places a.links.links a.links.start) (is_in_set text places round a.ifs condition) (sym (given places) ∙ h.keeps places (k.keeps places s))

-- ---- as the code meets them

module _ (text : Text) (round : ℕ) (stmt : TypedStmt) where
  abbrev Its : Hangs → Hangs → Type 0
  Its a b = AddsLinks text round (stmt_lines stmt) a b

  -- the lines of a statement by its kind
  at_kind : (it : TypedKind) → stmt.kind ≡ it → (around : Around) → stmt_lines stmt around ≡ stmt_lines (stmt_of stmt.number it) around
  at_kind it is around = ap (λ (x : TypedKind). stmt_lines (stmt_of stmt.number x) around) is

  pub linked-If : (condition : TypedExpr) (block otherwise ys ns : List TypedStmt) (has_else : Bool) → stmt.kind ≡ kind.If condition block otherwise has_else → ys ≡ block → ns ≡ otherwise
      → (a b c d : Hangs) → b.ifs ≡ a.ifs + 1 → SpreadWhereTested (λ places. is_in_set text places round a.ifs condition) a.links b.links
      → AddsLinks text a.ifs (block_lines ys) b c → AddsLinks text a.ifs (block_lines ns) c d → Its a d
  linked-If condition block otherwise ys ns has_else is ey en a b c d more given h k =
      linked_like text round (λ around. line_of stmt.number around (Tests condition) ∷ (block_lines block (within_if condition around) ++ block_lines otherwise (within_if condition around))) (stmt_lines stmt)
      (λ around. at_kind (kind.If condition block otherwise has_else) is around ∙ lines-If stmt.number condition block otherwise has_else around) a d
      (linked_if text round stmt.number condition (block_lines block) (block_lines otherwise) a b c d more given
      (subst (λ (stmts : List TypedStmt). AddsLinks text a.ifs (block_lines stmts) b c) ey h) (subst (λ (stmts : List TypedStmt). AddsLinks text a.ifs (block_lines stmts) c d) en k))

module _ (text : Text) (round : ℕ) where
  -- one more statement of a block
  pub linked_more : (block : List TypedStmt) (i : ℕ) (stmt : TypedStmt) → i < length block → stmt ≡ get_or block i stmt → (a b c : Hangs)
      → AddsLinks text round (block_lines (take i block)) a b → AddsLinks text round (stmt_lines stmt) b c → AddsLinks text round (block_lines (take (i + 1) block)) a c
  linked_more block i stmt l is a b c h k =
      linked_like text round (λ around. block_lines (take i block) around ++ stmt_lines stmt around) (block_lines (take (i + 1) block))
      (λ around. one_more block i stmt l is around) a c
      (linked_both text round (block_lines (take i block)) (stmt_lines stmt) a b c h k)
