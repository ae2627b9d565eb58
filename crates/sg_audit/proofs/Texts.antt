-- The texts of lines: how bytes fall into them.
use Rattle.std.proofs.Common.{◌≡◌, ℕ, suc, ◌+◌, ◌^◌, ◌<◌, ◌≤◌, ◌==◌, Bool, true, false, not, cond, List, [], ◌∷◌, ◌++◌, length, take, drop, decimal, refl, sym, ap, ◌∙◌, subst, arith, codes, append_assoc}
use Rattle.std.specs.Char.{is_ascii_digit}
use Rattle.std.specs.List.{list_all, prefix_len}
use Rattle.std.proofs.lemmas.Bool.{and_parts, and_from, cond-true, cond-false, eqb-true, both_ways, not-true}
use Rattle.sg_journal.specs.declared.lines.Line.{Line}
use Rattle.sg_journal.specs.declared.lines.Line.TheVariants.{Take, Free}
use Rattle.sg_journal.specs.Lines.{behind_space, line_text, end_line, IsInRange}
use Rattle.sg_audit.specs.Reading.{texts_of, before_first}
use Rattle.sg_audit.specs.steps.Finding.{is_in_line, end_of}
use Rattle.sg_audit.proofs.Numerals.{decimal_digits}

-- ---- what stands before a newline is a line with it

pub texts_front : (front more : List ℕ) → list_all is_in_line front ≡ true → texts_of (front ++ 10 ∷ more) ≡ (front ++ 10 ∷ []) ∷ texts_of more
texts_front [] more all = refl
texts_front (b ∷ front) more all =
    let parts = and_parts (is_in_line b) (list_all is_in_line front) all in
    cond-false (b == 10) ((b ∷ []) ∷ texts_of (front ++ 10 ∷ more)) (before_first b (texts_of (front ++ 10 ∷ more))) (not-true (b == 10) parts.0)
    ∙ ap (before_first b) (texts_front front more parts.1)

digit_in_line : (b : ℕ) → is_ascii_digit b ≡ true → is_in_line b ≡ true
digit_in_line b digit = by_case (b == 10) refl where
  by_case : (same : Bool) → (b == 10) ≡ same → not same ≡ true
  by_case true same = absurd (both_ways (is_ascii_digit b) (ap is_ascii_digit (eqb-true b 10 same)) digit)
  by_case false same = refl

all_append : (xs ys : List ℕ) → list_all is_in_line xs ≡ true → list_all is_in_line ys ≡ true → list_all is_in_line (xs ++ ys) ≡ true
all_append [] ys one two = two
all_append (x ∷ xs) ys one two =
    let parts = and_parts (is_in_line x) (list_all is_in_line xs) one in
    and_from (is_in_line x) (list_all is_in_line (xs ++ ys)) parts.0 (all_append xs ys parts.1 two)

digits_in_line : (xs : List ℕ) → list_all is_ascii_digit xs ≡ true → list_all is_in_line xs ≡ true
digits_in_line [] all = refl
digits_in_line (x ∷ xs) all =
    let parts = and_parts (is_ascii_digit x) (list_all is_ascii_digit xs) all in
    and_from (is_in_line x) (list_all is_in_line xs) (digit_in_line x parts.0) (digits_in_line xs parts.1)

number_in_line : (n : ℕ) → n < 2 ^ 32 → list_all is_in_line (behind_space n) ≡ true
number_in_line n small = digits_in_line (decimal n) (decimal_digits n small)

-- the text of a line, without its newline
pub record HasBody (line : Line) : Type 0 where
  pub body : List ℕ
  pub in_line : list_all is_in_line body ≡ true
  pub text : line_text line ≡ body ++ 10 ∷ []

pub line_body : (line : Line) → IsInRange line → HasBody line
line_body (Take l) small =
    record {
      body = codes "take" ++ (behind_space l.layout ++ (behind_space l.node ++ (behind_space l.number ++ (behind_space l.parent ++ behind_space l.slot))));
      in_line = all_append (behind_space l.layout) _ (number_in_line l.layout small.0)
          (all_append (behind_space l.node) _ (number_in_line l.node small.1)
          (all_append (behind_space l.number) _ (number_in_line l.number small.2)
          (all_append (behind_space l.parent) _ (number_in_line l.parent small.3) (number_in_line l.slot small.4))));
      text = simp append_assoc;
    }
line_body (Free layout node number) small =
    record {
      body = codes "free" ++ (behind_space layout ++ (behind_space node ++ behind_space number));
      in_line = all_append (behind_space layout) _ (number_in_line layout small.0)
          (all_append (behind_space node) _ (number_in_line node small.1) (number_in_line number small.2));
      text = simp append_assoc;
    }

-- the text of a line is the first one of the bytes that begin with it
pub line_first : (line : Line) (more : List ℕ) → IsInRange line → texts_of (line_text line ++ more) ≡ line_text line ∷ texts_of more
line_first line more small =
    let own = line_body line small in
    ap (λ (text : List ℕ). texts_of (text ++ more)) own.text ∙ ap texts_of (append_assoc own.body (10 ∷ []) more) ∙ texts_front own.body more own.in_line
    ∙ ap (λ (text : List ℕ). text ∷ texts_of more) (sym own.text)

pub end_first : (more : List ℕ) → texts_of (end_line ++ more) ≡ end_line ∷ texts_of more
end_first more = refl

-- ---- the first text, and what stands behind it

pub texts_none : (bytes : List ℕ) → texts_of bytes ≡ [] → bytes ≡ []
texts_none [] e = refl
texts_none (b ∷ bytes) e = absurd (by_case (b == 10) e) where
  some : (texts : List (List ℕ)) → before_first b texts ≡ [] → ⊥
  some [] e = absurd (cc)
  some (text ∷ later) e = absurd (cc)

  by_case : (same : Bool) → cond same ((b ∷ []) ∷ texts_of bytes) (before_first b (texts_of bytes)) ≡ [] → ⊥
  by_case true e = absurd (cc)
  by_case false e = some (texts_of bytes) e

-- bytes with these texts are the first of them and bytes with the rest
pub record IsCut (bytes text : List ℕ) (later : List (List ℕ)) : Type 0 where
  pub rest : List ℕ
  pub whole : bytes ≡ text ++ rest
  pub texts : texts_of rest ≡ later

pub texts_cut : (bytes text : List ℕ) (later : List (List ℕ)) → texts_of bytes ≡ text ∷ later → IsCut bytes text later
texts_cut [] text later e = absurd (cc)
texts_cut (b ∷ bytes) text later e = by_case (b == 10) e (texts_cut bytes) where
  on : (texts : List (List ℕ)) → texts_of bytes ≡ texts → before_first b texts ≡ text ∷ later → ((t : List ℕ) (l : List (List ℕ)) → texts_of bytes ≡ t ∷ l → IsCut bytes t l) → IsCut (b ∷ bytes) text later
  on [] none e behind =
      let one : b ∷ [] ≡ text = cc in
      let rest : [] ≡ later = cc in
      record { rest = []; whole = ap (λ (list : List ℕ). b ∷ list) (texts_none bytes none) ∙ ap (λ (list : List ℕ). list ++ []) one; texts = rest }
  on (first ∷ others) is e behind =
      let one : b ∷ first ≡ text = cc in
      let same : others ≡ later = cc in
      let cut = behind first others is in
      record { rest = cut.rest; whole = ap (λ (list : List ℕ). b ∷ list) cut.whole ∙ ap (λ (list : List ℕ). list ++ cut.rest) one; texts = cut.texts ∙ same }

  by_case : (same : Bool) → cond same ((b ∷ []) ∷ texts_of bytes) (before_first b (texts_of bytes)) ≡ text ∷ later → ((t : List ℕ) (l : List (List ℕ)) → texts_of bytes ≡ t ∷ l → IsCut bytes t l) → IsCut (b ∷ bytes) text later
  by_case true e behind =
      let one : b ∷ [] ≡ text = cc in
      let rest : texts_of bytes ≡ later = cc in
      record { rest = bytes; whole = ap (λ (list : List ℕ). list ++ bytes) one; texts = rest }
  by_case false e behind = on (texts_of bytes) refl e behind

-- ---- how the code cuts

cut_step : (b : ℕ) (bytes : List ℕ) → before_first b (texts_of bytes) ≡ (b ∷ take (end_of bytes) bytes) ∷ texts_of (drop (end_of bytes) bytes)
    → texts_of (b ∷ bytes) ≡ take (end_of (b ∷ bytes)) (b ∷ bytes) ∷ texts_of (drop (end_of (b ∷ bytes)) (b ∷ bytes))
cut_step b bytes on = by_case (b == 10) refl where
  Goal : ℕ → Type 0
  Goal n = texts_of (b ∷ bytes) ≡ take n (b ∷ bytes) ∷ texts_of (drop n (b ∷ bytes))

  by_case : (same : Bool) → (b == 10) ≡ same → Goal (end_of (b ∷ bytes))
  by_case true same =
      let front : prefix_len is_in_line (b ∷ bytes) ≡ 0 = cond-false (is_in_line b) (1 + prefix_len is_in_line bytes) 0 (ap not same) in
      let one : 1 ≡ end_of (b ∷ bytes) = omega (arith, front) in
      subst Goal one (cond-true (b == 10) ((b ∷ []) ∷ texts_of bytes) (before_first b (texts_of bytes)) same)
  by_case false same =
      let front : prefix_len is_in_line (b ∷ bytes) ≡ 1 + prefix_len is_in_line bytes = cond-true (is_in_line b) (1 + prefix_len is_in_line bytes) 0 (ap not same) in
      let more : suc (end_of bytes) ≡ end_of (b ∷ bytes) = omega (arith, front) in
      subst Goal more (cond-false (b == 10) ((b ∷ []) ∷ texts_of bytes) (before_first b (texts_of bytes)) same ∙ on)

cut_is_first : (b : ℕ) (bytes : List ℕ) → texts_of (b ∷ bytes) ≡ take (end_of (b ∷ bytes)) (b ∷ bytes) ∷ texts_of (drop (end_of (b ∷ bytes)) (b ∷ bytes))
cut_is_first b [] = cut_step b [] refl
cut_is_first b (c ∷ rest) = cut_step b (c ∷ rest) (ap (before_first b) (cut_is_first c rest))

-- bytes that are cut there are the first text and the rest
pub cuts_first : (bytes front back : List ℕ) (end : ℕ) → (length bytes == 0) ≡ false → end ≡ end_of bytes → front ≡ take end bytes → back ≡ drop end bytes → bytes ≡ front ++ back → length front ≡ end
    → (texts_of bytes ≡ front ∷ texts_of back) × (bytes ≡ front ++ back) × (1 ≤ length front)
cuts_first [] front back end some is front_is back_is whole long = absurd (both_ways true some refl)
cuts_first (b ∷ bytes) front back end some is front_is back_is whole long = (
  cut_is_first b bytes
      ∙ ap (λ (t : List ℕ). t ∷ texts_of (drop (end_of (b ∷ bytes)) (b ∷ bytes))) (sym (front_is ∙ ap (λ n. take n (b ∷ bytes)) is))
      ∙ ap (λ (t : List ℕ). front ∷ texts_of t) (sym (back_is ∙ ap (λ n. drop n (b ∷ bytes)) is)),
  whole,
  omega (arith, long, is),
)
