-- Runs and the tokens that they are, both ways.
use Rattle.std.proofs.Common.{◌≡◌, ◌≢◌, ◌⊎◌, ℕ, ◌+◌, ◌-◌, ◌*◌, ◌^◌, ◌<◌, ◌≤◌, ◌==◌, Bool, true, false, not, ◌&&◌, ◌||◌, nat_eq, nat_lt, nat_le, List, [], ◌∷◌, ◌++◌, length, slice_index, get_or, take, Option, Some, None, Result, Ok, Err, codes, decimal, fold, refl, sym, ap, ◌∙◌, subst, inl, inr, arith, rules, append-nil}
use Rattle.std.specs.Char.{is_ascii_digit}
use Rattle.std.specs.List.{ends_with, list_all}
use Rattle.std.proofs.lemmas.Bool.{and_parts, and_from, or_left, or_right, or_cases, not-true, not_from_false, both_ways, false_from_ne_true, ltb-true, ltb-false, leb-true, lt-ltb, le-ltb, le-leb, eqb-true, eqb-false, eq-eqb, ne_eqb, cond-true, cond-false, cases_Bool, false≢true}
use Rattle.std.proofs.lemmas.Bool.Decides.{nat_tests, Decides-eqb}
use Rattle.std.proofs.lemmas.Fmt.{decimal-digits_value, digits_decimal, digits_value-decimal, decimal_nonempty, first_decimal, decimal_digit}
use Rattle.std.proofs.lemmas.Str.Parse.{IsNumeralModel, numerals_by_fold}
use Rattle.std.proofs.lemmas.Slice.Eq.{ends_is}
use Rattle.std.proofs.lemmas.List.{get_or_append_left, length-append, take_at}
use Rattle.std.proofs.lemmas.List.Folds.{list_all-append}
use Rattle.std.proofs.lemmas.List.Sums.{AllPass-from_list_all, list_all-from_AllPass}
use Rattle.sg_ast.specs.declared.token.Word.{Word}
use Rattle.sg_ast.specs.declared.token.Sign.{Sign}
use Rattle.sg_ast.specs.declared.token.Token.{Token}
use Rattle.sg_ast.specs.declared.token.Token.TheVariants as token
use Rattle.sg_ast.specs.Token.{begins_name, is_name_form, is_reserved, is_name, is_token}
use Rattle.sg_lexer.specs.declared.fault.LexFault.{LexFault}
use Rattle.sg_lexer.specs.declared.fault.LexFault.TheVariants as fault
use Rattle.sg_lexer.specs.Alphabet.{is_inner, word_text, reserved_word, sign_text, suffix, text_of}
use Rattle.sg_lexer.specs.Lexing.{word_or_name, name_token, decimal_value, is_decimal, number_as, number_token, run_token}
use Rattle.sg_lexer.proofs.Tables.{chosen, for_word, word_again, word_found, no_word_found, not_reserved, no_reserved_word, sign_outer}
use Rattle.sg_ast.specs.Limits.{max_number}

-- what an element of a list that passes does
pub all_at : (p : ℕ → Bool) (xs : List ℕ) (i : ℕ) → list_all p xs ≡ true → i < length xs → p (get_or xs i 0) ≡ true
all_at p xs i e within = AllPass-from_list_all p xs e i 0 within

pub digit_inner : (b : ℕ) → is_ascii_digit b ≡ true → is_inner b ≡ true
digit_inner b e = grind (arith, nat_tests)

digits_inner : (ds : List ℕ) → list_all is_ascii_digit ds ≡ true → list_all is_inner ds ≡ true
digits_inner ds e = list_all-from_AllPass is_inner ds (λ k d h. digit_inner (get_or ds k d) (AllPass-from_list_all is_ascii_digit ds e k d h))

-- ---- numbers

own : IsNumeralModel (λ ds. list_all is_ascii_digit ds ≡ true) decimal_value
own = numerals_by_fold _ (search rules) (λ n ds. fold (λ v d. 10 * v + (d - 48)) n ds) (search rules)

limit_small : (unsigned : Bool) → max_number unsigned < 2 ^ 64
limit_small true = omega arith
limit_small false = omega arith

number_as_found : (line : ℕ) (unsigned : Bool) (ds : List ℕ) (t : Token) → number_as line unsigned ds ≡ Ok t → (token.Number (decimal_value ds) unsigned ≡ t) × (decimal_value ds ≤ max_number unsigned) × (decimal (decimal_value ds) ≡ ds)
unfolding number_as
number_as_found line unsigned ds t e =
    elim (chosen {A = Result Token LexFault} (is_decimal ds && nat_le (decimal_value ds) (max_number unsigned)) (Ok (token.Number (decimal_value ds) unsigned)) (Err (fault.BadNumber line)) (Ok t) e) [
      | inl h ↦ (
          let both = and_parts (is_decimal ds) (nat_le (decimal_value ds) (max_number unsigned)) h.0 in
          let below : decimal_value ds ≤ max_number unsigned = leb-true (decimal_value ds) (max_number unsigned) both.1 in
          let parts = and_parts (nat_lt 0 (length ds) && list_all is_ascii_digit ds) (length ds == 1 || not (slice_index ds 0 == 48)) both.0 in
          let front = and_parts (nat_lt 0 (length ds)) (list_all is_ascii_digit ds) parts.0 in
          let alone : get_or ds 0 0 ≡ 48 → length ds ≡ 1 = λ zero. elim (or_cases (length ds == 1) (not (slice_index ds 0 == 48)) parts.1) [ inl one ↦ eqb-true (length ds) 1 one | inr no_zero ↦ absurd (eqb-false (slice_index ds 0) 48 (not-true (slice_index ds 0 == 48) no_zero) zero) ] in
          let small : decimal_value ds < 2 ^ 64 = omega (arith, limit_small unsigned) in
          (cc, below, decimal-digits_value own ds front.1 (ltb-true 0 (length ds) front.0) alone small))
      | inr h ↦ cc
    ]

number_as_is : (line : ℕ) (unsigned : Bool) (ds : List ℕ) → is_decimal ds ≡ true → decimal_value ds ≤ max_number unsigned → number_as line unsigned ds ≡ Ok (token.Number (decimal_value ds) unsigned)
unfolding number_as
number_as_is line unsigned ds good below = cond-true _ _ _ (and_from (is_decimal ds) (nat_le (decimal_value ds) (max_number unsigned)) good (le-leb (decimal_value ds) (max_number unsigned) below))

number_as_fault : (line : ℕ) (unsigned : Bool) (ds : List ℕ) (f : LexFault) → number_as line unsigned ds ≡ Err f → fault.BadNumber line ≡ f
unfolding number_as
number_as_fault line unsigned ds f e =
    elim (chosen {A = Result Token LexFault} (is_decimal ds && nat_le (decimal_value ds) (max_number unsigned)) (Ok (token.Number (decimal_value ds) unsigned)) (Err (fault.BadNumber line)) (Err f) e) [ inl h ↦ cc | inr h ↦ cc ]

number_found : (line : ℕ) (run : List ℕ) (t : Token) → number_token line run ≡ Ok t → (run ≡ text_of t) × (is_token t ≡ true)
unfolding number_token
number_found line run t e =
    elim (chosen {A = Result Token LexFault} (ends_with nat_eq run (codes "u")) (number_as line true (take (length run - 1) run)) (number_as line false run) (Ok t) e) [
      | inl h ↦ (
          let found = number_as_found line true (take (length run - 1) run) t h.1 in
          let split : run ≡ take (length run - 1) run ++ codes "u" = (ends_is Decides-eqb run (codes "u") (ends_with nat_eq run (codes "u")) refl).0 h.0 in
          let text : run ≡ text_of (token.Number (decimal_value (take (length run - 1) run)) true) = split ∙ ap (λ (ds : List ℕ). ds ++ codes "u") (sym found.2) in
          (text ∙ ap text_of found.0, let P : Token → Type 0 = λ u. is_token u ≡ true in subst P found.0 (le-leb (decimal_value (take (length run - 1) run)) (max_number true) found.1)))
      | inr h ↦ (
          let found = number_as_found line false run t h.1 in
          let text : run ≡ text_of (token.Number (decimal_value run) false) = sym found.2 ∙ sym (append-nil (decimal (decimal_value run))) in
          (text ∙ ap text_of found.0, let P : Token → Type 0 = λ u. is_token u ≡ true in subst P found.0 (le-leb (decimal_value run) (max_number false) found.1)))
    ]

number_fault : (line : ℕ) (run : List ℕ) (f : LexFault) → number_token line run ≡ Err f → fault.BadNumber line ≡ f
unfolding number_token
number_fault line run f e =
    elim (chosen {A = Result Token LexFault} (ends_with nat_eq run (codes "u")) (number_as line true (take (length run - 1) run)) (number_as line false run) (Err f) e) [
      | inl h ↦ number_as_fault line true (take (length run - 1) run) f h.1
      | inr h ↦ number_as_fault line false run f h.1
    ]

is_decimal-decimal : (v : ℕ) → v < 2 ^ 64 → is_decimal (decimal v) ≡ true
is_decimal-decimal v small =
    let first : (length (decimal v) == 1 || not (slice_index (decimal v) 0 == 48)) ≡ true =
    elim (cases_Bool (nat_lt 0 v)) [
      | inl some ↦ or_right (length (decimal v) == 1) (not (slice_index (decimal v) 0 == 48)) (not_from_false (slice_index (decimal v) 0 == 48) (ne_eqb (slice_index (decimal v) 0) 48 (λ e. omega (arith, first_decimal v (ltb-true 0 v some) small))))
      | inr none ↦ (
          let zero : v ≡ 0 = omega (arith, ltb-false 0 v none) in
          let digit : decimal v ≡ (48 + v) ∷ [] = decimal_digit v (omega arith) in
          or_left (length (decimal v) == 1) (not (slice_index (decimal v) 0 == 48)) (eq-eqb (length (decimal v)) 1 (ap length digit)))
    ] in
    and_from (nat_lt 0 (length (decimal v)) && list_all is_ascii_digit (decimal v)) (length (decimal v) == 1 || not (slice_index (decimal v) 0 == 48)) (and_from (nat_lt 0 (length (decimal v))) (list_all is_ascii_digit (decimal v)) (lt-ltb 0 (length (decimal v)) (decimal_nonempty v small)) (digits_decimal own v small)) first

-- the digits of a number that is within its limit
number_as_again : (line v : ℕ) (unsigned : Bool) → v ≤ max_number unsigned → number_as line unsigned (decimal v) ≡ Ok (token.Number v unsigned)
number_as_again line v unsigned below =
    let small : v < 2 ^ 64 = omega (arith, limit_small unsigned) in
    let value : decimal_value (decimal v) ≡ v = digits_value-decimal own v small in
    number_as_is line unsigned (decimal v) (is_decimal-decimal v small) (omega arith) ∙ ap (λ (k : ℕ). let out : Result Token LexFault = Ok (token.Number k unsigned) in out) value

-- digits do not end in `u`
ends_in_digit : (ds : List ℕ) → list_all is_ascii_digit ds ≡ true → ends_with nat_eq ds (codes "u") ≡ false
ends_in_digit ds digits =
    false_from_ne_true (ends_with nat_eq ds (codes "u")) (λ ends.
    let front : List ℕ = take (length ds - 1) ds in
    let split : ds ≡ front ++ codes "u" = (ends_is Decides-eqb ds (codes "u") (ends_with nat_eq ds (codes "u")) refl).0 ends in
    let all : list_all is_ascii_digit (front ++ codes "u") ≡ true = ap (list_all is_ascii_digit) (sym split) ∙ digits in
    let last : list_all is_ascii_digit (codes "u") ≡ true = (and_parts (list_all is_ascii_digit front) (list_all is_ascii_digit (codes "u")) (sym (list_all-append is_ascii_digit front (codes "u")) ∙ all)).1 in
    false≢true last)

number_again : (line v : ℕ) (unsigned : Bool) → v ≤ max_number unsigned → number_token line (decimal v ++ suffix unsigned) ≡ Ok (token.Number v unsigned)
unfolding number_token
number_again line v true below =
    let run : List ℕ = decimal v ++ codes "u" in
    let ends : ends_with nat_eq run (codes "u") ≡ true = (ends_is Decides-eqb run (codes "u") (ends_with nat_eq run (codes "u")) refl).1 (decimal v) refl in
    let long : length (decimal v) ≡ length run - 1 = omega (arith, length-append (decimal v) (codes "u")) in
    let front : take (length run - 1) run ≡ decimal v = take_at (decimal v) (codes "u") (length run - 1) long in
    cond-true _ _ _ ends ∙ ap (number_as line true) front ∙ number_as_again line v true below
number_again line v false below =
    let small : v < 2 ^ 64 = omega (arith, limit_small false) in
    let same : decimal v ++ [] ≡ decimal v = append-nil (decimal v) in
    let ends : ends_with nat_eq (decimal v ++ []) (codes "u") ≡ false = ap (λ (ds : List ℕ). ends_with nat_eq ds (codes "u")) same ∙ ends_in_digit (decimal v) (digits_decimal own v small) in
    cond-false _ _ _ ends ∙ ap (number_as line false) same ∙ number_as_again line v false below

-- ---- names and words

name_is : (line : ℕ) (run : List ℕ) → length run ≤ 32 → name_token line run ≡ Ok (word_or_name run (reserved_word run))
unfolding name_token
name_is line run short = cond-false _ _ _ (le-ltb 32 (length run) short)

name_found : (line : ℕ) (run : List ℕ) (t : Token) → name_token line run ≡ Ok t → (length run ≤ 32) × (word_or_name run (reserved_word run) ≡ t)
unfolding name_token
name_found line run t e =
    elim (chosen {A = Result Token LexFault} (nat_lt 32 (length run)) (Err (fault.LongName line)) (Ok (word_or_name run (reserved_word run))) (Ok t) e) [ inl h ↦ cc | inr h ↦ (ltb-false 32 (length run) h.0, cc) ]

name_fault : (line : ℕ) (run : List ℕ) (f : LexFault) → name_token line run ≡ Err f → (32 < length run) × (fault.LongName line ≡ f)
unfolding name_token
name_fault line run f e =
    elim (chosen {A = Result Token LexFault} (nat_lt 32 (length run)) (Err (fault.LongName line)) (Ok (word_or_name run (reserved_word run))) (Err f) e) [ inl h ↦ (ltb-true 32 (length run) h.0, cc) | inr h ↦ cc ]

word_none : (text : List ℕ) → ((w : Word) → word_text w ≢ text) → reserved_word text ≡ None
word_none text other = (elim (reserved_word text) as (λ o. reserved_word text ≡ o → o ≡ None) [ None ↦ λ e. refl | Some w ↦ λ e. absurd (other w (word_found text w e)) ]) refl

-- the text of a name: a run of at most 32 bytes that begins with no digit and is no reserved word
record IsName (text : List ℕ) : Type 0 where
  some : 0 < length text
  short : length text ≤ 32
  inner : list_all is_inner text ≡ true
  no_digit : is_ascii_digit (slice_index text 0) ≡ false
  no_word : (w : Word) → word_text w ≢ text

begins_inner : (b : ℕ) → begins_name b ≡ true → is_inner b ≡ true
begins_inner b e = grind (arith, nat_tests)

begins_no_digit : (b : ℕ) → begins_name b ≡ true → is_ascii_digit b ≡ false
begins_no_digit b e = grind (arith, nat_tests)

inner_begins : (b : ℕ) → is_inner b ≡ true → is_ascii_digit b ≡ false → begins_name b ≡ true
inner_begins b e no_digit = grind (arith, nat_tests)

goes_on_inner : (b : ℕ) → (begins_name b || is_ascii_digit b) ≡ true → is_inner b ≡ true
goes_on_inner b e = grind (arith, nat_tests)

inner_goes_on : (b : ℕ) → is_inner b ≡ true → (begins_name b || is_ascii_digit b) ≡ true
inner_goes_on b e = grind (arith, nat_tests)

-- a test that follows from another, over a list
all_alike : (p q : ℕ → Bool) → ((b : ℕ) → p b ≡ true → q b ≡ true) → (text : List ℕ) → list_all p text ≡ true → list_all q text ≡ true
all_alike p q alike text e = list_all-from_AllPass q text (λ k d h. alike (get_or text k d) (AllPass-from_list_all p text e k d h))

name_parts : (text : List ℕ) → is_name (record { text = text }) ≡ true → IsName text
unfolding is_name
name_parts [] e = absurd (false≢true e)
name_parts (c ∷ cs) e =
    let both = and_parts (is_name_form (c ∷ cs)) (nat_le (length (c ∷ cs)) 32 && not (is_reserved (c ∷ cs))) e in
    let form = and_parts (begins_name c) (list_all (λ d. begins_name d || is_ascii_digit d) cs) both.0 in
    let limits = and_parts (nat_le (length (c ∷ cs)) 32) (not (is_reserved (c ∷ cs))) both.1 in
    record {
      some = omega arith;
      short = leb-true (length (c ∷ cs)) 32 limits.0;
      inner = and_from (is_inner c) (list_all is_inner cs) (begins_inner c form.0) (all_alike (λ d. begins_name d || is_ascii_digit d) is_inner goes_on_inner cs form.1);
      no_digit = begins_no_digit c form.0;
      no_word = no_reserved_word (c ∷ cs) (not-true (is_reserved (c ∷ cs)) limits.1);
    }

name_from : (text : List ℕ) → IsName text → is_name (record { text = text }) ≡ true
unfolding is_name
name_from [] h = absurd (let some : 0 < 0 = h.some in omega arith)
name_from (c ∷ cs) h =
    let inner = and_parts (is_inner c) (list_all is_inner cs) h.inner in
    and_from (is_name_form (c ∷ cs)) (nat_le (length (c ∷ cs)) 32 && not (is_reserved (c ∷ cs)))
    (and_from (begins_name c) (list_all (λ d. begins_name d || is_ascii_digit d) cs) (inner_begins c inner.0 h.no_digit) (all_alike is_inner (λ d. begins_name d || is_ascii_digit d) inner_goes_on cs inner.1))
    (and_from (nat_le (length (c ∷ cs)) 32) (not (is_reserved (c ∷ cs))) (le-leb (length (c ∷ cs)) 32 h.short) (not_from_false (is_reserved (c ∷ cs)) (not_reserved (c ∷ cs) h.no_word)))

-- a reserved word or a name
spelled : (run : List ℕ) (o : Option Word) → reserved_word run ≡ o → length run ≤ 32 → list_all is_inner run ≡ true → is_ascii_digit (slice_index run 0) ≡ false → 0 < length run → (run ≡ text_of (word_or_name run o)) × (is_token (word_or_name run o) ≡ true)
spelled run None e short inner first some = (refl, name_from run (record { some = some; short = short; inner = inner; no_digit = first; no_word = no_word_found run e }))
spelled run (Some w) e short inner first some = (sym (word_found run w e), refl)

-- ---- runs

run_number : (line : ℕ) (run : List ℕ) → is_ascii_digit (slice_index run 0) ≡ true → run_token line run ≡ number_token line run
unfolding run_token
run_number line run first = cond-true _ _ _ first

run_name : (line : ℕ) (run : List ℕ) → is_ascii_digit (slice_index run 0) ≡ false → run_token line run ≡ name_token line run
unfolding run_token
run_name line run first = cond-false _ _ _ first

-- the token of a run has its text, and can be spelled
pub run_found : (line : ℕ) (run : List ℕ) (t : Token) → run_token line run ≡ Ok t → list_all is_inner run ≡ true → 0 < length run → (run ≡ text_of t) × (is_token t ≡ true)
run_found line run t e inner some =
    elim (cases_Bool (is_ascii_digit (slice_index run 0))) [
      | inl first ↦ number_found line run t (sym (run_number line run first) ∙ e)
      | inr first ↦ (
          let found = name_found line run t (sym (run_name line run first) ∙ e) in
          let P : Token → Type 0 = λ u. (run ≡ text_of u) × (is_token u ≡ true) in
          subst P found.1 (spelled run (reserved_word run) refl found.0 inner first some))
    ]

-- what is known of a token that is a run
pub record IsRun (t : Token) : Type 0 where
  pub some : 0 < length (text_of t)
  pub inner : list_all is_inner (text_of t) ≡ true
  pub again : (line : ℕ) → run_token line (text_of t) ≡ Ok t

word_run : (w : Word) → IsRun (token.Word w)
word_run w =
    let some : 0 < length (word_text w) = ltb-true 0 (length (word_text w)) (for_word (λ v. nat_lt 0 (length (word_text v))) refl w) in
    let short : length (word_text w) ≤ 32 = leb-true (length (word_text w)) 32 (for_word (λ v. nat_le (length (word_text v)) 32) refl w) in
    let first : is_ascii_digit (slice_index (word_text w) 0) ≡ false = not-true (is_ascii_digit (slice_index (word_text w) 0)) (for_word (λ v. not (is_ascii_digit (slice_index (word_text v) 0))) refl w) in
    record {
      some = some;
      inner = for_word (λ v. list_all is_inner (word_text v)) refl w;
      again = λ line. run_name line (word_text w) first ∙ name_is line (word_text w) short ∙ ap (λ (o : Option Word). let out : Result Token LexFault = Ok (word_or_name (word_text w) o) in out) (word_again w);
    }

name_run : (text : List ℕ) → IsName text → IsRun (token.Name (record { text = text }))
name_run text h = record {
  some = h.some;
  inner = h.inner;
  again = λ line. run_name line text h.no_digit ∙ name_is line text h.short ∙ ap (λ (o : Option Word). let out : Result Token LexFault = Ok (word_or_name text o) in out) (word_none text h.no_word);
}

suffix_inner : (unsigned : Bool) → list_all is_inner (suffix unsigned) ≡ true
suffix_inner true = refl
suffix_inner false = refl

number_run : (v : ℕ) (unsigned : Bool) → v ≤ max_number unsigned → IsRun (token.Number v unsigned)
number_run v unsigned below =
    let small : v < 2 ^ 64 = omega (arith, limit_small unsigned) in
    let digits : list_all is_ascii_digit (decimal v) ≡ true = digits_decimal own v small in
    let some : 0 < length (decimal v) = decimal_nonempty v small in
    let first : is_ascii_digit (slice_index (decimal v ++ suffix unsigned) 0) ≡ true = ap is_ascii_digit (get_or_append_left (decimal v) (suffix unsigned) 0 0 some) ∙ all_at is_ascii_digit (decimal v) 0 digits some in
    record {
      some = omega (arith, length-append (decimal v) (suffix unsigned));
      inner = list_all-append is_inner (decimal v) (suffix unsigned) ∙ and_from (list_all is_inner (decimal v)) (list_all is_inner (suffix unsigned)) (digits_inner (decimal v) digits) (suffix_inner unsigned);
      again = λ line. run_number line (decimal v ++ suffix unsigned) first ∙ number_again line v unsigned below;
    }

-- a token is a run or a sign
pub run_or_sign : (t : Token) → is_token t ≡ true → IsRun t ⊎ ((s : Sign) × (token.Sign s ≡ t))
run_or_sign (token.Name n) h = inl (name_run n.text (name_parts n.text h))
run_or_sign (token.Word w) h = inl (word_run w)
run_or_sign (token.Number v unsigned) h = inl (number_run v unsigned (leb-true v (max_number unsigned) h))
run_or_sign (token.Sign s) h = inr (s, refl)

-- the faults of a run: a number that no token spells, or a long name
pub run_fault : (line : ℕ) (run : List ℕ) (f : LexFault) → run_token line run ≡ Err f → is_inner (slice_index run 0) ≡ true →
    ((is_ascii_digit (slice_index run 0) ≡ true) × (fault.BadNumber line ≡ f) × ((t : Token) → is_token t ≡ true → text_of t ≢ run)) ⊎ ((is_ascii_digit (slice_index run 0) ≡ false) × (fault.LongName line ≡ f) × (32 < length run))
run_fault line run f e inner =
    elim (cases_Bool (is_ascii_digit (slice_index run 0))) [
      | inl first ↦ inl (
        first,
        number_fault line run f (sym (run_number line run first) ∙ e),
        λ t good same.
            elim (run_or_sign t good) [
              | inl r ↦ (let spelt : run_token line run ≡ Ok t = ap (run_token line) (sym same) ∙ r.again line in cc)
              | inr s ↦ both_ways (is_inner (slice_index run 0)) (ap (λ (text : List ℕ). is_inner (slice_index text 0)) (sym same ∙ ap text_of (sym s.1)) ∙ not-true (is_inner (slice_index (sign_text s.0) 0)) (sign_outer s.0)) inner
            ],
      )
      | inr first ↦ (let long = name_fault line run f (sym (run_name line run first) ∙ e) in inr (first, long.1, long.0))
    ]

-- the faults from what is known of a run
pub run_long : (line : ℕ) (run : List ℕ) → is_ascii_digit (slice_index run 0) ≡ false → 32 < length run → run_token line run ≡ Err (fault.LongName line)
unfolding name_token
run_long line run first long = run_name line run first ∙ cond-true _ _ _ (lt-ltb 32 (length run) long)

pub run_bad : (line : ℕ) (run : List ℕ) → list_all is_inner run ≡ true → 0 < length run → is_ascii_digit (slice_index run 0) ≡ true → ((t : Token) → is_token t ≡ true → text_of t ≢ run) → run_token line run ≡ Err (fault.BadNumber line)
run_bad line run inner some first other =
    (elim (run_token line run) as (λ r. run_token line run ≡ r → r ≡ Err (fault.BadNumber line)) [
      | Ok t ↦ λ e. (let found = run_found line run t e inner some in absurd (other t found.1 (sym found.0)))
      | Err g ↦ λ e. elim (run_fault line run g e (all_at is_inner run 0 inner some)) [
        | inl h ↦ ap (λ (f : LexFault). let out : Result Token LexFault = Err f in out) (sym h.1)
        | inr h ↦ absurd (both_ways (is_ascii_digit (slice_index run 0)) h.0 first)
      ]
    ]) refl
