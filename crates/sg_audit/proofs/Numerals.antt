-- A text, a numeral and a number at the front: each stage finds what was written, and only that.
use Rattle.std.proofs.Common.{◌≡◌, ℕ, ◌+◌, ◌-◌, ◌*◌, ◌^◌, ◌<◌, ◌==◌, true, false, not, ◌&&◌, ◌||◌, nat_eq, nat_lt, List, [], ◌∷◌, ◌++◌, length, take, drop, get_or, slice_index, take_while, Option, Some, codes, decimal, fold, refl, sym, ap, ◌∙◌, inl, inr, arith, rules}
use Rattle.std.specs.Char.{is_ascii_digit}
use Rattle.std.specs.List.{starts_with, list_all, prefix_len}
use Rattle.std.proofs.lemmas.Bool.{and_parts, and_from, or_left, or_right, or_cases, not-true, not_from_false, ltb-true, ltb-false, lt-ltb, eqb-true, eqb-false, eq-eqb, ne_eqb, cond-true, cases_Bool}
use Rattle.std.proofs.lemmas.Bool.Decides.{Decides-eqb}
use Rattle.std.proofs.lemmas.Fmt.{decimal-digits_value, digits_decimal, digits_value-decimal, decimal_nonempty, first_decimal, decimal_digit}
use Rattle.std.proofs.lemmas.Option.{cond_some, option_and_then_some, some_pair_parts}
use Rattle.std.proofs.lemmas.Str.Parse.{IsNumeralModel, numerals_by_fold}
use Rattle.std.proofs.lemmas.Slice.Eq.{starts_is}
use Rattle.std.proofs.lemmas.List.{get_or_append_left, get_or-append-add, get_or-take, length-append, take_at, drop_at, take-append-drop}
use Rattle.std.proofs.lemmas.List.Folds.{length-prefix_len}
use Rattle.std.proofs.lemmas.List.Sums.{prefix_len_passes, prefix_len_is, list_all-from_AllPass, AllPass-from_list_all}
use Rattle.sg_words.specs.Options.{◌>>=◌, only_if}
use Rattle.sg_journal.specs.Lines.{behind_space}
use Rattle.sg_audit.specs.Reading.{rest_after, number_of_digits, is_numeral, numeral_at, number_at}

-- ---- a text

pub rest_after_found : (text bytes rest : List ℕ) → rest_after text bytes ≡ Some rest → bytes ≡ text ++ rest
unfolding rest_after
rest_after_found text bytes rest e =
    let found = cond_some (starts_with nat_eq bytes text) (drop (length text) bytes) rest e in
    (starts_is Decides-eqb bytes text (starts_with nat_eq bytes text) refl).0 found.0 ∙ ap (λ (list : List ℕ). text ++ list) found.1

pub rest_after_written : (text rest : List ℕ) → rest_after text (text ++ rest) ≡ Some rest
unfolding rest_after
rest_after_written text rest =
    let starts : starts_with nat_eq (text ++ rest) text ≡ true = (starts_is Decides-eqb (text ++ rest) text (starts_with nat_eq (text ++ rest) text) refl).1 rest refl in
    cond-true _ _ _ starts ∙ ap (λ (list : List ℕ). let out : Option (List ℕ) = Some list in out) (drop_at text rest (length text) refl)

-- ---- digits

own : IsNumeralModel (λ ds. list_all is_ascii_digit ds ≡ true) number_of_digits
own = numerals_by_fold _ (search rules) (λ n ds. fold (λ v d. 10 * v + (d - 48)) n ds) (search rules)

front_digits : (bytes : List ℕ) → list_all is_ascii_digit (take_while is_ascii_digit bytes) ≡ true
front_digits bytes =
    let n = prefix_len is_ascii_digit bytes in
    list_all-from_AllPass is_ascii_digit (take n bytes) (λ k d h.
    let below : k < n = omega (arith, length-prefix_len is_ascii_digit bytes) in
    ap is_ascii_digit (get_or-take n bytes k d below) ∙ prefix_len_passes is_ascii_digit bytes k d below)

-- what begins with no digit ends the digits before it
digits_before : (digits rest : List ℕ) → list_all is_ascii_digit digits ≡ true → is_ascii_digit (get_or rest 0 0) ≡ false → take_while is_ascii_digit (digits ++ rest) ≡ digits
digits_before digits rest all ends =
    let long : prefix_len is_ascii_digit (digits ++ rest) ≡ length digits =
    prefix_len_is is_ascii_digit (digits ++ rest) (length digits) 0 (omega (arith, length-append digits rest))
    (λ k h. ap is_ascii_digit (get_or_append_left digits rest 0 k h) ∙ AllPass-from_list_all is_ascii_digit digits all k 0 h)
    (λ _. let here : length digits ≡ length digits + 0 = omega arith in
    ap (λ (k : ℕ). is_ascii_digit (get_or (digits ++ rest) k 0)) here ∙ ap is_ascii_digit (get_or-append-add digits rest 0 0) ∙ ends) in
    ap (λ (k : ℕ). take k (digits ++ rest)) long ∙ take_at digits rest (length digits) refl

is_numeral-decimal : (v : ℕ) → v < 2 ^ 32 → is_numeral (decimal v) ≡ true
is_numeral-decimal v below =
    let small : v < 2 ^ 64 = omega arith in
    let first : (length (decimal v) == 1 || not (slice_index (decimal v) 0 == 48)) ≡ true =
    elim (cases_Bool (nat_lt 0 v)) [
      | inl some ↦ or_right (length (decimal v) == 1) (not (slice_index (decimal v) 0 == 48)) (not_from_false (slice_index (decimal v) 0 == 48) (ne_eqb (slice_index (decimal v) 0) 48 (λ e. omega (arith, first_decimal v (ltb-true 0 v some) small))))
      | inr none ↦ (
          let zero : v ≡ 0 = omega (arith, ltb-false 0 v none) in
          let digit : decimal v ≡ (48 + v) ∷ [] = decimal_digit v (omega arith) in
          or_left (length (decimal v) == 1) (not (slice_index (decimal v) 0 == 48)) (eq-eqb (length (decimal v)) 1 (ap length digit)))
    ] in
    let value : number_of_digits (decimal v) ≡ v = digits_value-decimal own v small in
    and_from (nat_lt 0 (length (decimal v))) _ (lt-ltb 0 (length (decimal v)) (decimal_nonempty v small))
    (and_from (length (decimal v) == 1 || not (slice_index (decimal v) 0 == 48)) (nat_lt (number_of_digits (decimal v)) (2 ^ 32)) first
    (lt-ltb (number_of_digits (decimal v)) (2 ^ 32) (omega (arith, value, below))))

numeral_is : (digits : List ℕ) → list_all is_ascii_digit digits ≡ true → is_numeral digits ≡ true → (decimal (number_of_digits digits) ≡ digits) × (number_of_digits digits < 2 ^ 32)
numeral_is digits all good =
    let parts = and_parts (nat_lt 0 (length digits)) ((length digits == 1 || not (slice_index digits 0 == 48)) && nat_lt (number_of_digits digits) (2 ^ 32)) good in
    let more = and_parts (length digits == 1 || not (slice_index digits 0 == 48)) (nat_lt (number_of_digits digits) (2 ^ 32)) parts.1 in
    let small : number_of_digits digits < 2 ^ 32 = ltb-true (number_of_digits digits) (2 ^ 32) more.1 in
    let alone : get_or digits 0 0 ≡ 48 → length digits ≡ 1 = λ zero. elim (or_cases (length digits == 1) (not (slice_index digits 0 == 48)) more.0) [ inl one ↦ eqb-true (length digits) 1 one | inr no_zero ↦ absurd (eqb-false (slice_index digits 0) 48 (not-true (slice_index digits 0 == 48) no_zero) zero) ] in
    (decimal-digits_value own digits all (ltb-true 0 (length digits) parts.0) alone (omega (arith, small)), small)

-- ---- a numeral

numeral_found : (bytes : List ℕ) (n : ℕ) (rest : List ℕ) → numeral_at bytes ≡ Some (n, rest) → (bytes ≡ decimal n ++ rest) × (n < 2 ^ 32)
unfolding numeral_at
numeral_found bytes n rest e =
    let digits : List ℕ = take_while is_ascii_digit bytes in
    let found = cond_some (is_numeral digits) (number_of_digits digits, drop (length digits) bytes) (n, rest) e in
    let parts = some_pair_parts (number_of_digits digits) n (drop (length digits) bytes) rest (ap (λ (p : ℕ × List ℕ). let out : Option (ℕ × List ℕ) = Some p in out) found.1) in
    let is = numeral_is digits (front_digits bytes) found.0 in
    let text : decimal n ≡ digits = ap decimal (sym parts.0) ∙ is.0 in
    let long : length digits ≡ prefix_len is_ascii_digit bytes = length-prefix_len is_ascii_digit bytes in (
      sym (take-append-drop (prefix_len is_ascii_digit bytes) bytes)
          ∙ ap (λ (list : List ℕ). list ++ drop (prefix_len is_ascii_digit bytes) bytes) (sym text)
          ∙ ap (λ (list : List ℕ). decimal n ++ list) (ap (λ (k : ℕ). drop k bytes) (sym long) ∙ parts.1),
      omega (arith, is.1, parts.0),
    )

numeral_written : (n : ℕ) (rest : List ℕ) → n < 2 ^ 32 → is_ascii_digit (get_or rest 0 0) ≡ false → numeral_at (decimal n ++ rest) ≡ Some (n, rest)
unfolding numeral_at
numeral_written n rest small ends =
    let large : n < 2 ^ 64 = omega arith in
    let front : take_while is_ascii_digit (decimal n ++ rest) ≡ decimal n = digits_before (decimal n) rest (digits_decimal own n large) ends in
    ap (λ (ds : List ℕ). only_if (is_numeral ds) (Some (number_of_digits ds, drop (length ds) (decimal n ++ rest)))) front
    ∙ cond-true _ _ _ (is_numeral-decimal n small)
    ∙ ap (λ (k : ℕ). let out : Option (ℕ × List ℕ) = Some (k, drop (length (decimal n)) (decimal n ++ rest)) in out) (digits_value-decimal own n large)
    ∙ ap (λ (list : List ℕ). let out : Option (ℕ × List ℕ) = Some (n, list) in out) (drop_at (decimal n) rest (length (decimal n)) refl)

-- ---- a number behind a space

pub number_found : (bytes : List ℕ) (n : ℕ) (rest : List ℕ) → number_at bytes ≡ Some (n, rest) → (bytes ≡ behind_space n ++ rest) × (n < 2 ^ 32)
unfolding number_at
number_found bytes n rest e =
    option_and_then_some numeral_at (rest_after (codes " ") bytes) (n, rest) e (λ left first more.
    let found = numeral_found left n rest more in
    (rest_after_found (codes " ") bytes left first ∙ ap (λ (list : List ℕ). 32 ∷ list) found.0, found.1))

pub number_written : (n : ℕ) (rest : List ℕ) → n < 2 ^ 32 → is_ascii_digit (get_or rest 0 0) ≡ false → number_at (behind_space n ++ rest) ≡ Some (n, rest)
unfolding number_at
number_written n rest small ends =
    ap (λ (o : Option (List ℕ)). o >>= numeral_at) (rest_after_written (codes " ") (decimal n ++ rest)) ∙ numeral_written n rest small ends

-- the digits of a number are no newline
pub decimal_digits : (n : ℕ) → n < 2 ^ 32 → list_all is_ascii_digit (decimal n) ≡ true
decimal_digits n small = digits_decimal own n (omega arith)
