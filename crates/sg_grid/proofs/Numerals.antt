-- What stands at the front: a text, a number without a sign, a number. Each stage finds what was written, and only that.
use Rattle.std.proofs.Common.{◌≡◌, ℕ, zero, suc, ◌+◌, ◌-◌, ◌*◌, ◌^◌, ◌<◌, ◌==◌, min, true, false, not, ◌||◌, nat_eq, nat_lt, List, [], ◌∷◌, ◌++◌, length, take, drop, get_or, slice_index, take_while, Option, Some, None, codes, decimal, fold, ℤ, pos, negsuc, refl, sym, ap, ◌∙◌, inl, inr, arith, rules}
use Rattle.std.specs.Fmt.{signed_decimal}
use Rattle.std.specs.Char.{is_ascii_digit}
use Rattle.std.specs.List.{starts_with, list_all, prefix_len}
use Rattle.std.proofs.lemmas.Bool.{and_parts, and_from, or_left, or_right, or_cases, not-true, not_from_false, ltb-true, ltb-false, lt-ltb, eqb-true, eqb-false, eq-eqb, ne_eqb, cond-true, cond-false, cases_Bool, false_from_ne_true, false≢true}
use Rattle.std.proofs.lemmas.Bool.Decides.{Decides-eqb}
use Rattle.std.proofs.lemmas.Fmt.{decimal-digits_value, digits_decimal, digits_value-decimal, decimal_nonempty, first_decimal, decimal_digit}
use Rattle.std.proofs.lemmas.Option.{none-some, cond_some, option_and_then_some, some_pair_parts}
use Rattle.std.proofs.lemmas.Str.Parse.{IsNumeralModel, numerals_by_fold}
use Rattle.std.proofs.lemmas.Slice.Eq.{starts_is}
use Rattle.std.proofs.lemmas.List.{get_or_append_left, get_or-append-add, get_or-take, length-append, take_at, drop_at, take-append-drop}
use Rattle.std.proofs.lemmas.List.Folds.{length-prefix_len}
use Rattle.std.proofs.lemmas.List.Sums.{prefix_len_passes, prefix_len_is, list_all-from_AllPass, AllPass-from_list_all}
use Rattle.sg_words.specs.Options.{◌>>=◌, only_if}
use Rattle.sg_grid.specs.Fronts.{rest_after, number_of_digits, is_numeral, count_at, negative, signed_at, number_at}

-- ---- a text

pub rest_after_found : (text bytes rest : List ℕ) → rest_after text bytes ≡ Some rest → bytes ≡ text ++ rest
unfolding rest_after
rest_after_found text bytes rest e =
    let found = cond_some (starts_with nat_eq bytes text) (drop (length text) bytes) rest e in
    (starts_is Decides-eqb bytes text (starts_with nat_eq bytes text) refl).0 found.0 ∙ ap (λ (list : List ℕ). text ++ list) found.1

pub rest_after_written : (text rest : List ℕ) → rest_after text (text ++ rest) ≡ Some rest
unfolding rest_after
rest_after_written text rest =
    let starts : starts_with nat_eq (text ++ rest) text ≡ true = (starts_is Decides-eqb (text ++ rest) text (starts_with nat_eq (text ++ rest) text) refl).1 rest refl in
    cond-true _ _ _ starts ∙ ap (λ (list : List ℕ). let out : Option (List ℕ) = Some list in out) (drop_at text rest (length text) refl)

-- ---- digits

own : IsNumeralModel (λ ds. list_all is_ascii_digit ds ≡ true) number_of_digits
own = numerals_by_fold _ (search rules) (λ n ds. fold (λ v d. 10 * v + (d - 48)) n ds) (search rules)

front_digits : (bytes : List ℕ) → list_all is_ascii_digit (take_while is_ascii_digit bytes) ≡ true
front_digits bytes =
    let n = prefix_len is_ascii_digit bytes in
    list_all-from_AllPass is_ascii_digit (take n bytes) (λ k d h.
    let below : k < n = omega (arith, length-prefix_len is_ascii_digit bytes) in
    ap is_ascii_digit (get_or-take n bytes k d below) ∙ prefix_len_passes is_ascii_digit bytes k d below)

-- what begins with no digit ends the digits before it
digits_before : (digits rest : List ℕ) → list_all is_ascii_digit digits ≡ true → is_ascii_digit (get_or rest 0 0) ≡ false → take_while is_ascii_digit (digits ++ rest) ≡ digits
digits_before digits rest all ends =
    let long : prefix_len is_ascii_digit (digits ++ rest) ≡ length digits =
    prefix_len_is is_ascii_digit (digits ++ rest) (length digits) 0 (omega (arith, length-append digits rest))
    (λ k h. ap is_ascii_digit (get_or_append_left digits rest 0 k h) ∙ AllPass-from_list_all is_ascii_digit digits all k 0 h)
    (λ _. let here : length digits ≡ length digits + 0 = omega arith in
    ap (λ (k : ℕ). is_ascii_digit (get_or (digits ++ rest) k 0)) here ∙ ap is_ascii_digit (get_or-append-add digits rest 0 0) ∙ ends) in
    ap (λ (k : ℕ). take k (digits ++ rest)) long ∙ take_at digits rest (length digits) refl

pub is_numeral-decimal : (v : ℕ) → v < 2 ^ 64 → is_numeral (decimal v) ≡ true
is_numeral-decimal v small =
    let first : (length (decimal v) == 1 || not (slice_index (decimal v) 0 == 48)) ≡ true =
    elim (cases_Bool (nat_lt 0 v)) [
      | inl some ↦ or_right (length (decimal v) == 1) (not (slice_index (decimal v) 0 == 48)) (not_from_false (slice_index (decimal v) 0 == 48) (ne_eqb (slice_index (decimal v) 0) 48 (λ e. omega (arith, first_decimal v (ltb-true 0 v some) small))))
      | inr none ↦ (
          let zero : v ≡ 0 = omega (arith, ltb-false 0 v none) in
          let digit : decimal v ≡ (48 + v) ∷ [] = decimal_digit v (omega arith) in
          or_left (length (decimal v) == 1) (not (slice_index (decimal v) 0 == 48)) (eq-eqb (length (decimal v)) 1 (ap length digit)))
    ] in
    and_from (nat_lt 0 (length (decimal v))) (length (decimal v) == 1 || not (slice_index (decimal v) 0 == 48)) (lt-ltb 0 (length (decimal v)) (decimal_nonempty v small)) first

numeral_is : (digits : List ℕ) → list_all is_ascii_digit digits ≡ true → is_numeral digits ≡ true → number_of_digits digits < 2 ^ 64 → decimal (number_of_digits digits) ≡ digits
numeral_is digits all good small =
    let parts = and_parts (nat_lt 0 (length digits)) (length digits == 1 || not (slice_index digits 0 == 48)) good in
    let alone : get_or digits 0 0 ≡ 48 → length digits ≡ 1 = λ zero. elim (or_cases (length digits == 1) (not (slice_index digits 0 == 48)) parts.1) [ inl one ↦ eqb-true (length digits) 1 one | inr no_zero ↦ absurd (eqb-false (slice_index digits 0) 48 (not-true (slice_index digits 0 == 48) no_zero) zero) ] in
    decimal-digits_value own digits all (ltb-true 0 (length digits) parts.0) alone small

-- ---- a number without a sign

pub count_found : (bytes : List ℕ) (n : ℕ) (rest : List ℕ) → count_at bytes ≡ Some (n, rest) → n < 2 ^ 32 → bytes ≡ decimal n ++ rest
unfolding count_at
count_found bytes n rest e small =
    let digits : List ℕ = take_while is_ascii_digit bytes in
    let found = cond_some (is_numeral digits) (min (number_of_digits digits) (2 ^ 32), drop (length digits) bytes) (n, rest) e in
    let parts = some_pair_parts (min (number_of_digits digits) (2 ^ 32)) n (drop (length digits) bytes) rest (ap (λ (p : ℕ × List ℕ). let out : Option (ℕ × List ℕ) = Some p in out) found.1) in
    let value : number_of_digits digits ≡ n = omega (arith, parts.0) in
    let text : decimal n ≡ digits = ap decimal (sym value) ∙ numeral_is digits (front_digits bytes) found.0 (omega arith) in
    let long : length digits ≡ prefix_len is_ascii_digit bytes = length-prefix_len is_ascii_digit bytes in
    sym (take-append-drop (prefix_len is_ascii_digit bytes) bytes)
    ∙ ap (λ (list : List ℕ). list ++ drop (prefix_len is_ascii_digit bytes) bytes) (sym text)
    ∙ ap (λ (list : List ℕ). decimal n ++ list) (ap (λ (k : ℕ). drop k bytes) (sym long) ∙ parts.1)

pub count_written : (n : ℕ) (rest : List ℕ) → n < 2 ^ 32 → is_ascii_digit (get_or rest 0 0) ≡ false → count_at (decimal n ++ rest) ≡ Some (n, rest)
unfolding count_at
count_written n rest small ends =
    let large : n < 2 ^ 64 = omega arith in
    let front : take_while is_ascii_digit (decimal n ++ rest) ≡ decimal n = digits_before (decimal n) rest (digits_decimal own n large) ends in
    let value : min (number_of_digits (decimal n)) (2 ^ 32) ≡ n = omega (arith, digits_value-decimal own n large) in
    ap (λ (ds : List ℕ). only_if (is_numeral ds) (Some (min (number_of_digits ds) (2 ^ 32), drop (length ds) (decimal n ++ rest)))) front
    ∙ cond-true _ _ _ (is_numeral-decimal n large)
    ∙ ap (λ (k : ℕ). let out : Option (ℕ × List ℕ) = Some (k, drop (length (decimal n)) (decimal n ++ rest)) in out) value
    ∙ ap (λ (list : List ℕ). let out : Option (ℕ × List ℕ) = Some (n, list) in out) (drop_at (decimal n) rest (length (decimal n)) refl)

-- the same of any digits, whatever their number
pub digits_written : (digits rest : List ℕ) → list_all is_ascii_digit digits ≡ true → is_numeral digits ≡ true → is_ascii_digit (get_or rest 0 0) ≡ false
    → count_at (digits ++ rest) ≡ Some (min (number_of_digits digits) (2 ^ 32), rest)
unfolding count_at
digits_written digits rest all good ends =
    ap (λ (ds : List ℕ). only_if (is_numeral ds) (Some (min (number_of_digits ds) (2 ^ 32), drop (length ds) (digits ++ rest)))) (digits_before digits rest all ends)
    ∙ cond-true _ _ _ good
    ∙ ap (λ (list : List ℕ). let out : Option (ℕ × List ℕ) = Some (min (number_of_digits digits) (2 ^ 32), list) in out) (drop_at digits rest (length digits) refl)

-- the digits at the front of the bytes
pub record HasDigits (bytes : List ℕ) (n : ℕ) (rest : List ℕ) : Type 0 where
  pub digits : List ℕ
  pub all_digits : list_all is_ascii_digit digits ≡ true
  pub numeral : is_numeral digits ≡ true
  pub number : min (number_of_digits digits) (2 ^ 32) ≡ n
  pub text : bytes ≡ digits ++ rest

pub digits_found : (bytes : List ℕ) (n : ℕ) (rest : List ℕ) → count_at bytes ≡ Some (n, rest) → HasDigits bytes n rest
unfolding count_at
digits_found bytes n rest e =
    let digits : List ℕ = take_while is_ascii_digit bytes in
    let found = cond_some (is_numeral digits) (min (number_of_digits digits) (2 ^ 32), drop (length digits) bytes) (n, rest) e in
    let parts = some_pair_parts (min (number_of_digits digits) (2 ^ 32)) n (drop (length digits) bytes) rest (ap (λ (p : ℕ × List ℕ). let out : Option (ℕ × List ℕ) = Some p in out) found.1) in
    let long : length digits ≡ prefix_len is_ascii_digit bytes = length-prefix_len is_ascii_digit bytes in
    record {
      digits = digits;
      all_digits = front_digits bytes;
      numeral = found.0;
      number = parts.0;
      text = sym (take-append-drop (prefix_len is_ascii_digit bytes) bytes)
          ∙ ap (λ (list : List ℕ). take_while is_ascii_digit bytes ++ list) (ap (λ (k : ℕ). drop k bytes) (sym long) ∙ parts.1);
    }

-- ---- a number

-- the number without its sign
abbrev pub size_of : ℤ → ℕ
size_of (pos n) = n
size_of (negsuc n) = n + 1

no_minus : (n : ℕ) (rest : List ℕ) → n < 2 ^ 32 → rest_after (codes "-") (decimal n ++ rest) ≡ None
unfolding rest_after
no_minus n rest small =
    let large : n < 2 ^ 64 = omega arith in
    let some : 0 < length (decimal n) = decimal_nonempty n large in
    let first : is_ascii_digit (get_or (decimal n ++ rest) 0 0) ≡ true =
    ap is_ascii_digit (get_or_append_left (decimal n) rest 0 0 some) ∙ AllPass-from_list_all is_ascii_digit (decimal n) (digits_decimal own n large) 0 0 some in
    cond-false _ _ _ (false_from_ne_true (starts_with nat_eq (decimal n ++ rest) (codes "-")) (λ starts.
    let split : decimal n ++ rest ≡ codes "-" ++ drop 1 (decimal n ++ rest) = (starts_is Decides-eqb (decimal n ++ rest) (codes "-") (starts_with nat_eq (decimal n ++ rest) (codes "-")) refl).0 starts in
    false≢true (ap (λ (list : List ℕ). is_ascii_digit (get_or list 0 0)) (sym split) ∙ first)))

negative_found : (n : ℕ) (left : List ℕ) (z : ℤ) (rest : List ℕ) → negative n left ≡ Some (z, rest) → (k : ℕ) × (n ≡ suc k) × (negsuc k ≡ z) × (left ≡ rest)
negative_found zero left z rest e = absurd (none-some (z, rest) e)
negative_found (suc k) left z rest e = let parts = some_pair_parts (negsuc k) z left rest e in (k, refl, parts.0, parts.1)

signed_found : (bytes : List ℕ) (minus : Option (List ℕ)) (z : ℤ) (rest : List ℕ) → rest_after (codes "-") bytes ≡ minus → signed_at bytes minus ≡ Some (z, rest) → size_of z < 2 ^ 32 → bytes ≡ signed_decimal z ++ rest
signed_found bytes None z rest is e small =
    option_and_then_some (λ (c : ℕ × List ℕ). let out : Option (ℤ × List ℕ) = Some (pos c.0, c.1) in out) (count_at bytes) (z, rest) e (λ c found more.
    let parts = some_pair_parts (pos c.0) z c.1 rest more in
    let below : c.0 < 2 ^ 32 = omega (arith, ap size_of parts.0) in
    count_found bytes c.0 c.1 found below ∙ ap (λ (w : ℤ). signed_decimal w ++ c.1) parts.0 ∙ ap (λ (list : List ℕ). signed_decimal z ++ list) parts.1)
signed_found bytes (Some left) z rest is e small =
    option_and_then_some (λ (c : ℕ × List ℕ). negative c.0 c.1) (count_at left) (z, rest) e (λ c found more.
    let parts = negative_found c.0 c.1 z rest more in
    let below : c.0 < 2 ^ 32 = omega (arith, ap size_of parts.2) in
    let text : decimal c.0 ≡ decimal (suc parts.0) = ap decimal parts.1 in
    rest_after_found (codes "-") bytes left is
    ∙ ap (λ (list : List ℕ). 45 ∷ list) (count_found left c.0 c.1 found below)
    ∙ ap (λ (ds : List ℕ). 45 ∷ (ds ++ c.1)) text
    ∙ ap (λ (w : ℤ). signed_decimal w ++ c.1) parts.2 ∙ ap (λ (list : List ℕ). signed_decimal z ++ list) parts.3)

pub number_found : (bytes : List ℕ) (z : ℤ) (rest : List ℕ) → number_at bytes ≡ Some (z, rest) → size_of z < 2 ^ 32 → bytes ≡ signed_decimal z ++ rest
unfolding number_at
number_found bytes z rest e small = signed_found bytes (rest_after (codes "-") bytes) z rest refl e small

pub number_written : (z : ℤ) (rest : List ℕ) → size_of z < 2 ^ 32 → is_ascii_digit (get_or rest 0 0) ≡ false → number_at (signed_decimal z ++ rest) ≡ Some (z, rest)
unfolding number_at
number_written (pos n) rest small ends =
    ap (signed_at (decimal n ++ rest)) (no_minus n rest small)
    ∙ ap (λ (o : Option (ℕ × List ℕ)). o >>= (λ c. let out : Option (ℤ × List ℕ) = Some (pos c.0, c.1) in out)) (count_written n rest small ends)
number_written (negsuc k) rest small ends =
    let below : suc k < 2 ^ 32 = omega arith in
    ap (signed_at (45 ∷ (decimal (suc k) ++ rest))) (rest_after_written (codes "-") (decimal (suc k) ++ rest))
    ∙ ap (λ (o : Option (ℕ × List ℕ)). o >>= (λ c. negative c.0 c.1)) (count_written (suc k) rest below ends)
