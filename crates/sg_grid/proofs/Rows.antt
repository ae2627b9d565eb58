-- A number of a type with a text after it, a coordinate, a length, and a whole line: each stage finds what was written, and only that.
use Rattle.std.proofs.Common.{◌≡◌, ℕ, ◌^◌, ◌<◌, ◌≤◌, Bool, true, false, nat_le, nat_lt, if◌then◌else◌, List, [], ◌∷◌, ◌++◌, get_or, Option, Some, codes, decimal, ℤ, pos, negsuc, int_le, int_lt, refl, sym, ap, ◌∙◌, subst, arith, rules, append_assoc}
use Rattle.std.specs.Fmt.{signed_decimal}
use Rattle.std.specs.Char.{is_ascii_digit}
use Rattle.std.proofs.lemmas.Bool.{and_parts, and_from, cond-true, eq-eqb, eqb-true, leb-true}
use Rattle.std.proofs.lemmas.Int.{ints}
use Rattle.std.proofs.lemmas.Option.{cond_some, option_and_then_some, some_pair_parts}
use Rattle.sg_words.specs.Options.{◌>>=◌, only_if}
use Rattle.sg_words.specs.declared.operators.Ty.{Ty}
use Rattle.sg_words.specs.declared.operators.Ty.TheVariants as ty
use Rattle.sg_words.specs.Words.{number, word_of}
use Rattle.sg_words.specs.WordLaws.{IsOfType, WordHasNumber, NumberHasWord}
use Rattle.sg_coord.specs.declared.coord.Coord.{Coord}
use Rattle.sg_coord.specs.Coord.{count_of}
use Rattle.sg_grid.specs.declared.grid.GridRun.{GridRun}
use Rattle.sg_grid.specs.declared.grid.Version.{Version}
use Rattle.sg_grid.specs.declared.grid.Version.TheVariants.{One, Two}
use Rattle.sg_grid.specs.GridText.{coordinate_text, length_text, line_text}
use Rattle.sg_grid.specs.Fronts.{rest_after, number_at, is_of_type, number_before, coordinate_part_at, further_part_at, coordinate_at, length_at, line_at}
use Rattle.sg_grid.specs.Accepted.{is_length}
use Rattle.sg_grid.proofs.Numerals.{rest_after_found, rest_after_written, size_of, number_found, number_written}

-- ---- a number of a type

of_type_fits : (type : Ty) (z : ℤ) → is_of_type type z ≡ true → IsOfType type z
of_type_fits ty.I32 z e = search rules
of_type_fits ty.U32 z e = search rules
of_type_fits ty.Bool z e = search rules

fits_of_type : (type : Ty) (z : ℤ) → IsOfType type z → is_of_type type z ≡ true
fits_of_type ty.I32 z e = search rules
fits_of_type ty.U32 z e = search rules
fits_of_type ty.Bool z e = search rules

of_type_small : (type : Ty) (z : ℤ) → is_of_type type z ≡ true → size_of z < 2 ^ 32
of_type_small ty.I32 (pos k) e = grind (arith, ints)
of_type_small ty.I32 (negsuc k) e = grind (arith, ints)
of_type_small ty.U32 (pos k) e = grind (arith, ints)
of_type_small ty.U32 (negsuc k) e = grind (arith, ints)
of_type_small ty.Bool (pos k) e = grind (arith, ints)
of_type_small ty.Bool (negsuc k) e = grind (arith, ints)

pub number_before_found : (type : Ty) (text bytes : List ℕ) (z : ℤ) (rest : List ℕ) → number_before type text bytes ≡ Some (z, rest) → (bytes ≡ signed_decimal z ++ (text ++ rest)) × (is_of_type type z ≡ true)
unfolding number_before
number_before_found type text bytes z rest e =
    option_and_then_some (λ (y : ℤ × List ℕ). rest_after text y.1 >>= (λ left. only_if (is_of_type type y.0) (Some (y.0, left)))) (number_at bytes) (z, rest) e (λ y found more.
    option_and_then_some (λ (left : List ℕ). only_if (is_of_type type y.0) (Some (y.0, left))) (rest_after text y.1) (z, rest) more (λ left behind last.
    let good = cond_some (is_of_type type y.0) (y.0, left) (z, rest) last in
    let parts = some_pair_parts y.0 z left rest (ap (λ (p : ℤ × List ℕ). let out : Option (ℤ × List ℕ) = Some p in out) good.1) in
    let text_is : y.1 ≡ text ++ rest = rest_after_found text y.1 left behind ∙ ap (λ (list : List ℕ). text ++ list) parts.1 in (
      number_found bytes y.0 y.1 found (of_type_small type y.0 good.0)
          ∙ ap (λ (w : ℤ). signed_decimal w ++ y.1) parts.0 ∙ ap (λ (list : List ℕ). signed_decimal z ++ list) text_is,
      ap (is_of_type type) (sym parts.0) ∙ good.0,
    )))

pub number_before_written : (type : Ty) (text : List ℕ) (z : ℤ) (rest : List ℕ) → is_of_type type z ≡ true → is_ascii_digit (get_or (text ++ rest) 0 0) ≡ false
    → number_before type text (signed_decimal z ++ (text ++ rest)) ≡ Some (z, rest)
unfolding number_before
number_before_written type text z rest fits ends =
    ap (λ (o : Option (ℤ × List ℕ)). o >>= (λ y. rest_after text y.1 >>= (λ left. only_if (is_of_type type y.0) (Some (y.0, left))))) (number_written z (text ++ rest) (of_type_small type z fits) ends)
    ∙ ap (λ (o : Option (List ℕ)). o >>= (λ left. only_if (is_of_type type z) (Some (z, left)))) (rest_after_written text rest)
    ∙ cond-true _ _ _ fits

-- ---- a coordinate

-- a part with a space after it, and one after a space, if it is there
abbrev before_space : Bool → List ℕ → List ℕ
before_space there text = if there then text ++ 32 ∷ [] else []

abbrev behind_space : Bool → List ℕ → List ℕ
behind_space there text = if there then 32 ∷ text else []

-- a space after each part, or before each but the first and at the end
spaces : (p q : Bool) (a b c rest : List ℕ) → a ++ 32 ∷ (before_space p b ++ (before_space q c ++ rest)) ≡ (a ++ behind_space p b ++ behind_space q c) ++ 32 ∷ rest
spaces true true a b c rest = simp append_assoc
spaces true false a b c rest = simp append_assoc
spaces false true a b c rest = simp append_assoc
spaces false false a b c rest = simp append_assoc

further_found : (axis n : ℕ) (bytes : List ℕ) (z : ℤ) (rest : List ℕ) → further_part_at axis n bytes ≡ Some (z, rest) → bytes ≡ before_space (nat_le axis n) (signed_decimal z) ++ rest
unfolding further_part_at
further_found axis n bytes z rest e = by_case (nat_le axis n) e where
  by_case : (there : Bool) → (if there then coordinate_part_at bytes else Some (pos 0, bytes)) ≡ Some (z, rest) → bytes ≡ before_space there (signed_decimal z) ++ rest
  by_case true e = (number_before_found ty.I32 (codes " ") bytes z rest e).0 ∙ simp append_assoc
  by_case false e = (some_pair_parts (pos 0) z bytes rest e).1

further_written : (axis n : ℕ) (z : ℤ) (rest : List ℕ) → is_of_type ty.I32 z ≡ true → (nat_le axis n ≡ false → z ≡ pos 0)
    → further_part_at axis n (before_space (nat_le axis n) (signed_decimal z) ++ rest) ≡ Some (z, rest)
unfolding further_part_at
further_written axis n z rest fits unused = by_case (nat_le axis n) unused where
  by_case : (there : Bool) → (there ≡ false → z ≡ pos 0) → (if there then coordinate_part_at (before_space there (signed_decimal z) ++ rest) else Some (pos 0, before_space there (signed_decimal z) ++ rest)) ≡ Some (z, rest)
  by_case true unused = ap coordinate_part_at (simp append_assoc) ∙ number_before_written ty.I32 (codes " ") z rest fits refl
  by_case false unused = ap (λ (w : ℤ). let out : Option (ℤ × List ℕ) = Some (w, rest) in out) (sym (unused refl))

abbrev coord : ℕ → ℤ → ℤ → ℤ → Coord
coord n a b c = record { n = n; a = a; b = b; c = c }

pub coordinate_found : (n : ℕ) (bytes : List ℕ) (at : Coord) (rest : List ℕ) → coordinate_at n bytes ≡ Some (at, rest) → bytes ≡ coordinate_text at ++ 32 ∷ rest
unfolding coordinate_at
coordinate_found n bytes at rest e =
    option_and_then_some (λ (a : ℤ × List ℕ). further_part_at 2 n a.1 >>= (λ b. further_part_at 3 n b.1 >>= (λ c. Some (coord n a.0 b.0 c.0, c.1)))) (coordinate_part_at bytes) (at, rest) e (λ a first more.
    option_and_then_some (λ (b : ℤ × List ℕ). further_part_at 3 n b.1 >>= (λ c. Some (coord n a.0 b.0 c.0, c.1))) (further_part_at 2 n a.1) (at, rest) more (λ b second more.
    option_and_then_some (λ (c : ℤ × List ℕ). let out : Option (Coord × List ℕ) = Some (coord n a.0 b.0 c.0, c.1) in out) (further_part_at 3 n b.1) (at, rest) more (λ c third last.
    let parts = some_pair_parts (coord n a.0 b.0 c.0) at c.1 rest last in
    let tail : b.1 ≡ before_space (nat_le 3 n) (signed_decimal c.0) ++ rest = further_found 3 n b.1 c.0 c.1 third ∙ ap (λ (list : List ℕ). before_space (nat_le 3 n) (signed_decimal c.0) ++ list) parts.1 in
    let middle : a.1 ≡ before_space (nat_le 2 n) (signed_decimal b.0) ++ (before_space (nat_le 3 n) (signed_decimal c.0) ++ rest) = further_found 2 n a.1 b.0 b.1 second ∙ ap (λ (list : List ℕ). before_space (nat_le 2 n) (signed_decimal b.0) ++ list) tail in
    (number_before_found ty.I32 (codes " ") bytes a.0 a.1 first).0
    ∙ ap (λ (list : List ℕ). signed_decimal a.0 ++ 32 ∷ list) middle
    ∙ spaces (nat_le 2 n) (nat_le 3 n) (signed_decimal a.0) (signed_decimal b.0) (signed_decimal c.0) rest
    ∙ ap (λ (c : Coord). coordinate_text c ++ 32 ∷ rest) parts.0)))

-- the parts are words of I32, and 0 if there are fewer axes
pub record IsWritten (at : Coord) : Type 0 where
  pub a : is_of_type ty.I32 at.a ≡ true
  pub b : is_of_type ty.I32 at.b ≡ true
  pub c : is_of_type ty.I32 at.c ≡ true
  pub b_unused : nat_le 2 at.n ≡ false → at.b ≡ pos 0
  pub c_unused : nat_le 3 at.n ≡ false → at.c ≡ pos 0

pub coordinate_written : (at : Coord) (rest : List ℕ) → IsWritten at → coordinate_at at.n (coordinate_text at ++ 32 ∷ rest) ≡ Some (at, rest)
unfolding coordinate_at
coordinate_written at rest parts =
    let n = at.n in
    let third : List ℕ = before_space (nat_le 3 n) (signed_decimal at.c) ++ rest in
    let second : List ℕ = before_space (nat_le 2 n) (signed_decimal at.b) ++ third in
    ap (coordinate_at n) (sym (spaces (nat_le 2 n) (nat_le 3 n) (signed_decimal at.a) (signed_decimal at.b) (signed_decimal at.c) rest))
    ∙ ap (λ (o : Option (ℤ × List ℕ)). o >>= (λ a. further_part_at 2 n a.1 >>= (λ b. further_part_at 3 n b.1 >>= (λ c. Some (coord n a.0 b.0 c.0, c.1))))) (number_before_written ty.I32 (codes " ") at.a second parts.a refl)
    ∙ ap (λ (o : Option (ℤ × List ℕ)). o >>= (λ b. further_part_at 3 n b.1 >>= (λ c. Some (coord n at.a b.0 c.0, c.1)))) (further_written 2 n at.b third parts.b parts.b_unused)
    ∙ ap (λ (o : Option (ℤ × List ℕ)). o >>= (λ c. let out : Option (Coord × List ℕ) = Some (coord n at.a at.b c.0, c.1) in out)) (further_written 3 n at.c rest parts.c parts.c_unused)

further_fits : (axis n : ℕ) (bytes : List ℕ) (z : ℤ) (rest : List ℕ) → further_part_at axis n bytes ≡ Some (z, rest) → (is_of_type ty.I32 z ≡ true) × (nat_le axis n ≡ false → z ≡ pos 0)
unfolding further_part_at
further_fits axis n bytes z rest e = by_case (nat_le axis n) e where
  by_case : (there : Bool) → (if there then coordinate_part_at bytes else Some (pos 0, bytes)) ≡ Some (z, rest) → (is_of_type ty.I32 z ≡ true) × (there ≡ false → z ≡ pos 0)
  by_case true e = ((number_before_found ty.I32 (codes " ") bytes z rest e).1, λ f. absurd (cc))
  by_case false e =
      let zero = (some_pair_parts (pos 0) z bytes rest e).0 in
      (ap (is_of_type ty.I32) (sym zero), λ f. sym zero)

-- what is found is a coordinate that is written so
pub coordinate_fits : (n : ℕ) (bytes : List ℕ) (at : Coord) (rest : List ℕ) → coordinate_at n bytes ≡ Some (at, rest) → (at.n ≡ n) × IsWritten at
unfolding coordinate_at
coordinate_fits n bytes at rest e =
    option_and_then_some (λ (a : ℤ × List ℕ). further_part_at 2 n a.1 >>= (λ b. further_part_at 3 n b.1 >>= (λ c. Some (coord n a.0 b.0 c.0, c.1)))) (coordinate_part_at bytes) (at, rest) e (λ a first more.
    option_and_then_some (λ (b : ℤ × List ℕ). further_part_at 3 n b.1 >>= (λ c. Some (coord n a.0 b.0 c.0, c.1))) (further_part_at 2 n a.1) (at, rest) more (λ b second more.
    option_and_then_some (λ (c : ℤ × List ℕ). let out : Option (Coord × List ℕ) = Some (coord n a.0 b.0 c.0, c.1) in out) (further_part_at 3 n b.1) (at, rest) more (λ c third last.
    let same = (some_pair_parts (coord n a.0 b.0 c.0) at c.1 rest last).0 in
    let middle = further_fits 2 n a.1 b.0 b.1 second in
    let end = further_fits 3 n b.1 c.0 c.1 third in
    let P : Coord → Type 0 = λ at. (at.n ≡ n) × IsWritten at in
    subst P same (
      refl,
      record {
        a = (number_before_found ty.I32 (codes " ") bytes a.0 a.1 first).1;
        b = middle.0;
        c = end.0;
        b_unused = middle.1;
        c_unused = end.1;
      },
    ))))

-- ---- the length of a run

-- a length that a line says is at least 1
pub length_some : (version : Version) (len : ℕ) → is_length version len ≡ true → 1 ≤ len
length_some One len e = omega (arith, eqb-true len 1 e)
length_some Two len e = leb-true 1 len (and_parts (nat_le 1 len) (nat_lt len (2 ^ 31)) e).0

-- what stands after a coordinate and its space
abbrev behind : Version → ℕ → List ℕ → List ℕ
behind One len bytes = bytes
behind Two len bytes = decimal len ++ 32 ∷ bytes

behind_text : (version : Version) (len : ℕ) (bytes : List ℕ) → length_text version len ++ 32 ∷ bytes ≡ 32 ∷ behind version len bytes
behind_text One len bytes = refl
behind_text Two len bytes = refl

-- a number from 1 on as a length
number_length : (bytes : List ℕ) (z : ℤ) (rest : List ℕ) → bytes ≡ signed_decimal z ++ 32 ∷ rest → is_of_type ty.I32 z ≡ true → int_le (pos 1) z ≡ true
    → (bytes ≡ behind Two (count_of z) rest) × (is_length Two (count_of z) ≡ true)
number_length bytes (pos k) rest text fits some =
    (text, and_from (nat_le 1 k) (nat_lt k (2 ^ 31)) some (and_parts (int_le (negsuc 2147483647) (pos k)) (int_lt (pos k) (pos (2 ^ 31))) fits).1)
number_length bytes (negsuc k) rest text fits some = absurd (cc some)

pub length_found : (version : Version) (bytes : List ℕ) (len : ℕ) (rest : List ℕ) → length_at version bytes ≡ Some (len, rest) → (bytes ≡ behind version len rest) × (is_length version len ≡ true)
unfolding length_at
length_found One bytes len rest e =
    let parts = some_pair_parts 1 len bytes rest e in
    (parts.1, eq-eqb len 1 (sym parts.0))
length_found Two bytes len rest e =
    option_and_then_some (λ (z : ℤ × List ℕ). only_if (int_le (pos 1) z.0) (Some (count_of z.0, z.1))) (number_before ty.I32 (codes " ") bytes) (len, rest) e (λ z first more.
    let good = cond_some (int_le (pos 1) z.0) (count_of z.0, z.1) (len, rest) more in
    let parts = some_pair_parts (count_of z.0) len z.1 rest (ap (λ (p : ℕ × List ℕ). let out : Option (ℕ × List ℕ) = Some p in out) good.1) in
    let number = number_before_found ty.I32 (codes " ") bytes z.0 z.1 first in
    let P : ℕ → Type 0 = λ k. (bytes ≡ behind Two k rest) × (is_length Two k ≡ true) in
    subst P parts.0 (number_length bytes z.0 rest (number.0 ∙ ap (λ (list : List ℕ). signed_decimal z.0 ++ 32 ∷ list) parts.1) number.1 good.0))

pub length_written : (version : Version) (len : ℕ) (rest : List ℕ) → is_length version len ≡ true → length_at version (behind version len rest) ≡ Some (len, rest)
unfolding length_at
length_written One len rest good = ap (λ (k : ℕ). let out : Option (ℕ × List ℕ) = Some (k, rest) in out) (sym (eqb-true len 1 good))
length_written Two len rest good =
    let parts = and_parts (nat_le 1 len) (nat_lt len (2 ^ 31)) good in
    ap (λ (o : Option (ℤ × List ℕ)). o >>= (λ z. only_if (int_le (pos 1) z.0) (Some (count_of z.0, z.1))))
    (number_before_written ty.I32 (codes " ") (pos len) rest parts.1 refl)
    ∙ cond-true _ _ _ parts.0

-- ---- a line

abbrev run_of : Coord → (len word : ℕ) → GridRun
run_of at len word = record { at = at; len = len; word = word }

pub line_found : ((t : Ty) (z : ℤ) → NumberHasWord t z) → (version : Version) (n : ℕ) (type : Ty) (bytes : List ℕ) (run : GridRun) (rest : List ℕ) → line_at version n type bytes ≡ Some (run, rest)
    → (bytes ≡ line_text version type run ++ rest) × (run.word < 2 ^ 32) × (is_length version run.len ≡ true)
unfolding line_at
line_found numbers version n type bytes run rest e =
    option_and_then_some (λ (at : Coord × List ℕ). length_at version at.1 >>= (λ len. number_before type (codes "\n") len.1 >>= (λ v. Some (run_of at.0 len.0 (word_of v.0), v.1)))) (coordinate_at n bytes) (run, rest) e (λ at first more.
    option_and_then_some (λ (len : ℕ × List ℕ). number_before type (codes "\n") len.1 >>= (λ v. Some (run_of at.0 len.0 (word_of v.0), v.1))) (length_at version at.1) (run, rest) more (λ len second more.
    option_and_then_some (λ (v : ℤ × List ℕ). let out : Option (GridRun × List ℕ) = Some (run_of at.0 len.0 (word_of v.0), v.1) in out) (number_before type (codes "\n") len.1) (run, rest) more (λ v third last.
    let parts = some_pair_parts (run_of at.0 len.0 (word_of v.0)) run v.1 rest last in
    let length = length_found version at.1 len.0 len.1 second in
    let value = number_before_found type (codes "\n") len.1 v.0 v.1 third in
    let word = numbers type v.0 (of_type_fits type v.0 value.1) in
    let line : bytes ≡ line_text version type (run_of at.0 len.0 (word_of v.0)) ++ v.1 =
    coordinate_found n bytes at.0 at.1 first
    ∙ ap (λ (list : List ℕ). coordinate_text at.0 ++ 32 ∷ list) length.0
    ∙ ap (λ (list : List ℕ). coordinate_text at.0 ++ list) (sym (behind_text version len.0 len.1))
    ∙ ap (λ (list : List ℕ). coordinate_text at.0 ++ (length_text version len.0 ++ 32 ∷ list)) (value.0 ∙ ap (λ (w : ℤ). signed_decimal w ++ 10 ∷ v.1) (sym word.1))
    ∙ simp append_assoc in
    let P : GridRun → Type 0 = λ r. (r.word < 2 ^ 32) × (is_length version r.len ≡ true) in
    let has = subst P parts.0 (word.0, length.1) in (
      line ∙ ap (λ (r : GridRun). line_text version type r ++ v.1) parts.0 ∙ ap (λ (list : List ℕ). line_text version type run ++ list) parts.1,
      has.0,
      has.1,
    ))))

pub line_written : ((t : Ty) (w : ℕ) → WordHasNumber t w) → (version : Version) (type : Ty) (run : GridRun) (rest : List ℕ) → IsWritten run.at → is_length version run.len ≡ true → run.word < 2 ^ 32
    → line_at version run.at.n type (line_text version type run ++ rest) ≡ Some (run, rest)
unfolding line_at
line_written words version type run rest parts good small =
    let z = number type run.word in
    let word = words type run.word small in
    let n = run.at.n in
    let value : List ℕ = signed_decimal z ++ 10 ∷ rest in
    let tail : List ℕ = behind version run.len value in
    let glued : line_text version type run ++ rest ≡ coordinate_text run.at ++ (length_text version run.len ++ 32 ∷ value) = simp append_assoc in
    let line : line_text version type run ++ rest ≡ coordinate_text run.at ++ 32 ∷ tail = glued ∙ ap (λ (list : List ℕ). coordinate_text run.at ++ list) (behind_text version run.len value) in
    ap (line_at version n type) line
    ∙ ap (λ (o : Option (Coord × List ℕ)). o >>= (λ at. length_at version at.1 >>= (λ len. number_before type (codes "\n") len.1 >>= (λ v. Some (run_of at.0 len.0 (word_of v.0), v.1))))) (coordinate_written run.at tail parts)
    ∙ ap (λ (o : Option (ℕ × List ℕ)). o >>= (λ len. number_before type (codes "\n") len.1 >>= (λ v. let out : Option (GridRun × List ℕ) = Some (run_of run.at len.0 (word_of v.0), v.1) in out))) (length_written version run.len value good)
    ∙ ap (λ (o : Option (ℤ × List ℕ)). o >>= (λ v. let out : Option (GridRun × List ℕ) = Some (run_of run.at run.len (word_of v.0), v.1) in out)) (number_before_written type (codes "\n") z rest (fits_of_type type z word.0) refl)
    ∙ ap (λ (w : ℕ). let out : Option (GridRun × List ℕ) = Some (run_of run.at run.len w, rest) in out) word.1

-- and the coordinate of the line that is found is one that is written so
pub line_fits : (version : Version) (n : ℕ) (type : Ty) (bytes : List ℕ) (run : GridRun) (rest : List ℕ) → line_at version n type bytes ≡ Some (run, rest) → (run.at.n ≡ n) × IsWritten run.at
unfolding line_at
line_fits version n type bytes run rest e =
    option_and_then_some (λ (at : Coord × List ℕ). length_at version at.1 >>= (λ len. number_before type (codes "\n") len.1 >>= (λ v. Some (run_of at.0 len.0 (word_of v.0), v.1)))) (coordinate_at n bytes) (run, rest) e (λ at first more.
    option_and_then_some (λ (len : ℕ × List ℕ). number_before type (codes "\n") len.1 >>= (λ v. Some (run_of at.0 len.0 (word_of v.0), v.1))) (length_at version at.1) (run, rest) more (λ len second more.
    option_and_then_some (λ (v : ℤ × List ℕ). let out : Option (GridRun × List ℕ) = Some (run_of at.0 len.0 (word_of v.0), v.1) in out) (number_before type (codes "\n") len.1) (run, rest) more (λ v third last.
    let parts = some_pair_parts (run_of at.0 len.0 (word_of v.0)) run v.1 rest last in
    let P : GridRun → Type 0 = λ r. (r.at.n ≡ n) × IsWritten r.at in
    subst P parts.0 (coordinate_fits n bytes at.0 at.1 first))))
