-- The links of a node: one more, and one less.
use Rattle.std.proofs.Common.{◌≡◌, ◌≢◌, ℕ, zero, suc, ◌+◌, ◌≤◌, ◌==◌, Bool, true, false, not, cond, ◌||◌, nat_lt, List, [], ◌∷◌, length, Option, Some, None, is_some, refl, sym, ap, ◌∙◌, subst, arith}
use Rattle.std.specs.Prelude.{filter}
use Rattle.std.specs.List.{list_any}
use Rattle.std.proofs.lemmas.Bool.{both_ways, cond-true, cond-false, eqb-true, ne_eqb, lt-ltb}
use Rattle.std.proofs.lemmas.Option.{none-some, same_Some}
use Rattle.sg_audit.specs.declared.table.Standing.{Standing}
use Rattle.sg_audit.specs.declared.table.NodeLink.{NodeLink}
use Rattle.sg_audit.specs.steps.Tables.{has_this, standing_of, AreOnce}

-- the links but for a number
abbrev pub rest_of : ℕ → List NodeLink → List NodeLink
rest_of number links = filter (λ link. not (has_this number link)) links

abbrev pub one_if : Bool → ℕ
one_if b = cond b 1 0

pub counts_one : (b : Bool) → b ≡ true → one_if b ≡ 1
counts_one true e = refl
counts_one false e = absurd (both_ways false refl e)

pub counts_none : (b : Bool) → b ≡ false → one_if b ≡ 0
counts_none true e = absurd (both_ways true e refl)
counts_none false e = refl

-- how many pass a test
pub count_more : (p : NodeLink → Bool) (x : NodeLink) (xs : List NodeLink) → length (filter p (x ∷ xs)) ≡ one_if (p x) + length (filter p xs)
count_more p x xs = by_case (p x) where
  by_case : (b : Bool) → length (cond b (x ∷ filter p xs) (filter p xs)) ≡ one_if b + length (filter p xs)
  by_case true = omega arith
  by_case false = omega arith

pub any_count : (p : NodeLink → Bool) (xs : List NodeLink) → list_any p xs ≡ nat_lt 0 (length (filter p xs))
any_count p [] = refl
any_count p (x ∷ xs) = by_case (p x) (any_count p xs) where
  by_case : (b : Bool) → list_any p xs ≡ nat_lt 0 (length (filter p xs)) → (b || list_any p xs) ≡ nat_lt 0 (length (cond b (x ∷ filter p xs) (filter p xs)))
  by_case true rest = sym (lt-ltb 0 (length (x ∷ filter p xs)) (omega arith))
  by_case false rest = rest

pub none_count : (p : NodeLink → Bool) (xs : List NodeLink) → list_any p xs ≡ false → length (filter p xs) ≡ 0
none_count p xs none = by_case (length (filter p xs)) (sym (any_count p xs) ∙ none) where
  by_case : (n : ℕ) → nat_lt 0 n ≡ false → n ≡ 0
  by_case zero e = refl
  by_case (suc n) e = absurd (both_ways (nat_lt 0 (suc n)) e (lt-ltb 0 (suc n) (omega arith)))

pub few_count : (p : NodeLink → Bool) (xs : List NodeLink) → length (filter p xs) ≤ length xs
few_count p [] = omega arith
few_count p (x ∷ xs) = omega (arith, count_more p x xs, few_count p xs, one_most (p x)) where
  one_most : (b : Bool) → one_if b ≤ 1
  one_most true = omega arith
  one_most false = omega arith

-- ---- where a number stands

pub held_is : (links : List NodeLink) (number : ℕ) → is_some (standing_of links number) ≡ list_any (has_this number) links
held_is [] number = refl
held_is (x ∷ xs) number = by_case (x.number == number) (held_is xs number) where
  by_case : (b : Bool) → is_some (standing_of xs number) ≡ list_any (has_this number) xs → is_some (cond b (Some x.standing) (standing_of xs number)) ≡ (b || list_any (has_this number) xs)
  by_case true rest = refl
  by_case false rest = rest

pub none_held : (links : List NodeLink) (number : ℕ) → standing_of links number ≡ None → list_any (has_this number) links ≡ false
none_held links number none = sym (held_is links number) ∙ ap is_some none

pub some_held : (links : List NodeLink) (number : ℕ) (standing : Standing) → standing_of links number ≡ Some standing → list_any (has_this number) links ≡ true
some_held links number standing is = sym (held_is links number) ∙ ap is_some is

or_no : (a b : Bool) → (a || b) ≡ false → (a ≡ false) × (b ≡ false)
or_no true b e = absurd (both_ways true e refl)
or_no false b e = (refl, e)

-- a number that isn't held leaves all
pub rest_all : (links : List NodeLink) (number : ℕ) → list_any (has_this number) links ≡ false → rest_of number links ≡ links
rest_all [] number none = refl
rest_all (x ∷ xs) number none =
    let parts = or_no (has_this number x) (list_any (has_this number) xs) none in
    cond-true (not (has_this number x)) (x ∷ rest_of number xs) (rest_of number xs) (ap not parts.0) ∙ ap (λ (l : List NodeLink). x ∷ l) (rest_all xs number parts.1)

any_rest : (p : NodeLink → Bool) (links : List NodeLink) (number : ℕ) → list_any p links ≡ false → list_any p (rest_of number links) ≡ false
any_rest p [] number none = refl
any_rest p (x ∷ xs) number none =
    let parts = or_no (p x) (list_any p xs) none in
    by_case (not (has_this number x)) parts.0 (any_rest p xs number parts.1)
  where
    by_case : (b : Bool) → p x ≡ false → list_any p (rest_of number xs) ≡ false → list_any p (cond b (x ∷ rest_of number xs) (rest_of number xs)) ≡ false
    by_case true one more = ap (λ (b : Bool). b || list_any p (rest_of number xs)) one ∙ more
    by_case false one more = more

pub once_rest : (links : List NodeLink) (number : ℕ) → AreOnce links → AreOnce (rest_of number links)
once_rest [] number once = tt
once_rest (x ∷ xs) number once = by_case (not (has_this number x)) (any_rest (has_this x.number) xs number once.0) (once_rest xs number once.1) where
  by_case : (b : Bool) → list_any (has_this x.number) (rest_of number xs) ≡ false → AreOnce (rest_of number xs) → AreOnce (cond b (x ∷ rest_of number xs) (rest_of number xs))
  by_case true one more = (one, more)
  by_case false one more = more

-- the rest has the number nowhere, and the others where they stood
pub standing_gone : (links : List NodeLink) (number : ℕ) → standing_of (rest_of number links) number ≡ None
standing_gone [] number = refl
standing_gone (x ∷ xs) number = by_case (x.number == number) refl (standing_gone xs number) where
  by_case : (b : Bool) → (x.number == number) ≡ b → standing_of (rest_of number xs) number ≡ None → standing_of (cond (not b) (x ∷ rest_of number xs) (rest_of number xs)) number ≡ None
  by_case true is rest = rest
  by_case false is rest = cond-false (x.number == number) (Some x.standing) (standing_of (rest_of number xs) number) is ∙ rest

pub standing_kept : (links : List NodeLink) (number other : ℕ) → other ≢ number → standing_of (rest_of number links) other ≡ standing_of links other
standing_kept [] number other apart = refl
standing_kept (x ∷ xs) number other apart = by_case (x.number == number) refl (standing_kept xs number other apart) where
  by_case : (b : Bool) → (x.number == number) ≡ b → standing_of (rest_of number xs) other ≡ standing_of xs other → standing_of (cond (not b) (x ∷ rest_of number xs) (rest_of number xs)) other ≡ cond (x.number == other) (Some x.standing) (standing_of xs other)
  by_case true is rest =
      let no : (x.number == other) ≡ false = ne_eqb x.number other (λ same. apart (sym same ∙ eqb-true x.number number is)) in
      rest ∙ sym (cond-false (x.number == other) (Some x.standing) (standing_of xs other) no)
  by_case false is rest = ap (λ (o : Option Standing). cond (x.number == other) (Some x.standing) o) rest

-- the number is counted once
pub count_rest : (p : NodeLink → Bool) (links : List NodeLink) (number : ℕ) (standing : Standing) → AreOnce links → standing_of links number ≡ Some standing
    → length (filter p links) ≡ one_if (p (record { number = number; standing = standing })) + length (filter p (rest_of number links))
count_rest p [] number standing once is = absurd (none-some standing is)
count_rest p (x ∷ xs) number standing once is = by_case (x.number == number) refl is (count_rest p xs number standing once.1) where
  by_case : (b : Bool) → (x.number == number) ≡ b → cond b (Some x.standing) (standing_of xs number) ≡ Some standing
      → (standing_of xs number ≡ Some standing → length (filter p xs) ≡ one_if (p (record { number = number; standing = standing })) + length (filter p (rest_of number xs)))
      → length (filter p (x ∷ xs)) ≡ one_if (p (record { number = number; standing = standing })) + length (filter p (cond (not b) (x ∷ rest_of number xs) (rest_of number xs)))
  by_case true same here rest =
      let number_is : x.number ≡ number = eqb-true x.number number same in
      let standing_is : x.standing ≡ standing = same_Some x.standing standing here in
      let link : x ≡ record { number = number; standing = standing } =
      ap (λ (n : ℕ). let l : NodeLink = record { number = n; standing = x.standing } in l) number_is ∙ ap (λ (s : Standing). let l : NodeLink = record { number = number; standing = s } in l) standing_is in
      let all : rest_of number xs ≡ xs = rest_all xs number (subst (λ (n : ℕ). list_any (has_this n) xs ≡ false) number_is once.0) in
      count_more p x xs ∙ ap (λ (l : NodeLink). one_if (p l) + length (filter p xs)) link
      ∙ ap (λ (l : List NodeLink). one_if (p (record { number = number; standing = standing })) + length (filter p l)) (sym all)
  by_case false other here rest =
      let more = rest here in
      omega (arith, count_more p x xs, count_more p x (rest_of number xs), more)

pub length_rest : (links : List NodeLink) (number : ℕ) (standing : Standing) → AreOnce links → standing_of links number ≡ Some standing → length links ≡ suc (length (rest_of number links))
length_rest [] number standing once is = absurd (none-some standing is)
length_rest (x ∷ xs) number standing once is = by_case (x.number == number) refl is (length_rest xs number standing once.1) where
  by_case : (b : Bool) → (x.number == number) ≡ b → cond b (Some x.standing) (standing_of xs number) ≡ Some standing → (standing_of xs number ≡ Some standing → length xs ≡ suc (length (rest_of number xs)))
      → suc (length xs) ≡ suc (length (cond (not b) (x ∷ rest_of number xs) (rest_of number xs)))
  by_case true same here rest =
      let all : rest_of number xs ≡ xs = rest_all xs number (subst (λ (n : ℕ). list_any (has_this n) xs ≡ false) (eqb-true x.number number same) once.0) in
      ap (λ (l : List NodeLink). suc (length l)) (sym all)
  by_case false other here rest = ap suc (rest here)
