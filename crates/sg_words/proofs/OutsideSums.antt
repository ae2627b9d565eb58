-- How often a number stands among the first of a list, and among those that don't pass a test.
use Rattle.std.proofs.Common.{◌≡◌, ℕ, zero, suc, ◌+◌, ◌<◌, ◌≤◌, Bool, true, false, cond, not, ◌==◌, List, [], ◌∷◌, ◌++◌, length, take, refl, sym, ap, ◌∙◌, subst, arith}
use Rattle.std.specs.Prelude.{slice_index}
use Rattle.std.proofs.lemmas.List.{length-append, take_more}
use Rattle.sg_words.specs.Counts.{one, once_below, times_in}
use Rattle.sg_words.specs.Stocks.{outside}
use Rattle.sg_words.proofs.RaceTotals.{total-append, first_cases}
use Rattle.sg_words.proofs.RacePools.{sum_below, sum-same}

-- the sum of the numbers below n that are t
sum-at : (t n : ℕ) → sum_below (λ u. one (u == t)) n ≡ once_below t n
unfolding sum_below
sum-at t zero = omega arith
sum-at t (suc n) = let r = sum-at t n in first_cases (λ k. sum_below (λ u. one (u == t)) n + k ≡ once_below t (suc n)) n t (λ e. omega arith) (λ ne. omega arith)

sum-last : (f : ℕ → ℕ) (n : ℕ) → 0 < sum_below f n + f n → (0 < sum_below f n → (u : ℕ) × (u < n) × (0 < f u)) → (k : ℕ) → f n ≡ k → (u : ℕ) × (u < suc n) × (0 < f u)
sum-last f n h rec zero e = let r = rec (omega arith) in (r.0, (let b = r.1 in omega arith), r.2)
sum-last f n h rec (suc k) e = (n, omega arith, omega arith)

pub sum-some : (f : ℕ → ℕ) (n : ℕ) → 0 < sum_below f n → (u : ℕ) × (u < n) × (0 < f u)
unfolding sum_below
sum-some f zero h = absurd (omega arith)
sum-some f (suc n) h = sum-last f n h (sum-some f n) (f n) refl

pub times-take : (x : ℕ) (xs : List ℕ) (n : ℕ) → n ≤ length xs → times_in x (take n xs) ≡ sum_below (λ u. one (slice_index xs u == x)) n
unfolding sum_below
times-take x xs zero h = refl
times-take x xs (suc n) h =
    let r = times-take x xs n (omega arith) in
    let next : n + 1 ≡ suc n = omega arith in
    let more : take (suc n) xs ≡ take n xs ++ slice_index xs n ∷ [] = subst (λ k. take k xs ≡ take n xs ++ slice_index xs n ∷ []) next (take_more xs n 0 h) in
    let count = ap (times_in x) more ∙ total-append (λ (y : ℕ). one (y == x)) (take n xs) (slice_index xs n ∷ []) in omega arith

-- a distinct number stands once among the first
pub times-drawn : (stock : List ℕ) (t n : ℕ) → ((t u : ℕ) → t < length stock → u < length stock → slice_index stock t ≡ slice_index stock u → t ≡ u) → n ≤ length stock → t < length stock
    → times_in (slice_index stock t) (take n stock) ≡ once_below t n
times-drawn stock t n distinct few below =
    times-take (slice_index stock t) stock n few
    ∙ sum-same (λ u. one (slice_index stock u == slice_index stock t)) (λ u. one (u == t)) n
    (λ u under. first_cases (λ k. k ≡ one (u == t)) (slice_index stock u) (slice_index stock t)
    (λ e. first_cases (λ k. 1 ≡ k) u t (λ _. refl) (λ ne. absurd (ne (distinct u t (omega arith) below e))))
    (λ ne. first_cases (λ k. 0 ≡ k) u t (λ e. absurd (ne (ap (slice_index stock) e))) (λ _. refl)))
    ∙ sum-at t n

module _ (test : ℕ → Bool) where
  outside-head : (x : ℕ) (xs : List ℕ) (P : List ℕ → Type 0) → (test x ≡ true → P (outside test xs)) → (test x ≡ false → P (x ∷ outside test xs)) → P (outside test (x ∷ xs))
  outside-head x xs P yes' no' = go (test x) refl
    where
      go : (b : Bool) → test x ≡ b → P (cond b (outside test xs) (x ∷ outside test xs))
      go true e = yes' e
      go false e = no' e

  pub outside-in : (x : ℕ) (xs : List ℕ) → test x ≡ true → times_in x (outside test xs) ≡ 0
  outside-in x [] e = refl
  outside-in x (y ∷ ys) e =
      let r = outside-in x ys e in
      outside-head y ys (λ l. times_in x l ≡ 0) (λ _. r)
      (λ out. first_cases (λ k. k + times_in x (outside test ys) ≡ 0) y x (λ same. absurd (let z : true ≡ false = sym e ∙ ap test (sym same) ∙ out in cc)) (λ _. omega arith))

  pub outside-out : (x : ℕ) (xs : List ℕ) → test x ≡ false → times_in x (outside test xs) ≡ times_in x xs
  outside-out x [] e = refl
  outside-out x (y ∷ ys) e =
      let r = outside-out x ys e in
      outside-head y ys (λ l. times_in x l ≡ times_in x (y ∷ ys))
      (λ in'. first_cases (λ k. times_in x (outside test ys) ≡ k + times_in x ys) y x (λ same. absurd (let z : true ≡ false = sym in' ∙ ap test same ∙ e in cc)) (λ _. omega arith))
      (λ _. ap (λ n. one (y == x) + n) r)

  pick-test : (x : ℕ) (P : Bool → Type 0) → (test x ≡ true → P true) → (test x ≡ false → P false) → P (test x)
  pick-test x P yes' no' = go (test x) refl
    where
      go : (b : Bool) → test x ≡ b → P b
      go true e = yes' e
      go false e = no' e

  pub stood : (num : ℕ) (drawn : List ℕ) → times_in num drawn ≡ 0 → times_in num (outside test drawn) ≡ 0
  stood num drawn none = pick-test num (λ _. times_in num (outside test drawn) ≡ 0) (λ e. outside-in num drawn e) (λ e. outside-out num drawn e ∙ none)

  pub stand_at : (num : ℕ) (drawn : List ℕ) → times_in num drawn ≡ 1 → times_in num (outside test drawn) ≡ one (not (test num))
  stand_at num drawn once = pick-test num (λ b. times_in num (outside test drawn) ≡ one (not b)) (λ e. outside-in num drawn e) (λ e. outside-out num drawn e ∙ once)

  pub more_in : (x : ℕ) (drawn : List ℕ) → 0 < times_in x (outside test drawn) → 0 < times_in x drawn
  more_in x drawn has = pick-test x (λ _. 0 < times_in x drawn) (λ e. absurd (let z = outside-in x drawn e in omega arith)) (λ e. let z = outside-out x drawn e in omega arith)

  split-append : (b : Bool) (x : ℕ) (xs ys whole : List ℕ) → whole ≡ xs ++ ys → cond b whole (x ∷ whole) ≡ cond b xs (x ∷ xs) ++ ys
  split-append true x xs ys whole e = e
  split-append false x xs ys whole e = ap (λ l. x ∷ l) e

  outside-append : (xs ys : List ℕ) → outside test (xs ++ ys) ≡ outside test xs ++ outside test ys
  outside-append [] ys = refl
  outside-append (x ∷ xs) ys = split-append (test x) x (outside test xs) (outside test ys) (outside test (xs ++ ys)) (outside-append xs ys)

  one-outside : (b : Bool) (x : ℕ) → length (cond b [] (x ∷ [])) ≡ one (not b)
  one-outside true x = refl
  one-outside false x = refl

  pub length-outside : (xs : List ℕ) (n : ℕ) → n ≤ length xs → length (outside test (take n xs)) ≡ sum_below (λ u. one (not (test (slice_index xs u)))) n
  unfolding sum_below
  length-outside xs zero h = refl
  length-outside xs (suc n) h =
      let r = length-outside xs n (omega arith) in
      let next : n + 1 ≡ suc n = omega arith in
      let more : take (suc n) xs ≡ take n xs ++ slice_index xs n ∷ [] = subst (λ k. take k xs ≡ take n xs ++ slice_index xs n ∷ []) next (take_more xs n 0 h) in
      let last = one-outside (test (slice_index xs n)) (slice_index xs n) in
      let count : length (outside test (take (suc n) xs)) ≡ length (outside test (take n xs)) + length (outside test (slice_index xs n ∷ [])) =
      ap (λ l. length (outside test l)) more ∙ ap length (outside-append (take n xs) (slice_index xs n ∷ [])) ∙ length-append (outside test (take n xs)) (outside test (slice_index xs n ∷ [])) in
      omega arith
