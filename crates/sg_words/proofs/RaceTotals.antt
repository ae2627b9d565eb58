-- Sums over workers, after one of them changed, a new one came, or two were joined.
use Rattle.std.proofs.Common.{◌≡◌, ℕ, zero, suc, ◌+◌, ◌<◌, ◌≤◌, ◌≢◌, max, Bool, true, false, cond, ◌&&◌, ◌==◌, List, [], ◌∷◌, ◌++◌, get_or, set, refl, sym, ap, ◌∙◌, subst, arith}
use Rattle.std.proofs.lemmas.List.{set_comm}
use Rattle.std.proofs.lemmas.Bool.Decides.{nat_tests}
use mathlib.Core.Option.{some, some-injective, some-ne-none}
use lib.ListN.{get_elem?}
use Rattle.sg_words.specs.Counts.{one, total, greatest, Each, pairs, firsts, without}

module _ {A : Type 0} where
  pub total-set : (f : A → ℕ) (l : List A) (id : ℕ) (v w : A) → get_elem? l id ≡ some v → total f (set l id w) + f v ≡ total f l + f w
  total-set f [] id v w e = absurd (some-ne-none v (sym e))
  total-set f (x ∷ xs) zero v w e = let is : f x ≡ f v = ap f (some-injective x v e) in omega arith
  total-set f (x ∷ xs) (suc id) v w e = let r = total-set f xs id v w e in omega arith

  -- what an event leaves alone stays
  pub total-same : (f : A → ℕ) (l : List A) (id : ℕ) (v w : A) → get_elem? l id ≡ some v → f w ≡ f v → total f (set l id w) ≡ total f l
  total-same f l id v w at e = let s = total-set f l id v w at in omega arith

  -- what it adds is added
  pub total-more : (f : A → ℕ) (l : List A) (id : ℕ) (v w : A) (n : ℕ) → get_elem? l id ≡ some v → f w ≡ f v + n → total f (set l id w) ≡ total f l + n
  total-more f l id v w n at e = let s = total-set f l id v w at in omega arith

  pub total-append : (f : A → ℕ) (l m : List A) → total f (l ++ m) ≡ total f l + total f m
  total-append f [] m = omega arith
  total-append f (x ∷ xs) m = let r = total-append f xs m in omega arith

  pub total-snoc : (f : A → ℕ) (l : List A) (w : A) → total f (l ++ w ∷ []) ≡ total f l + f w
  total-snoc f l w = let a = total-append f l (w ∷ []) in omega arith

  pub le-total : (f : A → ℕ) (l : List A) (id : ℕ) (v : A) → get_elem? l id ≡ some v → f v ≤ total f l
  le-total f [] id v e = absurd (some-ne-none v (sym e))
  le-total f (x ∷ xs) zero v e = let is : f x ≡ f v = ap f (some-injective x v e) in omega arith
  le-total f (x ∷ xs) (suc id) v e = let r = le-total f xs id v e in omega arith

  -- two elements of a list
  pub total-two : (f : A → ℕ) (l : List A) (i j : ℕ) (v w : A) → i ≢ j → get_elem? l i ≡ some v → get_elem? l j ≡ some w → f v + f w ≤ total f l
  total-two f [] i j v w n e e' = absurd (some-ne-none v (sym e))
  total-two f (x ∷ xs) zero zero v w n e e' = absurd (n refl)
  total-two f (x ∷ xs) zero (suc j) v w n e e' = let is : f x ≡ f v = ap f (some-injective x v e) in let r = le-total f xs j w e' in omega arith
  total-two f (x ∷ xs) (suc i) zero v w n e e' = let is : f x ≡ f w = ap f (some-injective x w e') in let r = le-total f xs i v e in omega arith
  total-two f (x ∷ xs) (suc i) (suc j) v w n e e' = let r = total-two f xs i j v w (λ h. n (ap suc h)) e e' in omega arith

  pub total-le : (f h : A → ℕ) (l : List A) → ((x : A) → f x ≤ h x) → total f l ≤ total h l
  total-le f h [] le = omega arith
  total-le f h (x ∷ xs) le = let r = total-le f h xs le in let s = le x in omega arith

  pub total-add : (f h : A → ℕ) (l : List A) → total (λ x. f x + h x) l ≡ total f l + total h l
  total-add f h [] = omega arith
  total-add f h (x ∷ xs) = let r = total-add f h xs in omega arith

  pick : (f : A → ℕ) (x : A) (xs : List A) → 0 < f x + total f xs → (0 < total f xs → (id : ℕ) × (v : A) × (get_elem? xs id ≡ some v) × (0 < f v))
      → (n : ℕ) → f x ≡ n → (id : ℕ) × (v : A) × (get_elem? (x ∷ xs) id ≡ some v) × (0 < f v)
  pick f x xs h rec zero e = let r = rec (omega arith) in (suc r.0, r.1, r.2, r.3)
  pick f x xs h rec (suc n) e = (zero, x, refl, omega arith)

  -- some element has a part of a total that isn't 0
  pub part-of : (f : A → ℕ) (l : List A) → 0 < total f l → (id : ℕ) × (v : A) × (get_elem? l id ≡ some v) × (0 < f v)
  part-of f [] h = absurd (omega arith)
  part-of f (x ∷ xs) h = pick f x xs h (part-of f xs) (f x) refl

  pub set_other_at : (l : List A) (i j : ℕ) (a : A) → j ≢ i → get_elem? (set l i a) j ≡ get_elem? l j
  set_other_at [] i j a n = refl
  set_other_at (x ∷ xs) zero zero a n = absurd (n refl)
  set_other_at (x ∷ xs) zero (suc j) a n = refl
  set_other_at (x ∷ xs) (suc i) zero a n = refl
  set_other_at (x ∷ xs) (suc i) (suc j) a n = set_other_at xs i j a (λ e. n (ap suc e))

  -- two elements made one: the second's place is emptied first
  pub total-join : (f : A → ℕ) (l : List A) (i j : ℕ) (v w both none : A) → j ≢ i → get_elem? l i ≡ some v → get_elem? l j ≡ some w
      → f both + f none ≡ f v + f w → total f (set (set l i both) j none) ≡ total f l
  total-join f l i j v w both none n at at' e =
      let p = total-set f l i v both at in
      let q = total-set f (set l i both) j w none (set_other_at l i j both n ∙ at') in omega arith

  pub each-set : (F : A → Type 0) (l : List A) (i : ℕ) (w : A) → Each F l → F w → Each F (set l i w)
  each-set F [] i w all one id x e = absurd (some-ne-none x (sym e))
  each-set F (y ∷ ys) zero w all one zero x e = subst F (some-injective w x e) one
  each-set F (y ∷ ys) zero w all one (suc id) x e = all (suc id) x e
  each-set F (y ∷ ys) (suc i) w all one zero x e = all zero x e
  each-set F (y ∷ ys) (suc i) w all one (suc id) x e = each-set F ys i w (λ k z h. all (suc k) z h) one id x e

  pub each-snoc : (F : A → Type 0) (l : List A) (w : A) → Each F l → F w → Each F (l ++ w ∷ [])
  each-snoc F [] w all one zero x e = subst F (some-injective w x e) one
  each-snoc F [] w all one (suc id) x e = absurd (some-ne-none x (sym e))
  each-snoc F (y ∷ ys) w all one zero x e = all zero x e
  each-snoc F (y ∷ ys) w all one (suc id) x e = each-snoc F ys w (λ k z h. all (suc k) z h) one id x e

  pub at_or : (l : List A) (i : ℕ) (d v : A) → get_elem? l i ≡ some v → get_or l i d ≡ v
  at_or [] i d v e = absurd (some-ne-none v (sym e))
  at_or (x ∷ xs) zero d v e = some-injective x v e
  at_or (x ∷ xs) (suc i) d v e = at_or xs i d v e

  -- an element that isn't the default stands there
  pub at_where : (P : A → Type 0) (l : List A) (i : ℕ) (d : A) → (P d → ⊥) → P (get_or l i d) → get_elem? l i ≡ some (get_or l i d)
  at_where P [] i d not h = absurd (not h)
  at_where P (x ∷ xs) zero d not h = refl
  at_where P (x ∷ xs) (suc i) d not h = at_where P xs i d not h

-- ---- greatest
module _ {A : Type 0} where
  pub greatest-more : (f : A → ℕ) (l : List A) (id : ℕ) (v w : A) (n : ℕ) → get_elem? l id ≡ some v → f w ≡ max (f v) n → greatest f (set l id w) ≡ max (greatest f l) n
  greatest-more f [] id v w n at e = absurd (some-ne-none v (sym at))
  greatest-more f (x ∷ xs) zero v w n at e = let is : f x ≡ f v = ap f (some-injective x v at) in omega arith
  greatest-more f (x ∷ xs) (suc id) v w n at e = let r = greatest-more f xs id v w n at e in omega arith

  pub greatest-same : (f : A → ℕ) (l : List A) (id : ℕ) (v w : A) → get_elem? l id ≡ some v → f w ≡ f v → greatest f (set l id w) ≡ greatest f l
  greatest-same f l id v w at e = let r = greatest-more f l id v w 0 at (omega arith) in omega arith

  pub greatest-append : (f : A → ℕ) (l m : List A) → greatest f (l ++ m) ≡ max (greatest f l) (greatest f m)
  greatest-append f [] m = omega arith
  greatest-append f (x ∷ xs) m = let r = greatest-append f xs m in omega arith

  pub le-greatest : (f : A → ℕ) (l : List A) (id : ℕ) (v : A) → get_elem? l id ≡ some v → f v ≤ greatest f l
  le-greatest f [] id v e = absurd (some-ne-none v (sym e))
  le-greatest f (x ∷ xs) zero v e = let is : f x ≡ f v = ap f (some-injective x v e) in omega arith
  le-greatest f (x ∷ xs) (suc id) v e = let r = le-greatest f xs id v e in omega arith

  -- an element that is taken out
  pub greatest-out : (f : A → ℕ) (l : List A) (id : ℕ) (v w : A) → get_elem? l id ≡ some v → f w ≡ 0 → max (greatest f (set l id w)) (f v) ≡ greatest f l
  greatest-out f [] id v w at e = absurd (some-ne-none v (sym at))
  greatest-out f (x ∷ xs) zero v w at e = let is : f x ≡ f v = ap f (some-injective x v at) in omega arith
  greatest-out f (x ∷ xs) (suc id) v w at e = let r = greatest-out f xs id v w at e in omega arith

  pub greatest-join : (f : A → ℕ) (l : List A) (i j : ℕ) (v w both none : A) → j ≢ i → get_elem? l i ≡ some v → get_elem? l j ≡ some w
      → f both ≡ max (f v) (f w) → f none ≡ 0 → greatest f (set (set l i both) j none) ≡ greatest f l
  greatest-join f l i j v w both none n at at' e e' =
      let out = greatest-out f l j w none at' e' in
      let more = greatest-more f (set l j none) i v both (f w) (set_other_at l j i none (λ h. n (sym h)) ∙ at) e in
      let same : greatest f (set (set l i both) j none) ≡ greatest f (set (set l j none) i both) = ap (greatest f) (set_comm l i j both none (λ h. n (sym h))) in
      omega arith

-- ---- pairs
-- a test on a pair is 1 or 0
pub pair_cases : (P : ℕ → Type 0) (a b c d : ℕ) → ((a ≡ c) → (b ≡ d) → P 1) → (((a ≡ c) → b ≢ d) → P 0) → P (one ((a == c) && (b == d)))
pair_cases P a b c d hit miss = go (a == c) refl (b == d) refl
  where
    go : (p : Bool) → (a == c) ≡ p → (q : Bool) → (b == d) ≡ q → P (one (p && q))
    go true e true e' = hit (grind (arith, nat_tests)) (grind (arith, nat_tests))
    go true e false e' = miss (λ _ h. grind (arith, nat_tests))
    go false e q e' = miss (λ h. absurd (grind (arith, nat_tests)))

pub first_cases : (P : ℕ → Type 0) (a c : ℕ) → ((a ≡ c) → P 1) → ((a ≢ c) → P 0) → P (one (a == c))
first_cases P a c hit miss = go (a == c) refl
  where
    go : (p : Bool) → (a == c) ≡ p → P (one p)
    go true e = hit (grind (arith, nat_tests))
    go false e = miss (λ h. grind (arith, nat_tests))

pub pairs-snoc : (a b : ℕ) (xs : List (ℕ × ℕ)) (x : ℕ × ℕ) → pairs a b (xs ++ x ∷ []) ≡ pairs a b xs + one ((x.0 == a) && (x.1 == b))
pairs-snoc a b xs x = total-snoc (λ (x : ℕ × ℕ). one ((x.0 == a) && (x.1 == b))) xs x

pub firsts-snoc : (a : ℕ) (xs : List (ℕ × ℕ)) (x : ℕ × ℕ) → firsts a (xs ++ x ∷ []) ≡ firsts a xs + one (x.0 == a)
firsts-snoc a xs x = total-snoc (λ (x : ℕ × ℕ). one (x.0 == a)) xs x

pub pairs-le-firsts : (a b : ℕ) (xs : List (ℕ × ℕ)) → pairs a b xs ≤ firsts a xs
pairs-le-firsts a b xs = total-le (λ (x : ℕ × ℕ). one ((x.0 == a) && (x.1 == b))) (λ (x : ℕ × ℕ). one (x.0 == a)) xs
    (λ x. pair_cases (λ n. n ≤ one (x.0 == a)) x.0 x.1 a b (λ e e'. first_cases (λ n. 1 ≤ n) x.0 a (λ _. omega arith) (λ n. absurd (n e))) (λ n. omega arith))

-- a pair that stands, of a list that has few that begin so
pub pairs-two : (a b c : ℕ) (xs : List (ℕ × ℕ)) → b ≢ c → pairs a b xs + pairs a c xs ≤ firsts a xs
pairs-two a b c xs n =
    let sum = total-add (λ (x : ℕ × ℕ). one ((x.0 == a) && (x.1 == b))) (λ (x : ℕ × ℕ). one ((x.0 == a) && (x.1 == c))) xs in
    let le = total-le (λ (x : ℕ × ℕ). one ((x.0 == a) && (x.1 == b)) + one ((x.0 == a) && (x.1 == c))) (λ (x : ℕ × ℕ). one (x.0 == a)) xs
    (λ x. pair_cases (λ m. m + one ((x.0 == a) && (x.1 == c)) ≤ one (x.0 == a)) x.0 x.1 a b
    (λ e e'. pair_cases (λ m. 1 + m ≤ one (x.0 == a)) x.0 x.1 a c (λ _ e''. absurd (n (sym e' ∙ e''))) (λ _. first_cases (λ m. 1 + 0 ≤ m) x.0 a (λ _. omega arith) (λ n. absurd (n e))))
    (λ _. pair_cases (λ m. 0 + m ≤ one (x.0 == a)) x.0 x.1 a c (λ e _. first_cases (λ m. 0 + 1 ≤ m) x.0 a (λ _. omega arith) (λ n. absurd (n e))) (λ _. omega arith))) in
    omega arith

-- one that begins so is a pair
pub firsts-pair : (a : ℕ) (xs : List (ℕ × ℕ)) → 0 < firsts a xs → (b : ℕ) × (0 < pairs a b xs)
firsts-pair a xs h =
    let p = part-of (λ (x : ℕ × ℕ). one (x.0 == a)) xs h in
    let here : 0 < one ((p.1.0 == a) && (p.1.1 == p.1.1)) = pair_cases (λ n. 0 < n) p.1.0 p.1.1 a p.1.1 (λ _ _. omega arith)
    (λ n. absurd (first_cases (λ m. 0 < m → ⊥) p.1.0 a (λ e _. n e refl) (λ _ z. omega arith) p.3)) in
    let le = le-total (λ (x : ℕ × ℕ). one ((x.0 == a) && (x.1 == p.1.1))) xs p.0 p.1 p.2 in
    (p.1.1, omega arith)

without_case : (P : List (ℕ × ℕ) → Type 0) (l : ℕ) (x : ℕ × ℕ) (xs : List (ℕ × ℕ)) → ((x.0 ≡ l) → P (without l xs)) → ((x.0 ≢ l) → P (x ∷ without l xs)) → P (without l (x ∷ xs))
without_case P l x xs hit miss = go (x.0 == l) refl
  where
    go : (p : Bool) → (x.0 == l) ≡ p → P (cond p (without l xs) (x ∷ without l xs))
    go true e = hit (grind (arith, nat_tests))
    go false e = miss (λ h. grind (arith, nat_tests))

pub pairs-without_same : (l t : ℕ) (xs : List (ℕ × ℕ)) → pairs l t (without l xs) ≡ 0
pairs-without_same l t [] = refl
pairs-without_same l t (x ∷ xs) = without_case (λ r. pairs l t r ≡ 0) l x xs (λ _. pairs-without_same l t xs)
    (λ n. let r = pairs-without_same l t xs in pair_cases (λ k. k + pairs l t (without l xs) ≡ 0) x.0 x.1 l t (λ e _. absurd (n e)) (λ _. omega arith))

pub pairs-without_other : (l m t : ℕ) (xs : List (ℕ × ℕ)) → m ≢ l → pairs m t (without l xs) ≡ pairs m t xs
pairs-without_other l m t [] n = refl
pairs-without_other l m t (x ∷ xs) n =
    let r = pairs-without_other l m t xs n in
    without_case (λ r. pairs m t r ≡ pairs m t (x ∷ xs)) l x xs
    (λ e. pair_cases (λ k. pairs m t (without l xs) ≡ k + pairs m t xs) x.0 x.1 m t (λ e' _. absurd (n (sym e' ∙ e))) (λ _. omega arith))
    (λ _. ap (λ k. one ((x.0 == m) && (x.1 == t)) + k) r)

pub firsts-without : (l m : ℕ) (xs : List (ℕ × ℕ)) → firsts m (without l xs) ≤ firsts m xs
firsts-without l m [] = omega arith
firsts-without l m (x ∷ xs) =
    let r = firsts-without l m xs in
    without_case (λ r. firsts m r ≤ firsts m (x ∷ xs)) l x xs (λ _. omega arith) (λ _. omega arith)
