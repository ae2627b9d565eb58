-- What an event leaves of a view, in the facts that a seat keeps.
use Rattle.std.proofs.Common.{◌≡◌, ℕ, zero, suc, ◌+◌, ◌-◌, ◌<◌, ◌≤◌, ◌≢◌, Bool, true, false, cond, ◌&&◌, ◌==◌, nat_lt, List, [], ◌∷◌, ◌++◌, length, replicate, set, refl, sym, ap, ◌∙◌, subst, arith}
use Rattle.std.specs.Prelude.{slice_index, slice_index_or}
use Rattle.std.proofs.lemmas.Bool.Decides.{nat_tests}
use Rattle.std.proofs.lemmas.List.{get_or-set_same, get_or-set_other}
use mathlib.Core.Logic.{dite}
use native.Mathlib.Decide.{ℕ_discrete}
use Rattle.sg_words.specs.declared.race.Worker.{Worker}
use Rattle.sg_words.specs.Counts.{one, pairs, firsts, without}
use Rattle.sg_words.specs.RaceMachine.{after_see, after_miss, after_link, after_draw}
use Rattle.sg_words.specs.steps.RaceSteps.{after_look, after_try}
use Rattle.sg_words.proofs.Uses.{found_case, pairs-snoc, firsts-snoc, firsts-pair, pair_cases, first_cases}
use Rattle.sg_activate.specs.steps.DescentSeats.{AreSpares, AreDry}

-- what a load leaves
pub looked : (v w : Worker) (i word : ℕ) → w ≡ after_look i word v → (w.share ≡ v.share) × (w.told ≡ v.told) × (w.spare ≡ v.spare) × (w.past ≡ v.past)
looked v w i word e =
    let P : Worker → Type 0 = λ w. (w.share ≡ v.share) × (w.told ≡ v.told) × (w.spare ≡ v.spare) × (w.past ≡ v.past) in
    subst P (sym e) (found_case P word (after_miss i v) (after_see i (word - 1) v) (λ _. (refl, refl, refl, refl)) (λ _. (refl, refl, refl, refl)))

pub spares-same : (spares : List ℕ) (v w : Worker) → w.spare ≡ v.spare → AreSpares spares v → AreSpares spares w
spares-same spares v w e are = record {
  stand = λ l some. subst (λ s. 0 < pairs l (slice_index spares l - 1) s) (sym e) (are.stand l some);
  listed = λ l t has. are.listed l t (subst (λ s. 0 < pairs l t s) e has);
}

pub dry-same : (dry : List Bool) (v w : Worker) → w.past ≡ v.past → AreDry dry v → AreDry dry w
dry-same dry v w e are l = are l ∙ ap (λ p. nat_lt 0 (firsts l p)) (sym e)

-- a row of zeros
pub zeros : (n i : ℕ) → slice_index (replicate n 0) i ≡ 0
zeros zero i = refl
zeros (suc n) zero = refl
zeros (suc n) (suc i) = zeros n i

-- a seat without a spare
pub no-spare : (spares : List ℕ) (v : Worker) (l : ℕ) → AreSpares spares v → slice_index spares l ≡ 0 → firsts l v.spare ≡ 0
no-spare spares v l are none = dite (ℕ_discrete (firsts l v.spare) 0) (λ e. e)
    (λ some. absurd (let p = firsts-pair l v.spare (omega arith) in let is = are.listed l p.0 p.1 in omega arith))

pub not-past : (dry : List Bool) (v : Worker) (l : ℕ) → AreDry dry v → slice_index_or dry l false ≡ false → firsts l v.past ≡ 0
not-past dry v l are wet = let h : nat_lt 0 (firsts l v.past) ≡ false = sym (are l) ∙ wet in grind (arith, nat_tests)

-- a draw of a spare
pub draw_case : (P : Worker → Type 0) (l limit n : ℕ) (v : Worker) → (n < limit → P (record v { spare = v.spare ++ (l, n) ∷ [] })) → (limit ≤ n → P (record v { past = v.past ++ (l, n) ∷ [] })) → P (after_draw l limit n v)
draw_case P l limit n v below past = go (nat_lt n limit) refl
  where
    go : (b : Bool) → nat_lt n limit ≡ b → P (cond b (record v { spare = v.spare ++ (l, n) ∷ [] }) (record v { past = v.past ++ (l, n) ∷ [] }))
    go true e = below (grind (arith, nat_tests))
    go false e = past (grind (arith, nat_tests))

pub drawn-spare : (v w : Worker) (l limit n : ℕ) → w ≡ after_draw l limit n v → n < limit → (w.share ≡ v.share) × (w.told ≡ v.told) × (w.spare ≡ v.spare ++ (l, n) ∷ []) × (w.past ≡ v.past)
drawn-spare v w l limit n e below =
    let P : Worker → Type 0 = λ w. (w.share ≡ v.share) × (w.told ≡ v.told) × (w.spare ≡ v.spare ++ (l, n) ∷ []) × (w.past ≡ v.past) in
    subst P (sym e) (draw_case P l limit n v (λ _. (refl, refl, refl, refl)) (λ past. absurd (omega arith)))

pub drawn-past : (v w : Worker) (l limit n : ℕ) → w ≡ after_draw l limit n v → limit ≤ n → (w.share ≡ v.share) × (w.told ≡ v.told) × (w.spare ≡ v.spare) × (w.past ≡ v.past ++ (l, n) ∷ [])
drawn-past v w l limit n e past =
    let P : Worker → Type 0 = λ w. (w.share ≡ v.share) × (w.told ≡ v.told) × (w.spare ≡ v.spare) × (w.past ≡ v.past ++ (l, n) ∷ []) in
    subst P (sym e) (draw_case P l limit n v (λ below. absurd (omega arith)) (λ _. (refl, refl, refl, refl)))

-- the spares after a draw: one more
pub spares-more : (spares : List ℕ) (v w : Worker) (l n : ℕ) → l < length spares → slice_index spares l ≡ 0 → w.spare ≡ v.spare ++ (l, n) ∷ [] → AreSpares spares v → AreSpares (set spares l (n + 1)) w
spares-more spares v w l n below none e are = record {
  stand = λ m some. dite (ℕ_discrete l m)
      (λ same. subst (λ m. 0 < slice_index (set spares l (n + 1)) m → 0 < pairs m (slice_index (set spares l (n + 1)) m - 1) w.spare) same
      (λ _. (let here : slice_index (set spares l (n + 1)) l ≡ n + 1 = get_or-set_same spares l (n + 1) 0 below in
      let t : slice_index (set spares l (n + 1)) l - 1 ≡ n = omega arith in
      let s = ap (pairs l n) e ∙ pairs-snoc l n v.spare (l, n) in
      let one' : 0 < one ((l == l) && (n == n)) = pair_cases (λ k. 0 < k) l n l n (λ _ _. omega arith) (λ miss. absurd (miss refl refl)) in
      subst (λ t. 0 < pairs l t w.spare) (sym t) (omega arith))) some)
      (λ other. let there : slice_index (set spares l (n + 1)) m ≡ slice_index spares m = get_or-set_other spares l m (n + 1) 0 (λ h. other (sym h)) in
      let old = are.stand m (omega arith) in
      let s = ap (pairs m (slice_index spares m - 1)) e ∙ pairs-snoc m (slice_index spares m - 1) v.spare (l, n) in
      subst (λ x. 0 < pairs m (x - 1) w.spare) (sym there) (omega arith));
  listed = λ m t has.
      (let s = ap (pairs m t) e ∙ pairs-snoc m t v.spare (l, n) in
      pair_cases (λ k. 0 < pairs m t v.spare + k → slice_index (set spares l (n + 1)) m ≡ t + 1) l n m t
      (λ same same' _. subst (λ m. slice_index (set spares l (n + 1)) m ≡ t + 1) same (get_or-set_same spares l (n + 1) 0 below ∙ ap (λ n. n + 1) same'))
      (λ miss h. (let old = are.listed m t (omega arith) in
      dite (ℕ_discrete l m) (λ same. absurd (let z : slice_index spares m ≡ 0 = ap (slice_index spares) (sym same) ∙ none in omega arith))
      (λ other. get_or-set_other spares l m (n + 1) 0 (λ h. other (sym h)) ∙ old)))
      (omega arith));
}

pub dry-more : (dry : List Bool) (v w : Worker) (l n : ℕ) → l < length dry → w.past ≡ v.past ++ (l, n) ∷ [] → AreDry dry v → AreDry (set dry l true) w
dry-more dry v w l n below e are m =
    let s = ap (firsts m) e ∙ firsts-snoc m v.past (l, n) in
    first_cases (λ k. firsts m w.past ≡ firsts m v.past + k → slice_index_or (set dry l true) m false ≡ nat_lt 0 (firsts m w.past)) l m
    (λ same f. (let h : 0 < firsts m w.past = omega arith in
    let yes' : nat_lt 0 (firsts m w.past) ≡ true = grind (arith, nat_tests) in
    subst (λ m. slice_index_or (set dry l true) m false ≡ true) same (get_or-set_same dry l true false below) ∙ sym yes'))
    (λ other f. get_or-set_other dry l m true false (λ h. other (sym h)) ∙ are m ∙ ap (nat_lt 0) (let h : firsts m v.past ≡ firsts m w.past = omega arith in h)) s

-- the exchange that wins, and the one that loses
pub tried-link : (v w : Worker) (l i t n word : ℕ) → w ≡ after_try l i t n word v → word ≡ 0 → (w.share ≡ v.share) × (w.told ≡ v.told) × (w.spare ≡ without l v.spare) × (w.past ≡ v.past)
tried-link v w l i t n word e empty =
    let P : Worker → Type 0 = λ w. (w.share ≡ v.share) × (w.told ≡ v.told) × (w.spare ≡ without l v.spare) × (w.past ≡ v.past) in
    subst P (sym e) (found_case P word (after_link l i t n v) (after_see i (word - 1) v) (λ _. (refl, refl, refl, refl)) (λ full. absurd (full empty)))

pub tried-see : (v w : Worker) (l i t n word : ℕ) → w ≡ after_try l i t n word v → word ≢ 0 → (w.share ≡ v.share) × (w.told ≡ v.told) × (w.spare ≡ v.spare) × (w.past ≡ v.past)
tried-see v w l i t n word e full =
    let P : Worker → Type 0 = λ w. (w.share ≡ v.share) × (w.told ≡ v.told) × (w.spare ≡ v.spare) × (w.past ≡ v.past) in
    subst P (sym e) (found_case P word (after_link l i t n v) (after_see i (word - 1) v) (λ empty. absurd (full empty)) (λ _. (refl, refl, refl, refl)))

-- ---- the spares after a link: one fewer
without_case : (P : List (ℕ × ℕ) → Type 0) (l : ℕ) (x : ℕ × ℕ) (xs : List (ℕ × ℕ)) → ((x.0 ≡ l) → P (without l xs)) → ((x.0 ≢ l) → P (x ∷ without l xs)) → P (without l (x ∷ xs))
without_case P l x xs hit miss = go (x.0 == l) refl
  where
    go : (p : Bool) → (x.0 == l) ≡ p → P (cond p (without l xs) (x ∷ without l xs))
    go true e = hit (grind (arith, nat_tests))
    go false e = miss (λ h. grind (arith, nat_tests))

without-same : (l t : ℕ) (xs : List (ℕ × ℕ)) → pairs l t (without l xs) ≡ 0
without-same l t [] = refl
without-same l t (x ∷ xs) = without_case (λ r. pairs l t r ≡ 0) l x xs (λ _. without-same l t xs)
    (λ n. let r = without-same l t xs in pair_cases (λ k. k + pairs l t (without l xs) ≡ 0) x.0 x.1 l t (λ e _. absurd (n e)) (λ _. omega arith))

without-other : (l m t : ℕ) (xs : List (ℕ × ℕ)) → m ≢ l → pairs m t (without l xs) ≡ pairs m t xs
without-other l m t [] n = refl
without-other l m t (x ∷ xs) n =
    let r = without-other l m t xs n in
    without_case (λ r. pairs m t r ≡ pairs m t (x ∷ xs)) l x xs
    (λ e. pair_cases (λ k. pairs m t (without l xs) ≡ k + pairs m t xs) x.0 x.1 m t (λ e' _. absurd (n (sym e' ∙ e))) (λ _. omega arith))
    (λ _. ap (λ k. one ((x.0 == m) && (x.1 == t)) + k) r)

pub spares-fewer : (spares : List ℕ) (v w : Worker) (l : ℕ) → l < length spares → w.spare ≡ without l v.spare → AreSpares spares v → AreSpares (set spares l 0) w
spares-fewer spares v w l below e are = record {
  stand = λ m some. dite (ℕ_discrete l m)
      (λ same. absurd (let z : slice_index (set spares l 0) m ≡ 0 = subst (λ m. slice_index (set spares l 0) m ≡ 0) same (get_or-set_same spares l 0 0 below) in omega arith))
      (λ other. let there : slice_index (set spares l 0) m ≡ slice_index spares m = get_or-set_other spares l m 0 0 (λ h. other (sym h)) in
      let old = are.stand m (omega arith) in
      let s = ap (pairs m (slice_index spares m - 1)) e ∙ without-other l m (slice_index spares m - 1) v.spare (λ h. other (sym h)) in
      subst (λ x. 0 < pairs m (x - 1) w.spare) (sym there) (omega arith));
  listed = λ m t has. dite (ℕ_discrete l m)
      (λ same. absurd (let z : pairs m t (without l v.spare) ≡ 0 = subst (λ m. pairs m t (without l v.spare) ≡ 0) same (without-same l t v.spare) in let s = ap (pairs m t) e in omega arith))
      (λ other. let s = ap (pairs m t) e ∙ without-other l m t v.spare (λ h. other (sym h)) in
      let old = are.listed m t (omega arith) in
      get_or-set_other spares l m 0 0 (λ h. other (sym h)) ∙ old);
}

pub spare-stands : (spares : List ℕ) (v : Worker) (l t : ℕ) → AreSpares spares v → slice_index spares l ≡ t + 1 → 0 < pairs l t v.spare
spare-stands spares v l t are is = let e : slice_index spares l - 1 ≡ t = omega arith in subst (λ t. 0 < pairs l t v.spare) e (are.stand l (omega arith))

pub without-less : (l m t : ℕ) (xs : List (ℕ × ℕ)) → 0 < pairs m t (without l xs) → 0 < pairs m t xs
without-less l m t xs has = dite (ℕ_discrete m l)
    (λ same. absurd (let z : pairs m t (without l xs) ≡ 0 = subst (λ m. pairs m t (without l xs) ≡ 0) (sym same) (without-same l t xs) in omega arith))
    (λ other. let e = without-other l m t xs other in omega arith)

-- the tickets of a seat are of their stocks still
pub spares-below : (limit : ℕ → ℕ) (v w : Worker) (l n : ℕ) → w.spare ≡ v.spare ++ (l, n) ∷ [] → n < limit l → ((m t : ℕ) → 0 < pairs m t v.spare → t < limit m) → (m t : ℕ) → 0 < pairs m t w.spare → t < limit m
spares-below limit v w l n e below old m t has =
    let s = ap (pairs m t) e ∙ pairs-snoc m t v.spare (l, n) in
    pair_cases (λ k. 0 < pairs m t v.spare + k → t < limit m) l n m t (λ same same' _. subst (λ m. t < limit m) same (subst (λ t. t < limit l) same' below)) (λ _ h. old m t (omega arith)) (omega arith)

pub dry-has : (dry : List Bool) (v : Worker) (l : ℕ) → AreDry dry v → slice_index_or dry l false ≡ true → 0 < firsts l v.past
dry-has dry v l are is = let h : nat_lt 0 (firsts l v.past) ≡ true = sym (are l) ∙ is in grind (arith, nat_tests)
