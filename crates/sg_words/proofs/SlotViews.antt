-- What an event leaves of a view, in the facts that a seat keeps.
use Rattle.std.proofs.Common.{◌≡◌, ℕ, zero, suc, ◌+◌, ◌-◌, ◌<◌, ◌≤◌, ◌≢◌, inl, inr, Bool, true, false, cond, ◌||◌, ◌==◌, nat_lt, List, [], ◌∷◌, ◌++◌, refl, sym, ap, ◌∙◌, subst, arith}
use Rattle.std.specs.Prelude.{slice_index}
use Rattle.std.proofs.lemmas.Bool.Decides.{nat_tests}
use Rattle.sg_words.specs.declared.race.Worker.{Worker}
use Rattle.sg_words.specs.Counts.{one, pairs, firsts, without}
use Rattle.sg_words.specs.RaceMachine.{after_see, after_miss, after_link, after_draw, after_join}
use Rattle.sg_words.specs.steps.RaceSteps.{after_look, after_try}
use Rattle.sg_words.proofs.RaceTotals.{total-append, firsts-snoc, pair_cases}
use Rattle.sg_words.proofs.RaceFound.{found_case}
use Rattle.sg_words.specs.Stocks.{is_dry}
use Rattle.sg_words.specs.steps.SlotSteps.{Provided}

draw_case : (P : Worker → Type 0) (limit n : ℕ) (v : Worker) → (n < limit → P (record v { spare = v.spare ++ (0, n) ∷ [] })) → (limit ≤ n → P (record v { past = v.past ++ (0, n) ∷ [] })) → P (after_draw 0 limit n v)
draw_case P limit n v below past = go (nat_lt n limit) refl
  where
    go : (b : Bool) → nat_lt n limit ≡ b → P (cond b (record v { spare = v.spare ++ (0, n) ∷ [] }) (record v { past = v.past ++ (0, n) ∷ [] }))
    go true e = below (grind (arith, nat_tests))
    go false e = past (grind (arith, nat_tests))

dry-more : (n : ℕ) (v : Worker) → is_dry (record v { past = v.past ++ (0, n) ∷ [] }) ≡ true
dry-more n v = let s = firsts-snoc 0 v.past (0, n) in let h : 0 < firsts 0 (v.past ++ (0, n) ∷ []) = omega arith in grind (arith, nat_tests)

-- a draw of a ticket past the stock
pub drawn-past : (v w : Worker) (limit n : ℕ) → w ≡ after_draw 0 limit n v → limit ≤ n → (w.share ≡ v.share) × (w.spare ≡ v.spare) × (w.told ≡ v.told) × (true ≡ is_dry w)
drawn-past v w limit n e past =
    let P : Worker → Type 0 = λ w. (w.share ≡ v.share) × (w.spare ≡ v.spare) × (w.told ≡ v.told) × (true ≡ is_dry w) in
    subst P (sym e) (draw_case P limit n v (λ below. absurd (omega arith)) (λ _. (refl, refl, refl, sym (dry-more n v))))

-- a draw of a spare
pub drawn-spare : (v w : Worker) (limit n : ℕ) → w ≡ after_draw 0 limit n v → n < limit → v.spare ≡ [] → (w.share ≡ v.share) × (w.spare ≡ (0, n) ∷ []) × (w.told ≡ v.told) × (is_dry w ≡ is_dry v)
drawn-spare v w limit n e below none =
    let P : Worker → Type 0 = λ w. (w.share ≡ v.share) × (w.spare ≡ (0, n) ∷ []) × (w.told ≡ v.told) × (is_dry w ≡ is_dry v) in
    subst P (sym e) (draw_case P limit n v (λ _. (refl, ap (λ l. l ++ (0, n) ∷ []) none, refl, refl)) (λ past. absurd (omega arith)))

-- the exchange that wins, and the one that loses
pub tried-link : (v w : Worker) (i t n word : ℕ) → w ≡ after_try 0 i t n word v → word ≡ 0 → v.spare ≡ (0, t) ∷ []
    → (w.share ≡ v.share) × (w.spare ≡ []) × (w.told ≡ v.told) × (is_dry w ≡ is_dry v)
tried-link v w i t n word e empty spare =
    let P : Worker → Type 0 = λ w. (w.share ≡ v.share) × (w.spare ≡ []) × (w.told ≡ v.told) × (is_dry w ≡ is_dry v) in
    subst P (sym e) (found_case P word (after_link 0 i t n v) (after_see i (word - 1) v) (λ _. (refl, ap (λ l. without 0 l) spare, refl, refl)) (λ full. absurd (full empty)))

pub tried-see : (v w : Worker) (i t n word : ℕ) → w ≡ after_try 0 i t n word v → word ≢ 0 → (w.share ≡ v.share) × (w.spare ≡ v.spare) × (w.told ≡ v.told) × (is_dry w ≡ is_dry v)
tried-see v w i t n word e full =
    let P : Worker → Type 0 = λ w. (w.share ≡ v.share) × (w.spare ≡ v.spare) × (w.told ≡ v.told) × (is_dry w ≡ is_dry v) in
    subst P (sym e) (found_case P word (after_link 0 i t n v) (after_see i (word - 1) v) (λ empty. absurd (full empty)) (λ _. (refl, refl, refl, refl)))

-- a seat that is dry stays so
pub look-dry : (v w : Worker) (i word : ℕ) → w ≡ after_look i word v → is_dry w ≡ is_dry v
look-dry v w i word e = subst (λ w. is_dry w ≡ is_dry v) (sym e) (found_case (λ w. is_dry w ≡ is_dry v) word (after_miss i v) (after_see i (word - 1) v) (λ _. refl) (λ _. refl))

pub try-dry : (v w : Worker) (i t n word : ℕ) → w ≡ after_try 0 i t n word v → is_dry w ≡ is_dry v
try-dry v w i t n word e = subst (λ w. is_dry w ≡ is_dry v) (sym e) (found_case (λ w. is_dry w ≡ is_dry v) word (after_link 0 i t n v) (after_see i (word - 1) v) (λ _. refl) (λ _. refl))

pub provided-dry : (v w : Worker) → Provided v w → is_dry v ≡ true → is_dry w ≡ true
provided-dry v w (inl same) dry = ap (λ v. is_dry v) same ∙ dry
provided-dry v w (inr drawn) dry =
    subst (λ w. is_dry w ≡ true) (sym drawn.1) (draw_case (λ w. is_dry w ≡ true) (slice_index v.told 0) drawn.0 v (λ _. dry) (λ _. dry-more drawn.0 v))

pub asked-dry : (v a b w : Worker) (i word j t n word' : ℕ) → a ≡ after_look i word v → Provided a b → w ≡ after_try 0 j t n word' b → is_dry v ≡ true → is_dry w ≡ true
asked-dry v a b w i word j t n word' e p e' dry = try-dry b w j t n word' e' ∙ provided-dry a b p (look-dry v a i word e ∙ dry)

pub dry-join : (v w : Worker) (a b : Bool) → a ≡ is_dry v → b ≡ is_dry w → (a || b) ≡ is_dry (after_join v w)
dry-join v w a b e e' =
    let s = total-append (λ (x : ℕ × ℕ). one (x.0 == 0)) v.past w.past in
    ap (λ a. a || b) e ∙ ap (λ b. is_dry v || b) e' ∙ both (firsts 0 v.past) (firsts 0 w.past) (firsts 0 (v.past ++ w.past)) s
  where
    both : (x y z : ℕ) → z ≡ x + y → (nat_lt 0 x || nat_lt 0 y) ≡ nat_lt 0 z
    both zero y z e = ap (nat_lt 0) (let h : y ≡ z = omega arith in h)
    both (suc x) y z e = let h : 0 < z = omega arith in grind (arith, nat_tests)

-- the spare of a seat stands in its view
pub spare-stands : (t : ℕ) (spare : List (ℕ × ℕ)) → spare ≡ (0, t) ∷ [] → 0 < pairs 0 t spare
spare-stands t spare e = subst (λ l. 0 < pairs 0 t l) (sym e) (pair_cases (λ x. 0 < x + 0) 0 t 0 t (λ _ _. omega arith) (λ miss. absurd (miss refl refl)))
