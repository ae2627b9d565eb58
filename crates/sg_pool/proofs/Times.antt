-- How often numbers stand in a range, and in what a sweep leaves of a list.
use Rattle.std.proofs.Common.{◌≡◌, ◌≢◌, ℕ, zero, suc, ◌+◌, ◌<◌, ◌≤◌, Bool, true, false, not, cond, List, [], ◌∷◌, length, get_or, refl, sym, ap, ◌∙◌, subst, arith, inl, inr}
use Rattle.std.specs.List.{All, Contains, AllPairs, range_with_len}
use Rattle.std.proofs.lemmas.Bool.{cases_Bool, cases_eq, false≢true}
use Rattle.sg_words.proofs.Uses.{contains_head, contains_rest}
use Rattle.sg_links.specs.Lists.{times}
use Rattle.sg_links.proofs.Uses.{times-cons, times_same, times_other}
use Rattle.sg_pool.specs.steps.Kept.{dead_in}

-- ── Ranges ──

pub range_before : (x m k : ℕ) → x < m → times x (range_with_len m k) ≡ 0
range_before x m zero below = refl
range_before x m (suc k) below =
    times_other x m (range_with_len (m + 1) k) (λ e. omega arith) ∙ range_before x (m + 1) k (omega arith)

pub range_past : (x m k : ℕ) → m + k ≤ x → times x (range_with_len m k) ≡ 0
range_past x m zero past = refl
range_past x m (suc k) past =
    times_other x m (range_with_len (m + 1) k) (λ e. omega arith) ∙ range_past x (m + 1) k (omega arith)

pub range_within : (x m k : ℕ) → m ≤ x → x < m + k → times x (range_with_len m k) ≡ 1
range_within x m zero first last = absurd (omega arith)
range_within x m (suc k) first last = elim (cases_eq m x) [
  | inl same ↦
      let one : times x (x ∷ range_with_len (m + 1) k) ≡ 1 + times x (range_with_len (m + 1) k) = times_same x (range_with_len (m + 1) k) in
      let none : times x (range_with_len (m + 1) k) ≡ 0 = range_before x (m + 1) k (omega arith) in
      subst (λ (y : ℕ). times x (y ∷ range_with_len (m + 1) k) ≡ 1) (sym same) (omega arith)
  | inr other ↦ times_other x m (range_with_len (m + 1) k) other ∙ range_within x (m + 1) k (omega arith) (omega arith)
]

-- ── What a sweep leaves ──

swept : (live : List Bool) (y : ℕ) (ys : List ℕ) → get_or live y false ≡ true → dead_in live (y ∷ ys) ≡ dead_in live ys
swept live y ys on = ap (λ b. cond (not b) (y ∷ dead_in live ys) (dead_in live ys)) on

left : (live : List Bool) (y : ℕ) (ys : List ℕ) → get_or live y false ≡ false → dead_in live (y ∷ ys) ≡ y ∷ dead_in live ys
left live y ys off = ap (λ b. cond (not b) (y ∷ dead_in live ys) (dead_in live ys)) off

-- a live number isn't left
pub dead_live : (live : List Bool) (x : ℕ) (xs : List ℕ) → get_or live x false ≡ true → times x (dead_in live xs) ≡ 0
dead_live live x [] on = refl
dead_live live x (y ∷ ys) on = elim (cases_Bool (get_or live y false)) [
  | inl y_on ↦ ap (times x) (swept live y ys y_on) ∙ dead_live live x ys on
  | inr y_off ↦
      let apart : y ≢ x = λ e. false≢true (sym y_off ∙ ap (λ k. get_or live k false) e ∙ on) in
      ap (times x) (left live y ys y_off) ∙ times_other x y (dead_in live ys) apart ∙ dead_live live x ys on
]

-- and one that isn't live is left as often as it stood there
pub dead_dead : (live : List Bool) (x : ℕ) (xs : List ℕ) → get_or live x false ≡ false → times x (dead_in live xs) ≡ times x xs
dead_dead live x [] off = refl
dead_dead live x (y ∷ ys) off = elim (cases_Bool (get_or live y false)) [
  | inl y_on ↦
      let apart : y ≢ x = λ e. false≢true (sym off ∙ sym (ap (λ k. get_or live k false) e) ∙ y_on) in
      ap (times x) (swept live y ys y_on) ∙ dead_dead live x ys off ∙ sym (times_other x y ys apart)
  | inr y_off ↦ omega (arith, ap (times x) (left live y ys y_off), times-cons x y (dead_in live ys), times-cons x y ys, dead_dead live x ys off)
]

-- so no number is left more often
pub dead_least : (live : List Bool) (x : ℕ) (xs : List ℕ) → times x (dead_in live xs) ≤ times x xs
dead_least live x xs = elim (cases_Bool (get_or live x false)) [
  | inl on ↦ omega (arith, dead_live live x xs on)
  | inr off ↦ omega (arith, dead_dead live x xs off)
]

-- live numbers alone leave nothing, and others stay
pub dead_none : (live : List Bool) (xs : List ℕ) → All (λ x. get_or live x false ≡ true) xs → dead_in live xs ≡ []
dead_none live [] on = refl
dead_none live (y ∷ ys) on = swept live y ys (on 0 0 (omega arith)) ∙ dead_none live ys (λ i d below. on (suc i) d (omega (arith, below)))

pub dead_all : (live : List Bool) (xs : List ℕ) → ((x : ℕ) → 0 < times x xs → get_or live x false ≡ false) → dead_in live xs ≡ xs
dead_all live [] off = refl
dead_all live (y ∷ ys) off =
    left live y ys (off y (omega (arith, times_same y ys)))
    ∙ ap (λ (zs : List ℕ). y ∷ zs) (dead_all live ys (λ x some. off x (omega (arith, times-cons x y ys, some))))

-- ── Members of a list, by how often they stand there ──

pub has_times : (x : ℕ) (xs : List ℕ) → Contains xs x → 0 < times x xs
has_times x [] (k, below, same) = absurd (omega arith)
has_times x (y ∷ ys) (zero, below, same) =
    subst (λ (z : ℕ). 0 < times x (z ∷ ys)) (sym same) (omega (arith, times_same x ys))
has_times x (y ∷ ys) (suc k, below, same) = omega (arith, times-cons x y ys, has_times x ys (k, omega arith, same))

pub times_has : (x : ℕ) (xs : List ℕ) → 0 < times x xs → Contains xs x
times_has x [] stands = absurd (omega arith)
times_has x (y ∷ ys) stands = elim (cases_eq y x) [
  | inl same ↦ contains_head x y ys same
  | inr other ↦ contains_rest x y ys (times_has x ys (omega (arith, times_other x y ys other)))
]

-- if no number stands twice each stands once
pub once_by_times : (xs : List ℕ) → ((x : ℕ) → times x xs ≤ 1) → AllPairs (λ x y. x ≢ y) xs
once_by_times [] few i j d before below = absurd (omega arith)
once_by_times (y ∷ ys) few zero zero d before below = absurd (omega arith)
once_by_times (y ∷ ys) few zero (suc j) d before below = λ e.
    let there : Contains ys (get_or ys j d) = (j, omega arith, subst_read ys j d (omega arith)) in
    let again : 0 < times y ys = subst (λ (z : ℕ). 0 < times z ys) (sym e) (has_times (get_or ys j d) ys there) in
    absurd (omega (arith, times_same y ys, few y))
  where
    subst_read : (zs : List ℕ) (k d : ℕ) → k < length zs → get_or zs k (get_or zs k d) ≡ get_or zs k d
    subst_read [] k d short = absurd (omega arith)
    subst_read (z ∷ zs) zero d short = refl
    subst_read (z ∷ zs) (suc k) d short = subst_read zs k d (omega arith)
once_by_times (y ∷ ys) few (suc i) zero d before below = absurd (omega arith)
once_by_times (y ∷ ys) few (suc i) (suc j) d before below =
    once_by_times ys (λ x. omega (arith, times-cons x y ys, few x)) i j d (omega arith) (omega arith)
