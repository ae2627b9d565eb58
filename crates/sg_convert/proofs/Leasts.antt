-- The best of counts is the first that is least.
use Rattle.std.proofs.Common.{◌≡◌, ◌⊎◌, inl, inr, ℕ, ◌<◌, ◌≤◌, Bool, true, false, cond, ltb, List, [], ◌∷◌, Option, Some, None, refl, sym, ap, subst, arith}
use Rattle.std.specs.List.{AllByRecursion}
use Rattle.std.proofs.lemmas.Bool.{ltb-true, ltb-false}
use Rattle.sg_convert.specs.Advising.{Counted, by_words, best_of}
use Rattle.sg_convert.specs.AdviceLaws.{HasMore, HasNoFewer, IsFirstLeast, BestIsLeast}

abbrev made : ℕ → Option ℕ → Counted
made layout words = record { layout = layout; words = words }

-- one more count in front, which isn't as few
in_front : (count : Counted) (counts : List Counted) (layout words : ℕ) → HasMore words count → IsFirstLeast counts layout words → IsFirstLeast (count ∷ counts) layout words
in_front count counts layout words more first = record {
  before = count ∷ first.before;
  after = first.after;
  there = ap (λ (list : List Counted). count ∷ list) first.there;
  earlier = (more, first.earlier);
  later = first.later;
}

-- the first count of all
at_front : (counts : List Counted) (layout words : ℕ) (found : ℕ × ℕ) → found ≡ (layout, words) → AllByRecursion (HasNoFewer found.1) counts → IsFirstLeast (made layout (Some words) ∷ counts) found.0 found.1
at_front counts layout words found same later =
    let P : ℕ × ℕ → Type 0 = λ p. AllByRecursion (HasNoFewer p.1) counts → IsFirstLeast (made layout (Some words) ∷ counts) p.0 p.1 in
    subst P (sym same) (λ all. record { before = []; after = counts; there = refl; earlier = tt; later = all }) later

-- after a best so far: it stays, or a later count has fewer words
abbrev GoesOn : ℕ × ℕ → ℕ × ℕ → List Counted → Type 0
GoesOn best found counts = ((found ≡ best) × AllByRecursion (HasNoFewer found.1) counts) ⊎ ((found.1 < best.1) × IsFirstLeast counts found.0 found.1)

-- a layout that doesn't fit
past_none : (layout : ℕ) (best found : ℕ × ℕ) (counts : List Counted) → GoesOn best found counts → GoesOn best found (made layout None ∷ counts)
past_none layout best found counts goes = elim goes [
  | inl (same, all) ↦ inl (same, (tt, all))
  | inr (less, first) ↦ inr (less, in_front (made layout None) counts found.0 found.1 tt first)
]

-- a count of no fewer words
past_more : (layout words : ℕ) (best found : ℕ × ℕ) (counts : List Counted) → best.1 ≤ words → GoesOn best found counts → GoesOn best found (made layout (Some words) ∷ counts)
past_more layout words best found counts more goes = elim goes [
  | inl (same, all) ↦ inl (same, (let here : found.1 ≤ words = subst (λ (p : ℕ × ℕ). p.1 ≤ words) (sym same) more in here, all))
  | inr (less, first) ↦ inr (less, in_front (made layout (Some words)) counts found.0 found.1 (let here : found.1 < words = omega arith in here) first)
]

-- a count of fewer words
past_fewer : (layout words : ℕ) (best found : ℕ × ℕ) (counts : List Counted) → words < best.1 → GoesOn (layout, words) found counts → GoesOn best found (made layout (Some words) ∷ counts)
past_fewer layout words best found counts fewer goes = elim goes [
  | inl (same, all) ↦ inr (let here : found.1 < best.1 = subst (λ (p : ℕ × ℕ). p.1 < best.1) (sym same) fewer in here, at_front counts layout words found same all)
  | inr (less, first) ↦ inr (let here : found.1 < best.1 = omega arith in here, in_front (made layout (Some words)) counts found.0 found.1 less first)
]

-- a count, by whether it has fewer words
past_some : (layout words : ℕ) (best found : ℕ × ℕ) (counts : List Counted) → ((next : ℕ × ℕ) → best_of (Some next) counts ≡ Some found → GoesOn next found counts)
    → best_of (by_words (Some best) (Some words) layout) counts ≡ Some found → GoesOn best found (made layout (Some words) ∷ counts)
past_some layout words best found counts below is = by_test (ltb words best.1) refl is where
  by_test : (b : Bool) → ltb words best.1 ≡ b → best_of (cond b (Some (layout, words)) (Some best)) counts ≡ Some found → GoesOn best found (made layout (Some words) ∷ counts)
  by_test true less is = past_fewer layout words best found counts (ltb-true words best.1 less) (below (layout, words) is)
  by_test false more is = past_more layout words best found counts (ltb-false words best.1 more) (below best is)

goes_on : (best found : ℕ × ℕ) (counts : List Counted) → best_of (Some best) counts ≡ Some found → GoesOn best found counts
goes_on best found [] is = inl (let same : found ≡ best = cc in same, tt)
goes_on best found (count ∷ counts) is = by_case count.words refl (λ next. goes_on next found counts) is where
  by_case : (words : Option ℕ) → count.words ≡ words → ((next : ℕ × ℕ) → best_of (Some next) counts ≡ Some found → GoesOn next found counts)
      → best_of (by_words (Some best) words count.layout) counts ≡ Some found → GoesOn best found (count ∷ counts)
  by_case None none below is =
      let whole : made count.layout None ≡ count = ap (made count.layout) (sym none) in
      subst (λ (c : Counted). GoesOn best found (c ∷ counts)) whole (past_none count.layout best found counts (below best is))
  by_case (Some words) some below is =
      let whole : made count.layout (Some words) ≡ count = ap (made count.layout) (sym some) in
      subst (λ (c : Counted). GoesOn best found (c ∷ counts)) whole (past_some count.layout words best found counts below is)

-- the best count of all, where there is one
best_found : (found : ℕ × ℕ) (counts : List Counted) → best_of None counts ≡ Some found → IsFirstLeast counts found.0 found.1
best_found found [] is = absurd (cc)
best_found found (count ∷ counts) is = by_case count.words refl (best_found found counts) is where
  by_case : (words : Option ℕ) → count.words ≡ words → (best_of None counts ≡ Some found → IsFirstLeast counts found.0 found.1)
      → best_of (by_words None words count.layout) counts ≡ Some found → IsFirstLeast (count ∷ counts) found.0 found.1
  by_case None none below is =
      let whole : made count.layout None ≡ count = ap (made count.layout) (sym none) in
      subst (λ (c : Counted). IsFirstLeast (c ∷ counts) found.0 found.1) whole (in_front (made count.layout None) counts found.0 found.1 tt (below is))
  by_case (Some words) some below is =
      let whole : made count.layout (Some words) ≡ count = ap (made count.layout) (sym some) in
      subst (λ (c : Counted). IsFirstLeast (c ∷ counts) found.0 found.1) whole (elim (goes_on (count.layout, words) found counts is) [
        | inl (same, all) ↦ at_front counts count.layout words found same all
        | inr (less, first) ↦ in_front (made count.layout (Some words)) counts found.0 found.1 less first
      ])

pub best_is_least : BestIsLeast
best_is_least counts layout words is = best_found (layout, words) counts is
