-- Lists laid one after the other.
use Rattle.std.proofs.Common.{◌≡◌, ◌≢◌, ℕ, ◌+◌, ◌<◌, ◌≤◌, List, [], length, set, get_or, take, refl, sym, ap, ◌∙◌, subst, arith, inl, inr}
use Rattle.std.specs.Prelude.{Some, slice_get, sum_by}
use Rattle.std.proofs.lemmas.Option.{slice_get-get_or}
use Rattle.std.proofs.lemmas.Bool.{cases_eq, cases_lt}
use Rattle.std.proofs.lemmas.List.{get_or-set_same, get_or-set_other, get_or-map, get_or_past, length-map}
use Rattle.std.proofs.lemmas.List.Sums.{sum_by-take-le, sum_by_more, sum_by_more_le}
use Rattle.sg_links.specs.declared.head.Head.{Head}
use Rattle.sg_links.specs.Lists.{Lists}
use Rattle.sg_links.specs.Heads.{numbers_along, lists_of}
use Rattle.sg_links.specs.steps.Rows.{no_head, AreLinked, IsLaid, AreLaid}
use Rattle.sg_links.proofs.Kept.{AreKept}
use Rattle.sg_links.proofs.Uses.{fit_numbers}

-- the lists that a row and heads lead along
abbrev pub seen_of : List ℕ → List Head → Lists
seen_of next heads = record { numbers = length next; lists = lists_of next heads }

pub kept_so : (next : List ℕ) (heads : List Head) → AreLinked next heads (lists_of next heads) → AreKept (seen_of next heads) next heads
kept_so next heads linked = record { linked = linked; numbers = refl }

-- ── One list ──

pub laid_more : (list order : List ℕ) (start n x : ℕ) → ((k : ℕ) → k < n → get_or order (start + k) 0 ≡ get_or list k 0) → x ≡ get_or list n 0 → start + n < length order → (k : ℕ) → k < n + 1 → get_or (set order (start + n) x) (start + k) 0 ≡ get_or list k 0
laid_more list order start n x laid is within k below = elim (cases_eq k n) [
  | inl last ↦
      let here : get_or (set order (start + n) x) (start + n) 0 ≡ x = get_or-set_same order (start + n) x 0 within in
      subst (λ m. get_or (set order (start + n) x) (start + m) 0 ≡ get_or list m 0) (sym last) (here ∙ is)
  | inr other ↦ get_or-set_other order (start + n) (start + k) x 0 (omega arith) ∙ laid k (omega arith)
]

pub front_more : (old order : List ℕ) (start at x : ℕ) → ((k : ℕ) → k < start → get_or order k 0 ≡ get_or old k 0) → start ≤ at → (k : ℕ) → k < start → get_or (set order at x) k 0 ≡ get_or old k 0
front_more old order start at x front behind k below = get_or-set_other order at k x 0 (omega arith) ∙ front k below

-- ── List after list ──

-- one list more, after the others
pub laid_list : (head : ℕ) (lists : List (List ℕ)) (starts rest order after : List ℕ) (end more : ℕ) → AreLaid head lists starts order end → head < length starts → rest ≡ set starts head end → IsLaid (get_or lists head []) end after → ((k : ℕ) → k < end → get_or after k 0 ≡ get_or order k 0) → more ≡ end + length (get_or lists head []) → AreLaid (head + 1) lists rest after more
laid_list head lists starts rest order after end more laid there rest_is last front more_is = record {
  laid = λ i within. elim (cases_eq i head) [
    | inl here ↦ subst (λ j. IsLaid (get_or lists j []) (get_or rest j 0) after) (sym here) (subst (λ s. IsLaid (get_or lists head []) s after) (sym new_start) last)
    | inr other ↦ λ k below.
        let before : i < head = omega arith in
        let same : get_or rest i 0 ≡ get_or starts i 0 = old_start i other in
        let inside : get_or starts i 0 + k < end = laid.within i before k below in
        ap (λ s. get_or after (s + k) 0) same ∙ front (get_or starts i 0 + k) inside ∙ laid.laid i before k below
  ];
  within = λ i within k below. elim (cases_eq i head) [
    | inl here ↦
        let long : length (get_or lists i []) ≡ length (get_or lists head []) = ap (λ j. length (get_or lists j [])) here in
        let start : get_or rest i 0 ≡ end = ap (λ j. get_or rest j 0) here ∙ new_start in
        omega (arith, below, long, start, more_is)
    | inr other ↦
        let inside : get_or starts i 0 + k < end = laid.within i (omega arith) k below in
        omega (arith, inside, old_start i other, more_is)
  ];
}
  where
    new_start : get_or rest head 0 ≡ end
    new_start = ap (λ xs. get_or xs head 0) rest_is ∙ get_or-set_same starts head end 0 there

    old_start : (i : ℕ) → i ≢ head → get_or rest i 0 ≡ get_or starts i 0
    old_start i other = ap (λ xs. get_or xs i 0) rest_is ∙ get_or-set_other starts head i end 0 other

-- there is room for the lists so far and the one after them
pub room_for : (next : List ℕ) (heads : List Head) (head : ℕ) → AreLinked next heads (lists_of next heads) → head < length heads → sum_by length (take head (lists_of next heads)) + length (get_or (lists_of next heads) head []) ≤ length next
room_for next heads head linked there =
    let lists : List (List ℕ) = lists_of next heads in
    let below : head < length lists = omega (arith, linked.as_many) in
    omega (arith, sum_by_more_le {X = List ℕ} length lists head [] below, fit_numbers (seen_of next heads) linked.disjoint)

pub sum_more : (next : List ℕ) (heads : List Head) (head : ℕ) → AreLinked next heads (lists_of next heads) → head < length heads → sum_by length (take (head + 1) (lists_of next heads)) ≡ sum_by length (take head (lists_of next heads)) + length (get_or (lists_of next heads) head [])
sum_more next heads head linked there = sum_by_more {X = List ℕ} length (lists_of next heads) head [] (omega (arith, linked.as_many))

-- a head without numbers leads along no list
pub unused_empty : (next : List ℕ) (heads : List Head) (head : ℕ) → (get_or heads head no_head).len ≡ 0 → get_or (lists_of next heads) head [] ≡ []
unused_empty next heads head none = elim (cases_lt head (length heads)) [
  | inl below ↦
      get_or-map (λ (h : Head). numbers_along next h.first h.len) heads head no_head [] below
      ∙ ap (λ (n : ℕ). numbers_along next (get_or heads head no_head).first n) none
  | inr over ↦
      let many : length (lists_of next heads) ≡ length heads = length-map heads (λ (h : Head). numbers_along next h.first h.len) in
      get_or_past (lists_of next heads) head [] (omega (arith, over, many))
]

-- past the last head there is none
pub past_unused : (heads : List Head) (head : ℕ) → length heads ≤ head → (get_or heads head no_head).len ≡ 0
past_unused heads head over = ap (λ (h : Head). h.len) (get_or_past heads head no_head over)

-- heads without numbers from a place on
pub rest_unused : (heads : List Head) (rest : Head) (end head : ℕ) → ((place : ℕ) (other : Head) → end ≤ place → place < length heads → get_or heads place other ≡ rest) → rest.len ≡ 0 → end ≤ head → (get_or heads head no_head).len ≡ 0
rest_unused heads rest end head same none past = elim (cases_lt head (length heads)) [
  | inl below ↦ ap (λ (h : Head). h.len) (same head no_head past below) ∙ none
  | inr over ↦ past_unused heads head over
]

-- all that is laid stands among so many numbers, and the lists that are not laid are empty
pub all_laid : (next : List ℕ) (heads : List Head) (starts order : List ℕ) (head end : ℕ) → AreLinked next heads (lists_of next heads) → AreLaid head (lists_of next heads) starts order end → end ≡ sum_by length (take head (lists_of next heads)) → ((i : ℕ) → head ≤ i → (get_or heads i no_head).len ≡ 0) → AreLaid (length heads) (lists_of next heads) starts order (length next)
all_laid next heads starts order head end linked laid sum none =
    let lists : List (List ℕ) = lists_of next heads in
    let few : end ≤ length next = omega (arith, sum, sum_by-take-le {X = List ℕ} length lists head, fit_numbers (seen_of next heads) linked.disjoint) in
    record {
      laid = λ i below k inside. elim (cases_lt i head) [
        | inl before ↦ laid.laid i before k inside
        | inr past ↦ absurd (omega (arith, inside, ap length (unused_empty next heads i (none i past))))
      ];
      within = λ i below k inside. elim (cases_lt i head) [
        | inl before ↦ let there : get_or starts i 0 + k < end = laid.within i before k inside in omega (arith, there, few)
        | inr past ↦ absurd (omega (arith, inside, ap length (unused_empty next heads i (none i past))))
      ];
    }

-- ── What is laid is found ──

pub found_laid : (list order : List ℕ) (start k : ℕ) → IsLaid list start order → k < length list → Some (get_or order (start + k) 0) ≡ slice_get list k
found_laid list order start k laid below = ap Some (laid k below) ∙ sym (slice_get-get_or list k 0 below)
