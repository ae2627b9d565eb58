-- Rows of items in columns: how they are made longer, and given items.
use Rattle.std.proofs.Common.{◌≡◌, ℕ, zero, suc, ◌+◌, ◌*◌, ◌/◌, ◌%◌, ◌<◌, ◌≤◌, inl, inr, arith, Bool, true, false, cond, eqb, List, [], ◌∷◌, ◌++◌, length, get_or, Some, refl, sym, ap, ◌∙◌, subst}
use Rattle.std.specs.Prelude.{◌⊎◌, ◌==◌, not, if◌then◌else◌, replicate, slice_get, slice_set}
use Rattle.std.proofs.lemmas.Bool.{cases_eq, ne_eqb}
use Rattle.std.proofs.lemmas.List.{get_or-set_same, get_or-set_other, length-set}
use Rattle.std.proofs.lemmas.Option.{slice_get-get_or, get_or_from_slice_get}
use Rattle.std.proofs.lemmas.Simd.{length-zip2, length-sel_l, length-replicate, length-chunk, length-put_chunk, get_or-sel_l, get_or-zip2, get_or-replicate, get_or-chunk, get_or-put_chunk_at, get_or-put_chunk_below, get_or-put_chunk_above}
use lib.Lanes.{zip2, sel_l, chunk, put_chunk}
use Rattle.sg_exec.specs.steps.Rows.{item_in, is_on, On, Before, IsPut}

-- one more item that is as those past the end
pub get_or-more : {A : Type 0} (items : List A) (none : A) (number : ℕ) → get_or (items ++ none ∷ []) number none ≡ get_or items number none
get_or-more [] none zero = refl
get_or-more [] none (suc number) = refl
get_or-more (item ∷ items) none zero = refl
get_or-more (item ∷ items) none (suc number) = get_or-more items none number

-- ---- a list with one item replaced

pub set_same : {X : Type 0} (xs : List X) (k : ℕ) (x : X) → k < length xs → slice_get (slice_set xs k x) k ≡ Some x
set_same [] k x below = absurd (omega arith)
set_same (y ∷ ys) zero x below = refl
set_same (y ∷ ys) (suc k) x below = set_same ys k x (omega arith)

pub set_other : {X : Type 0} (xs : List X) (k j : ℕ) (x : X) → (j ≡ k → ⊥) → slice_get (slice_set xs k x) j ≡ slice_get xs j
set_other [] k j x apart = refl
set_other (y ∷ ys) zero zero x apart = absurd (apart refl)
set_other (y ∷ ys) zero (suc j) x apart = refl
set_other (y ∷ ys) (suc k) zero x apart = refl
set_other (y ∷ ys) (suc k) (suc j) x apart = set_other ys k j x (λ same. apart (ap suc same))

-- ---- lists of which all items are none

pub reset_next : {A : Type 0} (items : List A) (none : A) (place : ℕ) → place < length items → ((n : ℕ) → n < place → get_or items n none ≡ none)
    → (n : ℕ) → n < place + 1 → get_or (slice_set items place none) n none ≡ none
reset_next items none place below done n early = elim (cases_eq n place) [
  | inl here ↦ ap (λ (k : ℕ). get_or (slice_set items place none) k none) here ∙ get_or-set_same items place none none below
  | inr there ↦ get_or-set_other items place n none none there ∙ done n (omega (arith, early, there))
]

pub past : {A : Type 0} (items : List A) (none : A) (n : ℕ) → length items ≤ n → get_or items n none ≡ none
past [] none zero long = refl
past [] none (suc n) long = refl
past (item ∷ items) none zero long = absurd (omega (arith, long))
past (item ∷ items) none (suc n) long = past items none n (omega (arith, long))

pub below_or_past : (n m : ℕ) → (n < m) ⊎ (m ≤ n)
below_or_past zero zero = inr (omega arith)
below_or_past zero (suc m) = inl (omega arith)
below_or_past (suc n) zero = inr (omega arith)
below_or_past (suc n) (suc m) = elim (below_or_past n m) [
  | inl low ↦ inl (omega (arith, low))
  | inr high ↦ inr (omega (arith, high))
]

pub reset_done : {A : Type 0} (items : List A) (none : A) (place : ℕ) → length items ≤ place → ((n : ℕ) → n < place → get_or items n none ≡ none) → (n : ℕ) → get_or items n none ≡ none
reset_done items none place all done n = elim (below_or_past n (length items)) [
  | inl low ↦ done n (omega (arith, low, all))
  | inr high ↦ past items none n high
]

-- an item that was read, with any item for what is past the end
pub item_got : {A : Type 0} (items : List A) (place : ℕ) (none item : A) → place < length items → item ≡ get_or items place item → item ≡ get_or items place none
item_got items place none item below is = is ∙ sym (get_or_from_slice_get items place (get_or items place item) none (slice_get-get_or items place item below))

-- ---- lanes of masks

pub lane_cases : (b : Bool) → (b ≡ true) ⊎ (b ≡ false)
lane_cases true = inl refl
lane_cases false = inr refl

pub zero_isnt_on : (lane : ℕ) → lane ≡ 0 → not (lane == 0) ≡ true → ⊥
zero_isnt_on lane is on = no_zero (sym (ap (λ (x : ℕ). not (x == 0)) is) ∙ on)
  where
    no_zero : false ≡ true → ⊥
    no_zero h = absurd (cc)

pub other_is_on : (lane : ℕ) → (lane ≡ 0 → ⊥) → not (lane == 0) ≡ false → ⊥
other_is_on lane isnt off = by_test (lane == 0) (ne_eqb lane 0 isnt) off
  where
    by_test : (b : Bool) → b ≡ false → not b ≡ false → ⊥
    by_test true is off = absurd (cc)
    by_test false is off = absurd (cc)

pub isnt_on : (lanes : List ℕ) (k : ℕ) → (On lanes k → ⊥) → is_on lanes k ≡ false
isnt_on lanes k off = elim (lane_cases (is_on lanes k)) [
  | inl on ↦ absurd (off on)
  | inr is ↦ is
]

pub on_or_not : (lanes : List ℕ) (k : ℕ) → On lanes k ⊎ (On lanes k → ⊥)
on_or_not lanes k = elim (lane_cases (is_on lanes k)) [
  | inl on ↦ inl on
  | inr is ↦ inr (λ (on : On lanes k). absurd (true_or_false (is_on lanes k) on is))
]
  where
    true_or_false : (b : Bool) → b ≡ true → b ≡ false → ⊥
    true_or_false true p q = absurd (cc)
    true_or_false false p q = absurd (cc)

pub on_below : (lanes : List ℕ) (k : ℕ) → length lanes ≡ 32 → On lanes k → k < 32
on_below lanes k long on = elim (below_or_past k 32) [
  | inl low ↦ low
  | inr high ↦ absurd (zero_isnt_on (get_or lanes k 0) (past lanes 0 k (omega (arith, high, long))) on)
]

-- ---- a row in some columns

-- an item of another row or column
pub other_item : {A : Type 0} (Holds : ℕ → A → Type 0) (on : ℕ → Type 0) (to : ℕ) (none : A) (old new : List A) (k row : ℕ) → IsPut Holds on to none old new → k < 32 → ((row ≡ to) × on k → ⊥)
    → item_in new none k row ≡ item_in old none k row
other_item Holds on to none old new k row put small other = put.others k row small other

pub put_none : {A : Type 0} (Holds : ℕ → A → Type 0) (on : ℕ → Type 0) (to : ℕ) (none : A) (items : List A) → IsPut Holds (Before on 0) to none items items
put_none Holds on to none items = record {
  long = refl;
  there = λ k small before. absurd (omega (arith, before.1));
  others = λ k row small other. refl;
}

-- the item of a row in a column that hasn't been put yet
pub still : {A : Type 0} (Holds : ℕ → A → Type 0) (on : ℕ → Type 0) (at to : ℕ) (none : A) (old now : List A) (row : ℕ) → at < 32 → IsPut Holds (Before on at) to none old now → item_in now none at row ≡ item_in old none at row
still Holds on at to none old now row below so = so.others at row below (λ (it : (row ≡ to) × Before on at at). absurd (omega (arith, it.1.1)))

-- one of two items by a lane
set_item : {A : Type 0} (zero_lane : Bool) (old new : A) → not zero_lane ≡ true → (if zero_lane then old else new) ≡ new
set_item true old new on = absurd (cc)
set_item false old new on = refl

unset_item : {A : Type 0} (zero_lane : Bool) (old new : A) → not zero_lane ≡ false → (if zero_lane then old else new) ≡ old
unset_item true old new off = refl
unset_item false old new off = absurd (cc)

-- the next column: the item that was there if its lane is 0, and else one of which something holds
pub put_next : {A : Type 0} (Holds : ℕ → A → Type 0) (lanes : List ℕ) (at to : ℕ) (none : A) (old now : List A) (item given : A) → at < 32 → to * 32 + 32 ≤ length now → IsPut Holds (Before (On lanes) at) to none old now
    → item ≡ (if get_or lanes at 0 == 0 then item_in now none at to else given) → (is_on lanes at ≡ true → Holds at given)
    → IsPut Holds (Before (On lanes) (at + 1)) to none old (slice_set now (to * 32 + at) item)
put_next {A} Holds lanes at to none old now item given below room so item_is holds = record {
  long = length-set now (to * 32 + at) item ∙ so.long;
  there = λ k small before. elim (cases_eq k at) [
    | inl here ↦ (
        let place : to * 32 + k ≡ to * 32 + at = omega (arith, here) in
        let on : is_on lanes at ≡ true = sym (ap (is_on lanes) here) ∙ before.0 in
        let is : get_or (slice_set now (to * 32 + at) item) (to * 32 + k) none ≡ given =
        ap (λ (n : ℕ). get_or (slice_set now (to * 32 + at) item) n none) place ∙ get_or-set_same now (to * 32 + at) item none (omega (arith, below, room))
        ∙ item_is ∙ set_item (get_or lanes at 0 == 0) (item_in now none at to) given on in
        subst (Holds k) (sym is) (subst (λ (n : ℕ). Holds n given) (sym here) (holds on))
        )
    | inr elsewhere ↦ (
        let is : get_or (slice_set now (to * 32 + at) item) (to * 32 + k) none ≡ get_or now (to * 32 + k) none =
        get_or-set_other now (to * 32 + at) (to * 32 + k) item none (λ (same : to * 32 + k ≡ to * 32 + at). elsewhere (omega (arith, same))) in
        subst (Holds k) (sym is) (so.there k small (before.0, omega (arith, before.1, elsewhere)))
        )
  ];
  others = λ k row small other. elim (cases_eq (row * 32 + k) (to * 32 + at)) [
    | inl same ↦ (
        let same_row : row ≡ to = omega (arith, same, small, below) in
        let same_column : k ≡ at = omega (arith, same, small, below) in
        let off : is_on lanes at ≡ false = isnt_on lanes at (λ (on : On lanes at). other (same_row, (ap (is_on lanes) same_column ∙ on, omega (arith, same_column)))) in
        ap (λ (n : ℕ). get_or (slice_set now (to * 32 + at) item) n none) same ∙ get_or-set_same now (to * 32 + at) item none (omega (arith, below, room))
        ∙ item_is ∙ unset_item (get_or lanes at 0 == 0) (item_in now none at to) given off ∙ sym (ap (λ (n : ℕ). get_or now n none) same)
        ∙ so.others k row small (λ (it : (row ≡ to) × Before (On lanes) at k). absurd (omega (arith, same_column, it.1.1)))
        )
    | inr apart ↦ get_or-set_other now (to * 32 + at) (row * 32 + k) item none apart
        ∙ so.others k row small (λ (it : (row ≡ to) × Before (On lanes) at k). other (it.0, (it.1.0, omega (arith, it.1.1))))
  ];
}

-- all columns
pub put_end : {A : Type 0} (Holds : ℕ → A → Type 0) (on : ℕ → Type 0) (at to : ℕ) (none : A) (old now : List A) → 32 ≤ at → IsPut Holds (Before on at) to none old now → IsPut Holds on to none old now
put_end Holds on at to none old now whole so = record {
  long = so.long;
  there = λ k small is. so.there k small (is, omega (arith, small, whole));
  others = λ k row small other. so.others k row small (λ (it : (row ≡ to) × Before on at k). other (it.0, it.1.0));
}

-- what holds of each item that was put may be said otherwise
pub put_so : {A : Type 0} (Holds Other : ℕ → A → Type 0) (on : ℕ → Type 0) (to : ℕ) (none : A) (old new : List A) → ((k : ℕ) (item : A) → k < 32 → on k → Holds k item → Other k item) → IsPut Holds on to none old new
    → IsPut Other on to none old new
put_so Holds Other on to none old new so put = record {
  long = put.long;
  there = λ k small is. so k (item_in new none k to) small is (put.there k small is);
  others = put.others;
}

-- what holds of each item before, and of each that was put, holds of each afterwards
pub put_all : {A : Type 0} (Good : A → Type 0) (Holds : ℕ → A → Type 0) (lanes : List ℕ) (to : ℕ) (none : A) (old new : List A) → IsPut Holds (On lanes) to none old new → ((k : ℕ) (item : A) → Holds k item → Good item)
    → ((place : ℕ) → Good (get_or old place none)) → (place : ℕ) → Good (get_or new place none)
put_all Good Holds lanes to none old new put so before place =
    let k : ℕ = place % 32 in
    let row : ℕ = place / 32 in
    let small : k < 32 = omega arith in
    let is : row * 32 + k ≡ place = omega arith in
    subst (λ (n : ℕ). Good (get_or new n none)) is
    (elim (cases_eq row to) [
      | inl same ↦ elim (on_or_not lanes k) [
        | inl on ↦ subst (λ (r : ℕ). Good (item_in new none k r)) (sym same) (so k (item_in new none k to) (put.there k small on))
        | inr off ↦ subst Good (sym (put.others k row small (λ (it : (row ≡ to) × On lanes k). off it.1))) (before (row * 32 + k))
      ]
      | inr other ↦ subst Good (sym (put.others k row small (λ (it : (row ≡ to) × On lanes k). other it.0))) (before (row * 32 + k))
    ])

-- ---- rows of words, stored at once

-- what is stored: the old word where the mask's lane is 0, else the new one
abbrev pub mixed : List ℕ → List ℕ → List ℕ → List ℕ
mixed lanes news olds = sel_l {A = ℕ} (zip2 eqb lanes (replicate 32 0)) olds news

pub mixed_long : (lanes news olds : List ℕ) → length lanes ≡ 32 → length news ≡ 32 → length olds ≡ 32 → length (mixed lanes news olds) ≡ 32
mixed_long lanes news olds a b c =
    let t : length (zip2 {C = Bool} eqb lanes (replicate 32 0)) ≡ length lanes = length-zip2 eqb lanes (replicate 32 0) (omega (arith, a, length-replicate {A = ℕ} 32 0)) in
    omega (arith, a, t, length-sel_l (zip2 {C = Bool} eqb lanes (replicate 32 0)) olds news (omega (arith, a, t, c)) (omega (arith, a, t, b)))

pub mixed_at : (lanes news olds : List ℕ) (k : ℕ) → k < 32 → length lanes ≡ 32 → length news ≡ 32 → length olds ≡ 32
    → get_or (mixed lanes news olds) k 0 ≡ cond (get_or lanes k 0 == 0) (get_or olds k 0) (get_or news k 0)
mixed_at lanes news olds k small a b c =
    let t : length (zip2 {C = Bool} eqb lanes (replicate 32 0)) ≡ length lanes = length-zip2 eqb lanes (replicate 32 0) (omega (arith, a, length-replicate {A = ℕ} 32 0)) in
    get_or-sel_l (zip2 {C = Bool} eqb lanes (replicate 32 0)) olds news k 0 (omega (arith, small, a, t)) (omega (arith, small, c)) (omega (arith, small, b))
    ∙ ap (λ (m : Bool). cond m (get_or olds k 0) (get_or news k 0))
    (get_or-zip2 eqb lanes (replicate 32 0) k 0 0 false (omega (arith, small, a)) (omega (arith, small, length-replicate {A = ℕ} 32 0))
    ∙ ap (λ (z : ℕ). eqb (get_or lanes k 0) z) (get_or-replicate 32 k 0 0 small))

on_is : (b : Bool) (x y : ℕ) → not b ≡ true → cond b x y ≡ y
on_is true x y h = absurd (cc)
on_is false x y h = refl

off_is : (b : Bool) (x y : ℕ) → (not b ≡ true → ⊥) → cond b x y ≡ x
off_is true x y h = refl
off_is false x y h = absurd (h refl)

-- a row that was stored under a mask
pub stored_on : (Holds : ℕ → ℕ → Type 0) (lanes news old : List ℕ) (to : ℕ) → length lanes ≡ 32 → length news ≡ 32 → to * 32 + 32 ≤ length old → ((k : ℕ) → k < 32 → Holds k (get_or news k 0))
    → IsPut Holds (On lanes) to 0 old (put_chunk (to * 32) old (mixed lanes news (chunk (to * 32) 32 old)))
stored_on Holds lanes news old to a b room holds =
    let c : length (chunk (to * 32) 32 old) ≡ 32 = length-chunk (to * 32) 32 old (omega (arith, room)) in
    let m : length (mixed lanes news (chunk (to * 32) 32 old)) ≡ 32 = mixed_long lanes news (chunk (to * 32) 32 old) a b c in
    let at : (k : ℕ) → k < 32 → get_or (put_chunk (to * 32) old (mixed lanes news (chunk (to * 32) 32 old))) (to * 32 + k) 0 ≡ cond (get_or lanes k 0 == 0) (get_or old (to * 32 + k) 0) (get_or news k 0) =
    λ k small. get_or-put_chunk_at (to * 32) old (mixed lanes news (chunk (to * 32) 32 old)) k 0 (omega (arith, small, m)) (omega (arith, m, room))
    ∙ mixed_at lanes news (chunk (to * 32) 32 old) k small a b c
    ∙ ap (λ (x : ℕ). cond (get_or lanes k 0 == 0) x (get_or news k 0)) (get_or-chunk (to * 32) 32 old k 0 small) in
    record {
      long = length-put_chunk (to * 32) old (mixed lanes news (chunk (to * 32) 32 old));
      there = λ k small on. subst (Holds k) (sym (at k small ∙ on_is (get_or lanes k 0 == 0) (get_or old (to * 32 + k) 0) (get_or news k 0) on)) (holds k small);
      others = λ k row small other. elim (cases_eq row to) [
        | inl same ↦ (
            let here : item_in (put_chunk (to * 32) old (mixed lanes news (chunk (to * 32) 32 old))) 0 k to ≡ item_in old 0 k to =
            at k small ∙ off_is (get_or lanes k 0 == 0) (get_or old (to * 32 + k) 0) (get_or news k 0) (λ (on : On lanes k). other (same, on)) in
            ap (λ (r : ℕ). item_in (put_chunk (to * 32) old (mixed lanes news (chunk (to * 32) 32 old))) 0 k r) same ∙ here ∙ ap (λ (r : ℕ). item_in old 0 k r) (sym same)
            )
        | inr apart ↦ elim (below_or_past row to) [
          | inl low ↦ get_or-put_chunk_below (to * 32) old (mixed lanes news (chunk (to * 32) 32 old)) (row * 32 + k) 0 (omega (arith, low, small))
          | inr high ↦ get_or-put_chunk_above (to * 32) old (mixed lanes news (chunk (to * 32) 32 old)) (row * 32 + k) 0 (omega (arith, high, apart, m))
        ]
      ];
    }

-- a row that was stored whole, where all columns take part
pub stored_all : (Holds : ℕ → ℕ → Type 0) (on : ℕ → Type 0) (news old : List ℕ) (to : ℕ) → length news ≡ 32 → to * 32 + 32 ≤ length old → ((k : ℕ) → k < 32 → on k) → ((k : ℕ) → k < 32 → Holds k (get_or news k 0))
    → IsPut Holds on to 0 old (put_chunk (to * 32) old news)
stored_all Holds on news old to b room whole holds = record {
  long = length-put_chunk (to * 32) old news;
  there = λ k small is. subst (Holds k) (sym (get_or-put_chunk_at (to * 32) old news k 0 (omega (arith, small, b)) (omega (arith, b, room)))) (holds k small);
  others = λ k row small other. elim (cases_eq row to) [
    | inl same ↦ absurd (other (same, whole k small))
    | inr apart ↦ elim (below_or_past row to) [
      | inl low ↦ get_or-put_chunk_below (to * 32) old news (row * 32 + k) 0 (omega (arith, low, small))
      | inr high ↦ get_or-put_chunk_above (to * 32) old news (row * 32 + k) 0 (omega (arith, high, apart, b))
    ]
  ];
}
