-- How long the front of an order is whose members are independent, one member after the other.
use Rattle.std.proofs.Common.{◌≡◌, ℕ, zero, suc, ◌+◌, ◌<◌, ◌≤◌, Bool, true, false, inl, inr, ◌⊎◌, List, [], ◌∷◌, ◌++◌, length, take, Option, Some, None, refl, sym, ap, ◌∙◌, subst, arith}
use Rattle.std.specs.Prelude.{slice_get, slice_index, slice_index_or, Contains}
use Rattle.std.specs.List.{AllPairs, list_all, cons_option}
use Rattle.std.proofs.lemmas.Bool.{and_parts, and_from, both_ways, cases_lt}
use Rattle.std.proofs.lemmas.List.{take_more, length-append}
use Rattle.std.proofs.lemmas.List.Elements.{filter_map-append, Contains-get_or}
use Rattle.sg_words.proofs.Uses.{contains_none, contains_head, contains_rest, contains_cases}
use Rattle.sg_ir.specs.declared.code.KernelCode.{KernelCode}
use Rattle.sg_batch.specs.Batches.{members}
use Rattle.sg_batch.specs.Independent.{are_independent, leaves_alone, AreApart, IsLongestFront}
use Rattle.sg_batch.proofs.Members.{all_at, all_from, fails_at, pairs_last}

-- ---- tests of all

-- one member more
pub members_more : (kernels : List KernelCode) (order : List ℕ) (i number : ℕ) (kernel : KernelCode) → i < length order → number ≡ slice_index order i → slice_get kernels number ≡ Some kernel
    → members kernels (take (i + 1) order) ≡ members kernels (take i order) ++ kernel ∷ []
members_more kernels order i number kernel below is there =
    ap (members kernels) (take_more order i 0 below ∙ ap (λ (n : ℕ). take i order ++ n ∷ []) (sym is))
    ∙ filter_map-append (slice_get kernels) (take i order) (number ∷ [])
    ∙ ap (λ (found : Option KernelCode). members kernels (take i order) ++ cons_option found []) there

all_push : {X : Type 0} (test : X → Bool) (xs : List X) (x : X) → list_all test xs ≡ true → test x ≡ true → list_all test (xs ++ x ∷ []) ≡ true
all_push test [] x all passes = and_from (test x) true passes refl
all_push test (y ∷ xs) x all passes =
    let both = and_parts (test y) (list_all test xs) all in
    and_from (test y) (list_all test (xs ++ x ∷ [])) both.0 (all_push test xs x both.1 passes)

pub all_more : (test : KernelCode → Bool) (kernels : List KernelCode) (order : List ℕ) (i number : ℕ) (kernel : KernelCode) → i < length order → number ≡ slice_index order i → slice_get kernels number ≡ Some kernel
    → list_all test (members kernels (take i order)) ≡ true → test kernel ≡ true → list_all test (members kernels (take (i + 1) order)) ≡ true
all_more test kernels order i number kernel below is there all passes =
    ap (list_all test) (members_more kernels order i number kernel below is there) ∙ all_push test (members kernels (take i order)) kernel all passes

in_members : (kernels : List KernelCode) (kernel : KernelCode) (list : List ℕ) (n : ℕ) → Contains list n → slice_get kernels n ≡ Some kernel → Contains (members kernels list) kernel
in_members kernels kernel [] n has at = absurd (contains_none n has)
in_members kernels kernel (first ∷ list) n has at = by (λ later. in_members kernels kernel list n later at) (contains_cases n first list has) (slice_get kernels first) refl
  where
    by : (Contains list n → Contains (members kernels list) kernel) → (first ≡ n) ⊎ Contains list n → (found : Option KernelCode) → slice_get kernels first ≡ found → Contains (members kernels (first ∷ list)) kernel
    by rest (inl same) found is_found =
        subst (λ (o : Option KernelCode). Contains (cons_option o (members kernels list)) kernel) (sym (ap (slice_get kernels) same ∙ at)) (contains_head kernel kernel (members kernels list) refl)
    by rest (inr later) None is_found = subst (λ (o : Option KernelCode). Contains (cons_option o (members kernels list)) kernel) (sym is_found) (rest later)
    by rest (inr later) (Some other) is_found =
        subst (λ (o : Option KernelCode). Contains (cons_option o (members kernels list)) kernel) (sym is_found) (contains_rest kernel other (members kernels list) (rest later))

pub all_fails : (test : KernelCode → Bool) (kernels : List KernelCode) (order : List ℕ) (i number : ℕ) (kernel : KernelCode) → i < length order → number ≡ slice_index order i → slice_get kernels number ≡ Some kernel
    → test kernel ≡ false → list_all test (members kernels order) ≡ false
all_fails test kernels order i number kernel below is there fails =
    fails_at test (members kernels order) kernel (in_members kernels kernel order number (subst (λ (n : ℕ). Contains order n) (sym is) (Contains-get_or order i 0 below)) there) fails

-- ---- those so far are independent

swapped : (one other : KernelCode) → are_independent one other ≡ true → are_independent other one ≡ true
swapped one other is =
    let both = and_parts (leaves_alone one other) (leaves_alone other one) is in
    and_from (leaves_alone other one) (leaves_alone one other) both.1 both.0

front_of : {X : Type 0} (xs : List X) (y d : X) (n : ℕ) → n < length xs → slice_index_or (xs ++ y ∷ []) n d ≡ slice_index_or xs n d
front_of [] y d n few = absurd (omega (arith, few))
front_of (x ∷ xs) y d zero few = refl
front_of (x ∷ xs) y d (suc n) few = front_of xs y d n (omega (arith, few))

behind_of : {X : Type 0} (xs : List X) (y d : X) → slice_index_or (xs ++ y ∷ []) (length xs) d ≡ y
behind_of [] y d = refl
behind_of (x ∷ xs) y d = behind_of xs y d

item_of : {X : Type 0} (xs : List X) (d : X) (n : ℕ) → n < length xs → Contains xs (slice_index_or xs n d)
item_of [] d n few = absurd (omega (arith, few))
item_of (x ∷ xs) d zero few = contains_head x x xs refl
item_of (x ∷ xs) d (suc n) few = contains_rest (slice_index_or xs n d) x xs (item_of xs d n (omega (arith, few)))

-- one more that is related to all before it
pairs_push : {X : Type 0} (R : X → X → Type 0) (xs : List X) (y : X) → AllPairs R xs → ((x : X) → Contains xs x → R x y) → AllPairs R (xs ++ y ∷ [])
pairs_push {X} R xs y pairs each = λ i j d low below. elim (cases_lt j (length xs)) [
  | inl before ↦ subst (λ (x : X). R x (slice_index_or (xs ++ y ∷ []) j d)) (sym (front_of xs y d i (omega (arith, low, before))))
      (subst (R (slice_index_or xs i d)) (sym (front_of xs y d j before)) (pairs i j d low before))
  | inr past ↦ (
      let long = length-append xs (y ∷ []) in
      let last : j ≡ length xs = omega (arith, below, long, past) in
      subst (λ (x : X). R x (slice_index_or (xs ++ y ∷ []) j d)) (sym (front_of xs y d i (omega (arith, low, last))))
      (subst (R (slice_index_or xs i d)) (sym (ap (λ (n : ℕ). slice_index_or (xs ++ y ∷ []) n d) last ∙ behind_of xs y d)) (each (slice_index_or xs i d) (item_of xs d i (omega (arith, low, last)))))
      )
]

pub apart_none : AreApart []
apart_none i j d low below = absurd (omega (arith, below))

pub apart_more : (list : List KernelCode) (kernel : KernelCode) → AreApart list → list_all (are_independent kernel) list ≡ true → AreApart (list ++ kernel ∷ [])
apart_more list kernel apart all =
    pairs_push (λ one other. are_independent one other ≡ true) list kernel apart (λ other has. swapped kernel other (all_at (are_independent kernel) list other all has))

-- one that isn't independent of all before it doesn't leave them alone
not_longer : (list : List KernelCode) (kernel : KernelCode) → list_all (are_independent kernel) list ≡ false → AreApart (list ++ kernel ∷ []) → ⊥
not_longer list kernel fails apart =
    both_ways (list_all (are_independent kernel) list) fails
    (all_from (are_independent kernel) list (λ other has. swapped other kernel (pairs_last (λ one other. are_independent one other ≡ true) list kernel apart other has)))

module _ (kernels : List KernelCode) (order : List ℕ) (most count : ℕ) (few : count ≤ most) (within : count ≤ length order) (apart : AreApart (members kernels (take count order))) where
  -- a front of as many as may be
  pub longest_full : most ≤ count → IsLongestFront kernels order most count
  longest_full full = record { few = few; within = within; apart = apart; longest = inl (omega (arith, few, full)) }

  -- of all
  pub longest_end : length order ≤ count → IsLongestFront kernels order most count
  longest_end past = record { few = few; within = within; apart = apart; longest = inr (inl (omega (arith, within, past))) }

  -- and before one that touches what one of them writes, or is touched
  pub longest_apart : (number : ℕ) (kernel : KernelCode) → count < length order → number ≡ slice_index order count → slice_get kernels number ≡ Some kernel
      → list_all (are_independent kernel) (members kernels (take count order)) ≡ false → IsLongestFront kernels order most count
  longest_apart number kernel below is there fails = record {
    few = few;
    within = within;
    apart = apart;
    longest = inr (inr (λ longer. not_longer (members kernels (take count order)) kernel fails (subst AreApart (members_more kernels order count number kernel below is there) longer)));
  }

-- the front of none
pub longest_none : (kernels : List KernelCode) (order : List ℕ) (most : ℕ) → length order ≡ 0 → IsLongestFront kernels order most 0
longest_none kernels order most none = longest_end kernels order most 0 (omega arith) (omega arith) apart_none (omega (arith, none))
