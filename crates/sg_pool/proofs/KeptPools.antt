-- The fields of a pool, kept by each of its calls.
use Rattle.std.proofs.Common.{◌≡◌, ℕ, zero, suc, ◌+◌, ◌-◌, ◌<◌, ◌≤◌, ◌^◌, Bool, false, List, [], ◌∷◌, ◌++◌, length, get_or, drop, replicate, Some, None, refl, sym, ap, ◌∙◌, subst, arith}
use Rattle.std.specs.Prelude.{slice_get}
use Rattle.std.specs.List.{range_with_len}
use Rattle.std.proofs.lemmas.List.{length-set, length-replicate}
use Rattle.sg_links.specs.Lists.{Lists, list_of, with_list, empty_lists, times, times_in_lists}
use Rattle.sg_links.proofs.Uses.{stands}
use Rattle.sg_pool.specs.Numbers.{PoolNumbers, IsParted, IsFree, IsSettled, IsRaised}
use Rattle.sg_pool.specs.steps.Kept.{row, dead_in, IsKept}
use Rattle.sg_pool.proofs.Uses.{none_live_counted}
use Rattle.sg_pool.proofs.Parts.{made_parted, parted_settled, free_after, parted_listed_drawn, parted_past, listed_is_free, free_row}
use Rattle.sg_pool.proofs.FreeLists.{list_there, front_of}

-- what the fields show
abbrev pub shown : List Bool → Lists → ℕ → PoolNumbers
shown live free mark = record { live = live; free = list_of free 0; mark = mark }

-- with one list there is a first
pub some_list : (free : Lists) → length free.lists ≡ 1 → 0 < length free.lists
some_list free one = omega arith

-- a number that isn't on the free list is in no list
only_list : (lists : List (List ℕ)) (x : ℕ) → length lists ≡ 1 → times_in_lists x lists ≡ times x (get_or lists 0 [])
only_list [] x one = absurd (omega arith)
only_list (list ∷ []) x one = omega arith
only_list (list ∷ (other ∷ lists)) x one = absurd (omega arith)

-- ── A new pool ──

none_set : (places number : ℕ) → get_or (replicate places false) number false ≡ false
none_set zero number = refl
none_set (suc places) zero = refl
none_set (suc places) (suc number) = none_set places number

pub kept_made : (live : List Bool) (free : Lists) (places : ℕ) → places < 2 ^ 32 → live ≡ replicate places false → free ≡ empty_lists places 1 → IsKept live 0 free 0
kept_made live free places few live_is free_is =
    let long : length live ≡ places = ap length live_is ∙ length-replicate {A = Bool} places false in
    let none : (number : ℕ) → get_or live number false ≡ false = λ number. ap (λ (l : List Bool). get_or l number false) live_is ∙ none_set places number in
    let empty : list_of free 0 ≡ [] = ap (λ (l : Lists). list_of l 0) free_is in
    record {
      counted = sym (none_live_counted (row live) none);
      few = omega (arith, long, few);
      one_list = ap (λ (l : Lists). length l.lists) free_is;
      over = ap (λ (l : Lists). l.numbers) free_is ∙ sym long;
      parted = subst (λ xs. IsParted (record { live = live; free = xs; mark = 0 })) (sym empty) (made_parted live none);
    }

-- ── Settling ──

swept_list : (free swept final : Lists) (left more : List ℕ) → length free.lists ≡ 1 → swept ≡ with_list free 0 left → final ≡ with_list swept 0 (list_of swept 0 ++ more) → list_of final 0 ≡ left ++ more
swept_list free swept final left more one first later =
    let some : 0 < length free.lists = some_list free one in
    let was : list_of swept 0 ≡ left = ap (λ (l : Lists). list_of l 0) first ∙ list_there free left some in
    let there : 0 < length swept.lists = omega (arith, ap (λ (l : Lists). length l.lists) first, length-set free.lists 0 left) in
    ap (λ (l : Lists). list_of l 0) later ∙ list_there swept (list_of swept 0 ++ more) there ∙ ap (λ xs. xs ++ more) was

pub kept_settled : (live after : List Bool) (count mark raised : ℕ) (free swept final : Lists) (taken : List ℕ) → IsKept live count free mark → IsSettled (row live) (row after) taken → IsRaised mark taken raised → raised ≤ length live → swept ≡ with_list free 0 (dead_in after (list_of free 0)) → final ≡ with_list swept 0 (list_of swept 0 ++ dead_in after (range_with_len mark (raised - mark))) → IsKept after (count + length taken) final raised
kept_settled live after count mark raised free swept final taken kept settled rises within first later =
    let pool : PoolNumbers = shown live free mark in
    let list : list_of final 0 ≡ free_after pool after raised = swept_list free swept final (dead_in after (list_of free 0)) (dead_in after (range_with_len mark (raised - mark))) kept.one_list first later in
    let parted = parted_settled pool after taken raised kept.parted settled rises within in
    record {
      counted = omega (arith, kept.counted, settled.count);
      few = omega (arith, kept.few, settled.places);
      one_list = omega (arith, kept.one_list, ap (λ (l : Lists). length l.lists) first, length-set free.lists 0 (dead_in after (list_of free 0)), ap (λ (l : Lists). length l.lists) later, length-set swept.lists 0 (list_of swept 0 ++ dead_in after (range_with_len mark (raised - mark))));
      over = ap (λ (l : Lists). l.numbers) later ∙ ap (λ (l : Lists). l.numbers) first ∙ kept.over ∙ sym settled.places;
      parted = subst (λ xs. IsParted (record { live = after; free = xs; mark = raised })) (sym list) parted;
    }

-- what is past the mark is in no list
pub past_absent : (live : List Bool) (count mark : ℕ) (free : Lists) (x : ℕ) → IsKept live count free mark → mark ≤ x → times_in_lists x free.lists ≡ 0
past_absent live count mark free x kept past =
    only_list free.lists x kept.one_list ∙ (parted_past (shown live free mark) x kept.parted past).0

pub swept_absent : (live : List Bool) (x : ℕ) (free swept : Lists) (left : List ℕ) → length free.lists ≡ 1 → swept ≡ with_list free 0 left → times x left ≡ 0 → times_in_lists x swept.lists ≡ 0
swept_absent live x free swept left one is none =
    let some : 0 < length free.lists = some_list free one in
    let many : length swept.lists ≡ 1 = ap (λ (l : Lists). length l.lists) is ∙ length-set free.lists 0 left ∙ one in
    let was : list_of swept 0 ≡ left = ap (λ (l : Lists). list_of l 0) is ∙ list_there free left some in
    only_list swept.lists x many ∙ ap (times x) was ∙ none

-- ── Drawing ──

pub none_listed : (xs : List ℕ) → slice_get xs 0 ≡ None → xs ≡ []
none_listed [] is = refl
none_listed (x ∷ xs) is = absurd (cc is)

-- the first of the free list can be made live
pub first_is_free : (live : List Bool) (count mark x : ℕ) (free : Lists) → IsKept live count free mark → slice_get (list_of free 0) 0 ≡ Some x → IsFree (row live) x
first_is_free live count mark x free kept at =
    free_row (shown live free mark) x (listed_is_free (shown live free mark) x kept.parted (stands (list_of free 0) 0 x at))

pub kept_listed : (live after : List Bool) (count mark x : ℕ) (free popped : Lists) → IsKept live count free mark → slice_get (list_of free 0) 0 ≡ Some x → IsSettled (row live) (row after) (x ∷ []) → popped ≡ with_list free 0 (drop 1 (list_of free 0)) → IsKept after (count + 1) popped mark
kept_listed live after count mark x free popped kept at settled is =
    let list : List ℕ = drop 1 (list_of free 0) in
    let left : list_of popped 0 ≡ list = ap (λ (l : Lists). list_of l 0) is ∙ list_there free list (some_list free kept.one_list) in
    let parted = parted_listed_drawn (shown live free mark) after x list kept.parted (front_of (list_of free 0) x at) settled in
    record {
      counted = omega (arith, kept.counted, settled.count);
      few = omega (arith, kept.few, settled.places);
      one_list = omega (arith, kept.one_list, ap (λ (l : Lists). length l.lists) is, length-set free.lists 0 list);
      over = ap (λ (l : Lists). l.numbers) is ∙ kept.over ∙ sym settled.places;
      parted = subst (λ xs. IsParted (record { live = after; free = xs; mark = mark })) (sym left) parted;
    }
