-- The one list of a free list, while it is swept and while numbers are put at its end.
use Rattle.std.proofs.Common.{◌≡◌, ℕ, zero, suc, ◌+◌, ◌-◌, ◌<◌, ◌≤◌, Bool, true, false, not, cond, List, [], ◌∷◌, ◌++◌, length, get_or, take, drop, map, Some, None, refl, sym, ap, ◌∙◌, arith, append_assoc}
use Rattle.std.specs.Prelude.{slice_get}
use Rattle.std.specs.List.{range_with_len}
use Rattle.std.proofs.lemmas.List.{length-set, get_or-set_same, set-set, set-get_or, take_more, drop_more, take_all, drop_all, append-nil}
use Rattle.std.proofs.lemmas.List.Elements.{filter-append}
use Rattle.std.proofs.lemmas.List.FromFn.{map-range_with_len_more}
use Rattle.std.proofs.lemmas.Option.{none-some, same_Some, slice_get_within}
use Rattle.sg_links.specs.Lists.{Lists, list_of, with_list, times, times_in_lists, AreDisjoint}
use Rattle.sg_links.proofs.Uses.{times-append, times_same, times_in_set, times_at, stands}
use Rattle.sg_pool.specs.steps.Kept.{dead_in}
use Rattle.sg_pool.proofs.Times.{range_past, dead_least}

-- ── One list among the lists ──

pub many_there : (l now : Lists) (xs : List ℕ) → 0 < length l.lists → now ≡ with_list l 0 xs → 0 < length now.lists
many_there l now xs there is = omega (arith, there, ap (λ (j : Lists). length j.lists) is, length-set l.lists 0 xs)

pub list_there : (l : Lists) (xs : List ℕ) → 0 < length l.lists → list_of (with_list l 0 xs) 0 ≡ xs
list_there l xs there = get_or-set_same l.lists 0 xs [] there

pub with_same : (l : Lists) → with_list l 0 (list_of l 0) ≡ l
with_same l = ap (λ (lists : List (List ℕ)). (let it : Lists = record { numbers = l.numbers; lists = lists } in it)) (set-get_or l.lists 0 [])

pub with_twice : (l : Lists) (xs ys : List ℕ) → with_list (with_list l 0 xs) 0 ys ≡ with_list l 0 ys
with_twice l xs ys = ap (λ (lists : List (List ℕ)). (let it : Lists = record { numbers = l.numbers; lists = lists } in it)) (set-set l.lists 0 xs ys)

pub lists_many : (l : Lists) (xs : List ℕ) → length (with_list l 0 xs).lists ≡ length l.lists
lists_many l xs = length-set l.lists 0 xs

pub front_of : (xs : List ℕ) (x : ℕ) → slice_get xs 0 ≡ Some x → xs ≡ x ∷ drop 1 xs
front_of [] x is = absurd (none-some x is)
front_of (y ∷ ys) x is = ap (λ z. z ∷ ys) (same_Some y x is)

-- what is taken out at the front is in no list then, and is a number
pub popped_free : (l : Lists) (x : ℕ) (rest : List ℕ) → AreDisjoint l → 0 < length l.lists → list_of l 0 ≡ x ∷ rest → (times_in_lists x (with_list l 0 rest).lists ≡ 0) × (x < l.numbers)
popped_free l x rest disjoint there is =
    let count = times_in_set x l.lists 0 rest there in
    let list : times x (list_of l 0) ≡ 1 + times x rest = ap (times x) is ∙ times_same x rest in
    let least : times x (list_of l 0) ≤ times_in_lists x l.lists = times_at x l.lists 0 there in
    let once : times_in_lists x l.lists ≤ 1 = disjoint.once x in
    (omega (arith, count, list, once), disjoint.below x (omega (arith, list, least)))

pub popped_at_front : (l : Lists) (x : ℕ) → AreDisjoint l → 0 < length l.lists → slice_get (list_of l 0) 0 ≡ Some x → (times_in_lists x (with_list l 0 (drop 1 (list_of l 0))).lists ≡ 0) × (x < l.numbers)
popped_at_front l x disjoint there is = popped_free l x (drop 1 (list_of l 0)) disjoint there (front_of (list_of l 0) x is)

-- what stands in the list stands in the lists
pub listed : (l : Lists) (place x : ℕ) → 0 < length l.lists → slice_get (list_of l 0) place ≡ Some x → 0 < times_in_lists x l.lists
listed l place x there at = omega (arith, stands (list_of l 0) place x at, times_at x l.lists 0 there)

-- what stands at a place of a list, and what stands before the next place
got : (xs : List ℕ) (i x : ℕ) → slice_get xs i ≡ Some x → get_or xs i x ≡ x
got [] i x is = absurd (none-some x is)
got (y ∷ ys) zero x is = same_Some y x is
got (y ∷ ys) (suc i) x is = got ys i x is

pub take_next : (xs : List ℕ) (i x : ℕ) → slice_get xs i ≡ Some x → take (i + 1) xs ≡ take i xs ++ x ∷ []
take_next xs i x is = take_more xs i x (slice_get_within xs i x is) ∙ ap (λ y. take i xs ++ y ∷ []) (got xs i x is)

pub something : (xs : List ℕ) (i : ℕ) → i < length xs → slice_get xs i ≡ None → ⊥
something [] i below none = absurd (omega arith)
something (y ∷ ys) zero below none = none-some y (sym none)
something (y ∷ ys) (suc i) below none = something ys i (omega arith) none

-- ── One turn ──

-- what is left if the number is put back, and if it isn't
pub turned_back : (live : List Bool) (l now new : Lists) (x : ℕ) → 0 < length l.lists → slice_get (list_of l 0) 0 ≡ Some x → get_or live x false ≡ false → now ≡ with_list l 0 (drop 1 (list_of l 0)) → new ≡ with_list now 0 (list_of now 0 ++ x ∷ [])
    → (number : ℕ) (rest : List ℕ) → list_of l 0 ≡ number ∷ rest → new ≡ with_list l 0 (rest ++ dead_in live (number ∷ []))
turned_back live l now new x there at off popped pushed number rest is =
    let same : number ≡ x = same_Some number x (sym (ap (λ xs. slice_get xs 0) is) ∙ at) in
    let rest_is : drop 1 (list_of l 0) ≡ rest = ap (drop 1) is in
    let left : dead_in live (number ∷ []) ≡ x ∷ [] =
    ap (λ y. dead_in live (y ∷ [])) same ∙ ap (λ b. cond (not b) (x ∷ []) []) off in
    let list : list_of now 0 ≡ rest = ap (λ (k : Lists). list_of k 0) popped ∙ list_there l (drop 1 (list_of l 0)) there ∙ rest_is in
    pushed ∙ ap (λ xs. with_list now 0 (xs ++ x ∷ [])) list ∙ ap (λ (k : Lists). with_list k 0 (rest ++ x ∷ [])) popped
    ∙ with_twice l (drop 1 (list_of l 0)) (rest ++ x ∷ []) ∙ ap (λ ys. with_list l 0 (rest ++ ys)) (sym left)

pub turned_out : (live : List Bool) (l now : Lists) (x : ℕ) → slice_get (list_of l 0) 0 ≡ Some x → get_or live x false ≡ true → now ≡ with_list l 0 (drop 1 (list_of l 0))
    → (number : ℕ) (rest : List ℕ) → list_of l 0 ≡ number ∷ rest → now ≡ with_list l 0 (rest ++ dead_in live (number ∷ []))
turned_out live l now x at on popped number rest is =
    let same : number ≡ x = same_Some number x (sym (ap (λ xs. slice_get xs 0) is) ∙ at) in
    let rest_is : drop 1 (list_of l 0) ≡ rest = ap (drop 1) is in
    let gone : dead_in live (number ∷ []) ≡ [] = ap (λ y. dead_in live (y ∷ [])) same ∙ ap (λ b. cond (not b) (x ∷ []) []) on in
    popped ∙ ap (λ xs. with_list l 0 xs) (rest_is ∙ sym (append-nil rest)) ∙ ap (λ ys. with_list l 0 (rest ++ ys)) (sym gone)

-- ── The sweep ──

abbrev pub swept_to : List Bool → Lists → ℕ → Lists
swept_to live l i = with_list l 0 (drop i (list_of l 0) ++ dead_in live (take i (list_of l 0)))

pub sweep_begins : (live : List Bool) (l : Lists) → l ≡ swept_to live l 0
sweep_begins live l = sym (ap (λ xs. with_list l 0 xs) (append-nil (list_of l 0)) ∙ with_same l)

dead_more : (live : List Bool) (xs : List ℕ) (i x : ℕ) → i < length xs → dead_in live (take (i + 1) xs) ≡ dead_in live (take i xs) ++ dead_in live (get_or xs i x ∷ [])
dead_more live xs i x below =
    ap (dead_in live) (take_more xs i x below) ∙ filter-append (λ n. not (get_or live n false)) (take i xs) (get_or xs i x ∷ [])

pub sweep_further : (live : List Bool) (l now new : Lists) (i : ℕ) → 0 < length l.lists → i < length (list_of l 0) → now ≡ swept_to live l i
    → ((number : ℕ) (rest : List ℕ) → list_of now 0 ≡ number ∷ rest → new ≡ with_list now 0 (rest ++ dead_in live (number ∷ []))) → new ≡ swept_to live l (i + 1)
sweep_further live l now new i there below is turned =
    let list : List ℕ = list_of l 0 in
    let x : ℕ = get_or list i 0 in
    let before : List ℕ = dead_in live (take i list) in
    let later : List ℕ = drop (i + 1) list in
    let split : drop i list ≡ x ∷ later = drop_more list i 0 below in
    let list_is : list_of now 0 ≡ x ∷ (later ++ before) =
    ap (λ (k : Lists). list_of k 0) is ∙ list_there l (drop i list ++ before) there ∙ ap (λ xs. xs ++ before) split in
    let joined : (later ++ before) ++ dead_in live (x ∷ []) ≡ later ++ dead_in live (take (i + 1) list) =
    append_assoc later before (dead_in live (x ∷ [])) ∙ ap (λ xs. later ++ xs) (sym (dead_more live list i 0 below)) in
    turned x (later ++ before) list_is ∙ ap (λ (k : Lists). with_list k 0 ((later ++ before) ++ dead_in live (x ∷ []))) is
    ∙ with_twice l (drop i list ++ before) ((later ++ before) ++ dead_in live (x ∷ [])) ∙ ap (λ xs. with_list l 0 xs) joined

pub sweep_ends : (live : List Bool) (l now : Lists) (i : ℕ) → length (list_of l 0) ≤ i → now ≡ swept_to live l i → now ≡ with_list l 0 (dead_in live (list_of l 0))
sweep_ends live l now i end is =
    let list : List ℕ = list_of l 0 in
    is ∙ ap (λ xs. with_list l 0 (xs ++ dead_in live (take i list))) (drop_all i list end) ∙ ap (λ xs. with_list l 0 (dead_in live xs)) (take_all i list end)

-- ── Numbers at its end ──

pub range_more : (m k : ℕ) → range_with_len m (k + 1) ≡ range_with_len m k ++ (m + k) ∷ []
range_more m k =
    sym (map_id (range_with_len m (k + 1))) ∙ map-range_with_len_more (λ (i : ℕ). i) m k (m + k) refl ∙ ap (λ xs. xs ++ (m + k) ∷ []) (map_id (range_with_len m k))
  where
    map_id : (xs : List ℕ) → map (λ (i : ℕ). i) xs ≡ xs
    map_id [] = refl
    map_id (x ∷ xs) = ap (λ ys. x ∷ ys) (map_id xs)

-- a list of numbers from a mark on, with one more
pub stock_further : (free : List ℕ) (mark n : ℕ) (stock new : List ℕ) → mark ≤ n → stock ≡ free ++ range_with_len mark (n - mark) → new ≡ stock ++ n ∷ [] → new ≡ free ++ range_with_len mark (n + 1 - mark)
stock_further free mark n stock new above is pushed =
    let k : ℕ = n - mark in
    let next : n + 1 - mark ≡ k + 1 = omega arith in
    let number : mark + k ≡ n = omega arith in
    pushed ∙ ap (λ xs. xs ++ n ∷ []) is ∙ append_assoc free (range_with_len mark k) (n ∷ [])
    ∙ ap (λ m. free ++ (range_with_len mark k ++ m ∷ [])) (sym number) ∙ ap (λ xs. free ++ xs) (sym (range_more mark k))
    ∙ ap (λ j. free ++ range_with_len mark j) (sym next)

abbrev pub put_to : List Bool → Lists → ℕ → ℕ → Lists
put_to live l from to = with_list l 0 (list_of l 0 ++ dead_in live (range_with_len from (to - from)))

pub put_begins : (live : List Bool) (l : Lists) (from : ℕ) → l ≡ put_to live l from from
put_begins live l from =
    let none : from - from ≡ 0 = omega arith in
    sym (ap (λ k. with_list l 0 (list_of l 0 ++ dead_in live (range_with_len from k))) none ∙ ap (λ xs. with_list l 0 xs) (append-nil (list_of l 0)) ∙ with_same l)

pub put_further : (live : List Bool) (l now new : Lists) (from n : ℕ) → 0 < length l.lists → from ≤ n → now ≡ put_to live l from n → new ≡ with_list now 0 (list_of now 0 ++ dead_in live (n ∷ [])) → new ≡ put_to live l from (n + 1)
put_further live l now new from n there above is put =
    let k : ℕ = n - from in
    let list : List ℕ = list_of l 0 in
    let before : List ℕ = dead_in live (range_with_len from k) in
    let next : n + 1 - from ≡ k + 1 = omega arith in
    let number : from + k ≡ n = omega arith in
    let more : dead_in live (range_with_len from (k + 1)) ≡ before ++ dead_in live (n ∷ []) =
    ap (dead_in live) (range_more from k) ∙ filter-append (λ m. not (get_or live m false)) (range_with_len from k) ((from + k) ∷ [])
    ∙ ap (λ m. before ++ dead_in live (m ∷ [])) number in
    let list_is : list_of now 0 ≡ list ++ before = ap (λ (j : Lists). list_of j 0) is ∙ list_there l (list ++ before) there in
    let joined : (list ++ before) ++ dead_in live (n ∷ []) ≡ list ++ dead_in live (range_with_len from (n + 1 - from)) =
    append_assoc list before (dead_in live (n ∷ [])) ∙ ap (λ xs. list ++ xs) (sym more) ∙ ap (λ j. list ++ dead_in live (range_with_len from j)) (sym next) in
    put ∙ ap (λ xs. with_list now 0 (xs ++ dead_in live (n ∷ []))) list_is
    ∙ ap (λ (j : Lists). with_list j 0 ((list ++ before) ++ dead_in live (n ∷ []))) is
    ∙ with_twice l (list ++ before) ((list ++ before) ++ dead_in live (n ∷ [])) ∙ ap (λ xs. with_list l 0 xs) joined

pub put_absent : (live : List Bool) (l now : Lists) (from n : ℕ) → 0 < length l.lists → from ≤ n → now ≡ put_to live l from n → times_in_lists n l.lists ≡ 0 → times_in_lists n now.lists ≡ 0
put_absent live l now from n there above is absent =
    let range : List ℕ = range_with_len from (n - from) in
    let list : List ℕ = list_of l 0 in
    let count = times_in_set n l.lists 0 (list ++ dead_in live range) there in
    let both = times-append n list (dead_in live range) in
    let few : times n (dead_in live range) ≤ times n range = dead_least live n range in
    let none : times n range ≡ 0 = range_past n from (n - from) (omega arith) in
    ap (λ (j : Lists). times_in_lists n j.lists) is ∙ omega (arith, count, both, few, none, absent)

-- if the number is put, and if it is live
pub put_one : (live : List Bool) (l new : Lists) (n : ℕ) → get_or live n false ≡ false → new ≡ with_list l 0 (list_of l 0 ++ n ∷ []) → new ≡ with_list l 0 (list_of l 0 ++ dead_in live (n ∷ []))
put_one live l new n off is = is ∙ ap (λ xs. with_list l 0 (list_of l 0 ++ xs)) (sym (ap (λ b. cond (not b) (n ∷ []) []) off))

pub put_none : (live : List Bool) (l : Lists) (n : ℕ) → get_or live n false ≡ true → l ≡ with_list l 0 (list_of l 0 ++ dead_in live (n ∷ []))
put_none live l n on =
    sym (ap (λ xs. with_list l 0 (list_of l 0 ++ xs)) (ap (λ b. cond (not b) (n ∷ []) []) on) ∙ ap (λ xs. with_list l 0 xs) (append-nil (list_of l 0)) ∙ with_same l)
