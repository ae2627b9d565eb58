-- A table of the keys that are kept, put one after the other.
use Rattle.std.proofs.Common.{◌≡◌, ◌≢◌, ◌⊎◌, ℕ, zero, suc, ◌+◌, ◌-◌, ◌<◌, ◌≤◌, Bool, true, false, ◌||◌, ◌==◌, cond, List, [], ◌∷◌, length, take, get_or, replicate, Option, Some, None, if◌then◌else◌, refl, sym, ap, ◌∙◌, arith, inl, inr}
use Rattle.std.specs.Prelude.{slice_index}
use Rattle.std.specs.List.{AllPairs, Contains, range_with_len}
use Rattle.std.proofs.lemmas.Bool.{false≢true, cases_eq, cases_Bool, ne_eqb, eq-eqb, eqb-true}
use Rattle.std.proofs.lemmas.Bool.Decides.{eqb_tells}
use Rattle.std.proofs.lemmas.List.{take_more, take_all, length-replicate, length-take-le, get_or-take, get_or_default}
use Rattle.std.proofs.lemmas.List.FromFn.{length-range_with_len, get_or-range_with_len}
use Rattle.std.proofs.lemmas.List.Folds.{list_any-append, Any-from_list_any, list_any_at}
use Rattle.std.proofs.lemmas.Option.{none-some}
use Rattle.sg_hash.specs.Tables.{IsTable, AreBeside, beside, IsAbsent, IsFull}
use Rattle.sg_hash.proofs.Uses.{stands_once, beside_at, beside_none, absent_of_none, empty_table, empty_beside}
use Rattle.sg_pool.proofs.Uses.{fewer}
use Rattle.sg_store.specs.steps.Trimming.{is_kept}
use Rattle.sg_store.specs.Slots.{linked}
use Rattle.sg_store.specs.steps.KeptWords.{in_row}
use Rattle.sg_store.specs.steps.KeptTables.{keep_number, stands_among, IsOldTable, IsKeptSoFar, IsKeptTable}

-- ── There is room ──

range_once : (n : ℕ) → AllPairs (λ x y. x ≢ y) (range_with_len 0 n)
range_once n i j d before below same =
    let many : length (range_with_len 0 n) ≡ n = length-range_with_len 0 n in
    let here : get_or (range_with_len 0 n) i d ≡ 0 + i = get_or-range_with_len 0 n i d (omega (arith, before, below, many)) in
    let there : get_or (range_with_len 0 n) j d ≡ 0 + j = get_or-range_with_len 0 n j d (omega (arith, below, many)) in
    absurd (omega (arith, before, here, there, same))

in_range : (n p : ℕ) → Contains (range_with_len 0 n) p → p < n
in_range n p has =
    let many : length (range_with_len 0 n) ≡ n = length-range_with_len 0 n in
    let below : has.0 < n = omega (arith, has.1, many) in
    let here : get_or (range_with_len 0 n) has.0 p ≡ 0 + has.0 = get_or-range_with_len 0 n has.0 p below in
    omega (arith, here, has.2, below)

word_is : (n : ℕ) → n ≢ 0 → (m : ℕ) × (n ≡ m + 1)
word_is zero some = absurd (some refl)
word_is (suc m) some = (m, omega arith)

-- a place has a key beside which the number stands
abbrev PlaceHas : List ℕ → List ℕ → ℕ → ℕ → Type 0
PlaceHas keys links p number = (key : ℕ) × (slice_index keys p ≡ key + 1) × (beside keys links key ≡ Some number)

room_left : (keys links numbers : List ℕ) → IsTable keys → AreBeside keys links → length numbers < length keys → ((key number : ℕ) → beside keys links key ≡ Some number → Contains numbers number) → ((x y number : ℕ) → beside keys links x ≡ Some number → beside keys links y ≡ Some number → x ≡ y) → (key : ℕ) → IsFull keys key → ⊥
room_left keys links numbers table with_links few all apart key full =
    let many = fewer (PlaceHas keys links) (range_with_len 0 (length keys)) numbers (range_once (length keys)) partner one in
    absurd (omega (arith, many, few, length-range_with_len 0 (length keys)))
  where
    partner : (p : ℕ) → Contains (range_with_len 0 (length keys)) p → (number : ℕ) × Contains numbers number × PlaceHas keys links p number
    partner p has =
        let below : p < length keys = in_range (length keys) p has in
        let own = word_is (slice_index keys p) (full p below).0 in
        let number : ℕ = slice_index links p - 1 in
        let stands : beside keys links own.0 ≡ Some number = beside_at keys links own.0 p with_links.many below own.1 (λ q there holds. stands_once keys table own.0 q p there below holds own.1) in
        (number, all own.0 number stands, (own.0, own.1, stands))

    one : (a b number : ℕ) → Contains (range_with_len 0 (length keys)) a → Contains (range_with_len 0 (length keys)) b → PlaceHas keys links a number → PlaceHas keys links b number → a ≡ b
    one a b number has_a has_b (x, is_x, at_x) (y, is_y, at_y) =
        let same : x ≡ y = apart x y number at_x at_y in
        stands_once keys table x a b (in_range (length keys) a has_a) (in_range (length keys) b has_b) is_x (is_y ∙ ap (λ k. k + 1) (sym same))

-- ── A key more ──

kept_was : (keeps : ℕ → Bool) (b : Bool) (o : Option ℕ) (n : ℕ) → cond b (keep_number keeps o) None ≡ Some n → o ≡ Some n
kept_was keeps true None n e = absurd (none-some n e)
kept_was keeps true (Some m) n e = by_test (keeps m) e
  where
    by_test : (t : Bool) → cond t (Some m) None ≡ Some n → Some m ≡ Some n
    by_test true h = h
    by_test false h = absurd (none-some n h)
kept_was keeps false o n e = absurd (none-some n e)

-- no key finds the new table full
pub not_full : (keys links : List ℕ) (row : List Bool) (new_keys new_links : List ℕ) (through key : ℕ) → IsOldTable keys links → IsKeptSoFar keys links row new_keys new_links through → IsFull new_keys key → ⊥
not_full keys links row new_keys new_links through key old so_far full =
    let was : (k n : ℕ) → beside new_keys new_links k ≡ Some n → beside keys links k ≡ Some n = λ k n e.
    kept_was (in_row row) (stands_among (take through keys) k) (beside keys links k) n (sym (so_far.each k) ∙ e) in
    room_left new_keys new_links old.numbers so_far.table so_far.links_beside (omega (arith, old.fewer, so_far.as_many))
    (λ k n e. old.all k n (was k n e)) (λ x y n ex ey. old.apart x y n (was x n ex) (was y n ey)) key full

or_false : (b : Bool) → (b || false) ≡ b
or_false true = refl
or_false false = refl

among_more : (keys : List ℕ) (p key : ℕ) → p < length keys → stands_among (take (p + 1) keys) key ≡ (stands_among (take p keys) key || (slice_index keys p == key + 1))
among_more keys p key below =
    ap (λ list. stands_among list key) (take_more keys p 0 below)
    ∙ list_any-append (λ word. word == key + 1) (take p keys) (get_or keys p 0 ∷ [])
    ∙ ap (λ b. stands_among (take p keys) key || b) (or_false (get_or keys p 0 == key + 1))

-- another key than the one that stands at the place
among_other : (keys : List ℕ) (p key : ℕ) → p < length keys → slice_index keys p ≢ key + 1 → stands_among (take (p + 1) keys) key ≡ stands_among (take p keys) key
among_other keys p key below other =
    among_more keys p key below ∙ ap (λ b. stands_among (take p keys) key || b) (ne_eqb (slice_index keys p) (key + 1) other) ∙ or_false (stands_among (take p keys) key)

or_true : (b : Bool) → (b || true) ≡ true
or_true true = refl
or_true false = refl

among_own : (keys : List ℕ) (p key : ℕ) → p < length keys → slice_index keys p ≡ key + 1 → stands_among (take (p + 1) keys) key ≡ true
among_own keys p key below own =
    among_more keys p key below ∙ ap (λ b. stands_among (take p keys) key || b) (eq-eqb (slice_index keys p) (key + 1) own) ∙ or_true (stands_among (take p keys) key)

not_true : (b : Bool) → (b ≡ true → ⊥) → b ≡ false
not_true true h = absurd (h refl)
not_true false h = refl

-- a key stands at one place alone, so before it there is none
not_before : (keys : List ℕ) (p key : ℕ) → IsTable keys → p < length keys → slice_index keys p ≡ key + 1 → stands_among (take p keys) key ≡ false
not_before keys p key table below own = not_true (stands_among (take p keys) key) (λ on.
    let found = Any-from_list_any (λ word. word == key + 1) (take p keys) on in
    let long : length (take p keys) ≡ p = length-take-le p keys (omega (arith, below)) in
    let low : found.0 < p = omega (arith, found.2, long) in
    let there : slice_index keys found.0 ≡ key + 1 =
    sym (get_or-take p keys found.0 0 low) ∙ get_or_default (take p keys) found.0 0 found.1 found.2 ∙ found.3 ∙ eqb-true found.1 (key + 1) found.4 in
    let same : found.0 ≡ p = stands_once keys table key found.0 p (omega (arith, low, below)) below there own in
    omega (arith, low, same))

own_number : (keys links : List ℕ) (p key : ℕ) → IsOldTable keys links → p < length keys → slice_index keys p ≡ key + 1 → beside keys links key ≡ Some (slice_index links p - 1)
own_number keys links p key old below own =
    beside_at keys links key p old.links_beside.many below own (λ q there holds. stands_once keys old.table key q p there below holds own)

-- nothing stands beside the key yet
pub none_yet : (keys links : List ℕ) (row : List Bool) (new_keys new_links : List ℕ) (p key : ℕ) → IsOldTable keys links → IsKeptSoFar keys links row new_keys new_links p → p < length keys → slice_index keys p ≡ key + 1 → beside new_keys new_links key ≡ None
none_yet keys links row new_keys new_links p key old so_far below own =
    so_far.each key ∙ ap (λ b. cond b (keep_number (in_row row) (beside keys links key)) None) (not_before keys p key old.table below own)

pub absent_yet : (keys links : List ℕ) (row : List Bool) (new_keys new_links : List ℕ) (p key : ℕ) → IsOldTable keys links → IsKeptSoFar keys links row new_keys new_links p → p < length keys → slice_index keys p ≡ key + 1 → IsAbsent new_keys key
absent_yet keys links row new_keys new_links p key old so_far below own =
    absent_of_none new_keys new_links key so_far.links_beside.many (none_yet keys links row new_keys new_links p key old so_far below own)

-- a place that gives nothing
pub idle_place : (keys links : List ℕ) (row : List Bool) (new_keys new_links : List ℕ) (p : ℕ) → IsOldTable keys links → p < length keys → ((key : ℕ) → slice_index keys p ≡ key + 1 → in_row row (slice_index links p - 1) ≡ false) → IsKeptSoFar keys links row new_keys new_links p → IsKeptSoFar keys links row new_keys new_links (p + 1)
idle_place keys links row new_keys new_links p old below idle so_far = record {
  as_many = so_far.as_many;
  table = so_far.table;
  links_beside = so_far.links_beside;
  each = λ key. elim (cases_eq (slice_index keys p) (key + 1)) [
    | inl own ↦
        none_yet keys links row new_keys new_links p key old so_far below own
        ∙ sym (ap (λ b. cond b (keep_number (in_row row) (beside keys links key)) None) (among_own keys p key below own)
        ∙ ap (keep_number (in_row row)) (own_number keys links p key old below own)
        ∙ ap (λ b. cond b (Some (slice_index links p - 1)) None) (idle key own))
    | inr other ↦
        so_far.each key ∙ sym (ap (λ b. cond b (keep_number (in_row row) (beside keys links key)) None) (among_other keys p key below other))
  ];
}

-- a place whose key has been put
pub put_place : (keys links : List ℕ) (row : List Bool) (new_keys new_links put_keys put_links : List ℕ) (p key : ℕ) → IsOldTable keys links → p < length keys → slice_index keys p ≡ key + 1 → in_row row (slice_index links p - 1) ≡ true → length put_keys ≡ length new_keys → IsTable put_keys → AreBeside put_keys put_links → ((k : ℕ) → beside put_keys put_links k ≡ (if k == key then Some (slice_index links p - 1) else beside new_keys new_links k)) → IsKeptSoFar keys links row new_keys new_links p → IsKeptSoFar keys links row put_keys put_links (p + 1)
put_place keys links row new_keys new_links put_keys put_links p key old below own on many table with_links put so_far = record {
  as_many = many ∙ so_far.as_many;
  table = table;
  links_beside = with_links;
  each = λ k. elim (eqb_tells k key) [
    | inl same ↦
        let mine : slice_index keys p ≡ k + 1 = own ∙ ap (λ n. n + 1) (sym same.1) in
        put k ∙ ap (λ b. if b then Some (slice_index links p - 1) else beside new_keys new_links k) same.0
        ∙ sym (ap (λ b. cond b (keep_number (in_row row) (beside keys links k)) None) (among_own keys p k below mine)
        ∙ ap (keep_number (in_row row)) (own_number keys links p k old below mine)
        ∙ ap (λ b. cond b (Some (slice_index links p - 1)) None) on)
    | inr apart ↦
        let other : slice_index keys p ≢ k + 1 = λ mine. apart.1 (let h : k + 1 ≡ key + 1 = sym mine ∙ own in omega (arith, h)) in
        put k ∙ ap (λ b. if b then Some (slice_index links p - 1) else beside new_keys new_links k) apart.0 ∙ so_far.each k
        ∙ sym (ap (λ b. cond b (keep_number (in_row row) (beside keys links k)) None) (among_other keys p k below other))
  ];
}

-- ── The beginning, and the end ──

pub none_put : (keys links : List ℕ) (row : List Bool) → IsKeptSoFar keys links row (replicate (length keys) 0) (replicate (length keys) 0) 0
none_put keys links row = record {
  as_many = length-replicate (length keys) 0;
  table = empty_table (length keys);
  links_beside = empty_beside (length keys);
  each = λ key. beside_none (replicate (length keys) 0) (replicate (length keys) 0) key (λ q below is. let zero_is : slice_index (replicate (length keys) 0) q ≡ 0 = zeros (length keys) q in omega (arith, zero_is, is));
}
  where
    zeros : (n i : ℕ) → slice_index (replicate n 0) i ≡ 0
    zeros zero i = refl
    zeros (suc n) zero = refl
    zeros (suc n) (suc i) = zeros n i

pub all_put : (keys links : List ℕ) (row : List Bool) (new_keys new_links : List ℕ) (through : ℕ) → IsOldTable keys links → length keys ≤ through → IsKeptSoFar keys links row new_keys new_links through → IsKeptTable keys links row new_keys new_links
all_put keys links row new_keys new_links through old all so_far = record {
  as_many = so_far.as_many;
  table = so_far.table;
  links_beside = so_far.links_beside;
  each = λ key. so_far.each key ∙ ap (λ list. cond (stands_among list key) (keep_number (in_row row) (beside keys links key)) None) (take_all through keys all) ∙ by_test key (cases_Bool (stands_among keys key));
}
  where
    by_test : (key : ℕ) → (stands_among keys key ≡ true) ⊎ (stands_among keys key ≡ false) → cond (stands_among keys key) (keep_number (in_row row) (beside keys links key)) None ≡ keep_number (in_row row) (beside keys links key)
    by_test key (inl on) = ap (λ b. cond b (keep_number (in_row row) (beside keys links key)) None) on
    by_test key (inr off) =
        let absent : IsAbsent keys key = λ q below is. false≢true (sym off ∙ list_any_at (λ word. word == key + 1) keys q 0 below (eq-eqb (slice_index keys q) (key + 1) is)) in
        ap (λ b. cond b (keep_number (in_row row) (beside keys links key)) None) off ∙ sym (ap (keep_number (in_row row)) (beside_none keys links key absent))

-- ── Links of numbers that are kept ──

pub link_kept : (keeps : ℕ → Bool) (word : ℕ) → is_kept keeps (linked word) ≡ true → keeps (word - 1) ≡ true
link_kept keeps zero on = absurd (false≢true on)
link_kept keeps (suc n) on = let same : suc n - 1 ≡ n = omega arith in ap keeps same ∙ on

pub link_lost : (keeps : ℕ → Bool) (word : ℕ) → 0 < word → is_kept keeps (linked word) ≡ false → keeps (word - 1) ≡ false
link_lost keeps zero some off = absurd (omega (arith, some))
link_lost keeps (suc n) some off = let same : suc n - 1 ≡ n = omega arith in ap keeps same ∙ off
