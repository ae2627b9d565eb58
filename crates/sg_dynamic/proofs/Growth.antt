-- How chains grow, and that there is room for it.
use Rattle.std.proofs.Common.{◌≡◌, ◌≢◌, ℕ, zero, suc, ◌+◌, ◌-◌, ◌*◌, ◌/◌, ◌<◌, ◌≤◌, Bool, true, false, cond, ◌||◌, ◌==◌, List, [], ◌∷◌, ◌++◌, length, take, get_or, set, replicate, refl, sym, ap, ◌∙◌, subst, arith, inl, inr, add-one}
use Rattle.std.specs.Prelude.{sum_by, slice_index, IsTrue}
use Rattle.std.proofs.lemmas.Bool.{cases_eq, cases_lt, cases_Bool}
use Rattle.std.proofs.lemmas.Bool.Decides.{eqb_tells}
use Rattle.std.proofs.lemmas.List.{length-set, length-append, length-take, length-replicate, append-nil, get_or_append_left, get_or-append_right, get_or-set_same, get_or-set_other, set-set, set-get_or, take-append-le, take_all}
use Rattle.std.proofs.lemmas.List.Sums.{sum_by-cons, sum_by-append, sum_by-set}
use Rattle.std.proofs.Math.Nat.{div-lt_iff_lt-mul, suc-mul, mul-le-mul_left}
use Rattle.sg_links.specs.Lists.{Lists, list_of, with_list, times, times_in_lists}
use Rattle.sg_links.proofs.Uses.{times_in_set, times-append, times_same, times_other, one_if, sums_all, total_is_sum}
use Rattle.sg_pool.specs.Numbers.{PoolNumbers, place_count, is_live_number, live_count, IsFree, IsSettled}
use Rattle.sg_pool.proofs.Uses.{live_is_number, live_or_free, live_count_below}
use Rattle.sg_dynamic.specs.Chunks.{chunks_of, chunk_need, lengths_from, IsExact, HaveRoom, AreFitted}
use Rattle.sg_dynamic.specs.steps.Growing.{Grew, FitSoFar}

mul_le : (len : ℕ) {chunk : ℕ} → 1 ≤ chunk → len * 1 ≤ len * chunk
mul_le len {chunk} some = mul-le-mul_left len some

add-mul_one : (len chunk : ℕ) → (len + 1) * chunk ≡ len * chunk + chunk
add-mul_one len chunk = ap (λ k. k * chunk) (add-one len) ∙ suc-mul len chunk

yes_of : (x y : ℕ) → x ≡ y → (x == y) ≡ true
yes_of x y same = elim (eqb_tells x y) [
  | inl yes_is ↦ yes_is.0
  | inr no_is ↦ absurd (no_is.1 same)
]

no_of : (x y : ℕ) → x ≢ y → (x == y) ≡ false
no_of x y other = elim (eqb_tells x y) [
  | inl yes_is ↦ absurd (other yes_is.1)
  | inr no_is ↦ no_is.0
]

or_none : (a : Bool) → (a || (false || false)) ≡ a
or_none true = refl
or_none false = refl

-- what a list begins with is no longer than it
shorter : (xs ys : List ℕ) → take (length xs) ys ≡ xs → length xs ≤ length ys
shorter xs ys front = omega (arith, length-take (length xs) ys, ap length front)

-- ── How many chunks ──

pub chunks_within : (chunk len : ℕ) → 1 ≤ chunk → chunks_of chunk len ≤ len
chunks_within chunk len some =
    let most : len * 1 ≤ len * chunk = mul_le len some in
    let whole : len + (chunk - 1) < (len + 1) * chunk = omega (arith, add-mul_one len chunk) in
    let below : (len + (chunk - 1)) / chunk < len + 1 = (div-lt_iff_lt-mul some).1 whole in
    omega arith

-- ── Room for one chain ──

-- chains that are each no longer than needed are together no longer than all need
total_within : (chunk : ℕ) (lists : List (List ℕ)) (lengths : List ℕ) → length lists ≡ length lengths → ((i : ℕ) → i < length lengths → length (get_or lists i []) ≤ chunks_of chunk (get_or lengths i 0)) → sum_by length lists ≤ chunk_need chunk lengths
total_within chunk [] lengths many within = omega arith
total_within chunk (list ∷ lists) [] many within = absurd (omega arith)
total_within chunk (list ∷ lists) (len ∷ lengths) many within =
    let first : length list ≤ chunks_of chunk len = within 0 (omega arith) in
    let rest : sum_by length lists ≤ chunk_need chunk lengths = total_within chunk lists lengths (omega arith) (λ i below. within (suc i) (omega arith)) in
    omega (arith, sum_by-cons {X = List ℕ} length list lists, sum_by-cons (λ (k : ℕ). chunks_of chunk k) len lengths)

pub room_for_one : (chunk : ℕ) (chains : Lists) (lengths : List ℕ) (head : ℕ) → HaveRoom chains lengths chunk → head < length lengths → chunk_need chunk lengths ≤ chains.numbers → sum_by length chains.lists + chunks_of chunk (get_or lengths head 0) ≤ chains.numbers + length (list_of chains head)
room_for_one chunk chains lengths head room there enough =
    let wanted : ℕ = chunks_of chunk (get_or lengths head 0) in
    let ys : List ℕ = replicate wanted 0 in
    let long : length ys ≡ wanted = length-replicate wanted 0 in
    let here : head < length chains.lists = omega (arith, room.many) in
    let lists : List (List ℕ) = set chains.lists head ys in
    let count : sum_by length lists + length (get_or chains.lists head []) ≡ sum_by length chains.lists + length ys = sum_by-set {X = List ℕ} length chains.lists head ys [] here in
    let all : sum_by length lists ≤ chunk_need chunk lengths = total_within chunk lists lengths (omega (arith, length-set chains.lists head ys, room.many)) (λ i below. elim (cases_eq i head) [
      | inl same ↦
          let new : get_or lists i [] ≡ ys = ap (λ k. get_or lists k []) same ∙ get_or-set_same chains.lists head ys [] here in
          let as_wanted : chunks_of chunk (get_or lengths i 0) ≡ wanted = ap (λ k. chunks_of chunk (get_or lengths k 0)) same in
          omega (arith, ap length new)
      | inr other ↦
          let old : get_or lists i [] ≡ get_or chains.lists i [] = get_or-set_other chains.lists head i ys [] other in
          omega (arith, ap length old, room.within i below)
    ]) in
    omega arith

-- ── One number more ──

abbrev with_number : Lists → ℕ → ℕ → Lists
with_number now head x = with_list now head (list_of now head ++ x ∷ [])

pub free_below : (chains : Lists) (pool : PoolNumbers) (x : ℕ) → IsExact chains pool → IsFree pool x → (x < chains.numbers) × (times_in_lists x chains.lists ≡ 0)
free_below chains pool x exact free = (omega (arith, exact.places, free.below), exact.live x ∙ ap one_if free.not_live)

live_after : (old new : PoolNumbers) (x y : ℕ) → IsFree old x → IsSettled old new (x ∷ []) → cond (is_live_number old y) 1 0 + times y (x ∷ []) ≡ cond (is_live_number new y) 1 0
live_after old new x y free settled = elim (cases_eq x y) [
  | inl same ↦
      let found : (x == y) ≡ true = yes_of x y same in
      let one : times y (x ∷ []) ≡ 1 = subst (λ z. times z (x ∷ []) ≡ 1) same (times_same x []) in
      let was : is_live_number old y ≡ false = subst (λ z. is_live_number old z ≡ false) same free.not_live in
      let now : is_live_number new y ≡ true = settled.live y ∙ ap (λ b. b || ((x == y) || false)) was ∙ ap (λ b. b || false) found in
      omega (arith, ap one_if was, ap one_if now)
  | inr other ↦
      let missed : (x == y) ≡ false = no_of x y other in
      let none : times y (x ∷ []) ≡ 0 = times_other y x [] other in
      let now : is_live_number new y ≡ is_live_number old y = settled.live y ∙ ap (λ b. is_live_number old y || (b || false)) missed ∙ or_none (is_live_number old y) in
      omega (arith, ap one_if now)
]

pub exact_after : (chains : Lists) (old new : PoolNumbers) (head x : ℕ) → IsExact chains old → head < length chains.lists → IsFree old x → IsSettled old new (x ∷ []) → IsExact (with_number chains head x) new
exact_after chains old new head x exact there free settled = record {
  places = exact.places ∙ sym settled.places;
  live = λ y.
      let count = times_in_set y chains.lists head (list_of chains head ++ x ∷ []) there in
      omega (arith, times-append y (list_of chains head) (x ∷ []), exact.live y, live_after old new x y free settled);
}

pub grew_none : (chains : Lists) (head : ℕ) → Grew chains chains head (length (list_of chains head))
grew_none chains head = record {
  others = sym (ap (λ (lists : List (List ℕ)). let l : Lists = record { numbers = chains.numbers; lists = lists } in l) (set-get_or chains.lists head []));
  front = take_all (length (list_of chains head)) (list_of chains head) (omega arith);
  long = refl;
}

pub grew_more : (old now new : Lists) (head long x : ℕ) → Grew old now head long → head < length old.lists → new ≡ with_number now head x → Grew old new head (long + 1)
grew_more old now new head long x grew there is =
    let ys : List ℕ = list_of now head ++ x ∷ [] in
    let here : head < length now.lists = omega (arith, ap (λ (l : Lists). length l.lists) grew.others, length-set old.lists head (list_of now head)) in
    let list_is : list_of new head ≡ ys = ap (λ (l : Lists). list_of l head) is ∙ get_or-set_same now.lists head ys [] here in
    let made : with_number now head x ≡ with_list old head ys =
    ap (λ (l : Lists). with_list l head ys) grew.others ∙ ap (λ (lists : List (List ℕ)). let l : Lists = record { numbers = old.numbers; lists = lists } in l) (set-set old.lists head (list_of now head) ys) in
    let before : length (list_of old head) ≤ length (list_of now head) = shorter (list_of old head) (list_of now head) grew.front in
    record {
      others = is ∙ made ∙ ap (with_list old head) (sym list_is);
      front = ap (take (length (list_of old head))) list_is ∙ take-append-le (length (list_of old head)) (list_of now head) (x ∷ []) before ∙ grew.front;
      long = ap length list_is ∙ length-append (list_of now head) (x ∷ []) ∙ omega (arith, grew.long);
    }

pub heads_stay : (old now : Lists) (head size : ℕ) → Grew old now head size → head < length old.lists → head < length now.lists
heads_stay old now head size grew there = omega (arith, ap (λ (l : Lists). length l.lists) grew.others, length-set old.lists head (list_of now head))

-- if all numbers are live, the chains have them all
pub full_total : (chains : Lists) (pool : PoolNumbers) → IsExact chains pool → ((x : ℕ) → x < place_count pool → IsTrue (is_live_number pool x)) → sum_by length chains.lists ≡ chains.numbers
full_total chains pool exact all =
    let below : (x : ℕ) → 0 < times_in_lists x chains.lists → x < chains.numbers = λ x has. elim (cases_Bool (is_live_number pool x)) [
      | inl live ↦ omega (arith, live_is_number pool x live, exact.places)
      | inr dead ↦ absurd (omega (arith, exact.live x, ap one_if dead))
    ] in
    total_is_sum chains.numbers chains.lists below ∙ sums_all (λ x. times_in_lists x chains.lists) chains.numbers (λ x short. exact.live x ∙ ap one_if (all x (omega (arith, exact.places))))

-- if as many are live as there are numbers, all are
all_live : (pool : PoolNumbers) → live_count pool ≡ place_count pool → (x : ℕ) → x < place_count pool → IsTrue (is_live_number pool x)
all_live pool full x below = elim (live_or_free pool x below) [
  | inl live ↦ live
  | inr free ↦ absurd (omega (arith, live_count_below pool x free))
]

-- so not all are live while there is room
pub not_full : (old now : Lists) (pool : PoolNumbers) (head long wanted : ℕ) → Grew old now head long → head < length old.lists → long < wanted → sum_by length old.lists + wanted ≤ old.numbers + length (list_of old head) → IsExact now pool → live_count pool ≡ place_count pool → ⊥
not_full old now pool head long wanted grew there short room exact all =
    let full = full_total now pool exact (all_live pool all) in
    let count = sum_by-set {X = List ℕ} length old.lists head (list_of now head) [] there in
    omega (arith, grew.long, ap (λ (l : Lists). sum_by length l.lists) grew.others, ap (λ (l : Lists). l.numbers) grew.others)

-- ── All chains ──

pub fit_start : (old : Lists) (pool : PoolNumbers) (lengths : List ℕ) (chunk : ℕ) → IsExact old pool → FitSoFar old old pool lengths chunk 0
fit_start old pool lengths chunk exact = record {
  many = refl;
  numbers = refl;
  front = λ i below. absurd (omega arith);
  long = λ i below. absurd (omega arith);
  later = λ i past. refl;
  exact = exact;
}

pub fit_more : (old now new : Lists) (pool after : PoolNumbers) (lengths : List ℕ) (chunk done wanted : ℕ) → FitSoFar old now pool lengths chunk done → done < length old.lists → Grew now new done wanted → wanted ≡ chunks_of chunk (get_or lengths done 0) → IsExact new after → FitSoFar old new after lengths chunk (done + 1)
fit_more old now new pool after lengths chunk done wanted fit there grew is exact =
    let here : done < length now.lists = omega (arith, fit.many) in
    let ys : List ℕ = list_of new done in
    let other : (i : ℕ) → i ≢ done → list_of new i ≡ list_of now i = λ i apart. ap (λ (l : Lists). list_of l i) grew.others ∙ get_or-set_other now.lists done i ys [] apart in
    let was : list_of now done ≡ list_of old done = fit.later done (omega arith) in
    record {
      many = ap (λ (l : Lists). length l.lists) grew.others ∙ length-set now.lists done ys ∙ fit.many;
      numbers = ap (λ (l : Lists). l.numbers) grew.others ∙ fit.numbers;
      front = λ i below. elim (cases_eq i done) [
        | inl same ↦ subst (λ k. take (length (list_of old k)) (list_of new k) ≡ list_of old k) (sym same) (subst (λ xs. take (length xs) ys ≡ xs) was grew.front)
        | inr apart ↦ ap (take (length (list_of old i))) (other i apart) ∙ fit.front i (omega arith)
      ];
      long = λ i below. elim (cases_eq i done) [
        | inl same ↦ subst (λ k. length (list_of new k) ≡ chunks_of chunk (get_or lengths k 0)) (sym same) (grew.long ∙ is)
        | inr apart ↦ ap length (other i apart) ∙ fit.long i (omega arith)
      ];
      later = λ i past. other i (λ e. absurd (omega arith)) ∙ fit.later i (omega arith);
      exact = exact;
    }

pub fit_end : (old new : Lists) (pool : PoolNumbers) (lengths : List ℕ) (chunk : ℕ) → FitSoFar old new pool lengths chunk (length lengths) → AreFitted old new lengths chunk
fit_end old new pool lengths chunk fit = record { many = fit.many; numbers = fit.numbers; front = fit.front; long = fit.long }

-- chains that fit so far have room for the rest
pub room_so_far : (old now : Lists) (pool : PoolNumbers) (lengths : List ℕ) (chunk done : ℕ) → HaveRoom old lengths chunk → FitSoFar old now pool lengths chunk done → HaveRoom now lengths chunk
room_so_far old now pool lengths chunk done room fit = record {
  many = fit.many ∙ room.many;
  within = λ i below. elim (cases_lt i done) [
    | inl before ↦ omega (arith, fit.long i before)
    | inr past ↦ omega (arith, ap length (fit.later i past), room.within i below)
  ];
}

-- ── Lengths of which the first are here, and all others are 0 ──

pub whole_front : (lengths : List ℕ) (many : ℕ) → many ≡ length lengths → lengths_from lengths many ≡ lengths
whole_front lengths many same =
    let none : many - length lengths ≡ 0 = omega (arith, same) in
    ap (λ n. lengths ++ replicate n 0) none ∙ append-nil lengths

zeros_at : (n i : ℕ) → slice_index (replicate n 0) i ≡ 0
zeros_at zero i = refl
zeros_at (suc n) zero = refl
zeros_at (suc n) (suc i) = zeros_at n i

-- there are as many as the chains only if these are no more
pub front_long : (front : List ℕ) (many : ℕ) → length (lengths_from front many) ≡ length front + (many - length front)
front_long front many =
    let both : length (lengths_from front many) ≡ length front + length {A = ℕ} (replicate (many - length front) 0) = length-append front (replicate (many - length front) 0) in
    let rest : length {A = ℕ} (replicate (many - length front) 0) ≡ many - length front = length-replicate (many - length front) 0 in
    omega (arith, both, rest)

pub front_few : (chains : Lists) (front : List ℕ) (chunk : ℕ) → HaveRoom chains (lengths_from front (length chains.lists)) chunk → length front ≤ length chains.lists
front_few chains front chunk room = omega (arith, room.many, front_long front (length chains.lists))

pub front_below : (chains : Lists) (front : List ℕ) (chunk i : ℕ) → HaveRoom chains (lengths_from front (length chains.lists)) chunk → i < length front → i < length (lengths_from front (length chains.lists))
front_below chains front chunk i room below = omega (arith, room.many, front_long front (length chains.lists), below)

pub front_at : (front : List ℕ) (many i : ℕ) → i < length front → get_or (lengths_from front many) i 0 ≡ get_or front i 0
front_at front many i below = get_or_append_left front (replicate (many - length front) 0) 0 i below

front_past : (front : List ℕ) (many i : ℕ) → length front ≤ i → get_or (lengths_from front many) i 0 ≡ 0
front_past front many i past =
    get_or-append_right front (replicate (many - length front) 0) (length front) i 0 refl past
    ∙ zeros_at (many - length front) (i - length front)

no_chunks : (chunk : ℕ) → 1 ≤ chunk → chunks_of chunk 0 ≡ 0
no_chunks chunk some = omega (arith, chunks_within chunk 0 some)

zeros_need : (chunk n : ℕ) → 1 ≤ chunk → chunk_need chunk (replicate n 0) ≡ 0
zeros_need chunk zero some = refl
zeros_need chunk (suc n) some =
    let next : chunk_need chunk (replicate (suc n) 0) ≡ chunks_of chunk 0 + chunk_need chunk (replicate n 0) = sum_by-cons (λ (k : ℕ). chunks_of chunk k) 0 (replicate n 0) in
    let later : chunk_need chunk (replicate n 0) ≡ 0 = zeros_need chunk n some in
    omega (arith, next, no_chunks chunk some, later)

-- the others need no chunks
pub front_need : (front : List ℕ) (many chunk : ℕ) → 1 ≤ chunk → chunk_need chunk front ≡ chunk_need chunk (lengths_from front many)
front_need front many chunk some =
    let both : chunk_need chunk (lengths_from front many) ≡ chunk_need chunk front + chunk_need chunk (replicate (many - length front) 0) =
    sum_by-append (λ (k : ℕ). chunks_of chunk k) front (replicate (many - length front) 0) in
    let none : chunk_need chunk (replicate (many - length front) 0) ≡ 0 = zeros_need chunk (many - length front) some in
    omega (arith, both, none)

-- when the first fit, all do
pub fit_front_end : (old new : Lists) (pool : PoolNumbers) (front : List ℕ) (chunk done : ℕ) → 1 ≤ chunk → HaveRoom old (lengths_from front (length old.lists)) chunk → FitSoFar old new pool (lengths_from front (length old.lists)) chunk done → length front ≤ done → AreFitted old new (lengths_from front (length old.lists)) chunk
fit_front_end old new pool front chunk done some room fit past = record {
  many = fit.many;
  numbers = fit.numbers;
  front = λ i below. elim (cases_lt i done) [
    | inl before ↦ fit.front i before
    | inr later ↦ take_all (length (list_of old i)) (list_of new i) (omega (arith, ap length (fit.later i later))) ∙ fit.later i later
  ];
  long = λ i below. elim (cases_lt i done) [
    | inl before ↦ fit.long i before
    | inr later ↦
        let zero_is : get_or (lengths_from front (length old.lists)) i 0 ≡ 0 = front_past front (length old.lists) i (omega (arith, past, later)) in
        let none : chunks_of chunk (get_or (lengths_from front (length old.lists)) i 0) ≡ 0 = ap (chunks_of chunk) zero_is ∙ no_chunks chunk some in
        omega (arith, ap length (fit.later i later), room.within i below, none)
  ];
}
