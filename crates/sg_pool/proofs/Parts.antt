-- Numbers that are live, on the free list, or past the mark: what taking and giving back changes.
use Rattle.std.proofs.Common.{◌≡◌, ◌≢◌, ℕ, ◌+◌, ◌-◌, ◌<◌, ◌≤◌, Bool, true, false, not, ◌||◌, ◌&&◌, ◌==◌, nat_le, cond, List, [], ◌∷◌, ◌++◌, length, get_or, refl, sym, ap, ◌∙◌, subst, arith, inl, inr, ◌⊎◌}
use Rattle.std.specs.Prelude.{IsTrue, slice_set, count_by}
use Rattle.std.specs.List.{All, range_with_len}
use Rattle.std.proofs.lemmas.Bool.{cases_Bool, cases_eq, cases_lt, false≢true}
use Rattle.std.proofs.lemmas.Bool.Decides.{leb_tells, eqb_tells}
use Rattle.std.proofs.lemmas.List.{length-set, get_or-set_same, get_or-set_other, get_or_default}
use Rattle.std.proofs.lemmas.List.Sums.{sum_by-set}
use Rattle.sg_links.specs.Lists.{times}
use Rattle.sg_links.proofs.Uses.{times-append, times_same, times_other, one_if}
use Rattle.sg_pool.specs.Numbers.{PoolNumbers, place_count, is_live_number, live_count, IsParted, IsFree, IsStock, stock_in_order, CanSettle, IsSettled, IsRaised, IsGivenBack}
use Rattle.sg_pool.specs.steps.Kept.{row, dead_in}
use Rattle.sg_pool.proofs.Lists.{or_false, eqb_apart}
use Rattle.sg_pool.proofs.Times.{range_before, range_past, range_within, dead_live, dead_dead, has_times, times_has, once_by_times}
use Rattle.sg_pool.proofs.Uses.{live_stays, taken_is_live, live_was_or_taken, live_is_number, all_live_counted}

-- ── What being parted says of one number ──

mark_splits : (mark n : ℕ) → ((one_if (nat_le mark n) ≡ 1) × (mark ≤ n)) ⊎ ((one_if (nat_le mark n) ≡ 0) × (n < mark))
mark_splits mark n = elim (leb_tells mark n) [
  | inl yes_is ↦ inl (ap one_if yes_is.0, yes_is.1)
  | inr no_is ↦ inr (ap one_if no_is.0, no_is.1)
]

before_mark : (mark n : ℕ) → n < mark → one_if (nat_le mark n) ≡ 0
before_mark mark n below = elim (mark_splits mark n) [
  | inl past ↦ absurd (omega (arith, past.1))
  | inr before ↦ before.0
]

-- a live number is below the mark, and not on the free list
pub parted_live : (pool : PoolNumbers) (n : ℕ) → IsParted pool → IsTrue (is_live_number pool n) → (times n pool.free ≡ 0) × (n < pool.mark)
parted_live pool n parted live =
    let one = parted.one_of n in
    let on : one_if (is_live_number pool n) ≡ 1 = ap one_if live in
    elim (mark_splits pool.mark n) [
      | inl past ↦ absurd (omega (arith, one, on, past.0))
      | inr before ↦ (omega (arith, one, on), before.1)
    ]

-- one that isn't live is on the free list or past the mark
pub parted_dead : (pool : PoolNumbers) (n : ℕ) → IsParted pool → is_live_number pool n ≡ false → times n pool.free + one_if (nat_le pool.mark n) ≡ 1
parted_dead pool n parted dead =
    let one = parted.one_of n in
    let off : one_if (is_live_number pool n) ≡ 0 = ap one_if dead in
    omega (arith, one, off)

-- what is on the free list is there once, is below the mark, and isn't live
pub parted_listed : (pool : PoolNumbers) (n : ℕ) → IsParted pool → 0 < times n pool.free → (times n pool.free ≡ 1) × (n < pool.mark) × (is_live_number pool n ≡ false)
parted_listed pool n parted stands =
    let one = parted.one_of n in
    elim (cases_Bool (is_live_number pool n)) [
      | inl live ↦ absurd (omega (arith, (parted_live pool n parted live).0))
      | inr dead ↦ elim (mark_splits pool.mark n) [
        | inl past ↦ absurd (omega (arith, parted_dead pool n parted dead, past.0))
        | inr before ↦ (omega (arith, parted_dead pool n parted dead, before.0), before.1, dead)
      ]
    ]

-- what is past the mark isn't on the free list, and isn't live
pub parted_past : (pool : PoolNumbers) (n : ℕ) → IsParted pool → pool.mark ≤ n → (times n pool.free ≡ 0) × (is_live_number pool n ≡ false)
parted_past pool n parted past = elim (cases_Bool (is_live_number pool n)) [
  | inl live ↦ absurd (omega (arith, (parted_live pool n parted live).1))
  | inr dead ↦ elim (mark_splits pool.mark n) [
    | inl above ↦ (omega (arith, parted_dead pool n parted dead, above.0), dead)
    | inr before ↦ absurd (omega (arith, before.1))
  ]
]

-- ── The stock ──

pub listed_is_free : (pool : PoolNumbers) (n : ℕ) → IsParted pool → 0 < times n pool.free → IsFree pool n
listed_is_free pool n parted stands =
    let listed = parted_listed pool n parted stands in
    record { below = omega (arith, listed.1, parted.within); not_live = listed.2 }

-- how often a number stands in the stock: once if it is free
stock_times : (pool : PoolNumbers) (n : ℕ) → times n (stock_in_order pool) ≡ times n pool.free + times n (range_with_len pool.mark (place_count pool - pool.mark))
stock_times pool n = times-append n pool.free (range_with_len pool.mark (place_count pool - pool.mark))

stock_once : (pool : PoolNumbers) (n : ℕ) → IsParted pool → times n (stock_in_order pool) ≤ 1
stock_once pool n parted =
    let rest : ℕ = place_count pool - pool.mark in
    let both = stock_times pool n in
    elim (cases_lt n pool.mark) [
      | inl before ↦
          let none : times n (range_with_len pool.mark rest) ≡ 0 = range_before n pool.mark rest before in
          let one = parted.one_of n in
          omega (arith, both, none, one)
      | inr past ↦
          let none = (parted_past pool n parted past).0 in
          elim (cases_lt n (place_count pool)) [
            | inl below ↦
                let one : times n (range_with_len pool.mark rest) ≡ 1 = range_within n pool.mark rest past (omega (arith, parted.within)) in
                omega (arith, both, none, one)
            | inr after ↦
                let no_more : times n (range_with_len pool.mark rest) ≡ 0 = range_past n pool.mark rest (omega (arith, parted.within)) in
                omega (arith, both, none, no_more)
          ]
    ]

stock_has : (pool : PoolNumbers) (n : ℕ) → IsParted pool → IsFree pool n → 0 < times n (stock_in_order pool)
stock_has pool n parted free =
    let rest : ℕ = place_count pool - pool.mark in
    let both = stock_times pool n in
    let dead = parted_dead pool n parted free.not_live in
    elim (mark_splits pool.mark n) [
      | inl past ↦
          let one : times n (range_with_len pool.mark rest) ≡ 1 = range_within n pool.mark rest past.1 (omega (arith, free.below, parted.within)) in
          omega (arith, both, one)
      | inr before ↦ omega (arith, both, dead, before.0)
    ]

stock_is_free : (pool : PoolNumbers) (n : ℕ) → IsParted pool → 0 < times n (stock_in_order pool) → IsFree pool n
stock_is_free pool n parted stands =
    let rest : ℕ = place_count pool - pool.mark in
    let both = stock_times pool n in
    elim (cases_lt n pool.mark) [
      | inl before ↦
          let none : times n (range_with_len pool.mark rest) ≡ 0 = range_before n pool.mark rest before in
          listed_is_free pool n parted (omega (arith, both, none))
      | inr past ↦
          let apart = parted_past pool n parted past in
          elim (cases_lt n (place_count pool)) [
            | inl below ↦ record { below = below; not_live = apart.1 }
            | inr after ↦
                let no_more : times n (range_with_len pool.mark rest) ≡ 0 = range_past n pool.mark rest (omega (arith, parted.within)) in
                absurd (omega (arith, both, no_more, apart.0))
          ]
    ]

pub stock_is_stock : (pool : PoolNumbers) → IsParted pool → IsStock pool (stock_in_order pool)
stock_is_stock pool parted = record {
  members = λ n. (
    λ has. stock_is_free pool n parted (has_times n (stock_in_order pool) has),
    λ free. times_has n (stock_in_order pool) (stock_has pool n parted free),
  );
  once = once_by_times (stock_in_order pool) (λ n. stock_once pool n parted);
}

-- ── A new pool ──

pub made_parted : (live : List Bool) → ((n : ℕ) → get_or live n false ≡ false) → IsParted (record { live = live; free = []; mark = 0 })
made_parted live none = record {
  within = omega arith;
  one_of = λ n.
      let off : one_if (get_or live n false) ≡ 0 = ap one_if (none n) in
      let all : one_if (nat_le 0 n) ≡ 1 = elim (mark_splits 0 n) [
        | inl past ↦ past.0
        | inr before ↦ absurd (omega (arith, before.1))
      ] in
      let result : one_if (get_or live n false) + times n [] + one_if (nat_le 0 n) ≡ 1 = omega (arith, off, all) in
      result;
}

-- if nothing is on the free list and the mark is at the end all numbers are live
pub full_is_live : (pool : PoolNumbers) → IsParted pool → pool.free ≡ [] → place_count pool ≤ pool.mark → live_count pool ≡ place_count pool
full_is_live pool parted empty past = all_live_counted pool (λ n below. elim (cases_Bool (is_live_number pool n)) [
  | inl live ↦ live
  | inr dead ↦
      let none : times n pool.free ≡ 0 = ap (times n) empty in
      absurd (omega (arith, parted_dead pool n parted dead, none, before_mark pool.mark n (omega arith)))
])

-- ── Settling ──

-- of rows of what is live, and of pools that have them
pub free_row : (pool : PoolNumbers) (n : ℕ) → IsFree pool n → IsFree (row pool.live) n
free_row pool n free = record { below = free.below; not_live = free.not_live }

pub can_settle_row : (pool : PoolNumbers) (taken : List ℕ) → CanSettle pool taken → CanSettle (row pool.live) taken
can_settle_row pool taken can = record { free = λ i d below. free_row pool (get_or taken i d) (can.free i d below); once = can.once }

pub settled_row : (old new : PoolNumbers) (taken : List ℕ) → IsSettled (row old.live) (row new.live) taken → IsSettled old new taken
settled_row old new taken settled = record { places = settled.places; live = settled.live; count = settled.count }

-- what was taken is live, and what is live now of a free list was taken
pub taken_live : (old live : List Bool) (taken : List ℕ) → IsSettled (row old) (row live) taken → All (λ x. get_or live x false ≡ true) taken
taken_live old live taken settled = λ i d below.
    taken_is_live (row old) (row live) taken (get_or taken i d) settled (i, below, sym (get_or_default taken i d (get_or taken i d) below))

pub listed_taken : (pool : PoolNumbers) (live : List Bool) (taken : List ℕ) → IsSettled (row pool.live) (row live) taken → (x : ℕ) → IsParted pool → 0 < times x pool.free → get_or live x false ≡ true → 0 < times x taken
listed_taken pool live taken settled x parted stands on = elim (live_was_or_taken (row pool.live) (row live) taken x settled on) [
  | inl was ↦ absurd (false≢true (sym (parted_listed pool x parted stands).2 ∙ was))
  | inr there ↦ has_times x taken there
]

pub taken_below : (pool : PoolNumbers) (taken : List ℕ) → CanSettle pool taken → All (λ n. n < place_count pool) taken
taken_below pool taken can i d below = (can.free i d below).below

-- what is live after settling is below the new mark
live_below_mark : (old : PoolNumbers) (live : List Bool) (taken : List ℕ) (mark n : ℕ) → IsParted old → IsSettled (row old.live) (row live) taken → IsRaised old.mark taken mark → get_or live n false ≡ true → n < mark
live_below_mark old live taken mark n parted settled raised on =
    elim (live_was_or_taken (row old.live) (row live) taken n settled on) [
      | inl was ↦ omega (arith, (parted_live old n parted was).1, raised.rises)
      | inr has ↦
          let below : get_or taken has.0 n < mark = raised.past has.0 n has.1 in
          omega (arith, below, has.2)
    ]

-- what isn't live after settling wasn't
dead_was : (old live : List Bool) (taken : List ℕ) (n : ℕ) → IsSettled (row old) (row live) taken → get_or live n false ≡ false → get_or old n false ≡ false
dead_was old live taken n settled off = elim (cases_Bool (get_or old n false)) [
  | inl was ↦
      let still : get_or live n false ≡ true = live_stays (row old) (row live) taken n settled was in
      absurd (false≢true (sym off ∙ still))
  | inr dead ↦ dead
]

-- the free list after settling: what isn't taken of it, and then what the mark has passed
abbrev pub free_after : PoolNumbers → List Bool → ℕ → List ℕ
free_after old live mark = dead_in live old.free ++ dead_in live (range_with_len old.mark (mark - old.mark))

free_times : (old : PoolNumbers) (live : List Bool) (mark n : ℕ) → times n (free_after old live mark) ≡ times n (dead_in live old.free) + times n (dead_in live (range_with_len old.mark (mark - old.mark)))
free_times old live mark n = times-append n (dead_in live old.free) (dead_in live (range_with_len old.mark (mark - old.mark)))

one_of_settled : (old : PoolNumbers) (live : List Bool) (taken : List ℕ) (mark n : ℕ) → IsParted old → IsSettled (row old.live) (row live) taken → IsRaised old.mark taken mark → one_if (get_or live n false) + times n (free_after old live mark) + one_if (nat_le mark n) ≡ 1
one_of_settled old live taken mark n parted settled raised =
    let range : List ℕ = range_with_len old.mark (mark - old.mark) in
    let both = free_times old live mark n in
    let rises : old.mark ≤ mark = raised.rises in
    elim (cases_Bool (get_or live n false)) [
      | inl on ↦
          let passed : n < mark = live_below_mark old live taken mark n parted settled raised on in
          omega (arith, both, dead_live live n old.free on, dead_live live n range on, ap one_if on, before_mark mark n passed)
      | inr off ↦
          let was : is_live_number old n ≡ false = dead_was old.live live taken n settled off in
          let one : times n old.free + one_if (nat_le old.mark n) ≡ 1 = parted_dead old n parted was in
          let listed : times n (dead_in live old.free) ≡ times n old.free = dead_dead live n old.free off in
          let passed : times n (dead_in live range) ≡ times n range = dead_dead live n range off in
          elim (mark_splits old.mark n) [
            | inl past ↦ elim (mark_splits mark n) [
              | inl above ↦
                  let none : times n range ≡ 0 = range_past n old.mark (mark - old.mark) (omega (arith, above.1)) in
                  omega (arith, both, listed, passed, none, ap one_if off, past.0, above.0, one)
              | inr under ↦
                  let there : times n range ≡ 1 = range_within n old.mark (mark - old.mark) past.1 (omega (arith, under.1)) in
                  omega (arith, both, listed, passed, there, ap one_if off, past.0, under.0, one)
            ]
            | inr before ↦
                let none : times n range ≡ 0 = range_before n old.mark (mark - old.mark) before.1 in
                omega (arith, both, listed, passed, none, ap one_if off, before.0, before_mark mark n (omega (arith, before.1)), one)
          ]
    ]

pub parted_settled : (old : PoolNumbers) (live : List Bool) (taken : List ℕ) (mark : ℕ) → IsParted old → IsSettled (row old.live) (row live) taken → IsRaised old.mark taken mark → mark ≤ place_count old → IsParted (record { live = live; free = free_after old live mark; mark = mark })
parted_settled old live taken mark parted settled raised within = record {
  within = omega (arith, settled.places, within);
  one_of = λ n. one_of_settled old live taken mark n parted settled raised;
}

-- ── Drawing ──

drawn_here : (old live : List Bool) (x : ℕ) → IsSettled (row old) (row live) (x ∷ []) → get_or live x false ≡ true
drawn_here old live x settled = taken_is_live (row old) (row live) (x ∷ []) x settled (0, omega arith, refl)

drawn_other : (old live : List Bool) (x n : ℕ) → x ≢ n → IsSettled (row old) (row live) (x ∷ []) → get_or live n false ≡ get_or old n false
drawn_other old live x n other settled =
    let missed : (x == n) ≡ false = eqb_apart x n other in
    let now : get_or live n false ≡ (get_or old n false || ((x == n) || false)) = settled.live n in
    now ∙ ap (λ b. get_or old n false || (b || false)) missed ∙ or_false (get_or old n false)

one_of_listed : (old : PoolNumbers) (live : List Bool) (x n : ℕ) (rest : List ℕ) → IsParted old → old.free ≡ x ∷ rest → IsSettled (row old.live) (row live) (x ∷ []) → one_if (get_or live n false) + times n rest + one_if (nat_le old.mark n) ≡ 1
one_of_listed old live x n rest parted front settled =
    let list : times n old.free ≡ times n (x ∷ rest) = ap (times n) front in
    elim (cases_eq x n) [
      | inl same ↦
          let here : get_or live n false ≡ true = subst (λ k. get_or live k false ≡ true) same (drawn_here old.live live x settled) in
          let more : times n (x ∷ rest) ≡ 1 + times n rest = subst (λ k. times k (x ∷ rest) ≡ 1 + times k rest) same (times_same x rest) in
          let listed = parted_listed old n parted (omega (arith, list, more)) in
          omega (arith, ap one_if here, list, more, listed.0, before_mark old.mark n listed.1)
      | inr other ↦
          let there : get_or live n false ≡ get_or old.live n false = drawn_other old.live live x n other settled in
          omega (arith, ap one_if there, list, times_other n x rest other, parted.one_of n)
    ]

pub parted_listed_drawn : (old : PoolNumbers) (live : List Bool) (x : ℕ) (rest : List ℕ) → IsParted old → old.free ≡ x ∷ rest → IsSettled (row old.live) (row live) (x ∷ []) → IsParted (record { live = live; free = rest; mark = old.mark })
parted_listed_drawn old live x rest parted front settled = record {
  within = omega (arith, settled.places, parted.within);
  one_of = λ n. one_of_listed old live x n rest parted front settled;
}

one_of_unused : (old : PoolNumbers) (live : List Bool) (n : ℕ) → IsParted old → IsSettled (row old.live) (row live) (old.mark ∷ []) → one_if (get_or live n false) + times n old.free + one_if (nat_le (old.mark + 1) n) ≡ 1
one_of_unused old live n parted settled = elim (cases_eq old.mark n) [
  | inl same ↦
      let here : get_or live n false ≡ true = subst (λ k. get_or live k false ≡ true) same (drawn_here old.live live old.mark settled) in
      let apart = parted_past old n parted (omega arith) in
      omega (arith, ap one_if here, apart.0, before_mark (old.mark + 1) n (omega arith))
  | inr other ↦
      let there : get_or live n false ≡ get_or old.live n false = drawn_other old.live live old.mark n other settled in
      let one = parted.one_of n in
      elim (mark_splits old.mark n) [
        | inl past ↦ elim (mark_splits (old.mark + 1) n) [
          | inl above ↦ omega (arith, ap one_if there, one, past.0, above.0)
          | inr under ↦ absurd (omega (arith, past.1, under.1))
        ]
        | inr before ↦ omega (arith, ap one_if there, one, before.0, before_mark (old.mark + 1) n (omega (arith, before.1)))
      ]
]

pub parted_unused_drawn : (old : PoolNumbers) (live : List Bool) → IsParted old → old.mark < place_count old → IsSettled (row old.live) (row live) (old.mark ∷ []) → IsParted (record { live = live; free = old.free; mark = old.mark + 1 })
parted_unused_drawn old live parted room settled = record {
  within = omega (arith, settled.places);
  one_of = λ n. one_of_unused old live n parted settled;
}

-- ── Giving back ──

unmarked_here : (live : List Bool) (x : ℕ) → x < length live → get_or (slice_set live x false) x false ≡ false
unmarked_here live x below = get_or-set_same live x false false below

unmarked_other : (live : List Bool) (x n : ℕ) → x ≢ n → get_or (slice_set live x false) n false ≡ get_or live n false
unmarked_other live x n other = get_or-set_other live x n false false (λ e. other (sym e))

count_unmarked : (live : List Bool) (x : ℕ) → get_or live x false ≡ true → x < length live → count_by (λ b. b) (slice_set live x false) + 1 ≡ count_by (λ b. b) live
count_unmarked live x on below =
    let f : Bool → ℕ = λ b. cond b 1 0 in
    let moved = sum_by-set f live x false false below in
    let one : f (get_or live x false) ≡ 1 = ap f on in
    omega arith

one_of_given : (old : PoolNumbers) (x n : ℕ) → IsParted old → IsTrue (is_live_number old x) → one_if (get_or (slice_set old.live x false) n false) + times n (x ∷ old.free) + one_if (nat_le old.mark n) ≡ 1
one_of_given old x n parted live =
    let below : x < place_count old = live_is_number old x live in
    elim (cases_eq x n) [
      | inl same ↦
          let here : get_or (slice_set old.live x false) n false ≡ false = subst (λ k. get_or (slice_set old.live x false) k false ≡ false) same (unmarked_here old.live x below) in
          let more : times n (x ∷ old.free) ≡ 1 + times n old.free = subst (λ k. times k (x ∷ old.free) ≡ 1 + times k old.free) same (times_same x old.free) in
          let was = parted_live old x parted live in
          let none : times n old.free ≡ 0 = subst (λ k. times k old.free ≡ 0) same was.0 in
          omega (arith, ap one_if here, more, none, before_mark old.mark n (omega (arith, was.1)))
      | inr other ↦
          let there : get_or (slice_set old.live x false) n false ≡ get_or old.live n false = unmarked_other old.live x n other in
          omega (arith, ap one_if there, times_other n x old.free other, parted.one_of n)
    ]

pub parted_given : (old : PoolNumbers) (x : ℕ) → IsParted old → IsTrue (is_live_number old x) → IsParted (record { live = slice_set old.live x false; free = x ∷ old.free; mark = old.mark })
parted_given old x parted live = record {
  within = omega (arith, length-set old.live x false, parted.within);
  one_of = λ n. one_of_given old x n parted live;
}

and_not_false : (a : Bool) → (a && not false) ≡ a
and_not_false true = refl
and_not_false false = refl

and_not_true : (a : Bool) → (a && not true) ≡ false
and_not_true true = refl
and_not_true false = refl

pub given_back : (old : PoolNumbers) (x : ℕ) → IsTrue (is_live_number old x) → IsGivenBack old (record { live = slice_set old.live x false; free = x ∷ old.free; mark = old.mark }) x
given_back old x live =
    let below : x < place_count old = live_is_number old x live in
    record {
      places = length-set old.live x false;
      live = λ n. elim (cases_eq n x) [
        | inl same ↦
            let found : (n == x) ≡ true = yes_of n x same in
            let here : get_or (slice_set old.live x false) n false ≡ false = subst (λ k. get_or (slice_set old.live x false) k false ≡ false) (sym same) (unmarked_here old.live x below) in
            here ∙ sym (ap (λ b. is_live_number old n && not b) found ∙ and_not_true (is_live_number old n))
        | inr other ↦
            let missed : (n == x) ≡ false = eqb_apart n x other in
            unmarked_other old.live x n (λ e. other (sym e)) ∙ sym (ap (λ b. is_live_number old n && not b) missed ∙ and_not_false (is_live_number old n))
      ];
      count = count_unmarked old.live x live below;
      free = refl;
      mark = refl;
    }
  where
    yes_of : (a b : ℕ) → a ≡ b → (a == b) ≡ true
    yes_of a b same = elim (eqb_tells a b) [
      | inl yes_is ↦ yes_is.0
      | inr no_is ↦ absurd (no_is.1 same)
    ]
