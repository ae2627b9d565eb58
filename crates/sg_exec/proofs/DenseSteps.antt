-- Steps over dense nodes, by words.
use Rattle.std.proofs.Common.{◌≡◌, ℕ, ◌+◌, ◌-◌, ◌*◌, ◌/◌, ◌%◌, ◌^◌, ◌<◌, ◌≤◌, inl, Bool, true, false, cond, eqb, ltb, List, length, get_or, Option, Some, None, refl, sym, ap, ap₂, ◌∙◌, subst, arith}
use Rattle.std.specs.Prelude.{◌==◌, IfSome, nat_lt, replicate, slice_get, slice_index, if◌then◌else◌}
use Rattle.std.proofs.lemmas.Bool.{eqb-true, eqb-false, ltb-true, ltb-false}
use Rattle.std.proofs.lemmas.Simd.{length-zip2, length-replicate, get_or-zip2, get_or-replicate}
use lib.Lanes.{zip2, sel_l}
use Rattle.sg_layout.specs.Axes.{sizes_of}
use Rattle.sg_store.specs.declared.spot.Spot.{Spot}
use Rattle.sg_store.specs.StoreWords.{StoreWords}
use Rattle.sg_store.specs.DenseNodes.{spot_over, IsDenseNode}
use Rattle.sg_exec.specs.declared.lanes.held.Held.{Held}
use Rattle.sg_exec.specs.steps.Machines.{IsHeld, StepsDown}
use Rattle.sg_exec.specs.steps.Holding.{held_of, IsOneOf, StepsWithin, IsDenseStep}
use Rattle.sg_exec.proofs.HeldWords.{held_from, select_at}
use Rattle.sg_exec.proofs.Rows.{mixed, mixed_long, mixed_at}
use Rattle.sg_exec.proofs.PlacesHeld.{StepLaws, dead_size, under_either, spot_of, steps_down, steps_none}

pub steps_within : (store : StoreWords) → StepLaws store → (above node : ℕ) (size : Option ℕ) → above < 6 → above + 1 ≡ node → IfSome size (IsDenseNode store above) → IfSome size (StepsWithin store above node)
steps_within store laws above node None few next dense = tt
steps_within store laws above node (Some size) few next dense = record {
  few = few;
  room = dense.room;
  leads = λ spot path offset here along low.
      under_either store spot node offset (Some (spot_over spot size offset)) (inl (omega (arith, here, next))) (omega (arith, here, dense.within)) (λ path along. dense.leads spot path offset here along low) path along;
  past = λ spot path offset here along high.
      let same : slice_index (sizes_of store.shape.nodes) spot.node ≡ size = ap (slice_index (sizes_of store.shape.nodes)) here ∙ sym dense.size_is in
      dead_size store laws spot node path offset (omega (arith, same, high)) along;
}

pub dense_step : (stores : List StoreWords) (one node : ℕ) (store : StoreWords) (size : Option ℕ) → 1 ≤ one → slice_get stores ((one - 1) / 8) ≡ Some store → IfSome size (StepsWithin store ((one - 1) % 8) node) → IfSome size (IsDenseStep stores one node)
dense_step stores one node store None some there steps = tt
dense_step stores one node store (Some size) some there steps = record { some = some; store = store; there = there; steps = steps }

-- ---- one column

-- what a word that is one stands for
abbrev held_one : ℕ → ℕ → ℕ → Held
held_one one part slot = record { layout = (one - 1) / 8; spot = record { node = (one - 1) % 8; part = part; slot = slot } }

is_held : (stores : List StoreWords) (one part slot : ℕ) → 1 ≤ one → IfSome (held_of one part slot) (IsHeld stores) → IsHeld stores (held_one one part slot)
is_held stores one part slot some held = subst (λ (it : Option Held). IfSome it (IsHeld stores)) (held_from one part slot some) held

-- the word for the node after it
next_held : (one part slot : ℕ) → 1 ≤ one → (one - 1) % 8 < 6 → held_of (one + 1) part slot ≡ Some (record { layout = (one - 1) / 8; spot = record { node = (one - 1) % 8 + 1; part = part; slot = slot } })
next_held one part slot some few =
    let made : ℕ → ℕ → Option Held = λ l n. Some (record { layout = l; spot = record { node = n; part = part; slot = slot } }) in
    held_from (one + 1) part slot (omega arith) ∙ ap₂ made (omega (arith, some, few)) (omega (arith, some, few))

-- where the offset is below the size
over_below : (stores : List StoreWords) (one node size part slot offset wrapped : ℕ) → (dense : IsDenseStep stores one node size) → IsHeld stores (held_one one part slot) → offset < size → wrapped ≡ ((slot * size) % 2 ^ 32 + offset) % 2 ^ 32
    → StepsDown stores node offset (Some (held_one one part slot)) (held_of (one + 1) part wrapped)
over_below stores one node size part slot offset wrapped dense held low is =
    let spot : Spot = (held_one one part slot).spot in
    let room = dense.steps.room spot refl (spot_of stores (held_one one part slot) dense.store held dense.there) in
    let slot_is : wrapped ≡ slot * size + offset = omega (arith, room, low, is) in
    subst (λ (it : Option Held). StepsDown stores node offset (Some (held_one one part slot)) it)
    (sym (next_held one part wrapped dense.some dense.steps.few ∙ ap (λ (s : ℕ). Some (record { layout = (one - 1) / 8; spot = record { node = (one - 1) % 8 + 1; part = part; slot = s } })) slot_is))
    (steps_down stores (held_one one part slot) dense.store (Some (spot_over spot size offset)) node offset _ dense.there held (λ path along. dense.steps.leads spot path offset refl along low) tt refl)

-- past the size
over_past : (stores : List StoreWords) (one node size part slot offset other : ℕ) → (dense : IsDenseStep stores one node size) → IsHeld stores (held_one one part slot) → size ≤ offset
    → StepsDown stores node offset (Some (held_one one part slot)) (held_of 0 part other)
over_past stores one node size part slot offset other dense held high =
    steps_down stores (held_one one part slot) dense.store None node offset _ dense.there held tt (λ path along. dense.steps.past (held_one one part slot).spot path offset refl along high) refl

-- a place below by words
pub over_at : (stores : List StoreWords) (one node size kind part slot offset below wrapped : ℕ) → IsDenseStep stores one node size → IfSome (held_of kind part slot) (IsHeld stores) → IsOneOf kind one
    → below ≡ (if nat_lt offset size then (if kind == 0 then 0 else one + 1) else 0) → wrapped ≡ ((slot * size) % 2 ^ 32 + offset) % 2 ^ 32 → StepsDown stores node offset (held_of kind part slot) (held_of below part wrapped)
over_at stores one node size kind part slot offset below wrapped dense held same is wrapped_is =
    subst (λ (b : ℕ). StepsDown stores node offset (held_of kind part slot) (held_of b part wrapped)) (sym is) (by_kind (kind == 0) refl)
  where
    by_offset : kind ≡ one → (b : Bool) → nat_lt offset size ≡ b → StepsDown stores node offset (Some (held_one one part slot)) (held_of (if b then one + 1 else 0) part wrapped)
    by_offset here true lower = over_below stores one node size part slot offset wrapped dense (is_held stores one part slot dense.some (subst (λ (n : ℕ). IfSome (held_of n part slot) (IsHeld stores)) here held)) (ltb-true offset size lower) wrapped_is
    by_offset here false past = over_past stores one node size part slot offset wrapped dense (is_held stores one part slot dense.some (subst (λ (n : ℕ). IfSome (held_of n part slot) (IsHeld stores)) here held)) (ltb-false offset size past)

    none_below : (b : Bool) → StepsDown stores node offset None (held_of (if b then 0 else 0) part wrapped)
    none_below true = steps_none stores node offset
    none_below false = steps_none stores node offset

    by_kind : (b : Bool) → (kind == 0) ≡ b → StepsDown stores node offset (held_of kind part slot) (held_of (if nat_lt offset size then (if b then 0 else one + 1) else 0) part wrapped)
    by_kind true none = subst (λ (n : ℕ). StepsDown stores node offset (held_of n part slot) (held_of (if nat_lt offset size then 0 else 0) part wrapped)) (sym (eqb-true kind 0 none)) (none_below (nat_lt offset size))
    by_kind false some =
        let here : kind ≡ one = same (eqb-false kind 0 some) in
        subst (λ (it : Option Held). StepsDown stores node offset it (held_of (if nat_lt offset size then one + 1 else 0) part wrapped)) (sym (ap (λ (n : ℕ). held_of n part slot) here ∙ held_from one part slot dense.some)) (by_offset here (nat_lt offset size) refl)

-- ---- lanes

-- kinds over offsets
pub kinds_over_at : (kinds offsets : List ℕ) (next size k : ℕ) → k < 32 → length kinds ≡ 32 → length offsets ≡ 32
    → get_or (sel_l {A = ℕ} (zip2 ltb offsets (replicate 32 size)) (mixed kinds (replicate 32 next) (replicate 32 0)) (replicate 32 0)) k 0 ≡ (if nat_lt (get_or offsets k 0) size then (if get_or kinds k 0 == 0 then 0 else next) else 0)
kinds_over_at kinds offsets next size k small a b =
    let n : length (replicate {A = ℕ} 32 next) ≡ 32 = length-replicate {A = ℕ} 32 next in
    let z : length (replicate {A = ℕ} 32 0) ≡ 32 = length-replicate {A = ℕ} 32 0 in
    let below : get_or (mixed kinds (replicate 32 next) (replicate 32 0)) k 0 ≡ cond (get_or kinds k 0 == 0) 0 next =
    mixed_at kinds (replicate 32 next) (replicate 32 0) k small a n z
    ∙ ap₂ (λ (x y : ℕ). cond (get_or kinds k 0 == 0) x y) (get_or-replicate 32 k 0 0 small) (get_or-replicate 32 k next 0 small) in
    select_at ltb offsets (replicate 32 size) (mixed kinds (replicate 32 next) (replicate 32 0)) (replicate 32 0) k small b (length-replicate {A = ℕ} 32 size) (mixed_long kinds (replicate 32 next) (replicate 32 0) a n z) z
    ∙ ap (λ (x : ℕ). cond (ltb (get_or offsets k 0) x) (get_or (mixed kinds (replicate 32 next) (replicate 32 0)) k 0) (get_or (replicate 32 0) k 0)) (get_or-replicate 32 k size 0 small)
    ∙ ap₂ (λ (x y : ℕ). cond (ltb (get_or offsets k 0) size) x y) below (get_or-replicate 32 k 0 0 small)

-- slots over offsets
pub slots_over_at : (slots offsets : List ℕ) (size k : ℕ) → k < 32 → length slots ≡ 32 → length offsets ≡ 32
    → get_or (zip2 (λ x y. (x + y) % 2 ^ 32) (zip2 (λ x y. (x * y) % 2 ^ 32) slots (replicate 32 size)) offsets) k 0 ≡ ((get_or slots k 0 * size) % 2 ^ 32 + get_or offsets k 0) % 2 ^ 32
slots_over_at slots offsets size k small a b =
    let times : ℕ → ℕ → ℕ = λ x y. (x * y) % 2 ^ 32 in
    let plus : ℕ → ℕ → ℕ = λ x y. (x + y) % 2 ^ 32 in
    let r : length (replicate {A = ℕ} 32 size) ≡ 32 = length-replicate {A = ℕ} 32 size in
    let long : length (zip2 times slots (replicate 32 size)) ≡ length slots = length-zip2 times slots (replicate 32 size) (omega (arith, a, r)) in
    get_or-zip2 plus (zip2 times slots (replicate 32 size)) offsets k 0 0 0 (omega (arith, small, a, long)) (omega (arith, small, b))
    ∙ ap (λ (x : ℕ). plus x (get_or offsets k 0))
    (get_or-zip2 times slots (replicate 32 size) k 0 0 0 (omega (arith, small, a)) (omega (arith, small, r)) ∙ ap (λ (y : ℕ). times (get_or slots k 0) y) (get_or-replicate 32 k size 0 small))
