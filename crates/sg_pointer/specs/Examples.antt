-- Worked: a pass over four slots that is settled, and slot words that no pass leaves.
use Rattle.std.specs.Prelude.{◌≡◌, ℕ, zero, suc, ◌+◌, ◌<◌, false, List, [], ◌∷◌, length, slice_index, refl}
use Rattle.std.proofs.Common.{lit<, arith, subst₂}
use Rattle.sg_words.specs.declared.race.Worker.{Worker}
use Rattle.sg_words.specs.Counts.{firsts}
use Rattle.sg_words.specs.RaceMachine.{newcomer, after_draw, after_link}
use Rattle.sg_words.specs.Stocks.{Settled}
use Rattle.sg_words.proofs.Uses.{pair_cases}

-- slot 1 has the number 5; the numbers 4 and 9 can be had
abbrev old : List ℕ
old = 0 ∷ 6 ∷ 0 ∷ 0 ∷ []

abbrev stock : List ℕ
stock = 4 ∷ 9 ∷ []

-- a seat that drew ticket 1, and linked slot 2 to the number 9
abbrev linker : Worker
linker = after_link 0 2 1 9 (after_draw 0 2 1 (newcomer (2 ∷ []) 16))

abbrev new : List ℕ
new = 0 ∷ 6 ∷ 10 ∷ 0 ∷ []

pub linked_is_settled : Settled old stock linker new false
linked_is_settled = record {
  long = refl;
  stay = stays;
  seen = λ i n. pair_cases (λ x. 0 < x + 0 → slice_index new i ≡ n + 1) 2 9 i n (λ here there _. subst₂ (λ i n. slice_index new i ≡ n + 1) here there refl) (λ _ none. absurd (omega (arith, none)));
  made = λ i t. pair_cases (λ x. 0 < x + 0 → (slice_index old i ≡ 0) × (t < length stock) × (slice_index new i ≡ slice_index stock t + 1)) 2 1 i t
      (λ here there _. subst₂ (λ i t. (slice_index old i ≡ 0) × (t < length stock) × (slice_index new i ≡ slice_index stock t + 1)) here there (refl, lit< tt, refl))
      (λ _ none. absurd (omega (arith, none)));
  bare = bare;
  of_stock = of_stock;
  once = once;
  ran_dry = refl;
  filled = λ c room dry. absurd (cc (dry));
}
  where
    stays : (i : ℕ) → 0 < slice_index old i → slice_index new i ≡ slice_index old i
    stays zero full = refl
    stays (suc zero) full = refl
    stays (suc (suc zero)) full = absurd (omega (arith, full))
    stays (suc (suc (suc zero))) full = refl
    stays (suc (suc (suc (suc i)))) full = refl

    bare : (i : ℕ) → slice_index old i ≡ 0 → firsts i linker.made ≡ 0 → slice_index new i ≡ 0
    bare zero empty none = refl
    bare (suc zero) empty none = empty
    bare (suc (suc zero)) empty none = absurd (omega (arith, none))
    bare (suc (suc (suc zero))) empty none = refl
    bare (suc (suc (suc (suc i)))) empty none = refl

    of_stock : (i : ℕ) → slice_index old i ≡ 0 → 0 < slice_index new i → (t : ℕ) × (t < length stock) × (slice_index new i ≡ slice_index stock t + 1)
    of_stock zero empty full = absurd (omega (arith, full))
    of_stock (suc zero) empty full = absurd (omega (arith, empty))
    of_stock (suc (suc zero)) empty full = (1, lit< tt, refl)
    of_stock (suc (suc (suc zero))) empty full = absurd (omega (arith, full))
    of_stock (suc (suc (suc (suc i)))) empty full = absurd (omega (arith, full))

    once : (i j : ℕ) → slice_index old i ≡ 0 → 0 < slice_index new i → slice_index new i ≡ slice_index new j → i ≡ j
    once zero j empty full same = absurd (omega (arith, full))
    once (suc zero) j empty full same = absurd (omega (arith, empty))
    once (suc (suc zero)) zero empty full same = absurd (omega (arith, same))
    once (suc (suc zero)) (suc zero) empty full same = absurd (omega (arith, same))
    once (suc (suc zero)) (suc (suc zero)) empty full same = refl
    once (suc (suc zero)) (suc (suc (suc zero))) empty full same = absurd (omega (arith, same))
    once (suc (suc zero)) (suc (suc (suc (suc j)))) empty full same = absurd (omega (arith, same))
    once (suc (suc (suc zero))) j empty full same = absurd (omega (arith, full))
    once (suc (suc (suc (suc i)))) j empty full same = absurd (omega (arith, full))

-- a number that stands in two slots was handed out twice
pub twice_is_not_settled : Settled old stock linker (0 ∷ 6 ∷ 10 ∷ 10 ∷ []) false → ⊥
twice_is_not_settled settled = let same : 2 ≡ 3 = settled.once 2 3 refl (lit< tt) refl in omega (arith, same)

-- an old link that was written over
pub over_an_old_link_is_not : Settled old stock linker (0 ∷ 5 ∷ 10 ∷ 0 ∷ []) false → ⊥
over_an_old_link_is_not settled = let same : 5 ≡ 6 = settled.stay 1 (lit< tt) in omega (arith, same)
