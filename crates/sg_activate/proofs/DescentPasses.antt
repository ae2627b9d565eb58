-- The moves of a seat of a descent.
use Rattle.std.proofs.Common.{◌≡◌, ℕ, zero, suc, ◌+◌, ◌-◌, ◌/◌, ◌%◌, ◌^◌, ◌<◌, ◌≤◌, ◌==◌, List, [], ◌∷◌, length, drop, refl, ap, ◌∙◌, arith, sym, subst}
use Rattle.std.specs.Prelude.{slice_index_or}
use Rattle.std.proofs.lemmas.List.{length-map, length-take, length-drop, get_or-map}
use Rattle.std.specs.Prelude.{slice_index, bit_or}
use mathlib.Core.Option.{none}
use prog.Atomic.{either}
use Rattle.atomic_table.specs.Table.{Me, step, Allows}
use Rattle.sg_words.specs.declared.race.Worker.{Worker}
use Rattle.sg_words.specs.Counts.{pairs, firsts}
use Rattle.sg_words.specs.RaceMachine.{KnowsContainer, after_draw}
use Rattle.sg_words.specs.steps.RaceSteps.{after_try}
use Rattle.sg_activate.specs.declared.descent.seat.DescentPass.{DescentPass}
use Rattle.sg_activate.specs.TableParts.{first_of, part_of}
use Rattle.sg_activate.specs.DescentRace.{slots_each, places_each, limits_of, slot_part, stock_at, told_slots, over_slot_at, over_bit_at, told_at, setting_of, looks, draws, tries, marks}
use Rattle.sg_activate.specs.declared.descent.rule.SlotPart.{SlotPart}
use Rattle.sg_words.proofs.Uses.{range-long}
use Rattle.sg_activate.proofs.DescentParts.{part-fits}
use Rattle.sg_activate.proofs.DescentMoves.{Holds, looks-allowed, draws-allowed, tries-allowed, marks-allowed, limit-is, bound-told, slots-told}

module _ (p : DescentPass) where
  pub look-allowed : (slots id : ℕ) (me : Me (Unit {0}) Worker) (i : ℕ) → 0 < me.0.share → me.0.told ≡ told_at p.start → i < length p.start.links
      → Allows (Holds p.table.shared.key) slots id me i (λ n. n) (looks (step slots i 0 0 none) me)
  look-allowed slots id me i live told inside =
      subst (λ k. Allows (Holds k) slots id me i (λ n. n) (looks (step slots i 0 0 none) me)) (sym p.told) (looks-allowed p.start p.laid slots id me i live told inside)

  pub draw-allowed : (slots id : ℕ) (me : Me (Unit {0}) Worker) (i l : ℕ) → i ≡ length p.start.links + length p.start.masks + l → 0 < me.0.share → me.0.told ≡ told_at p.start
      → l < length p.start.slot_parts → firsts l me.0.spare ≡ 0 → firsts l me.0.past ≡ 0
      → Allows (Holds p.table.shared.key) slots id me i (λ n. (n + 1) % 2 ^ 64) (draws (step slots i 1 0 none) me)
  draw-allowed slots id me i l at live told there none' wet =
      subst (λ k. Allows (Holds k) slots id me i (λ n. (n + 1) % 2 ^ 64) (draws (step slots i 1 0 none) me)) (sym p.told)
      (subst (λ i. Allows (Holds p.start) slots id me i (λ n. (n + 1) % 2 ^ 64) (draws (step slots i 1 0 none) me)) (sym at) (draws-allowed p.start p.laid slots id me l live told there none' wet))

  pub try-allowed : (slots id : ℕ) (me : Me (Unit {0}) Worker) (i l t new : ℕ) → 0 < me.0.share → me.0.told ≡ told_at p.start → i < length p.start.links → part_of (slots_each p.start) i ≡ l
      → 0 < pairs l t me.0.spare → KnowsContainer (setting_of p.start) me.0 (over_slot_at p.start i) → new ≡ slice_index (stock_at p.start l) t + 1
      → Allows (Holds p.table.shared.key) slots id me i (λ n. either (n == 0) new n) (tries (step slots i 0 new none) me)
  try-allowed slots id me i l t new live told inside is has known e =
      subst (λ k. Allows (Holds k) slots id me i (λ n. either (n == 0) new n) (tries (step slots i 0 new none) me)) (sym p.told) (tries-allowed p.start p.laid slots id me i l t new live told inside is has known e)

  pub mark-allowed : (slots id : ℕ) (me : Me (Unit {0}) Worker) (b i power : ℕ) → i ≡ length p.start.links + b / 64 → power ≡ 2 ^ (b % 64) → 0 < me.0.share → me.0.told ≡ told_at p.start → b / 64 < length p.start.masks
      → KnowsContainer (setting_of p.start) me.0 (over_bit_at p.start b)
      → Allows (Holds p.table.shared.key) slots id me i (λ n. bit_or n power) (marks (step slots i power 0 none) me)
  mark-allowed slots id me b i power at is live told inside known =
      subst (λ k. Allows (Holds k) slots id me i (λ n. bit_or n power) (marks (step slots i power 0 none) me)) (sym p.told)
      (subst (λ i. Allows (Holds p.start) slots id me i (λ n. bit_or n power) (marks (step slots i power 0 none) me)) (sym at)
      (subst (λ x. Allows (Holds p.start) slots id me (length p.start.links + b / 64) (λ n. bit_or n x) (marks (step slots (length p.start.links + b / 64) x 0 none) me)) (sym is) (marks-allowed p.start p.laid slots id me b live told inside known)))

  -- ---- what is read of a part
  same-item : (xs : List SlotPart) (i : ℕ) (d e : SlotPart) → i < length xs → slice_index_or xs i d ≡ slice_index_or xs i e
  same-item [] i d e below = absurd (omega arith)
  same-item (x ∷ xs) zero d e below = refl
  same-item (x ∷ xs) (suc i) d e below = same-item xs i d e (omega arith)

  read : (xs : List SlotPart) (d : SlotPart) (l : ℕ) → xs ≡ p.start.slot_parts → l < length p.start.slot_parts → slice_index_or xs l d ≡ slot_part p.start l
  read xs d l is below = ap (λ xs. slice_index_or xs l d) is ∙ same-item p.start.slot_parts l d (record { slots = 0; places = 0; limit = 0; stock = 0; over = 0; width = 1 }) below

  pub limit_read : (xs : List SlotPart) (d : SlotPart) (l : ℕ) → xs ≡ p.start.slot_parts → l < length p.start.slot_parts → (slice_index_or xs l d).limit ≡ length (stock_at p.start l)
  limit_read xs d l is below =
      let many : length (limits_of p.start) ≡ length p.start.slot_parts = length-map p.start.slot_parts (λ (part : SlotPart). part.limit) in
      let fits = part-fits (limits_of p.start) l (omega arith) in
      let stocks = p.laid.stocks in
      let item : slice_index (limits_of p.start) l ≡ (slot_part p.start l).limit = get_or-map (λ (part : SlotPart). part.limit) p.start.slot_parts l (record { slots = 0; places = 0; limit = 0; stock = 0; over = 0; width = 1 }) 0 below in
      ap (λ (part : SlotPart). part.limit) (read xs d l is below) ∙ sym item
      ∙ sym (range-long (first_of (limits_of p.start) l) (slice_index (limits_of p.start) l) p.start.stock (omega arith))

  pub stock_read : (xs : List SlotPart) (d : SlotPart) (l : ℕ) → xs ≡ p.start.slot_parts → l < length p.start.slot_parts → (slice_index_or xs l d).stock ≡ first_of (limits_of p.start) l
  stock_read xs d l is below = ap (λ (part : SlotPart). part.stock) (read xs d l is below) ∙ p.laid.from l below

  pub stock_within : (l t : ℕ) → t < length (stock_at p.start l) → first_of (limits_of p.start) l + t < length p.start.stock
  stock_within l t below =
      let a = length-take (slice_index (limits_of p.start) l) (drop (first_of (limits_of p.start) l) p.start.stock) in
      let b = length-drop (first_of (limits_of p.start) l) p.start.stock in omega arith

  -- ---- what a draw tells
  pub draw-told : (slots : ℕ) (m n : Me (Unit {0}) Worker) (i l count : ℕ) → draws (step slots i 1 0 none) m count n → i ≡ length p.start.links + length p.start.masks + l → m.0.told ≡ told_at p.start
      → l < length p.start.slot_parts → n ≡ (after_draw l (length (stock_at p.start l)) count m.0, m.1)
  draw-told slots m n i l count said at told there =
      let base : slice_index m.0.told 0 + slice_index m.0.told 1 ≡ length p.start.links + length p.start.masks = ap (λ t. slice_index t 0 + slice_index t 1) told in
      said l (omega arith) ∙ ap (λ k. (after_draw l k count m.0, m.1)) (limit-is p.start p.laid m.0.told l told there)

  -- ---- what an exchange tells
  pub try-told : (slots : ℕ) (m n : Me (Unit {0}) Worker) (i l t new found : ℕ) → tries (step slots i 0 new none) m found n → m.0.told ≡ told_at p.start → part_of (slots_each p.start) i ≡ l
      → 0 < pairs l t m.0.spare → new ≡ slice_index (stock_at p.start l) t + 1
      → (n ≡ (after_try l i t (slice_index (stock_at p.start l) t) found m.0, m.1)) × (found ≤ slice_index (places_each p.start) l)
  try-told slots m n i l t new found said told is has e =
      let parts : part_of (told_slots m.0.told) i ≡ l = ap (λ s. part_of s i) (slots-told p.start p.laid m.0.told told) ∙ is in
      let back : new - 1 ≡ slice_index (stock_at p.start l) t = omega arith in
      let bound = bound-told p.start p.laid m.0.told i told ∙ ap (slice_index (places_each p.start)) is in
      let low = said.1 in (
        said.0 t (subst (λ k. 0 < pairs k t m.0.spare) (sym parts) has) ∙ ap (λ k. (after_try k i t (new - 1) found m.0, m.1)) parts ∙ ap (λ x. (after_try l i t x found m.0, m.1)) back,
        omega arith,
      )
