-- The moves of a seat of a pass.
use Rattle.std.proofs.Common.{◌≡◌, ℕ, ◌+◌, ◌%◌, ◌^◌, ◌<◌, ◌≤◌, ◌==◌, false, [], ◌∷◌, length, sym, subst}
use Rattle.std.specs.Prelude.{slice_index}
use mathlib.Core.Option.{none}
use prog.Atomic.{either}
use Rattle.atomic_table.specs.Table.{Me, step, Allows, Splits, Joins}
use Rattle.sg_words.specs.declared.race.Worker.{Worker}
use Rattle.sg_words.specs.RaceMachine.{nobody, after_split, other_half, after_join}
use Rattle.sg_pointer.specs.declared.seat.PointerPass.{PointerPass}
use Rattle.sg_pointer.specs.PointerRace.{looks, draws, tries}
use Rattle.sg_words.specs.Stocks.{is_dry}
use Rattle.sg_pointer.proofs.Moves.{Holds, looks-allowed, draws-allowed, tries-allowed, splits-allowed, joins-allowed}

module _ (p : PointerPass) where
  pub look-allowed : (slots id : ℕ) (me : Me (Unit {0}) Worker) (i : ℕ) → 0 < me.0.share → i < length p.start.links
      → Allows (Holds p.table.shared.key) slots id me i (λ n. n) (looks (step slots i 0 0 none) me)
  look-allowed slots id me i live inside =
      subst (λ k. Allows (Holds k) slots id me i (λ n. n) (looks (step slots i 0 0 none) me)) (sym p.told) (looks-allowed p.start slots id me i live inside p.links p.numbers)

  pub draw-allowed : (slots id : ℕ) (me : Me (Unit {0}) Worker) (i : ℕ) → i ≡ length p.start.links → 0 < me.0.share → me.0.told ≡ length p.start.stock ∷ [] → me.0.spare ≡ [] → is_dry me.0 ≡ false
      → Allows (Holds p.table.shared.key) slots id me i (λ n. (n + 1) % 2 ^ 64) (draws (step slots i 1 0 none) me)
  draw-allowed slots id me i last live told none' wet =
      subst (λ k. Allows (Holds k) slots id me i (λ n. (n + 1) % 2 ^ 64) (draws (step slots i 1 0 none) me)) (sym p.told)
      (subst (λ i. Allows (Holds p.start) slots id me i (λ n. (n + 1) % 2 ^ 64) (draws (step slots i 1 0 none) me)) (sym last) (draws-allowed p.start slots id me live told none' wet p.room))

  pub try-allowed : (slots id : ℕ) (me : Me (Unit {0}) Worker) (i t new : ℕ) → 0 < me.0.share → i < length p.start.links → me.0.spare ≡ (0, t) ∷ [] → new ≡ slice_index p.start.stock t + 1
      → Allows (Holds p.table.shared.key) slots id me i (λ n. either (n == 0) new n) (tries (step slots i 0 new none) me)
  try-allowed slots id me i t new live inside spare e =
      subst (λ k. Allows (Holds k) slots id me i (λ n. either (n == 0) new n) (tries (step slots i 0 new none) me)) (sym p.told) (tries-allowed p.start slots id me i t new live inside p.links p.numbers spare e)

pub split-allowed : (p : PointerPass) (id : ℕ) (v : Worker) → 2 ≤ v.share → Splits (Holds p.table.shared.key) id v (after_split v) (other_half v)
split-allowed p id v share = splits-allowed p.table.shared.key id v share

pub join-allowed : (p : PointerPass) (id : ℕ) (v : Worker) (other : ℕ) (w : Worker) → 0 < v.share → 0 < w.share → Joins (Holds p.table.shared.key) id v other w (after_join v w) nobody
join-allowed p id v other w live live' = joins-allowed p.table.shared.key id v other w live live'
