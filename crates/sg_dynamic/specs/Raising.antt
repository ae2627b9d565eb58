-- What clauses see of a pass over lengths and a seat, and what a pass leaves.
use Rattle.std.specs.Prelude.{◌≡◌, refl, ℕ, ◌+◌, max, ◌==◌, if◌then◌else◌, List, [], ◌∷◌, length, slice_index}
use Rattle.sg_words.specs.declared.race.Worker.{Worker}
use Rattle.sg_words.specs.Counts.{greatest}
use Rattle.sg_dynamic.specs.declared.seat.RaiseSeat.{RaiseSeat}
use Rattle.sg_dynamic.specs.declared.seat.LengthPass.{LengthPass}

-- the lengths with which a pass started
abbrev pub old_lengths : LengthPass → List ℕ
old_lengths p = p.lengths

-- what a seat has done, as a worker of the race
abbrev pub worker_of : RaiseSeat → Worker
worker_of s = s.seat.me.0

-- a seat of this pass
abbrev pub IsSeatOf : LengthPass → RaiseSeat → Type 0
IsSeatOf p s = s.seat.table_id ≡ p.table.shared.table_id

-- one more than the greatest index to which a length was raised, and 0 if it wasn't
abbrev pub reach : ℕ → List (ℕ × ℕ) → ℕ
reach q raised = greatest (λ x. if x.0 == q then x.1 + 1 else 0) raised

-- each length at the end is the greatest of its old one and of those to which it was raised
pub record AreRaised (old : List ℕ) (raised : List (ℕ × ℕ)) (new : List ℕ) : Type 0 where
  pub long : length new ≡ length old
  pub lengths : (q : ℕ) → slice_index new q ≡ max (slice_index old q) (reach q raised)

-- worked equations
reach-of_two : reach 1 ((1, 4) ∷ (0, 9) ∷ (1, 2) ∷ []) ≡ 5
reach-of_two = refl

reach-of_none : reach 2 ((1, 4) ∷ (0, 9) ∷ []) ≡ 0
reach-of_none = refl
