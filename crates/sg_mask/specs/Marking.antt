-- What clauses see of a pass and a seat, and what a pass leaves.
use Rattle.std.specs.Prelude.{◌≡◌, ℕ, ◌+◌, min, List, length}
use Rattle.sg_words.specs.declared.race.Worker.{Worker}
use Rattle.sg_words.specs.Counts.{times_in, bit_in}
use Rattle.sg_mask.specs.declared.seat.MarkSeat.{MarkSeat}
use Rattle.sg_mask.specs.declared.seat.MaskPass.{MaskPass}

-- the mask words with which a pass started
abbrev pub old_masks : MaskPass → List ℕ
old_masks p = p.masks

-- what a seat has done, as a worker of the race
abbrev pub worker_of : MarkSeat → Worker
worker_of s = s.seat.me.0

-- a seat of this pass
abbrev pub IsSeatOf : MaskPass → MarkSeat → Type 0
IsSeatOf p s = s.seat.table_id ≡ p.table.shared.table_id

-- the bits at the end are those of the start and the marked ones
pub record AreMarked (old marked new : List ℕ) : Type 0 where
  pub long : length new ≡ length old
  pub bits : (b : ℕ) → bit_in new b ≡ min 1 (bit_in old b + times_in b marked)
