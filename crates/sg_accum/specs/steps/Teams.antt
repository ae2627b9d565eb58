-- What steps over all parts of a pass say, for proofs alone.
use Rattle.std.specs.Prelude.{◌≡◌, ℕ, ◌<◌, List, [], ◌∷◌, length, slice_index_or}
use Rattle.std.specs.List.{concat, All}
use Rattle.sg_words.specs.declared.operators.Ty.{Ty}
use Rattle.sg_words.specs.declared.operators.AccOp.{AccOp}
use Rattle.sg_words.specs.declared.race.Worker.{Worker}
use Rattle.sg_words.specs.RaceMachine.{after_join}
use Rattle.sg_words.specs.RaceInvariant.{handed_share}
use Rattle.sg_accum.specs.declared.part.Part.{Part}
use Rattle.sg_accum.specs.declared.part.PartSeat.{PartSeat}
use Rattle.sg_accum.specs.AccRace.{first_worker}
use Rattle.sg_accum.specs.Parts.{part_values, part_tables, seat_tables, seat_workers, worker_at, AreCut, AreBy}
use Rattle.sg_accum.specs.Folding.{given_to, AreFolded}

-- each worker after the worker at its place was joined into it
abbrev pub joined_each : List Worker → List Worker → List Worker
joined_each [] ws = []
joined_each (v ∷ vs) [] = []
joined_each (v ∷ vs) (w ∷ ws) = after_join v w ∷ joined_each vs ws

-- parts with these values, and the first seat of each
pub record AreBegun (op : AccOp) (t : Ty) (values : List ℕ) (parts : List Part) (seats : List PartSeat) : Type 0 where
  pub whole : concat (part_values parts) ≡ values
  pub cut : AreCut (part_values parts)
  pub by : AreBy op t parts
  pub own : seat_tables seats ≡ part_tables parts
  pub first : All (λ (v : Worker). v ≡ first_worker) (seat_workers seats)

-- some parts, each with a seat to which all shares came back
pub record CanEnd (op : AccOp) (t : Ty) (parts : List Part) (seats : List PartSeat) : Type 0 where
  pub some : 0 < length parts
  pub by : AreBy op t parts
  pub own : seat_tables seats ≡ part_tables parts
  pub all : All (λ (v : Worker). handed_share v ≡ 16) (seat_workers seats)

-- for each list of old values, of which a worker has given all contributions, the list of new values
pub record AreEnded (op : AccOp) (t : Ty) (old : List (List ℕ)) (workers : List Worker) (new : List (List ℕ)) : Type 0 where
  pub many : length new ≡ length old
  pub each : (k : ℕ) → k < length old → AreFolded op t (slice_index_or old k []) (λ c. given_to c (worker_at workers k).given) (slice_index_or new k [])
