-- What a pass keeps of its parts, and a seat of its seats in them.
use Rattle.std.specs.Prelude.{◌≡◌, ℕ, ◌+◌, ◌<◌, ◌≤◌, List, [], map, length, slice_index_or}
use Rattle.std.specs.List.{All}
use Rattle.atomic_table.specs.Seated.{TableId}
use Rattle.sg_words.specs.declared.operators.Ty.{Ty}
use Rattle.sg_words.specs.declared.operators.AccOp.{AccOp}
use Rattle.sg_words.specs.declared.race.Worker.{Worker}
use Rattle.sg_words.specs.RaceMachine.{nobody}
use Rattle.sg_accum.specs.declared.part.Part.{Part}
use Rattle.sg_accum.specs.declared.part.PartSeat.{PartSeat}

-- the values with which parts started
abbrev pub part_values : List Part → List (List ℕ)
part_values parts = map (λ (p : Part). p.start.values) parts

-- the tables of parts
abbrev pub part_tables : List Part → List TableId
part_tables parts = map (λ (p : Part). p.table.shared.table_id) parts

-- the tables in which seats are
abbrev pub seat_tables : List PartSeat → List TableId
seat_tables seats = map (λ (s : PartSeat). s.seat.table_id) seats

-- what the owner of seats has done in each part, as a worker of that part's race
abbrev pub seat_workers : List PartSeat → List Worker
seat_workers seats = map (λ (s : PartSeat). s.seat.me.0) seats

-- the worker in a part, and past the last part nobody, who has given nothing
abbrev pub worker_at : List Worker → ℕ → Worker
worker_at workers k = slice_index_or workers k nobody

-- how many values there are in a list of lists
abbrev pub many_at : List (List ℕ) → ℕ → ℕ
many_at lists k = length (slice_index_or lists k [])

-- each list but the last has 65,536 values, and the last has some and at most as many
abbrev pub AreCut : List (List ℕ) → Type 0
AreCut lists = (k : ℕ) → k < length lists → (0 < many_at lists k) × (many_at lists k ≤ 65536) × (k + 1 < length lists → many_at lists k ≡ 65536)

-- all parts have this operator and this type
abbrev pub AreBy : AccOp → Ty → List Part → Type 0
AreBy op t parts = All (λ (p : Part). (p.start.op ≡ op) × (p.start.ty ≡ t)) parts

-- in all parts a worker has the same share, and the same shares came back to it
abbrev pub HaveEqualShares : List Worker → Type 0
HaveEqualShares workers = All (λ (v : Worker). (v.share ≡ (worker_at workers 0).share) × (v.back ≡ (worker_at workers 0).back)) workers
