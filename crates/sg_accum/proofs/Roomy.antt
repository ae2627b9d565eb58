-- Room for splits, where a seat gives, is cut and is merged.
use Rattle.std.proofs.Common.{◌≡◌, ℕ, ◌+◌, ◌≤◌, List, length, sym, ◌∙◌, subst, subst₂, arith}
use Rattle.sg_accum.specs.declared.part.PartSeat.{PartSeat}
use Rattle.sg_accum.specs.declared.rooms.Rooms.{Rooms}
use Rattle.sg_accum.specs.declared.seat.AccSeat.{AccSeat}
use Rattle.sg_accum.specs.Parts.{seat_workers, worker_at}
use Rattle.sg_accum.specs.Folding.{share_of}
use Rattle.sg_accum.specs.steps.Rooms.{AreRooms, splits_of, HasRooms}
use Rattle.sg_accum.proofs.Rounds.{many-workers}

-- there are as many seats as workers
as-many-seats : (seats now : List PartSeat) → length (seat_workers now) ≡ length (seat_workers seats) → length now ≡ length seats
as-many-seats seats now same = sym (many-workers now) ∙ same ∙ many-workers seats

-- room stays if neither the parts nor the share change
pub rooms-stay : (seat : AccSeat) (now : List PartSeat) → length (seat_workers now) ≡ length (seat_workers seat.seats.items) → (worker_at (seat_workers now) 0).share ≡ share_of seat
    → HasRooms (length now) (worker_at (seat_workers now) 0).share seat.rooms
rooms-stay seat now long share =
    subst₂ (λ n s. HasRooms n s seat.rooms) (sym (as-many-seats seat.seats.items now long)) (sym share) (record { enough = seat.enough; each = seat.room })

-- half of the room is enough for half of the share
pub rooms-cut : (seat : AccSeat) (now : List PartSeat) (half : ℕ) (left : Rooms) → length (seat_workers now) ≡ length (seat_workers seat.seats.items) → (worker_at (seat_workers now) 0).share ≡ half
    → half + half ≤ share_of seat + 1 → splits_of seat.rooms ≡ splits_of left + splits_of left → ((parts : ℕ) → AreRooms parts seat.rooms → AreRooms parts left)
    → HasRooms (length now) (worker_at (seat_workers now) 0).share left
rooms-cut seat now half left long share few double rooms =
    record {
      enough = omega (arith, share, few, double, seat.enough);
      each = subst (λ n. AreRooms n left) (sym (as-many-seats seat.seats.items now long)) (rooms (length seat.seats.items) seat.room);
    }
