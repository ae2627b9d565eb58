-- A seat of a pass gives a word to a cell: what this asks of the cell's part, and what the seat is afterwards.
use Rattle.std.proofs.Common.{◌≡◌, ℕ, ◌/◌, ◌%◌, ◌<◌, List, length, get_or, set, sym, ap, ◌∙◌, subst}
use Rattle.sg_words.specs.declared.operators.AccOp.{AccOp}
use Rattle.sg_words.specs.RaceMachine.{after_add}
use Rattle.sg_accum.specs.declared.part.Part.{Part}
use Rattle.sg_accum.specs.declared.part.PartSeat.{PartSeat}
use Rattle.sg_accum.specs.declared.seat.AccPass.{AccPass}
use Rattle.sg_accum.specs.declared.seat.AccSeat.{AccSeat}
use Rattle.sg_accum.specs.Folding.{old_values, IsSeatOf, HasGivenWord}
use Rattle.sg_accum.proofs.Ledgers.{Placed, placed, Gives, gives}

-- the cell's place, of a seat in this pass
here : (pass : AccPass) (seat : AccSeat) (cell : ℕ) → IsSeatOf pass seat → cell < length (old_values pass) → Placed pass.op cell pass.parts.items seat.seats.items
here pass seat cell own inside = placed pass.op pass.ty cell pass.parts.items seat.seats.items pass.cut pass.by own inside

-- the pass has the cell's part
pub part-within : (pass : AccPass) (seat : AccSeat) (cell : ℕ) → IsSeatOf pass seat → cell < length (old_values pass) → cell / 65536 < pass.parts.len
part-within pass seat cell own inside = subst (λ n. cell / 65536 < n) (sym pass.parts.ok.0) (here pass seat cell own inside).part_within

-- the seat has a seat in the cell's part
pub seat-within : (pass : AccPass) (seat : AccSeat) (cell : ℕ) → IsSeatOf pass seat → cell < length (old_values pass) → cell / 65536 < seat.seats.len
seat-within pass seat cell own inside = subst (λ n. cell / 65536 < n) (sym seat.seats.ok.0) (here pass seat cell own inside).seat_within

-- a part takes a word for a cell of the pass, by an operator, from a seat in it
pub record Takes (op : AccOp) (cell : ℕ) (part : Part) (old : PartSeat) : Type 0 where
  pub own : old.seat.table_id ≡ part.table.shared.table_id
  pub inside : cell % 65536 < length part.start.values
  pub operator : part.start.op ≡ op

-- the cell's part takes the word from the seat in it
pub takes : (pass : AccPass) (seat : AccSeat) (op : AccOp) (cell : ℕ) (part : Part) (old : PartSeat) → IsSeatOf pass seat → cell < length (old_values pass) → pass.op ≡ op
    → part ≡ get_or pass.parts.items (cell / 65536) part → old ≡ get_or seat.seats.items (cell / 65536) old → Takes op cell part old
takes pass seat op cell part old own inside by part-is old-is =
    let place = here pass seat cell own inside in
    record {
      own = ap (λ (s : PartSeat). s.seat.table_id) old-is ∙ place.own part old ∙ ap (λ (p : Part). p.table.shared.table_id) (sym part-is);
      inside = subst (λ (p : Part). cell % 65536 < length p.start.values) (sym part-is) (place.inside part);
      operator = ap (λ (p : Part). p.start.op) part-is ∙ place.operator part ∙ by;
    }

-- what the seat is once its seat in the cell's part has given the word
pub giving : (pass : AccPass) (seat : AccSeat) (cell word : ℕ) (old now : PartSeat) → IsSeatOf pass seat → cell < length (old_values pass) → old ≡ get_or seat.seats.items (cell / 65536) old
    → now.seat.me.0 ≡ after_add (cell % 65536) word old.seat.me.0 → Gives cell word seat.seats.items (set seat.seats.items (cell / 65536) now)
giving pass seat cell word old now own inside is gave = gives seat.seats.items cell word old now (here pass seat cell own inside).seat_within is gave seat.alike

-- the seat has given the word
pub given-word : (cell word : ℕ) (seat after : AccSeat) (now : List PartSeat) → after.seats.items ≡ now → Gives cell word seat.seats.items now → HasGivenWord cell word seat after
given-word cell word seat after now is gives' =
    let moved : Gives cell word seat.seats.items after.seats.items = subst (Gives cell word seat.seats.items) (sym is) gives' in
    record { given_is = moved.given; share_stays = moved.share; handed_stays = moved.handed }
