-- What clauses see of a pass and a seat, and what a pass leaves.
use Rattle.std.specs.Prelude.{◌≡◌, refl, ℕ, ◌+◌, ◌-◌, ◌/◌, ◌%◌, ◌<◌, ◌==◌, List, [], ◌∷◌, ◌++◌, map, length, slice_index, fold}
use Rattle.std.specs.List.{concat, filter}
use Rattle.sg_words.specs.declared.operators.Ty.{Ty}
use Rattle.sg_words.specs.declared.operators.Ty.TheVariants as ty
use Rattle.sg_words.specs.declared.operators.AccOp.{AccOp}
use Rattle.sg_words.specs.declared.operators.AccOp.TheVariants as acc
use Rattle.sg_words.specs.declared.race.Worker.{Worker}
use Rattle.sg_words.specs.Words.{folded}
use Rattle.sg_words.specs.RaceMachine.{newcomer, after_add}
use Rattle.sg_words.specs.RaceInvariant.{handed_share}
use Rattle.sg_accum.specs.Parts.{part_values, part_tables, seat_tables, seat_workers, worker_at}
use Rattle.sg_accum.specs.declared.seat.AccSeat.{AccSeat}
use Rattle.sg_accum.specs.declared.seat.AccPass.{AccPass}

-- the values with which a pass started: those of its parts, one after the other
abbrev pub old_values : AccPass → List ℕ
old_values p = concat (part_values p.parts.items)

-- how a pass joins a cell's old value and the contributions to it: to the sum, in 32 bits, the least, the greatest, or what an operator of
-- bits makes of them
abbrev pub operator_of : AccPass → AccOp
operator_of p = p.op

-- the type of a pass's values, by which the lesser and the greater of two words are told
abbrev pub type_of : AccPass → Ty
type_of p = p.ty

-- a seat of this pass: it has as many seats as there are parts, each in the table of its part
abbrev pub IsSeatOf : AccPass → AccSeat → Type 0
IsSeatOf p s = seat_tables s.seats.items ≡ part_tables p.parts.items

-- the contributions to a cell, of pairs of a cell and a contribution
abbrev pub given_to : ℕ → List (ℕ × ℕ) → List ℕ
given_to c given = map (λ x. x.1) (filter (λ x. x.0 == c) given)

-- what workers, one in each part of 65,536 cells, have given to a cell
abbrev pub given_in_parts : List Worker → ℕ → List ℕ
given_in_parts workers c = given_to (c % 65536) (worker_at workers (c / 65536)).given

-- what a seat, with those that were joined into it, has given to a cell, in its order
abbrev pub given_of : AccSeat → ℕ → List ℕ
given_of s c = given_in_parts (seat_workers s.seats.items) c

-- the share that a seat has, of 16: in all parts the same, and so the first part's
abbrev pub share_of : AccSeat → ℕ
share_of s = (worker_at (seat_workers s.seats.items) 0).share

-- the share that a seat has, with the shares of those that were joined into it, likewise
abbrev pub handed_of : AccSeat → ℕ
handed_of s = handed_share (worker_at (seat_workers s.seats.items) 0)

-- a seat that has given nothing yet and has so much of the share
pub record IsNew (share : ℕ) (seat : AccSeat) : Type 0 where
  pub nothing : (c : ℕ) → given_of seat c ≡ []
  pub share_is : share_of seat ≡ share
  pub handed_is : handed_of seat ≡ share

-- a seat has given a word to a cell
pub record HasGivenWord (cell word : ℕ) (old now : AccSeat) : Type 0 where
  pub given_is : (c : ℕ) → given_of now c ≡ given_of old c ++ given_to c ((cell, word) ∷ [])
  pub share_stays : share_of now ≡ share_of old
  pub handed_stays : handed_of now ≡ handed_of old

-- a seat was cut in two: a new seat has half of its share, rounded down
pub record IsCut (old now other : AccSeat) : Type 0 where
  pub given_stays : (c : ℕ) → given_of now c ≡ given_of old c
  pub share_left : share_of now ≡ share_of old - share_of old / 2
  pub handed_left : handed_of now + share_of old / 2 ≡ handed_of old
  pub other_new : IsNew (share_of old / 2) other

-- another seat was joined into a seat: what it has given follows, and its shares come back
pub record IsMerged (old other now : AccSeat) : Type 0 where
  pub given_is : (c : ℕ) → given_of now c ≡ given_of old c ++ given_of other c
  pub share_stays : share_of now ≡ share_of old
  pub handed_is : handed_of now ≡ handed_of old + handed_of other

-- each cell at the end is its old value and all contributions to it, folded. The order doesn't matter: contributions exchange
pub record AreFolded (op : AccOp) (t : Ty) (old : List ℕ) (given : ℕ → List ℕ) (new : List ℕ) : Type 0 where
  pub long : length new ≡ length old
  pub folds : (c : ℕ) → c < length old → slice_index new c ≡ fold (folded op t) (slice_index old c) (given c)

-- a pass into cells with these values, by an operator in a type, and its first seat, which has the whole share of 16
pub record IsStart (op : AccOp) (t : Ty) (cells : List ℕ) (made : AccPass × AccSeat) : Type 0 where
  pub seat : IsSeatOf made.0 made.1
  pub values : old_values made.0 ≡ cells
  pub operator : operator_of made.0 ≡ op
  pub order : type_of made.0 ≡ t
  pub new : IsNew 16 made.1

-- what a pass leaves that is ended by a seat: each cell's old value and all contributions to it, folded
abbrev pub IsEnd : AccPass → AccSeat → List ℕ → Type 0
IsEnd p s cells = AreFolded (operator_of p) (type_of p) (old_values p) (given_of s) cells

-- worked equations
two_to_one : given_to 1 ((1, 5) ∷ (0, 9) ∷ (1, 7) ∷ []) ≡ 5 ∷ 7 ∷ []
two_to_one = refl

least_of_three : fold (folded acc.Min ty.I32) 5 (given_to 0 ((0, 4294967293) ∷ (1, 0) ∷ (0, 6) ∷ [])) ≡ 4294967293
least_of_three = refl

in_second_part : given_in_parts (newcomer [] 8 ∷ after_add 1 5 (newcomer [] 8) ∷ []) 65537 ≡ 5 ∷ []
in_second_part = refl

past_the_last_part : given_in_parts (after_add 1 5 (newcomer [] 8) ∷ []) 65537 ≡ []
past_the_last_part = refl
