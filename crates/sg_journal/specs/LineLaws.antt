-- What sound lines keep.
use Rattle.std.specs.Prelude.{◌≡◌, ℕ, true, false, List, [], ◌∷◌, take, Some, Contains}
use Rattle.sg_journal.specs.declared.lines.Link.{Link}
use Rattle.sg_journal.specs.declared.lines.Line.{Line}
use Rattle.sg_journal.specs.Journal.{Rooms, has_number, has_slot, is_held, held_after}

-- each number stands in one slot, and each slot holds one number
pub record HoldsOnce (held : List Link) : Type 0 where
  pub numbers : (x y : Link) → Contains held x → Contains held y → has_number x.layout x.node x.number y ≡ true → x ≡ y
  pub slots : (x y : Link) → Contains held x → Contains held y → has_slot x.layout x.node x.parent x.slot y ≡ true → x ≡ y

-- if all lines are sound, after each of them what is held is held once
abbrev pub SoundHoldsOnce : Type 0
SoundHoldsOnce = (rooms : Rooms) (lines : List Line) (last : List Link) → held_after rooms [] lines ≡ Some last →
    (k : ℕ) → (held : List Link) × (held_after rooms [] (take k lines) ≡ Some held) × HoldsOnce held

-- no number stands twice in the list
abbrev pub EachOnce : List Link → Type 0
EachOnce [] = Unit {0}
EachOnce (x ∷ xs) = (is_held xs x.layout x.node x.number ≡ false) × EachOnce xs
