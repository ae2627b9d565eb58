-- What is known of the room for seats that are split off, for proofs alone.
use Rattle.std.specs.Prelude.{◌≡◌, ℕ, ◌≤◌, []}
use Rattle.std.specs.Vec.{vec_capacity}
use Rattle.std.specs.Coded.{Unit-prop}
use Rattle.std.proofs.Props.{props}
use Rattle.sg_accum.specs.declared.rooms.Room.{Room}
use Rattle.sg_accum.specs.declared.rooms.Three.{Three}
use Rattle.sg_accum.specs.declared.rooms.Seven.{Seven}
use Rattle.sg_accum.specs.declared.rooms.Fifteen.{Fifteen}
use Rattle.sg_accum.specs.declared.rooms.Rooms.{Rooms}
use Rattle.sg_accum.specs.declared.rooms.Rooms.TheVariants as rooms

-- an empty list with room for so many seats
pub record IsRoom (parts : ℕ) (it : Room) : Type 0 where
  pub none : it.list.items ≡ []
  pub wide : parts ≤ vec_capacity it.list

-- three of them
pub record AreThree (parts : ℕ) (three : Three) : Type 0 where
  pub first : IsRoom parts three.first
  pub mine : IsRoom parts three.mine
  pub theirs : IsRoom parts three.theirs

-- seven of them
pub record AreSeven (parts : ℕ) (seven : Seven) : Type 0 where
  pub first : IsRoom parts seven.first
  pub mine : AreThree parts seven.mine
  pub theirs : AreThree parts seven.theirs

-- fifteen of them
pub record AreFifteen (parts : ℕ) (fifteen : Fifteen) : Type 0 where
  pub first : IsRoom parts fifteen.first
  pub mine : AreSeven parts fifteen.mine
  pub theirs : AreSeven parts fifteen.theirs

-- each list has room for so many seats
abbrev pub AreRooms : ℕ → Rooms → Type 0
AreRooms parts rooms.None = Unit {0}
AreRooms parts (rooms.One it) = IsRoom parts it
AreRooms parts (rooms.Three it) = AreThree parts it
AreRooms parts (rooms.Seven it) = AreSeven parts it
AreRooms parts (rooms.Fifteen it) = AreFifteen parts it

-- there is one proof of it at most
pub AreRooms-prop : (parts : ℕ) (them : Rooms) → IsProp (AreRooms parts them)
AreRooms-prop parts rooms.None = Unit-prop
AreRooms-prop parts (rooms.One it) = Prim.hlevel props
AreRooms-prop parts (rooms.Three it) = Prim.hlevel props
AreRooms-prop parts (rooms.Seven it) = Prim.hlevel props
AreRooms-prop parts (rooms.Fifteen it) = Prim.hlevel props

-- the greatest share for all of whose splits there are lists
abbrev pub splits_of : Rooms → ℕ
splits_of rooms.None = 1
splits_of (rooms.One it) = 2
splits_of (rooms.Three it) = 4
splits_of (rooms.Seven it) = 8
splits_of (rooms.Fifteen it) = 16

-- room for all splits of a share, in a pass of so many parts
pub record HasRooms (parts share : ℕ) (them : Rooms) : Type 0 where
  pub enough : share ≤ splits_of them
  pub each : AreRooms parts them
