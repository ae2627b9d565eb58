-- Sound placings, and that the changes between them are sound lines.
use Rattle.std.specs.Prelude.{◌≡◌, ◌↔◌, ℕ, suc, ◌<◌, ◌≤◌, List, [], length, Option, Some, None, All, Contains}
use Rattle.std.specs.List.{AllZip}
use Rattle.sg_layout.specs.declared.shape.Shape.{Shape}
use Rattle.sg_store.specs.declared.links.LinkAt.{LinkAt}
use Rattle.sg_store.specs.StoreWords.{StoreWords}
use Rattle.sg_store.specs.WellFormed.{IsWellFormed}
use Rattle.sg_store.specs.Links.{KeepsLinks}
use Rattle.sg_store.specs.Standing.{shapes_of}
use Rattle.sg_journal.specs.declared.lines.Link.{Link}
use Rattle.sg_journal.specs.declared.rooms.Room.{Room}
use Rattle.sg_journal.specs.Journal.{Rooms, count_at, held_after}
use Rattle.sg_journal.specs.LineLaws.{EachOnce}
use Rattle.sg_journal.specs.Rooms.{rooms_of}
use Rattle.sg_journal.specs.Placing.{Placing, links_at, ArePlaced, AreRising, nothing_placed}
use Rattle.sg_journal.specs.Changes.{changes}

-- ---- sound placings

-- the parent of a link is the root segment, or one more than a number of the nearest node above that stands somewhere
abbrev pub HasParentAt : Placing → ℕ → Option ℕ → ℕ → Type 0
HasParentAt placing layout None parent = parent ≡ 0
HasParentAt placing layout (Some above) parent =
    (link : LinkAt) × Contains (links_at placing layout above) link × (parent ≡ suc link.number)

-- a link fits its node
pub record FitsAt (rooms : Rooms) (placing : Placing) (layout node : ℕ) (link : LinkAt) : Type 0 where
  pub room : Room
  pub is : rooms layout node ≡ Some room
  pub place : link.number < room.places
  pub slot : link.slot < room.slots
  pub parent : HasParentAt placing layout room.above link.parent

-- a placing is sound: each number of a node stands in one slot, each slot holds one number, each link fits its node, and there
-- are at most as many as the cap
pub record IsSoundPlacing (rooms : Rooms) (placing : Placing) : Type 0 where
  pub numbers : (layout node : ℕ) → AreRising (links_at placing layout node)
  pub slots : (layout node : ℕ) (x y : LinkAt) → Contains (links_at placing layout node) x → Contains (links_at placing layout node) y →
      x.parent ≡ y.parent → x.slot ≡ y.slot → x ≡ y
  pub fit : (layout node : ℕ) (link : LinkAt) → Contains (links_at placing layout node) link → FitsAt rooms placing layout node link
  pub few : (layout node : ℕ) (room : Room) → rooms layout node ≡ Some room → length (links_at placing layout node) ≤ room.cap

-- the links of well-formed stores are a sound placing
abbrev pub StoresAreSound : Type 0
StoresAreSound = (stores : List StoreWords) (placing : Placing) → All IsWellFormed stores → ArePlaced stores placing →
    IsSoundPlacing (rooms_of (shapes_of stores)) placing

-- stores have one placing
abbrev pub ArePlacedOnce : Type 0
ArePlacedOnce = (stores : List StoreWords) (one other : Placing) → ArePlaced stores one → ArePlaced stores other → one ≡ other

-- nothing placed is a sound placing
abbrev pub NothingIsSound : Type 0
NothingIsSound = (shapes : List Shape) → IsSoundPlacing (rooms_of shapes) (nothing_placed shapes)

-- ---- changes

-- a number of a node that stands in both has the same link
abbrev pub KeepsPlaces : Placing → Placing → Type 0
KeepsPlaces from to = (layout node : ℕ) (x y : LinkAt) → Contains (links_at from layout node) x → Contains (links_at to layout node) y →
    x.number ≡ y.number → x ≡ y

-- stores between which each live number of a node keeps its link
abbrev pub StoresKeepPlaces : Type 0
StoresKeepPlaces = (olds news : List StoreWords) (from to : Placing) → AllZip KeepsLinks olds news →
    ArePlaced olds from → ArePlaced news to → KeepsPlaces from to

-- a held link without its layout and node
abbrev pub place_of : Link → LinkAt
place_of link = record { number = link.number; parent = link.parent; slot = link.slot }

-- what is held is what stands in a placing
pub record HoldsPlaced (held : List Link) (placing : Placing) : Type 0 where
  pub once : EachOnce held
  pub members : (x : Link) → Contains held x ↔ Contains (links_at placing x.layout x.node) (place_of x)

-- where nothing is placed nothing is held
abbrev pub NothingIsHeld : Type 0
NothingIsHeld = (shapes : List Shape) → HoldsPlaced [] (nothing_placed shapes)

-- as many numbers of a node are held as stand
abbrev pub HeldCounts : Type 0
HeldCounts = (held : List Link) (placing : Placing) (layout node : ℕ) → (rooms : Rooms) → IsSoundPlacing rooms placing → HoldsPlaced held placing →
    count_at held layout node ≡ length (links_at placing layout node)

-- the lines of the changes between sound placings of the same layouts, between which each number keeps its link, are sound, and
-- lead from what stands in the one to what stands in the other
abbrev pub ChangesAreSound : Type 0
ChangesAreSound = (shapes : List Shape) (from to : Placing) (held : List Link) → length from ≡ length to →
    IsSoundPlacing (rooms_of shapes) from → IsSoundPlacing (rooms_of shapes) to → KeepsPlaces from to → HoldsPlaced held from →
    (last : List Link) × (held_after (rooms_of shapes) held (changes from to) ≡ Some last) × HoldsPlaced last to
