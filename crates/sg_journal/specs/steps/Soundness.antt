-- The changes between two lists of held links.
use Rattle.std.specs.Prelude.{◌≡◌, ◌↔◌, ◌⊎◌, ◌<◌, ◌≤◌, true, false, List, [], ◌∷◌, ◌++◌, map, Some, Contains}
use Rattle.std.specs.List.{list_any}
use Rattle.sg_journal.specs.declared.lines.Link.{Link}
use Rattle.sg_journal.specs.declared.lines.Line.{Line}
use Rattle.sg_journal.specs.declared.lines.Line.TheVariants.{Take, Free}
use Rattle.sg_journal.specs.declared.rooms.Room.{Room}
use Rattle.sg_journal.specs.Journal.{Rooms, has_number, has_parent, count_at, is_child, held_after}
use Rattle.sg_journal.specs.LineLaws.{HoldsOnce, EachOnce}

-- a link among others fits its node: it has a place and a slot there, its parent is among them, and there are no more than
-- the cap
pub record Fits (rooms : Rooms) (links : List Link) (link : Link) : Type 0 where
  pub room : Room
  pub is : rooms link.layout link.node ≡ Some room
  pub place : link.number < room.places
  pub slot : link.slot < room.slots
  pub parent : has_parent links link.layout room.above link.parent ≡ true
  pub few : count_at links link.layout link.node ≤ room.cap

-- what the links of well-formed stores are
pub record AreSound (rooms : Rooms) (links : List Link) : Type 0 where
  pub once : HoldsOnce links
  pub fit : (link : Link) → Contains links link → Fits rooms links link

-- each comes before what stands above it: none of a link's children is at or behind it
abbrev pub ChildrenFirst : Rooms → List Link → Type 0
ChildrenFirst rooms [] = Unit {0}
ChildrenFirst rooms (x ∷ xs) = (list_any (is_child rooms x.layout x.node x.number) (x ∷ xs) ≡ false) × ChildrenFirst rooms xs

-- each comes behind its parent: it is no child of one at or behind it
abbrev pub ParentsFirst : Rooms → List Link → Type 0
ParentsFirst rooms [] = Unit {0}
ParentsFirst rooms (x ∷ xs) = ((y : Link) → Contains (x ∷ xs) y → is_child rooms y.layout y.node y.number x ≡ false) × ParentsFirst rooms xs

-- what is freed and what is taken between two states of links, of which a number that is in both has the same
pub record IsChange (rooms : Rooms) (olds news frees takes : List Link) : Type 0 where
  pub stay : (x y : Link) → Contains olds x → Contains news y → has_number x.layout x.node x.number y ≡ true → x ≡ y
  pub freed : (x : Link) → Contains frees x → Contains olds x × ¬ Contains news x
  pub left : (x : Link) → Contains olds x → Contains news x ⊎ Contains frees x
  pub frees_once : EachOnce frees
  pub children_first : ChildrenFirst rooms frees
  pub taken : (x : Link) → Contains takes x → Contains news x × ¬ Contains olds x
  pub there : (x : Link) → Contains news x → Contains olds x ⊎ Contains takes x
  pub takes_once : EachOnce takes
  pub parents_first : ParentsFirst rooms takes

abbrev pub free_of : Link → Line
free_of link = Free link.layout link.node link.number

-- the lines of the changes are sound from what is held of the old links, and lead to what is held of the new ones
abbrev pub LineChangesAreSound : Type 0
LineChangesAreSound = (rooms : Rooms) (olds news frees takes held : List Link) → AreSound rooms news → IsChange rooms olds news frees takes →
    EachOnce held → ((x : Link) → Contains held x ↔ Contains olds x) →
    (last : List Link) × (held_after rooms held (map free_of frees ++ map Take takes) ≡ Some last) × EachOnce last
    × ((x : Link) → Contains last x ↔ Contains news x)
