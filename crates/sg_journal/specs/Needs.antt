-- How many containers and chunks a state needs, and that so many are held.
use Rattle.std.specs.Prelude.{◌≡◌, ℕ, true, List, [], Some, All, slice_get}
use Rattle.std.specs.List.{AllZip}
use Rattle.sg_layout.specs.declared.shape.NodeShape.{NodeShape}
use Rattle.sg_layout.specs.declared.shape.Shape.{Shape}
use Rattle.sg_layout.specs.NeedLaws.{IsNumberedNode}
use Rattle.sg_layout.specs.Need.{need_of}
use Rattle.sg_flat.specs.declared.state.FlatLayout.{FlatLayout}
use Rattle.sg_flat.specs.declared.state.FlatState.{FlatState}
use Rattle.sg_flat.specs.State.{opening}
use Rattle.sg_store.specs.StoreWords.{StoreWords}
use Rattle.sg_store.specs.WellFormed.{kind_has_cap, IsWellFormed}
use Rattle.sg_store.specs.Links.{KeepsLinks}
use Rattle.sg_store.specs.Standing.{shapes_of, StandForState}
use Rattle.sg_journal.specs.declared.lines.Link.{Link}
use Rattle.sg_journal.specs.declared.lines.Line.{Line}
use Rattle.sg_journal.specs.Journal.{count_at, held_after}
use Rattle.sg_journal.specs.Rooms.{rooms_of}
use Rattle.sg_journal.specs.Placing.{Placing, ArePlaced, nothing_placed}
use Rattle.sg_journal.specs.Changes.{changes}
use Rattle.sg_journal.specs.PlacingLaws.{HoldsPlaced}

-- at each node with a cap as many numbers are held as a state of these layouts needs there
abbrev pub HoldsNeed : List Shape → FlatState → List Link → Type 0
HoldsNeed shapes state held = (layout node : ℕ) (shape : Shape) (flat : FlatLayout) (own : NodeShape) →
    slice_get shapes layout ≡ Some shape → slice_get state.layouts layout ≡ Some flat → IsNumberedNode shape node own → kind_has_cap own.kind ≡ true →
    count_at held layout node ≡ need_of shape flat.active node own

-- where what is held is what stands in well-formed stores, it is as many as the state of the stores needs
abbrev pub PlacedAreNeeded : Type 0
PlacedAreNeeded = (shapes : List Shape) (stores : List StoreWords) (state : FlatState) (placing : Placing) (held : List Link) → All IsWellFormed stores →
    StandForState shapes stores state → ArePlaced stores placing → HoldsPlaced held placing → HoldsNeed shapes state held

-- lines are sound from what is held on, and lead to what stands in a placing, as many at each node as a state needs
pub record LeadTo (shapes : List Shape) (held : List Link) (lines : List Line) (to : Placing) (state : FlatState) : Type 0 where
  pub next : List Link
  pub sound : held_after (rooms_of shapes) held lines ≡ Some next
  pub holds : HoldsPlaced next to
  pub needed : HoldsNeed shapes state next

-- the changes from well-formed stores of these layouts to others, between which each live number keeps its link, lead to what stands in those
abbrev pub StoresChange : Type 0
StoresChange = (shapes : List Shape) (olds news : List StoreWords) (from to : Placing) (held : List Link) (state : FlatState) →
    All IsWellFormed olds → All IsWellFormed news → shapes_of olds ≡ shapes → StandForState shapes news state → AllZip KeepsLinks olds news →
    ArePlaced olds from → ArePlaced news to → HoldsPlaced held from → LeadTo shapes held (changes from to) to state

-- and so do those from where nothing stands
abbrev pub StoresBegin : Type 0
StoresBegin = (shapes : List Shape) (news : List StoreWords) (to : Placing) (state : FlatState) → All IsWellFormed news → StandForState shapes news state →
    ArePlaced news to → LeadTo shapes [] (changes (nothing_placed shapes) to) to state

-- nothing stands in well-formed stores that stand for the opening state
abbrev pub OpeningIsPlaced : Type 0
OpeningIsPlaced = (shapes : List Shape) (stores : List StoreWords) → All IsWellFormed stores → StandForState shapes stores (opening shapes) → ArePlaced stores (nothing_placed shapes)
