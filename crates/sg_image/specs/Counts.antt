-- The line that counts what is active and live in a flat layout.
use Rattle.std.specs.Prelude.{◌≡◌, ℕ, suc, List, [], ◌∷◌, ◌++◌, length, codes, if◌then◌else◌}
use Rattle.std.specs.Fmt.{decimal}
use Rattle.sg_coord.specs.declared.coord.Coord.{Coord}
use Rattle.sg_layout.specs.declared.shape.NodeShape.{NodeShape}
use Rattle.sg_layout.specs.declared.shape.Shape.{Shape}
use Rattle.sg_layout.specs.Need.{need_of}
use Rattle.sg_flat.specs.declared.state.FlatLayout.{FlatLayout}
use Rattle.sg_store.specs.StoreWords.{StoreWords}
use Rattle.sg_store.specs.WellFormed.{kind_has_cap}
use Rattle.sg_store.specs.StandsFor.{StandsFor}

-- how much of a node with this number is live
abbrev pub live_text : (number live : ℕ) → List ℕ
live_text number live = codes " node " ++ decimal number ++ codes " live " ++ decimal live

-- a node with a number: what it needs for the active coordinates, if it is a pointer, hash or dynamic node
abbrev pub node_text : Shape → List Coord → ℕ → NodeShape → List ℕ
node_text shape active number node =
    if kind_has_cap node.kind then live_text number (need_of shape active number node) else []

-- nodes, of which the first has the number
abbrev pub nodes_text : Shape → List Coord → ℕ → List NodeShape → List ℕ
nodes_text shape active number [] = []
nodes_text shape active number (node ∷ later) = node_text shape active number node ++ nodes_text shape active (suc number) later

-- the line of a layout of this name: how many coordinates are active, then its nodes from the root on
abbrev pub stats_text : Shape → FlatLayout → List ℕ → List ℕ
stats_text shape flat name =
    codes "stats " ++ name ++ codes " active " ++ decimal (length flat.active) ++ nodes_text shape flat.active 1 shape.nodes ++ 10 ∷ []

-- the line of a store of this name, of each flat layout that it stands for
abbrev pub IsCountsLine : StoreWords → List ℕ → List ℕ → Type 0
IsCountsLine store name line = (flat : FlatLayout) → StandsFor store flat → line ≡ stats_text store.shape flat name
