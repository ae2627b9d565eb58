-- The walk down the tree, from a place over a list of offsets.
use Rattle.std.specs.Prelude.{ℕ, ◌-◌, slice_get, Bool, false, List, [], ◌∷◌, Option, Some, None, unwrap_or, option_and_then, if◌then◌else◌}
use Rattle.std.specs.Option.{option_map}
use Rattle.sg_coord.specs.declared.coord.Coord.{Coord}
use Rattle.sg_coord.specs.Coord.{is_inside}
use Rattle.sg_layout.specs.declared.shape.Kind.{Kind}
use Rattle.sg_layout.specs.declared.shape.NodeShape.{NodeShape}
use Rattle.sg_layout.specs.Axes.{bounds_of_shape}
use Rattle.sg_layout.specs.Path.{offsets, path}
use Rattle.sg_store.specs.declared.node.NodeWords.{NodeWords}
use Rattle.sg_store.specs.StoreWords.{StoreWords}
use Rattle.sg_store.specs.Slots.{slot_under, word_number, is_set, place_below, active_below}

-- how one node leads on from the slot with a number
abbrev pub NodeStep : Type 0
NodeStep = Kind → NodeShape → NodeWords → ℕ → Option ℕ

-- the place to which nodes lead from a place, over one offset at each node; none if a step leads nowhere, or where
-- there are more offsets than nodes
abbrev pub place_after : NodeStep → List NodeShape → List NodeWords → ℕ → List ℕ → Option ℕ
place_after step nodes words place [] = Some place
place_after step [] words place (offset ∷ slot) = None
place_after step (node ∷ later) [] place (offset ∷ slot) = None
place_after step (node ∷ later) (kept ∷ words) place (offset ∷ slot) =
    option_and_then (λ next. place_after step later words next slot)
    (step node.kind node kept (slot_under node place offset))

-- what a slot's own node answers of the slot's number, where links lead to it from a place; none if they lead
-- nowhere, or if there is no such slot
abbrev pub own_answer : {A : Type 0} → (Kind → NodeShape → NodeWords → ℕ → A) → List NodeShape → List NodeWords → ℕ → List ℕ → Option A
own_answer f nodes words place [] = None
own_answer f [] words place (offset ∷ slot) = None
own_answer f (node ∷ later) [] place (offset ∷ slot) = None
own_answer f (node ∷ later) (kept ∷ words) place (offset ∷ []) =
    Some (f node.kind node kept (slot_under node place offset))
own_answer f (node ∷ later) (kept ∷ words) place (offset ∷ (next ∷ slot)) =
    option_and_then (λ under. own_answer f later words under (next ∷ slot))
    (place_below node.kind node kept (slot_under node place offset))

-- the number of a slot at its own node
abbrev pub slot_number_in : List NodeShape → List NodeWords → ℕ → List ℕ → Option ℕ
slot_number_in nodes words place slot = own_answer (λ _ _ _ number. number) nodes words place slot

-- links lead to a slot, and its own node keeps it as active; false if there is no such slot
abbrev pub is_on : List NodeShape → List NodeWords → ℕ → List ℕ → Bool
is_on nodes words place slot = unwrap_or (own_answer is_set nodes words place slot) false

-- the cell to which links and bits lead from the root along a slot of the last node
abbrev pub cell_along : StoreWords → List ℕ → Option ℕ
cell_along store slot = place_after active_below store.shape.nodes store.nodes 0 slot

-- the cell of a coordinate: none outside the extents, and where links and bits don't lead to it
abbrev pub cell_in : StoreWords → Coord → Option ℕ
cell_in store at =
    if is_inside (bounds_of_shape store.shape) at then cell_along store (offsets store.shape.nodes at) else None

-- the number of a coordinate's slot at a node, which is numbered from 1; none if links don't lead to the container
-- that holds it
abbrev pub slot_in : StoreWords → ℕ → Coord → Option ℕ
slot_in store number at = slot_number_in store.shape.nodes store.nodes 0 (path store.shape at number)

-- the number of the word that a node which may be there has for a slot with this number
abbrev pub word_or : Option NodeShape → ℕ → ℕ
word_or None number = number
word_or (Some node) number = word_number node.kind node number

-- the number of the word that a node, numbered from 1, has for a slot of it: of its link, its key, its bit, or its parent's
-- length; none if links don't lead to the container that holds the slot
abbrev pub word_along : StoreWords → ℕ → List ℕ → Option ℕ
word_along store number slot =
    option_map (word_or (slice_get store.shape.nodes (number - 1)))
    (slot_number_in store.shape.nodes store.nodes 0 slot)

-- and that of a coordinate's word
abbrev pub place_in : StoreWords → ℕ → Coord → Option ℕ
place_in store number at = word_along store number (path store.shape at number)
