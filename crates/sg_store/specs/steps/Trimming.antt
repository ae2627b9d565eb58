-- Trimming a store's nodes: those slots alone stay set that lead to a cell which a test keeps.
use Rattle.std.specs.Prelude.{◌≡◌, ◌≢◌, ℕ, ◌-◌, ◌%◌, Bool, true, false, ◌&&◌, List, [], ◌∷◌, Option, Some, None}
use Rattle.std.specs.List.{list_any, range_with_len}
use Rattle.sg_layout.specs.declared.shape.Kind.{Kind}
use Rattle.sg_layout.specs.declared.shape.Kind.TheVariants.{Dense, Bitmasked, Pointer, Hash, Dynamic}
use Rattle.sg_layout.specs.declared.shape.NodeShape.{NodeShape}
use Rattle.sg_layout.specs.Axes.{size_of}
use Rattle.sg_store.specs.declared.node.NodeWords.{NodeWords}
use Rattle.sg_store.specs.Slots.{slot_under, is_set, place_below, active_below}
use Rattle.sg_store.specs.WellFormed.{IsNode, live_below}

-- whether there is a place, and the test keeps it
abbrev pub is_kept : (ℕ → Bool) → Option ℕ → Bool
is_kept keeps None = false
is_kept keeps (Some place) = keeps place

-- the slot leads on, along what is active, to a place that is kept
abbrev pub leads_kept : (ℕ → Bool) → NodeShape → NodeWords → ℕ → Bool
leads_kept keeps node kept slot = is_kept keeps (active_below node.kind node kept slot)

-- a place above the node is kept where some slot under it leads to one that is
abbrev pub place_kept : (ℕ → Bool) → NodeShape → NodeWords → ℕ → Bool
place_kept keeps node kept place =
    list_any (λ offset. leads_kept keeps node kept (slot_under node place offset)) (range_with_len 0 (size_of node.sizes))

-- the places above nodes from which some slots lead to a cell that the test keeps
abbrev pub kept_above : List NodeShape → List NodeWords → (ℕ → Bool) → ℕ → Bool
kept_above [] words cells place = cells place
kept_above (node ∷ later) [] cells place = false
kept_above (node ∷ later) (kept ∷ words) cells place = place_kept (kept_above later words cells) node kept place

-- the slots of a node that stay set: those that lead to a place that is kept; of a dynamic node each that isn't past such a
-- slot under the same parent; of a dense node all
abbrev pub stays_set : Kind → (ℕ → Bool) → NodeShape → NodeWords → ℕ → Bool
stays_set Dense keeps node kept slot = true
stays_set Bitmasked keeps node kept slot = leads_kept keeps node kept slot
stays_set Pointer keeps node kept slot = leads_kept keeps node kept slot
stays_set Hash keeps node kept slot = leads_kept keeps node kept slot
stays_set Dynamic keeps node kept slot =
    list_any (leads_kept keeps node kept) (range_with_len slot (size_of node.sizes - slot % size_of node.sizes))

-- a node whose other slots are no longer set, and lead nowhere or where they led; those that stay lead where they led
pub record TrimsNode (stays : ℕ → Bool) (node : NodeShape) (kept after : NodeWords) : Type 0 where
  pub set : (slot : ℕ) → is_set node.kind node after slot ≡ (is_set node.kind node kept slot && stays slot)
  pub leads : (slot : ℕ) → stays slot ≡ true → place_below node.kind node after slot ≡ place_below node.kind node kept slot
  pub less : (slot place : ℕ) → place_below node.kind node after slot ≡ Some place → place_below node.kind node kept slot ≡ Some place

-- a node trimmed to the slots that lead to places kept: it is a node of its kind again wherever what is set now is in live
-- containers, and where such slots lead is live
pub record IsTrimmed (keeps : ℕ → Bool) (node : NodeShape) (kept after : NodeWords) : Type 0 where
  pub trims : TrimsNode (stays_set node.kind keeps node kept) node kept after
  pub is_node : (slots : ℕ) (live now : ℕ → Bool) → IsNode node.kind node kept slots live →
      (node.kind ≢ Dense → (slot : ℕ) → is_set node.kind node kept slot ≡ true → stays_set node.kind keeps node kept slot ≡ true → now slot ≡ true) → IsNode node.kind node after slots now
  pub below : node.kind ≢ Dynamic → (now : ℕ → Bool) (slot place : ℕ) → stays_set node.kind keeps node kept slot ≡ true → now slot ≡ true →
      place_below node.kind node kept slot ≡ Some place → live_below node.kind after now place ≡ true

-- all nodes, each to what leads on to a cell that is kept
abbrev pub AreTrimmed : List NodeShape → List NodeWords → List NodeWords → (ℕ → Bool) → Type 0
AreTrimmed [] [] [] cells = Unit {0}
AreTrimmed [] [] (after ∷ afters) cells = ⊥
AreTrimmed [] (kept ∷ words) afters cells = ⊥
AreTrimmed (node ∷ later) [] afters cells = ⊥
AreTrimmed (node ∷ later) (kept ∷ words) [] cells = ⊥
AreTrimmed (node ∷ later) (kept ∷ words) (after ∷ afters) cells =
    IsTrimmed (kept_above later words cells) node kept after × AreTrimmed later words afters cells
