-- The plans of a store's nodes, from the cells that are kept up to the root.
use Rattle.std.specs.Prelude.{◌≡◌, ℕ, suc, ◌-◌, ◌<◌, ◌≤◌, Bool, true, not, ◌==◌, List, length, drop, take, Some, slice_get, slice_set, slice_index, slice_index_or, []}
use Rattle.std.specs.List.{list_any}
use Rattle.sg_layout.specs.declared.shape.NodeShape.{NodeShape}
use Rattle.sg_pool.specs.Numbers.{IsParted}
use Rattle.sg_store.specs.declared.node.NodeWords.{NodeWords}
use Rattle.sg_store.specs.declared.node_plan.NodePlan.{NodePlan}
use Rattle.sg_store.specs.StoreWords.{StoreWords}
use Rattle.sg_store.specs.WellFormed.{IsWithinCap, cells_below}
use Rattle.sg_store.specs.steps.Fresh.{IsZeroRow}
use Rattle.sg_store.specs.steps.Marks.{marked_from}
use Rattle.sg_store.specs.steps.Trimming.{kept_above, IsTrimmed}
use Rattle.sg_store.specs.steps.KeptWords.{in_row}
use Rattle.sg_store.specs.steps.Planning.{IsPlannable, IsPlanFor}

-- some field has a word other than 0 in a cell
abbrev pub has_word : StoreWords → ℕ → Bool
has_word store cell = list_any (λ row. not (slice_index row cell == 0)) store.fields

-- how many places stand above the node with this index, from 0
abbrev pub places_above : List NodeShape → ℕ → ℕ
places_above nodes index = cells_below (take index nodes) 1

-- the places above the node with this index, from 0, from which some slots lead to a cell that is kept
abbrev pub kept_at : List NodeShape → List NodeWords → (ℕ → Bool) → ℕ → ℕ → Bool
kept_at nodes words cells index = kept_above (drop index nodes) (drop index words) cells

-- a row that keeps exactly these places
abbrev pub IsRowAt : List NodeShape → List NodeWords → (ℕ → Bool) → ℕ → List Bool → Type 0
IsRowAt nodes words cells index row = (place : ℕ) → in_row row place ≡ kept_at nodes words cells index place

-- how many of them may be live
abbrev pub marked_above : StoreWords → ℕ → ℕ
marked_above store index = marked_from (take index store.shape.nodes) (take index store.nodes) 1

-- some cells of the store that a test keeps, among those that may be reached, so that the row keeps the places above the node that lead to them
pub record IsSomeRow (store : StoreWords) (index : ℕ) (row : List Bool) : Type 0 where
  pub cells : ℕ → Bool
  pub within : (cell : ℕ) → cells cell ≡ true → cell < marked_from store.shape.nodes store.nodes 1
  pub is : IsRowAt store.shape.nodes store.nodes cells index row

-- a plan of a node, for the places below it that are kept
pub record IsPlanAt (keeps : ℕ → Bool) (node : NodeShape) (kept : NodeWords) (plan : NodePlan) : Type 0 where
  pub row : (place : ℕ) → in_row plan.row place ≡ keeps place
  pub fits : IsPlanFor node.kind node kept plan

-- plans of the nodes from an index on, that of the last node first
pub record ArePlansFrom (nodes : List NodeShape) (words : List NodeWords) (cells : ℕ → Bool) (index : ℕ) (plans : List NodePlan) : Type 0 where
  pub many : length plans ≡ length nodes - index
  pub each : (i : ℕ) → index ≤ i → (node : NodeShape) → slice_get nodes i ≡ Some node → (kept : NodeWords) → slice_get words i ≡ Some kept →
      (plan : NodePlan) → slice_get plans (length nodes - suc i) ≡ Some plan → IsPlanAt (kept_at nodes words cells (suc i)) node kept plan

-- the plans of a store's nodes
abbrev pub ArePlans : StoreWords → (ℕ → Bool) → List NodePlan → Type 0
ArePlans store cells plans = ArePlansFrom store.shape.nodes store.nodes cells 0 plans

-- a node that is trimmed to the row of its plan
pub record IsTrimmedBy (node : NodeShape) (plan : NodePlan) (kept after : NodeWords) : Type 0 where
  pub trimmed : IsTrimmed (in_row plan.row) node kept after
  pub capped : IsWithinCap node.kind node after
  pub parted : IsParted after.pool

-- a plan for each node, that of the last node first
pub record ArePlanned (nodes : List NodeShape) (words : List NodeWords) (plans : List NodePlan) : Type 0 where
  pub many : length plans ≡ length nodes
  pub each : (i : ℕ) (node : NodeShape) → slice_get nodes i ≡ Some node → (kept : NodeWords) → slice_get words i ≡ Some kept →
      (plan : NodePlan) → slice_get plans (length nodes - suc i) ≡ Some plan → IsPlannable node kept × IsPlanFor node.kind node kept plan

-- the first so many nodes are trimmed by their plans, that of the last node first, and the others are as they were
pub record AreTrimmedTo (nodes : List NodeShape) (words afters : List NodeWords) (plans : List NodePlan) (through : ℕ) : Type 0 where
  pub many : length afters ≡ length words
  pub done : (i : ℕ) → i < through → (node : NodeShape) → slice_get nodes i ≡ Some node → (kept : NodeWords) → slice_get words i ≡ Some kept →
      (after : NodeWords) → slice_get afters i ≡ Some after → (plan : NodePlan) → slice_get plans (length nodes - suc i) ≡ Some plan →
      IsTrimmedBy node plan kept after
  pub later : (i : ℕ) → through ≤ i → slice_get afters i ≡ slice_get words i

-- the row with this index is all zeros, as long as it was, and the others are as before
pub record EmptiesRow (old now : List (List ℕ)) (index : ℕ) : Type 0 where
  pub row : List ℕ
  pub zeros : IsZeroRow (length (slice_index_or old index [])) row
  pub now_is : now ≡ slice_set old index row

-- the first so many rows are all zeros, each as long as it was, and the others are as before
pub record AreEmptied (old now : List (List ℕ)) (through : ℕ) : Type 0 where
  pub many : length now ≡ length old
  pub done : (i : ℕ) → i < through → IsZeroRow (length (slice_index_or old i [])) (slice_index_or now i [])
  pub later : (i : ℕ) → through ≤ i → slice_index_or now i [] ≡ slice_index_or old i []
