-- Place registers, and one step down from a place.
use Rattle.std.proofs.Common.{◌≡◌, ℕ, zero, suc, ◌+◌, ◌-◌, ◌<◌, ◌≤◌, Bool, true, false, inl, inr, List, [], ◌∷◌, ◌++◌, length, Option, Some, None, refl, sym, ap, ◌∙◌, subst, arith, append_assoc}
use Rattle.std.specs.Prelude.{Contains, take, ◌⊎◌, IfSome, IfNone, slice_get, slice_index, option_and_then, option_map, nat_lt, if◌then◌else◌}
use Rattle.std.proofs.Math.Seq.{take-length}
use Rattle.std.proofs.lemmas.Bool.{cond-true, cond-false, lt-ltb}
use Rattle.std.proofs.lemmas.Option.{same_Some}
use Rattle.sg_coord.specs.declared.coord.Coord.{Coord}
use Rattle.sg_coord.specs.Coord.{is_inside}
use Rattle.sg_layout.specs.declared.shape.NodeShape.{NodeShape}
use Rattle.sg_layout.specs.declared.shape.Shape.{Shape}
use Rattle.sg_layout.specs.Accepted.{IsAccepted}
use Rattle.sg_layout.specs.Axes.{size_of, sizes_of, bounds_of_shape}
use Rattle.sg_layout.specs.Path.{offsets}
use Rattle.sg_layout.specs.PathLaws.{WholePathIsOffsets, PathIsSlot}
use Rattle.sg_flat.specs.declared.state.FlatLayout.{FlatLayout}
use Rattle.sg_layout.specs.Slots.{IsSlot}
use Rattle.sg_store.specs.declared.node.NodeWords.{NodeWords}
use Rattle.sg_store.specs.declared.spot.Spot.{Spot}
use Rattle.sg_store.specs.StoreWords.{StoreWords}
use Rattle.sg_store.specs.Slots.{slot_under, active_below}
use Rattle.sg_store.specs.Walks.{place_after, cell_along, cell_in}
use Rattle.sg_store.specs.Spots.{LeadsAlong, IsSpot}
use Rattle.sg_store.specs.StandsFor.{StandsFor}
use Rattle.sg_store.specs.StoreLaws.{CellsAreActive}
use Rattle.sg_store.specs.WellFormed.{IsWellFormed}
use Rattle.sg_ir.specs.Runs.{Place, down, add_offset, node_in, node_of}
use Rattle.sg_exec.specs.declared.lanes.held.Held.{Held}
use Rattle.sg_exec.specs.Standing.{shapes_of}
use Rattle.sg_exec.specs.steps.Stepping.{is_below, can_step, IsIdle, StepLeads, StepIsDead}
use Rattle.sg_exec.specs.steps.Machines.{IsDead, HoldsPlace, IsHeld, AreHeld, ArePlaces, StepsDown}
use Rattle.sg_exec.specs.steps.Rows.{On, IsPut}
use Rattle.sg_exec.proofs.Rows.{put_all, put_so}
use Rattle.sg_exec.proofs.StoreLists.{shape_at, some_is_none}

-- ---- rows of places

-- where each spot that was put is one of a store
pub held_put : (stores : List StoreWords) (Holds : ℕ → Option Held → Type 0) (lanes : List ℕ) (to : ℕ) (list list' : List (Option Held)) → IsPut Holds (On lanes) to None list list'
    → ((k : ℕ) (held : Option Held) → Holds k held → IfSome held (IsHeld stores)) → AreHeld stores list → AreHeld stores list'
held_put stores Holds lanes to list list' put so old = put_all (λ (held : Option Held). IfSome held (IsHeld stores)) Holds lanes to None list list' put so old

-- items that were put into a list as it was lent
pub put_lent : (Holds Other : ℕ → Option Held → Type 0) (on : ℕ → Type 0) (to : ℕ) (lent news old after : List (Option Held)) → lent ≡ old → after ≡ news → ((k : ℕ) (held : Option Held) → Holds k held → Other k held)
    → IsPut Holds on to None lent news → IsPut Other on to None old after
put_lent Holds Other on to lent news old after was is so put =
    subst (λ (items : List (Option Held)). IsPut Other on to None items after) was
    (subst (λ (items : List (Option Held)). IsPut Other on to None lent items) (sym is) (put_so Holds Other on to None lent news (λ k held small on. so k held) put))

-- no place register holds anything
pub no_places : (stores : List StoreWords) (held : ℕ → Option Held) → ((p : ℕ) → held p ≡ None) → ArePlaces stores held (λ place. None)
no_places stores held none p = subst (λ (h : Option Held). HoldsPlace stores h None) (sym (none p)) tt

-- ---- checks

pub held_check : (stores : List StoreWords) (held : Option Held) (on : Bool) → IfSome held (IsHeld stores) → IfSome (if on then held else None) (IsHeld stores)
held_check stores held true is = is
held_check stores held false is = tt

pub holds_check : (stores : List StoreWords) (held : Option Held) (place : Option Place) (extent word : ℕ) (on : Bool) → HoldsPlace stores held place → HoldsPlace stores (if on then held else None) (if on then place else None)
holds_check stores held place extent word true h = h
holds_check stores held place extent word false h = tt

-- ---- steps

-- if links and bits lead nowhere along a path, they lead nowhere further on
pub along_none : (nodes : List NodeShape) (words : List NodeWords) (place : ℕ) (path more : List ℕ) → place_after active_below nodes words place path ≡ None → place_after active_below nodes words place (path ++ more) ≡ None
along_none nodes words place [] more none = absurd (cc)
along_none [] words place (offset ∷ path) more none = refl
along_none (node ∷ later) [] place (offset ∷ path) more none = refl
along_none (node ∷ later) (kept ∷ words) place (offset ∷ path) more none = by_step (active_below node.kind node kept (slot_under node place offset)) (λ next. along_none later words next path more) none
  where
    by_step : (found : Option ℕ) → ((next : ℕ) → place_after active_below later words next path ≡ None → place_after active_below later words next (path ++ more) ≡ None)
        → option_and_then (λ next. place_after active_below later words next path) found ≡ None → option_and_then (λ next. place_after active_below later words next (path ++ more)) found ≡ None
    by_step None rest none = refl
    by_step (Some next) rest none = rest next none

-- a slot has an offset at each node, below its size
slot_has : (nodes : List NodeShape) (path : List ℕ) (offset : ℕ) (more : List ℕ) → IsSlot nodes ((path ++ offset ∷ []) ++ more) → (length path < length nodes) × (offset < slice_index (sizes_of nodes) (length path))
slot_has [] [] offset more is = absurd is
slot_has [] (first ∷ path) offset more is = absurd is
slot_has (node ∷ nodes) [] offset more is = (omega arith, is.0)
slot_has (node ∷ nodes) (first ∷ path) offset more is = let rest = slot_has nodes path offset more is.1 in (omega (arith, rest.0), rest.1)

-- what is known of a store at a step
pub record StepLaws (store : StoreWords) : Type 0 where
  pub well : IsWellFormed store
  pub accepted : IsAccepted store.shape
  pub active : CellsAreActive store
  pub whole : WholePathIsOffsets store.shape
  pub is_slot : PathIsSlot store.shape

is_slot_of : (store : StoreWords) → StepLaws store → (at : Coord) → IsSlot store.shape.nodes (offsets store.shape.nodes at)
is_slot_of store laws at =
    subst (λ (nodes : List NodeShape). IsSlot nodes (offsets store.shape.nodes at)) (take-length store.shape.nodes)
    (subst (IsSlot (take (length store.shape.nodes) store.shape.nodes)) (laws.whole at) (laws.is_slot laws.accepted at (length store.shape.nodes)))

-- an active coordinate has a cell along its path
has_cell : (store : StoreWords) → StepLaws store → (flat : FlatLayout) → StandsFor store flat → (at : Coord) → Contains flat.active at → cell_along store (offsets store.shape.nodes at) ≡ None → ⊥
has_cell store laws flat stands at has none = some_is_none (cell_in store at) (by_test (is_inside (bounds_of_shape store.shape) at)) ((laws.active laws.well flat stands at).1 has)
  where
    by_test : (b : Bool) → (if b then cell_along store (offsets store.shape.nodes at) else None) ≡ None
    by_test true = none
    by_test false = refl

-- past the size of a node there is no slot
pub dead_size : (store : StoreWords) → StepLaws store → (spot : Spot) (node : ℕ) (path : List ℕ) (offset : ℕ) → slice_index (sizes_of store.shape.nodes) spot.node ≤ offset → LeadsAlong store spot path → StepIsDead store node path offset
dead_size store laws spot node path offset past leads = λ can at more is.
    let has = slot_has store.shape.nodes path offset more (subst (IsSlot store.shape.nodes) is (is_slot_of store laws at)) in
    let same : slice_index (sizes_of store.shape.nodes) spot.node ≡ slice_index (sizes_of store.shape.nodes) (length path) = ap (slice_index (sizes_of store.shape.nodes)) leads.node in
    absurd (omega (arith, has.1, past, same))

pub dead_along : (store : StoreWords) → StepLaws store → (node : ℕ) (path : List ℕ) (offset : ℕ) → cell_along store (path ++ offset ∷ []) ≡ None → StepIsDead store node path offset
dead_along store laws node path offset none = λ can at more is.
    let nowhere : cell_along store (offsets store.shape.nodes at) ≡ None = ap (cell_along store) is ∙ along_none store.shape.nodes store.nodes 0 (path ++ offset ∷ []) more none in
    record { cell = by_test at nowhere (is_inside (bounds_of_shape store.shape) at); idle = λ flat stands active. has_cell store laws flat stands at active nowhere }
  where
    by_test : (at : Coord) → cell_along store (offsets store.shape.nodes at) ≡ None → (b : Bool) → (if b then cell_along store (offsets store.shape.nodes at) else None) ≡ None
    by_test at nowhere true = nowhere
    by_test at nowhere false = refl

pub dead_under : (store : StoreWords) → StepLaws store → (spot : Spot) (node : ℕ) (path : List ℕ) (offset : ℕ) → LeadsAlong store spot path
    → (slice_index (sizes_of store.shape.nodes) spot.node ≤ offset) ⊎ (cell_along store (path ++ offset ∷ []) ≡ None) → StepIsDead store node path offset
dead_under store laws spot node path offset leads found = elim found [
  | inl past ↦ dead_size store laws spot node path offset past leads
  | inr none ↦ dead_along store laws node path offset none
]

-- a step that can't be taken leads to no place
step_place : (nodes : List NodeShape) (node : ℕ) (layout : ℕ) (path : List ℕ) (offset : ℕ) → can_step nodes node offset ≡ true → add_offset offset (record { layout = layout; path = path }) (node_in nodes node) ≡ Some (record { layout = layout; path = path ++ offset ∷ [] })
step_place nodes node layout path offset can = by_node (node_in nodes node) can
  where
    by_node : (found : Option NodeShape) → is_below offset found ≡ true → add_offset offset (record { layout = layout; path = path }) found ≡ Some (record { layout = layout; path = path ++ offset ∷ [] })
    by_node None can = absurd (cc)
    by_node (Some n) can = cond-true _ (Some (record { layout = layout; path = path ++ offset ∷ [] })) None can

no_step_place : (nodes : List NodeShape) (node : ℕ) (place : Place) (offset : ℕ) → can_step nodes node offset ≡ false → add_offset offset place (node_in nodes node) ≡ None
no_step_place nodes node place offset can = by_node (node_in nodes node) can
  where
    by_node : (found : Option NodeShape) → is_below offset found ≡ false → add_offset offset place found ≡ None
    by_node None can = refl
    by_node (Some n) can = cond-false _ (Some (record { layout = place.layout; path = place.path ++ offset ∷ [] })) None can

down_at : (stores : List StoreWords) (store : StoreWords) (layout : ℕ) (path : List ℕ) (place : Option Place) (node offset : ℕ) → place ≡ Some (record { layout = layout; path = path }) → slice_get stores layout ≡ Some store
    → down (shapes_of stores) node offset place ≡ add_offset offset (record { layout = layout; path = path }) (node_in store.shape.nodes node)
down_at stores store layout path place node offset is there =
    ap (down (shapes_of stores) node offset) is
    ∙ ap (λ (found : Option Shape). add_offset offset (record { layout = layout; path = path }) (option_and_then (λ (shape : Shape). node_in shape.nodes node) found)) (shape_at stores layout store there)

-- the step of a register that holds a spot
pub holds_step : (stores : List StoreWords) (held : Held) (store : StoreWords) (below : Option Spot) (place : Option Place) (node offset : ℕ) → slice_get stores held.layout ≡ Some store → HoldsPlace stores (Some held) place
    → IfSome below (λ spot. (path : List ℕ) → LeadsAlong store held.spot path → StepLeads store spot node path offset)
    → IfNone below ((path : List ℕ) → LeadsAlong store held.spot path → StepIsDead store node path offset)
    → HoldsPlace stores (option_map (λ spot. record { layout = held.layout; spot = spot }) below) (down (shapes_of stores) node offset place)
holds_step stores held store below place node offset there h some none = by_below below some none
  where
    same : h.store ≡ store
    same = same_Some h.store store (sym h.there ∙ there)

    leads : LeadsAlong store held.spot h.path
    leads = subst (λ (s : StoreWords). LeadsAlong s held.spot h.path) same h.leads

    is_down : down (shapes_of stores) node offset place ≡ add_offset offset (record { layout = held.layout; path = h.path }) (node_in store.shape.nodes node)
    is_down = down_at stores store held.layout h.path place node offset h.is_place there

    dead : StepIsDead store node h.path offset → (can : Bool) → can_step store.shape.nodes node offset ≡ can → IsDead stores (down (shapes_of stores) node offset place)
    dead step true can =
        subst (IsDead stores) (sym (is_down ∙ step_place store.shape.nodes node held.layout h.path offset can))
        (λ other is at more along.
        let one : other ≡ store = same_Some other store (sym is ∙ there) in
        subst (λ (s : StoreWords). IsIdle s at) (sym one) (step can at more (sym (ap (λ (s : StoreWords). offsets s.shape.nodes at) one) ∙ along)))
    dead step false can = subst (IsDead stores) (sym (is_down ∙ no_step_place store.shape.nodes node (record { layout = held.layout; path = h.path }) offset can)) tt

    by_below : (below : Option Spot) → IfSome below (λ spot. (path : List ℕ) → LeadsAlong store held.spot path → StepLeads store spot node path offset)
        → IfNone below ((path : List ℕ) → LeadsAlong store held.spot path → StepIsDead store node path offset)
        → HoldsPlace stores (option_map (λ spot. record { layout = held.layout; spot = spot }) below) (down (shapes_of stores) node offset place)
    by_below (Some spot) some none =
        let step = some h.path leads in
        record {
          path = h.path ++ offset ∷ [];
          store = store;
          is_place = is_down ∙ step_place store.shape.nodes node held.layout h.path offset step.can;
          there = there;
          leads = step.leads;
        }
    by_below None some none = dead (none h.path leads) (can_step store.shape.nodes node offset) refl

-- and of one that holds none
dead_on : (stores : List StoreWords) (there : Place) (node offset : ℕ) → IsDead stores (Some there) → (found : Option NodeShape) → IsDead stores (add_offset offset there found)
dead_on stores there node offset dead None = tt
dead_on stores there node offset dead (Some n) = by_test (nat_lt offset (size_of n.sizes))
  where
    by_test : (b : Bool) → IsDead stores (if b then Some (record { layout = there.layout; path = there.path ++ offset ∷ [] }) else None)
    by_test true = λ store is at more along. dead store is at (offset ∷ more) (along ∙ append_assoc there.path (offset ∷ []) more)
    by_test false = tt

pub holds_none : (stores : List StoreWords) (place : Option Place) (node offset : ℕ) → HoldsPlace stores None place → HoldsPlace stores None (down (shapes_of stores) node offset place)
holds_none stores None node offset h = tt
holds_none stores (Some there) node offset h = dead_on stores there node offset h (node_of (shapes_of stores) there.layout node)

-- ---- as the code goes

pub spot_of : (stores : List StoreWords) (held : Held) (store : StoreWords) → IsHeld stores held → slice_get stores held.layout ≡ Some store → IsSpot store held.spot
spot_of stores held store is there = (is.path, subst (λ (s : StoreWords). LeadsAlong s held.spot is.path) (same_Some is.store store (sym is.there ∙ there)) is.leads)

pub held_below : (stores : List StoreWords) (held : Held) (store : StoreWords) (below : Option Spot) (node offset : ℕ) → slice_get stores held.layout ≡ Some store → IsHeld stores held
    → IfSome below (λ spot. (path : List ℕ) → LeadsAlong store held.spot path → StepLeads store spot node path offset) → IfSome (option_map (λ spot. record { layout = held.layout; spot = spot }) below) (IsHeld stores)
held_below stores held store None node offset there is some = tt
held_below stores held store (Some spot) node offset there is some =
    let of = spot_of stores held store is there in
    record { path = of.0 ++ offset ∷ []; store = store; there = there; leads = (some of.0 of.1).leads }

-- the step from a spot, and from none
pub steps_down : (stores : List StoreWords) (held : Held) (store : StoreWords) (below : Option Spot) (node offset : ℕ) (found : Option Held) → slice_get stores held.layout ≡ Some store → IsHeld stores held
    → IfSome below (λ spot. (path : List ℕ) → LeadsAlong store held.spot path → StepLeads store spot node path offset)
    → IfNone below ((path : List ℕ) → LeadsAlong store held.spot path → StepIsDead store node path offset)
    → found ≡ option_map (λ spot. record { layout = held.layout; spot = spot }) below → StepsDown stores node offset (Some held) found
steps_down stores held store below node offset found there is some none made =
    subst (λ (h : Option Held). StepsDown stores node offset (Some held) h) (sym made) (record {
      held_below = held_below stores held store below node offset there is some;
      holds = λ place holds. holds_step stores held store below place node offset there holds some none;
    })

pub steps_none : (stores : List StoreWords) (node offset : ℕ) → StepsDown stores node offset None None
steps_none stores node offset = record { held_below = tt; holds = λ place holds. holds_none stores place node offset holds }

-- a spot has a store
pub not_held : (stores : List StoreWords) (held : Held) → IsHeld stores held → None ≡ slice_get stores held.layout → ⊥
not_held stores held is none = let h : None ≡ Some is.store = none ∙ is.there in absurd (cc)

-- the test of an offset
below_at : (nodes : List NodeShape) (i offset : ℕ) → i < length nodes → nat_lt offset (slice_index (sizes_of nodes) i) ≡ is_below offset (slice_get nodes i)
below_at [] i offset below = absurd (omega (arith, below))
below_at (node ∷ nodes) zero offset below = refl
below_at (node ∷ nodes) (suc i) offset below = below_at nodes i offset (omega (arith, below))

past_at : (nodes : List NodeShape) (i offset : ℕ) → length nodes ≤ i → false ≡ is_below offset (slice_get nodes i)
past_at [] i offset past = refl
past_at (node ∷ nodes) zero offset past = absurd (omega (arith, past))
past_at (node ∷ nodes) (suc i) offset past = past_at nodes i offset (omega (arith, past))

pub test_there : (nodes : List NodeShape) (node offset size : ℕ) → (node ≡ 0 → ⊥) → node - 1 < length nodes → size ≡ slice_index (sizes_of nodes) (node - 1) → nat_lt offset size ≡ can_step nodes node offset
test_there nodes zero offset size some below is = absurd (some refl)
test_there nodes (suc before) offset size some below is =
    let one : suc before - 1 ≡ before = omega arith in
    ap (nat_lt offset) (is ∙ ap (slice_index (sizes_of nodes)) one) ∙ below_at nodes before offset (omega (arith, below, one))

pub test_past : (nodes : List NodeShape) (node offset : ℕ) → (node ≡ 0 → ⊥) → length nodes ≤ node - 1 → false ≡ can_step nodes node offset
test_past nodes zero offset some past = absurd (some refl)
test_past nodes (suc before) offset some past = past_at nodes before offset (let one : suc before - 1 ≡ before = omega arith in omega (arith, past, one))

pub under_some : (store : StoreWords) (spot : Spot) (node offset : ℕ) (below : Option Spot) → can_step store.shape.nodes node offset ≡ true
    → IfSome below (λ under. (path : List ℕ) → LeadsAlong store spot path → LeadsAlong store under (path ++ offset ∷ []))
    → IfSome below (λ under. (path : List ℕ) → LeadsAlong store spot path → StepLeads store under node path offset)
under_some store spot node offset None can some = tt
under_some store spot node offset (Some under) can some = λ path leads. record { can = can; leads = some path leads }

pub under_none : (store : StoreWords) → StepLaws store → (spot : Spot) (node offset : ℕ) (below : Option Spot)
    → IfNone below ((path : List ℕ) → LeadsAlong store spot path → (slice_index (sizes_of store.shape.nodes) spot.node ≤ offset) ⊎ (cell_along store (path ++ offset ∷ []) ≡ None))
    → IfNone below ((path : List ℕ) → LeadsAlong store spot path → StepIsDead store node path offset)
under_none store laws spot node offset None none = λ path leads. dead_under store laws spot node path offset leads (none path leads)
under_none store laws spot node offset (Some under) none = tt

-- a spot one node below shows that its offset is below the node's size
pub step_of_next : (store : StoreWords) (spot under : Spot) (node : ℕ) (path : List ℕ) (offset : ℕ) → spot.node + 1 ≡ node → spot.node < length store.shape.nodes → LeadsAlong store spot path → LeadsAlong store under (path ++ offset ∷ [])
    → can_step store.shape.nodes node offset ≡ true
step_of_next store spot under node path offset next below leads there =
    subst (λ (n : ℕ). can_step store.shape.nodes n offset ≡ true) (sym add_one_is ∙ next)
    (sym (below_at store.shape.nodes spot.node offset below) ∙ lt-ltb offset (slice_index (sizes_of store.shape.nodes) spot.node) small)
  where
    add_one_is : spot.node + 1 ≡ suc spot.node
    add_one_is = omega arith

    few : (nodes : List NodeShape) (k : ℕ) (front : List ℕ) → length front ≡ length front → IsSlot (take k nodes) (front ++ offset ∷ []) → offset < slice_index (sizes_of nodes) (length front)
    few nodes zero [] same is = absurd is
    few nodes zero (first ∷ front) same is = absurd is
    few [] (suc k) [] same is = absurd is
    few [] (suc k) (first ∷ front) same is = absurd is
    few (node ∷ nodes) (suc k) [] same is = is.0
    few (node ∷ nodes) (suc k) (first ∷ front) same is = few nodes k front refl is.1

    small : offset < slice_index (sizes_of store.shape.nodes) spot.node
    small = subst (λ (k : ℕ). offset < slice_index (sizes_of store.shape.nodes) k) (sym leads.node) (few store.shape.nodes under.node path refl there.is_slot)

pub under_next : (store : StoreWords) (spot : Spot) (node offset : ℕ) (below : Option Spot) → spot.node + 1 ≡ node → spot.node < length store.shape.nodes
    → IfSome below (λ under. (path : List ℕ) → LeadsAlong store spot path → LeadsAlong store under (path ++ offset ∷ []))
    → IfSome below (λ under. (path : List ℕ) → LeadsAlong store spot path → StepLeads store under node path offset)
under_next store spot node offset None next low some = tt
under_next store spot node offset (Some under) next low some = λ path leads.
    record { can = step_of_next store spot under node path offset next low leads (some path leads); leads = some path leads }

-- the spot below, where the node is the next one or else the step can be taken
pub under_either : (store : StoreWords) (spot : Spot) (node offset : ℕ) (below : Option Spot) → (spot.node + 1 ≡ node) ⊎ (can_step store.shape.nodes node offset ≡ true) → spot.node < length store.shape.nodes
    → IfSome below (λ under. (path : List ℕ) → LeadsAlong store spot path → LeadsAlong store under (path ++ offset ∷ []))
    → IfSome below (λ under. (path : List ℕ) → LeadsAlong store spot path → StepLeads store under node path offset)
under_either store spot node offset below goes low some = elim goes [
  | inl next ↦ under_next store spot node offset below next low some
  | inr can ↦ under_some store spot node offset below can some
]
