-- Spots: how wide the copies of segments are, and one step down from a spot.
use Rattle.std.proofs.Common.{◌≡◌, ◌≢◌, ℕ, zero, suc, ◌+◌, ◌-◌, ◌*◌, ◌/◌, ◌<◌, ◌≤◌, ◌^◌, Bool, true, false, List, [], ◌∷◌, ◌++◌, length, take, drop, refl, sym, ap, ◌∙◌, subst, arith, length-append}
use Rattle.std.specs.Prelude.{IsSome, ◌↔◌, Option, Some, None, is_some, option_and_then, unwrap_or, slice_get, slice_index}
use Rattle.std.specs.Option.{option_map}
use Rattle.std.specs.List.{All}
use Rattle.std.proofs.Math.Nat.{mul-le-mul_left, mul-le-mul_right, div-lt_iff_lt-mul}
use Rattle.std.proofs.Math.Seq.{take-length}
use Rattle.std.proofs.lemmas.Bool.{false≢true}
use Rattle.std.proofs.lemmas.Nat.{mul-add-lt}
use Rattle.std.proofs.lemmas.List.{drop_more}
use Rattle.std.proofs.lemmas.List.Elements.{All-head, All-tail}
use Rattle.std.proofs.lemmas.Option.{none-some, same_Some, option_and_then_some, slice_get_within, get_or_from_slice_get}
use Rattle.sg_coord.specs.Bounds.{Bounds, IsBounds, volume}
use Rattle.sg_layout.specs.declared.shape.Kind.{Kind}
use Rattle.sg_layout.specs.declared.shape.Kind.TheVariants.{Dense, Bitmasked, Pointer, Hash, Dynamic}
use Rattle.sg_layout.specs.declared.shape.NodeShape.{NodeShape}
use Rattle.sg_layout.specs.declared.shape.Shape.{Shape}
use Rattle.sg_layout.specs.Axes.{count_of, size_of, sizes_of, slots_of, bounds_of_shape}
use Rattle.sg_layout.specs.RuleLaws.{AcceptedKeepsRules}
use Rattle.sg_layout.specs.Live.{kind_or, kind_at, is_live}
use Rattle.sg_layout.specs.Slots.{IsSlot}
use Rattle.sg_flat.specs.declared.state.FlatLayout.{FlatLayout}
use Rattle.sg_store.specs.declared.node.NodeWords.{NodeWords}
use Rattle.sg_store.specs.declared.spot.Spot.{Spot}
use Rattle.sg_store.specs.StoreWords.{StoreWords}
use Rattle.sg_store.specs.Slots.{slot_under, is_set, place_below, active_below}
use Rattle.sg_store.specs.Walks.{place_after, is_on, cell_along}
use Rattle.sg_store.specs.WellFormed.{places_below, AreNodes, is_root, IsWellFormed}
use Rattle.sg_store.specs.StandsFor.{StandsFor}
use Rattle.sg_store.specs.Spots.{width_past, width_from, width_after, place_of_spot, LeadsAlong, IsPassable}
use Rattle.sg_store.specs.steps.AtNode.{AtNodeOf}
use Rattle.sg_store.specs.steps.Fresh.{IsCapped}
use Rattle.sg_store.specs.steps.Walking.{AreOffsets, IsPlaceAt}
use Rattle.sg_store.proofs.ActiveCells.{as_many_words, from_some, on_the_way, first_set, set_leads}
use Rattle.sg_store.proofs.Beginning.{caps_of}
use Rattle.sg_store.proofs.Opened.{slot_offsets}
use Rattle.sg_store.proofs.Walking.{node_is}
use Rattle.sg_store.proofs.Roomy.{at_least, some_parts}
use Rattle.sg_store.proofs.Stepping.{step_more, answer_more, links_lead, place_fits, leads_within, size_at}
use Rattle.sg_store.proofs.PathWalks.{there, StepIs}

-- ── Widths ──

-- one copy of a segment with so many slots so far has room for the nodes that are left
pub record IsNarrow (nodes : List NodeShape) (width : ℕ) : Type 0 where
  pub room : width * slots_of nodes ≤ 2 ^ 30
  pub few : slots_of nodes ≤ 2 ^ 30
  pub some_width : 1 ≤ width
  pub some : 1 ≤ slots_of nodes

some_product : (x y : ℕ) → 1 ≤ x → 1 ≤ y → 1 ≤ x * y
some_product zero y one two = absurd (omega (arith, one))
some_product (suc x) zero one two = absurd (omega (arith, two))
some_product (suc x) (suc y) one two = omega arith

past_room : (kind : Kind) (width size rest : ℕ) → width * (size * rest) ≤ 2 ^ 30 → rest ≤ 2 ^ 30 → 1 ≤ width → 1 ≤ size → (width_past kind (width * size) * rest ≤ 2 ^ 30) × (1 ≤ width_past kind (width * size))
past_room Dense width size rest room few one two = (omega (arith, room), some_product width size one two)
past_room Bitmasked width size rest room few one two = (omega (arith, room), some_product width size one two)
past_room Pointer width size rest room few one two = (omega arith, omega arith)
past_room Hash width size rest room few one two = (omega arith, omega arith)
past_room Dynamic width size rest room few one two = (omega (arith, room), some_product width size one two)

pub narrow_here : (node : NodeShape) (later : List NodeShape) (width : ℕ) → IsNarrow (node ∷ later) width → width * size_of node.sizes ≤ 2 ^ 30
narrow_here node later width narrow =
    let rest : 1 ≤ slots_of later = (some_parts (size_of node.sizes) (slots_of later) narrow.some).1 in
    let grown : width * size_of node.sizes ≤ width * size_of node.sizes * slots_of later = at_least (width * size_of node.sizes) (slots_of later) rest in
    let same : width * size_of node.sizes * slots_of later ≡ width * (size_of node.sizes * slots_of later) = omega arith in
    omega (arith, narrow.room)

pub narrow_next : (node : NodeShape) (later : List NodeShape) (width : ℕ) → IsNarrow (node ∷ later) width → IsNarrow later (width_past node.kind (width * size_of node.sizes))
narrow_next node later width narrow =
    let size : ℕ = size_of node.sizes in
    let rest : ℕ = slots_of later in
    let parts = some_parts size rest narrow.some in
    let grown : rest ≤ rest * size = at_least rest size parts.0 in
    let same : rest * size ≡ size * rest = omega arith in
    let few : rest ≤ 2 ^ 30 = omega (arith, narrow.few) in
    let next = past_room node.kind width size rest narrow.room few narrow.some_width parts.0 in
    record { room = next.0; few = few; some_width = next.1; some = parts.1 }

narrow_width : (nodes : List NodeShape) (width : ℕ) → IsNarrow nodes width → width ≤ 2 ^ 30
narrow_width nodes width narrow =
    let grown : width ≤ width * slots_of nodes = at_least width (slots_of nodes) narrow.some in
    omega (arith, narrow.room)

pub narrow_start : (shape : Shape) → IsBounds (bounds_of_shape shape) → slots_of shape.nodes ≡ volume (bounds_of_shape shape) → IsNarrow shape.nodes 1
narrow_start shape is many =
    let bounds : Bounds = bounds_of_shape shape in
    record {
      room = omega (arith, many, is.volume_most);
      few = omega (arith, many, is.volume_most);
      some_width = omega arith;
      some = subst (λ n. 1 ≤ n) (sym many) (some_product (bounds.a * bounds.b) bounds.c (some_product bounds.a bounds.b is.a_some is.b_some) is.c_some);
    }

-- the width after one node more
pub width_more : (nodes : List NodeShape) (i : ℕ) (node : NodeShape) (width : ℕ) → slice_get nodes i ≡ Some node → width_from width nodes (suc i) ≡ width_past node.kind (width_from width nodes i * size_of node.sizes)
width_more [] i node width at = absurd (none-some node at)
width_more (first ∷ later) zero node width at = ap (λ (n : NodeShape). width_past n.kind (width * size_of n.sizes)) (same_Some first node at)
width_more (first ∷ later) (suc i) node width at = width_more later i node (width_past first.kind (width * size_of first.sizes)) at

-- ── Copies are few ──

-- the places below a node, where those above it are at most 2^17 copies of so many slots
below_few : (kind : Kind) (node : NodeShape) (places width size : ℕ) → size ≡ size_of node.sizes → 1 ≤ width → IsCapped kind node → places ≤ 2 ^ 17 * width → places_below kind node (places * size) ≤ 2 ^ 17 * width_past kind (width * size)
below_few Dense node places width size sized some capped few = let grown : places * size ≤ 2 ^ 17 * width * size = mul-le-mul_right size few in omega arith
below_few Bitmasked node places width size sized some capped few = let grown : places * size ≤ 2 ^ 17 * width * size = mul-le-mul_right size few in omega arith
below_few Pointer node places width size sized some capped few = omega (arith, capped.1)
below_few Hash node places width size sized some capped few = omega (arith, capped.1)
below_few Dynamic node places width size sized some capped few =
    let caps : count_of node.cap * count_of node.chunk ≤ 2 ^ 16 * count_of node.chunk = mul-le-mul_right (count_of node.chunk) capped.1 in
    let chunks : 2 ^ 16 * count_of node.chunk ≤ 2 ^ 16 * size = mul-le-mul_left (2 ^ 16) (omega (arith, capped.3, sized)) in
    let grown : 1 * size ≤ width * size = mul-le-mul_right size some in
    omega (arith, caps, chunks, grown)

some_width : (places width p : ℕ) → p < places → places ≤ 2 ^ 17 * width → 1 ≤ width
some_width places zero p within few = absurd (omega (arith, within, few))
some_width places (suc width) p within few = omega arith

pub copies_few : (nodes : List NodeShape) (words : List NodeWords) (places width : ℕ) (live : ℕ → Bool) → AreNodes nodes words places live → All (λ node. IsCapped node.kind node) nodes → places ≤ 2 ^ 17 * width → (p : ℕ) → p < places → (s : List ℕ) → AreOffsets nodes s → (x : ℕ) → place_after place_below nodes words p s ≡ Some x → x < 2 ^ 17 * width_from width nodes (length s)
copies_few nodes words places width live are caps few p within [] ins x e = omega (arith, same_Some p x e)
copies_few [] words places width live are caps few p within (v ∷ s) ins x e = absurd ins
copies_few (node ∷ later) [] places width live are caps few p within (v ∷ s) ins x e = absurd are
copies_few (node ∷ later) (kept ∷ words) places width live are caps few p within (v ∷ s) ins x e =
    let size : ℕ = size_of node.sizes in
    let some : 1 ≤ width = some_width places width p within few in
    let next = below_few node.kind node places width size refl some (All-head (λ (n : NodeShape). IsCapped n.kind n) node later caps) few in
    option_and_then_some _ _ x e (λ n here rest.
    copies_few later words _ (width_past node.kind (width * size)) _ are.2 (All-tail (λ (n : NodeShape). IsCapped n.kind n) node later caps) next n
    (leads_within node.kind node kept _ _ are.1 (slot_under node p v) n (omega (arith, mul-add-lt p size v places within ins.0)) here) s ins.1 x rest)

-- ── Widths as the code computes them ──

-- one node further
pub record IsWidth (nodes : List NodeShape) (i width size : ℕ) (kind : Kind) : Type 0 where
  pub within : i < length nodes
  pub is : width ≡ width_from 1 nodes i
  pub narrow : IsNarrow (drop i nodes) width
  pub sized : size ≡ slice_index (sizes_of nodes) i
  pub kinded : (node : NodeShape) → slice_get nodes i ≡ Some node → kind ≡ node.kind

left_from : (nodes : List NodeShape) (i : ℕ) (node : NodeShape) → slice_get nodes i ≡ Some node → drop i nodes ≡ node ∷ drop (i + 1) nodes
left_from nodes i node at =
    drop_more nodes i node (slice_get_within nodes i node at) ∙ ap (λ n. n ∷ drop (i + 1) nodes) (get_or_from_slice_get nodes i node node at)

pub width_fits : (nodes : List NodeShape) (i width size : ℕ) (kind : Kind) → IsWidth nodes i width size kind → width * size ≤ 2 ^ 30
width_fits nodes i width size kind step =
    let node = there nodes i step.within in
    let same : size ≡ size_of node.0.sizes = step.sized ∙ size_at nodes i node.0 node.1 in
    subst (λ n. width * n ≤ 2 ^ 30) (sym same)
    (narrow_here node.0 (drop (i + 1) nodes) width (subst (λ left. IsNarrow left width) (left_from nodes i node.0 node.1) step.narrow))

pub width_on : (nodes : List NodeShape) (i width size : ℕ) (kind : Kind) (after : ℕ) → IsWidth nodes i width size kind → after ≡ width_past kind (width * size) → (after ≡ width_from 1 nodes (i + 1)) × IsNarrow (drop (i + 1) nodes) after
width_on nodes i width size kind after step is =
    let node = there nodes i step.within in
    let size_is : size ≡ size_of node.0.sizes = step.sized ∙ size_at nodes i node.0 node.1 in
    let same : after ≡ width_past node.0.kind (width * size_of node.0.sizes) =
    is ∙ ap (λ k. width_past k (width * size)) (step.kinded node.0 node.1) ∙ ap (λ n. width_past node.0.kind (width * n)) size_is in
    let next : IsNarrow (drop (i + 1) nodes) (width_past node.0.kind (width * size_of node.0.sizes)) =
    narrow_next node.0 (drop (i + 1) nodes) width (subst (λ left. IsNarrow left width) (left_from nodes i node.0 node.1) step.narrow) in
    let one : suc i ≡ i + 1 = omega arith in (
      same ∙ ap (λ w. width_past node.0.kind (w * size_of node.0.sizes)) step.is ∙ sym (width_more nodes i node.0 1 node.1) ∙ ap (width_from 1 nodes) one,
      subst (λ w. IsNarrow (drop (i + 1) nodes) w) (sym same) next,
    )

-- ── One step down from a spot ──

-- a spot that leads along a path and isn't after the last node, and an offset below the size of the next one
pub record IsGoing (store : StoreWords) (spot : Spot) (path : List ℕ) (offset : ℕ) (node : NodeShape) (kept : NodeWords) : Type 0 where
  pub well : IsWellFormed store
  pub leads : LeadsAlong store spot path
  pub at : slice_get store.shape.nodes spot.node ≡ Some node
  pub has : slice_get store.nodes spot.node ≡ Some kept
  pub below : offset < size_of node.sizes

pub spot_fits : (store : StoreWords) (spot : Spot) (path : List ℕ) → IsWellFormed store → LeadsAlong store spot path → spot.node < length store.shape.nodes → AtNodeOf (IsPlaceAt (place_of_spot store.shape.nodes spot)) store spot.node
spot_fits store spot path well leads more =
    subst (λ n. AtNodeOf (IsPlaceAt (place_of_spot store.shape.nodes spot)) store n) (sym leads.node)
    (place_fits store.shape.nodes store.nodes 1 is_root well.nodes_fit 0 (omega arith) path (slot_offsets store.shape.nodes spot.node path leads.is_slot) (place_of_spot store.shape.nodes spot)
    (links_lead store.shape.nodes store.nodes 0 path (place_of_spot store.shape.nodes spot) leads.leads) (omega (arith, leads.node)))

-- the walk over one offset more
pub goes_on : (store : StoreWords) (spot : Spot) (path : List ℕ) (offset : ℕ) (node : NodeShape) (kept : NodeWords) → IsGoing store spot path offset node kept → cell_along store (path ++ offset ∷ []) ≡ active_below node.kind node kept (slot_under node (place_of_spot store.shape.nodes spot) offset)
goes_on store spot path offset node kept going =
    step_more active_below store.shape.nodes store.nodes spot.node node kept going.at going.has 0 path offset (sym going.leads.node)
    ∙ ap (option_and_then (λ x. active_below node.kind node kept (slot_under node x offset))) going.leads.leads

next_slot : (nodes : List NodeShape) (i : ℕ) (path : List ℕ) (offset : ℕ) (node : NodeShape) → IsSlot (take i nodes) path → slice_get nodes i ≡ Some node → offset < size_of node.sizes → IsSlot (take (suc i) nodes) (path ++ offset ∷ [])
next_slot nodes zero [] offset node is at below = first nodes at
  where
    first : (ns : List NodeShape) → slice_get ns 0 ≡ Some node → IsSlot (take 1 ns) (offset ∷ [])
    first [] at = absurd (none-some node at)
    first (n ∷ ns) at = (subst (λ (m : NodeShape). offset < size_of m.sizes) (sym (same_Some n node at)) below, tt)
next_slot nodes zero (v ∷ path) offset node is at below = absurd is
next_slot [] (suc i) path offset node is at below = absurd (none-some node at)
next_slot (n ∷ ns) (suc i) [] offset node is at below = absurd is
next_slot (n ∷ ns) (suc i) (v ∷ path) offset node is at below = (is.0, next_slot ns i path offset node is.1 at below)

-- a spot with the place to which it leads on
pub spot_below : (store : StoreWords) (spot : Spot) (path : List ℕ) (offset : ℕ) (node : NodeShape) (kept : NodeWords) (place wide : ℕ) (below : Spot) → IsGoing store spot path offset node kept → cell_along store (path ++ offset ∷ []) ≡ Some place → wide ≡ width_after store.shape.nodes (suc spot.node) → below.node ≡ suc spot.node → below.part * wide + below.slot ≡ place → below.slot < wide → LeadsAlong store below (path ++ offset ∷ [])
spot_below store spot path offset node kept place wide below going leads is next here within =
    let nodes : List NodeShape = store.shape.nodes in
    let width : wide ≡ width_after nodes below.node = is ∙ ap (width_after nodes) (sym next) in
    record {
      node = omega (arith, next, going.leads.node, length-append path (offset ∷ []));
      is_slot = subst (λ n. IsSlot (take n nodes) (path ++ offset ∷ [])) (sym next) (next_slot nodes spot.node path offset node going.leads.is_slot going.at going.below);
      within = subst (λ w. below.slot < w) width within;
      leads = leads ∙ ap Some (sym here) ∙ ap (λ w. Some (below.part * w + below.slot)) width;
    }

-- ── Where the slot is live ──

own_set : (store : StoreWords) (spot : Spot) (path : List ℕ) (offset : ℕ) (node : NodeShape) (kept : NodeWords) → IsGoing store spot path offset node kept → is_on store.shape.nodes store.nodes 0 (path ++ offset ∷ []) ≡ is_set node.kind node kept (slot_under node (place_of_spot store.shape.nodes spot) offset)
own_set store spot path offset node kept going =
    ap (λ o. unwrap_or o false) (answer_more is_set store.shape.nodes store.nodes spot.node node kept going.at going.has 0 path offset (sym going.leads.node))
    ∙ ap (λ o. unwrap_or (option_map (λ x. is_set node.kind node kept (slot_under node x offset)) o) false)
    (links_lead store.shape.nodes store.nodes 0 path (place_of_spot store.shape.nodes spot) going.leads.leads)

slot_live : (store : StoreWords) (flat : FlatLayout) (spot : Spot) (path : List ℕ) (offset : ℕ) (node : NodeShape) (kept : NodeWords) → IsGoing store spot path offset node kept → StandsFor store flat → kind_at store.shape.nodes (suc spot.node) ≢ Dense → is_on store.shape.nodes store.nodes 0 (path ++ offset ∷ []) ≡ is_live store.shape flat.active (suc spot.node) (path ++ offset ∷ [])
slot_live store flat spot path offset node kept going stands sparse =
    stands.live_slots (suc spot.node) (path ++ offset ∷ []) (record {
      first = omega arith;
      within = slice_get_within store.shape.nodes spot.node node going.at;
      has_activity = sparse;
      is_slot = next_slot store.shape.nodes spot.node path offset node going.leads.is_slot going.at going.below;
    })

pub passable_from : (store : StoreWords) (flat : FlatLayout) (spot : Spot) (path : List ℕ) (offset : ℕ) (node : NodeShape) (kept : NodeWords) (place : ℕ) → IsGoing store spot path offset node kept → StandsFor store flat → cell_along store (path ++ offset ∷ []) ≡ Some place → IsPassable store.shape flat.active (suc spot.node) (path ++ offset ∷ [])
passable_from store flat spot path offset node kept place going stands leads sparse =
    let whole : List ℕ = path ++ offset ∷ [] in
    let long : length whole ≡ suc spot.node = omega (arith, going.leads.node, length-append path (offset ∷ [])) in
    let on : is_on store.shape.nodes store.nodes 0 (take (suc spot.node) whole) ≡ true =
    on_the_way store.shape.nodes store.nodes 0 whole place leads spot.node (omega (arith, long)) in
    let all : take (suc spot.node) whole ≡ whole = ap (λ n. take n whole) (sym long) ∙ take-length whole in
    sym (slot_live store flat spot path offset node kept going stands sparse) ∙ ap (is_on store.shape.nodes store.nodes 0) (sym all) ∙ on

pub passes : (store : StoreWords) (flat : FlatLayout) (spot : Spot) (path : List ℕ) (offset : ℕ) (node : NodeShape) (kept : NodeWords) → IsGoing store spot path offset node kept → StandsFor store flat → IsPassable store.shape flat.active (suc spot.node) (path ++ offset ∷ []) → (place : ℕ) × (cell_along store (path ++ offset ∷ []) ≡ Some place)
passes store flat spot path offset node kept going stands passable =
    let slot : ℕ = slot_under node (place_of_spot store.shape.nodes spot) offset in
    let one : suc spot.node - 1 ≡ spot.node = omega arith in
    let kind : kind_at store.shape.nodes (suc spot.node) ≡ node.kind = ap (λ n. kind_or (slice_get store.shape.nodes n)) one ∙ ap kind_or going.at in
    let set : is_set node.kind node kept slot ≡ true = first_set node.kind node kept slot (λ sparse.
    let own : kind_at store.shape.nodes (suc spot.node) ≢ Dense = λ e. sparse (sym kind ∙ e) in
    sym (own_set store spot path offset node kept going) ∙ slot_live store flat spot path offset node kept going stands own ∙ passable own) in
    let own = node_is store.shape.nodes store.nodes 1 is_root going.well.nodes_fit spot.node node kept going.at going.has in
    let led = set_leads node.kind node kept own.0 own.1 own.2 slot set in
    (led.0, goes_on store spot path offset node kept going ∙ led.1)

-- ── As the code goes ──

-- a spot with its place, and an offset with the size that it is below
pub record IsStepping (store : StoreWords) (spot : Spot) (path : List ℕ) (offset width place size : ℕ) : Type 0 where
  pub well : IsWellFormed store
  pub leads : LeadsAlong store spot path
  pub more : spot.node < length store.shape.nodes
  pub wide : width ≡ width_after store.shape.nodes spot.node
  pub placed : place ≡ spot.part * width + spot.slot
  pub sized : size ≡ slice_index (sizes_of store.shape.nodes) spot.node
  pub below : offset < size

place_is : (store : StoreWords) (spot : Spot) (path : List ℕ) (offset width place size : ℕ) → IsStepping store spot path offset width place size → place ≡ place_of_spot store.shape.nodes spot
place_is store spot path offset width place size step = step.placed ∙ ap (λ w. spot.part * w + spot.slot) step.wide

pub step_fits : (store : StoreWords) (spot : Spot) (path : List ℕ) (offset width place size : ℕ) → IsStepping store spot path offset width place size → AtNodeOf (IsPlaceAt place) store spot.node
step_fits store spot path offset width place size step =
    subst (λ p. AtNodeOf (IsPlaceAt p) store spot.node) (sym (place_is store spot path offset width place size step)) (spot_fits store spot path step.well step.leads step.more)

pub going_of : (store : StoreWords) (spot : Spot) (path : List ℕ) (offset width place size : ℕ) → IsStepping store spot path offset width place size → (node : NodeShape) × (kept : NodeWords) × IsGoing store spot path offset node kept
going_of store spot path offset width place size step =
    let node = there store.shape.nodes spot.node step.more in
    let many : length store.nodes ≡ length store.shape.nodes = as_many_words store.shape.nodes store.nodes 1 is_root step.well.nodes_fit in
    let kept = there store.nodes spot.node (omega (arith, many, step.more)) in (
      node.0,
      kept.0,
      record {
        well = step.well;
        leads = step.leads;
        at = node.1;
        has = kept.1;
        below = subst (λ n. offset < n) (step.sized ∙ size_at store.shape.nodes spot.node node.0 node.1) step.below;
      },
    )

pub step_along : (store : StoreWords) (spot : Spot) (path : List ℕ) (offset width place size : ℕ) (result : Option ℕ) → IsStepping store spot path offset width place size → StepIs store spot.node place offset true result → cell_along store (path ++ offset ∷ []) ≡ result
step_along store spot path offset width place size result step is =
    let going = going_of store spot path offset width place size step in
    let node : NodeShape = going.0 in
    let kept : NodeWords = going.1 in
    goes_on store spot path offset node kept going.2
    ∙ ap (λ p. active_below node.kind node kept (slot_under node p offset)) (sym (place_is store spot path offset width place size step))
    ∙ sym (is node kept going.2.at going.2.has)

-- the step is taken exactly when the slot can be gone through
pub step_live : (store : StoreWords) (flat : FlatLayout) (spot : Spot) (path : List ℕ) (offset width place size : ℕ) (result : Option ℕ) (below : Option Spot) → IsStepping store spot path offset width place size → StandsFor store flat → cell_along store (path ++ offset ∷ []) ≡ result → is_some below ≡ is_some result → IsSome below ↔ ((offset < slice_index (sizes_of store.shape.nodes) spot.node) × IsPassable store.shape flat.active (suc spot.node) (path ++ offset ∷ []))
step_live store flat spot path offset width place size result below step stands leads same =
    let going = going_of store spot path offset width place size step in
    let small : offset < slice_index (sizes_of store.shape.nodes) spot.node = subst (λ n. offset < n) step.sized step.below in (
      λ some.
          let led = from_some (cell_along store (path ++ offset ∷ [])) (ap is_some leads ∙ sym same ∙ some) in
          (small, passable_from store flat spot path offset going.0 going.1 led.0 going.2 stands led.1),
      λ both.
          let led = passes store flat spot path offset going.0 going.1 going.2 stands both.1 in
          same ∙ ap is_some (sym leads) ∙ ap is_some led.1,
    )

-- an offset past the size leads nowhere
pub past_size : {A : Type 0} → (offset size : ℕ) (passable : Type 0) (below : Option A) → size ≤ offset → below ≡ None → IsSome below ↔ ((offset < size) × passable)
past_size offset size passable below past none = (
  λ some. absurd (false≢true (sym (ap is_some none) ∙ some)),
  λ both. absurd (omega (arith, both.0, past)),
)

-- a number of a copy is small
pub part_small : (store : StoreWords) (spot : Spot) (path : List ℕ) (offset width place size below wide : ℕ) → IsStepping store spot path offset width place size → AcceptedKeepsRules store.shape → cell_along store (path ++ offset ∷ []) ≡ Some below → 1 ≤ wide → wide ≡ width_after store.shape.nodes (suc spot.node) → below / wide < 2 ^ 32
part_small store spot path offset width place size below wide step rules leads some is =
    let nodes : List NodeShape = store.shape.nodes in
    let going = going_of store spot path offset width place size step in
    let whole : List ℕ = path ++ offset ∷ [] in
    let long : length whole ≡ suc spot.node = omega (arith, step.leads.node, length-append path (offset ∷ [])) in
    let fits : AreOffsets nodes whole = slot_offsets nodes (suc spot.node) whole (next_slot nodes spot.node path offset going.0 going.2.leads.is_slot going.2.at going.2.below) in
    let few : below < 2 ^ 17 * width_from 1 nodes (length whole) =
    copies_few nodes store.nodes 1 1 is_root step.well.nodes_fit (caps_of store.shape rules step.well.accepted)
    (omega arith) 0 (omega arith) whole fits below (links_lead nodes store.nodes 0 whole below leads) in
    let here : below < 2 ^ 17 * wide = subst (λ w. below < 2 ^ 17 * w) (ap (width_from 1 nodes) long ∙ sym is) few in
    few_parts below wide some here
  where
    few_parts : (n w : ℕ) → 1 ≤ w → n < 2 ^ 17 * w → n / w < 2 ^ 32
    few_parts n w one small = omega (arith, (div-lt_iff_lt-mul {k = w} {x = n} {y = 2 ^ 17} one).1 small)
