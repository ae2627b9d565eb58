-- One step down from a spot by the widths of a frame.
use Rattle.std.proofs.Common.{◌≡◌, ℕ, suc, ◌+◌, ◌*◌, ◌<◌, List, [], ◌∷◌, ◌++◌, length, refl, sym, ap, ◌∙◌, subst, arith}
use Rattle.std.specs.Prelude.{Some}
use Rattle.std.proofs.lemmas.Nat.{mul-add-lt}
use Rattle.std.proofs.lemmas.Option.{same_Some}
use Rattle.sg_layout.specs.declared.shape.Kind.{Kind}
use Rattle.sg_layout.specs.declared.shape.Kind.TheVariants.{Dense, Bitmasked, Pointer, Hash, Dynamic}
use Rattle.sg_layout.specs.declared.shape.NodeShape.{NodeShape}
use Rattle.sg_layout.specs.Axes.{size_of}
use Rattle.sg_layout.specs.RuleLaws.{AcceptedKeepsRules}
use Rattle.sg_store.specs.declared.node.NodeWords.{NodeWords}
use Rattle.sg_store.specs.declared.spot.Spot.{Spot}
use Rattle.sg_store.specs.declared.frame.NodeWidths.{NodeWidths}
use Rattle.sg_store.specs.StoreWords.{StoreWords}
use Rattle.sg_store.specs.Slots.{slot_under, active_below}
use Rattle.sg_store.specs.Walks.{cell_along}
use Rattle.sg_store.specs.WellFormed.{IsWellFormed}
use Rattle.sg_store.specs.Spots.{width_past, place_of_spot, LeadsAlong}
use Rattle.sg_store.specs.steps.Widths.{IsWidths, LeadsWithin, IsFound}
use Rattle.sg_store.proofs.Walking.{active_leads}
use Rattle.sg_store.proofs.Stepping.{size_at}
use Rattle.sg_store.proofs.SpotPlaces.{IsGoing, IsStepping, goes_on, going_of, part_small, spot_below}

pub stepping_of : (store : StoreWords) (spot : Spot) (path : List ℕ) (offset : ℕ) (widths : NodeWidths) → IsWellFormed store → LeadsAlong store spot path → spot.node < length store.shape.nodes → IsWidths store.shape.nodes spot.node widths → offset < widths.size → IsStepping store spot path offset widths.before (spot.part * widths.before + spot.slot) widths.size
stepping_of store spot path offset widths well leads more is below = record {
  well = well;
  leads = leads;
  more = more;
  wide = is.before_is;
  placed = refl;
  sized = is.size_is;
  below = below;
}

-- a slot of a spot is below the width before the node
pub slot_within : (store : StoreWords) (spot : Spot) (path : List ℕ) (widths : NodeWidths) → LeadsAlong store spot path → IsWidths store.shape.nodes spot.node widths → spot.slot < widths.before
slot_within store spot path widths leads is = subst (λ w. spot.slot < w) (sym is.before_is) leads.within

kind_here : (store : StoreWords) (spot : Spot) (path : List ℕ) (offset : ℕ) (node : NodeShape) (kept : NodeWords) (widths : NodeWidths) → IsGoing store spot path offset node kept → IsWidths store.shape.nodes spot.node widths → widths.kind ≡ node.kind
kind_here store spot path offset node kept widths going is = is.kind_is node going.at

-- the number of the slot over an offset
number_is : (store : StoreWords) (spot : Spot) (path : List ℕ) (offset : ℕ) (node : NodeShape) (kept : NodeWords) (widths : NodeWidths) → IsGoing store spot path offset node kept → IsWidths store.shape.nodes spot.node widths → slot_under node (place_of_spot store.shape.nodes spot) offset ≡ (spot.part * widths.before + spot.slot) * widths.size + offset
number_is store spot path offset node kept widths going is =
    ap (λ w. (spot.part * w + spot.slot) * size_of node.sizes + offset) (sym is.before_is)
    ∙ ap (λ n. (spot.part * widths.before + spot.slot) * n + offset) (sym (size_at store.shape.nodes spot.node node going.at) ∙ sym is.size_is)

within_leads : (kind : Kind) (node : NodeShape) (kept : NodeWords) (slot place : ℕ) → active_below kind node kept slot ≡ Some place → LeadsWithin kind slot place
within_leads Dense node kept slot place e = sym (same_Some slot place (active_leads Dense node kept slot place e).1)
within_leads Bitmasked node kept slot place e = sym (same_Some slot place (active_leads Bitmasked node kept slot place e).1)
within_leads Pointer node kept slot place e = tt
within_leads Hash node kept slot place e = tt
within_leads Dynamic node kept slot place e = tt

-- a place to which the node leads
pub found_at : (store : StoreWords) (spot : Spot) (path : List ℕ) (offset place : ℕ) (widths : NodeWidths) → AcceptedKeepsRules store.shape → IsWidths store.shape.nodes spot.node widths → IsStepping store spot path offset widths.before (spot.part * widths.before + spot.slot) widths.size → cell_along store (path ++ offset ∷ []) ≡ Some place → IsFound widths spot offset place
found_at store spot path offset place widths rules is step leads =
    let p : ℕ = spot.part * widths.before + spot.slot in
    let going = going_of store spot path offset widths.before p widths.size step in
    let node : NodeShape = going.0 in
    let here : active_below node.kind node going.1 (slot_under node (place_of_spot store.shape.nodes spot) offset) ≡ Some place =
    sym (goes_on store spot path offset node going.1 going.2) ∙ leads in
    let slot : slot_under node (place_of_spot store.shape.nodes spot) offset ≡ p * widths.size + offset = number_is store spot path offset node going.1 widths going.2 is in
    record {
      past_is = is.past_is;
      some_after = is.some_after;
      few = part_small store spot path offset widths.before p widths.size place widths.after step rules leads is.some_after is.after_is;
      leads = subst (λ k. LeadsWithin k (p * widths.size + offset) place) (sym (kind_here store spot path offset node going.1 widths going.2 is))
          (within_leads node.kind node going.1 (p * widths.size + offset) place (subst (λ s. active_below node.kind node going.1 s ≡ Some place) slot here));
    }

-- a dense node leads on to each of its slots
pub dense_leads : (store : StoreWords) (spot : Spot) (path : List ℕ) (offset : ℕ) (widths : NodeWidths) → IsWidths store.shape.nodes spot.node widths → IsStepping store spot path offset widths.before (spot.part * widths.before + spot.slot) widths.size → widths.kind ≡ Dense → cell_along store (path ++ offset ∷ []) ≡ Some ((spot.part * widths.before + spot.slot) * widths.size + offset)
dense_leads store spot path offset widths is step dense =
    let going = going_of store spot path offset widths.before (spot.part * widths.before + spot.slot) widths.size step in
    let node : NodeShape = going.0 in
    let kind : node.kind ≡ Dense = sym (kind_here store spot path offset node going.1 widths going.2 is) ∙ dense in
    goes_on store spot path offset node going.1 going.2
    ∙ ap (λ k. active_below k node going.1 (slot_under node (place_of_spot store.shape.nodes spot) offset)) kind
    ∙ ap Some (number_is store spot path offset node going.1 widths going.2 is)

-- a slot in the same copy of a segment
pub within_copy : (slot before size offset : ℕ) → slot < before → offset < size → slot * size + offset < before * size
within_copy slot before size offset low below = omega (arith, mul-add-lt slot size offset before low below)

pub same_copy : (part slot before size offset : ℕ) → part * (before * size) + (slot * size + offset) ≡ (part * before + slot) * size + offset
same_copy part slot before size offset = omega arith

pub spot_within : (store : StoreWords) (spot : Spot) (path : List ℕ) (offset : ℕ) (widths : NodeWidths) (below : Spot) → IsWidths store.shape.nodes spot.node widths → IsStepping store spot path offset widths.before (spot.part * widths.before + spot.slot) widths.size → widths.kind ≡ Dense → below ≡ record { node = spot.node + 1; part = spot.part; slot = spot.slot * widths.size + offset } → LeadsAlong store below (path ++ offset ∷ [])
spot_within store spot path offset widths below is step dense below_is =
    let going = going_of store spot path offset widths.before (spot.part * widths.before + spot.slot) widths.size step in
    let wide : widths.after ≡ widths.before * widths.size = is.past_is ∙ ap (λ k. width_past k (widths.before * widths.size)) dense in
    let next : spot.node + 1 ≡ suc spot.node = omega arith in
    subst (λ b. LeadsAlong store b (path ++ offset ∷ [])) (sym below_is)
    (spot_below store spot path offset going.0 going.1 _ (widths.before * widths.size) (record { node = spot.node + 1; part = spot.part; slot = spot.slot * widths.size + offset })
    going.2 (dense_leads store spot path offset widths is step dense) (sym wide ∙ is.after_is) next
    (same_copy spot.part spot.slot widths.before widths.size offset)
    (within_copy spot.slot widths.before widths.size offset (slot_within store spot path widths step.leads is) step.below))
