-- Nodes that are trimmed are nodes again.
use Rattle.std.proofs.Common.{◌≡◌, ◌≢◌, ℕ, ◌+◌, ◌-◌, ◌*◌, ◌/◌, ◌%◌, ◌<◌, ◌≤◌, Bool, true, List, [], ◌∷◌, Some, refl, ap, ◌∙◌, subst, arith}
use Rattle.std.specs.List.{All}
use Rattle.std.proofs.lemmas.List.Elements.{All-head, All-tail}
use Rattle.std.proofs.lemmas.Nat.{div-add-mod', mod_below, div-mul-add}
use Rattle.sg_layout.specs.declared.shape.Kind.{Kind}
use Rattle.sg_layout.specs.declared.shape.Kind.TheVariants.{Dense, Bitmasked, Pointer, Hash, Dynamic}
use Rattle.sg_layout.specs.declared.shape.NodeShape.{NodeShape}
use Rattle.sg_layout.specs.Axes.{size_of}
use Rattle.sg_store.specs.declared.node.NodeWords.{NodeWords}
use Rattle.sg_store.specs.Slots.{slot_under, place_below, active_below}
use Rattle.sg_store.specs.WellFormed.{AreNodes, places_below, live_below, live_slot}
use Rattle.sg_store.specs.steps.Trimming.{is_kept, leads_kept, place_kept, kept_above, stays_set, AreTrimmed}
use Rattle.sg_store.proofs.Walking.{AreOne, active_leads}
use Rattle.sg_store.proofs.KeptPlaces.{range_from_any, any_in_range, any_offset, AreReachedFrom, LedFrom, kept_is_from, reached_below}

-- ── A slot that stays stands under a place that is kept ──

pub place_of_slot : (keeps : ℕ → Bool) (node : NodeShape) (kept : NodeWords) (slot : ℕ) → 1 ≤ size_of node.sizes → leads_kept keeps node kept slot ≡ true → place_kept keeps node kept (slot / size_of node.sizes) ≡ true
place_of_slot keeps node kept slot some on =
    let size : ℕ = size_of node.sizes in
    any_offset (λ o. leads_kept keeps node kept (slot_under node (slot / size) o)) size (slot % size) (mod_below slot size (omega (arith, some)))
    (ap (leads_kept keeps node kept) (div-add-mod' slot size) ∙ on)

-- a slot not so far under its parent is under the same parent
same_parent : (slot size more : ℕ) → more < size - slot % size → (slot + more) / size ≡ slot / size
same_parent slot size more below =
    let low : slot % size + more < size = omega (arith, below) in
    let at : slot + more ≡ slot / size * size + (slot % size + more) = omega (arith, div-add-mod' slot size) in
    ap (λ n. n / size) at ∙ div-mul-add (slot / size) size (slot % size + more) low

place_of_later : (keeps : ℕ → Bool) (node : NodeShape) (kept : NodeWords) (slot : ℕ) → 1 ≤ size_of node.sizes → stays_set Dynamic keeps node kept slot ≡ true → place_kept keeps node kept (slot / size_of node.sizes) ≡ true
place_of_later keeps node kept slot some on =
    let size : ℕ = size_of node.sizes in
    let found = range_from_any (leads_kept keeps node kept) slot (size - slot % size) on in
    subst (λ p. place_kept keeps node kept p ≡ true) (same_parent slot size found.0 found.1) (place_of_slot keeps node kept (slot + found.0) some found.2)

pub stays_in_kept : (kind : Kind) (keeps : ℕ → Bool) (node : NodeShape) (kept : NodeWords) (slot : ℕ) → 1 ≤ size_of node.sizes → kind ≢ Dense → stays_set kind keeps node kept slot ≡ true → place_kept keeps node kept (slot / size_of node.sizes) ≡ true
stays_in_kept Dense keeps node kept slot some other on = absurd (other refl)
stays_in_kept Bitmasked keeps node kept slot some other on = place_of_slot keeps node kept slot some on
stays_in_kept Pointer keeps node kept slot some other on = place_of_slot keeps node kept slot some on
stays_in_kept Hash keeps node kept slot some other on = place_of_slot keeps node kept slot some on
stays_in_kept Dynamic keeps node kept slot some other on = place_of_later keeps node kept slot some on

-- a slot that leads to a kept place stays
pub leads_stays : (kind : Kind) (keeps : ℕ → Bool) (node : NodeShape) (kept : NodeWords) (slot : ℕ) → 1 ≤ size_of node.sizes → leads_kept keeps node kept slot ≡ true → stays_set kind keeps node kept slot ≡ true
leads_stays Dense keeps node kept slot some on = refl
leads_stays Bitmasked keeps node kept slot some on = on
leads_stays Pointer keeps node kept slot some on = on
leads_stays Hash keeps node kept slot some on = on
leads_stays Dynamic keeps node kept slot some on =
    let size : ℕ = size_of node.sizes in
    let low : slot % size < size = mod_below slot size (omega (arith, some)) in
    let same : slot + 0 ≡ slot = omega arith in
    any_in_range (leads_kept keeps node kept) slot (size - slot % size) 0 (omega (arith, low)) (ap (leads_kept keeps node kept) same ∙ on)

-- ── All nodes ──

-- each place that is kept above the first node is live now
abbrev pub KeptLive : List NodeShape → List NodeWords → (ℕ → Bool) → (ℕ → Bool) → Type 0
KeptLive [] words cells now = Unit {0}
KeptLive (node ∷ later) words cells now = (place : ℕ) → kept_above (node ∷ later) words cells place ≡ true → now place ≡ true

-- those above the second, where the first leads to them
live_further : (node : NodeShape) (later : List NodeShape) (kept after : NodeWords) (words : List NodeWords) (cells now : ℕ → Bool) → 1 ≤ size_of node.sizes → (node.kind ≡ Dynamic → later ≡ []) → ((place : ℕ) → kept_above later words cells place ≡ true → LedFrom node kept place) → ((place : ℕ) → kept_above (node ∷ later) (kept ∷ words) cells place ≡ true → now place ≡ true)
    → (node.kind ≢ Dynamic → (next : ℕ → Bool) (slot place : ℕ) → stays_set node.kind (kept_above later words cells) node kept slot ≡ true → next slot ≡ true → place_below node.kind node kept slot ≡ Some place → live_below node.kind after next place ≡ true)
    → KeptLive later words cells (live_below node.kind after (live_slot node now))
live_further node [] kept after words cells now some last led first below = tt
live_further node (under ∷ later) kept after words cells now some last led first below = λ place on.
    let other : node.kind ≢ Dynamic = λ dynamic. cc (last dynamic) in
    let from = led place on in
    let leads : leads_kept (kept_above (under ∷ later) words cells) node kept from.0 ≡ true = ap (is_kept (kept_above (under ∷ later) words cells)) from.1 ∙ on in
    let place_live : now (from.0 / size_of node.sizes) ≡ true = first (from.0 / size_of node.sizes) (place_of_slot (kept_above (under ∷ later) words cells) node kept from.0 some leads) in
    below other (live_slot node now) from.0 place (leads_stays node.kind (kept_above (under ∷ later) words cells) node kept from.0 some leads) place_live (active_leads node.kind node kept from.0 place from.1).1

pub nodes_again : (nodes : List NodeShape) (words afters : List NodeWords) (places : ℕ) (live now cells : ℕ → Bool) (from : ℕ → Type 0) → All (λ (node : NodeShape). 1 ≤ size_of node.sizes) nodes → AreNodes nodes words places live → AreOne active_below nodes words → AreReachedFrom nodes words cells from → AreTrimmed nodes words afters cells → KeptLive nodes words cells now → AreNodes nodes afters places now
nodes_again [] [] [] places live now cells from sized are one reached trimmed kept_live = tt
nodes_again [] [] (after ∷ afters) places live now cells from sized are one reached trimmed kept_live = absurd trimmed
nodes_again [] (kept ∷ words) afters places live now cells from sized are one reached trimmed kept_live = absurd trimmed
nodes_again (node ∷ later) [] afters places live now cells from sized are one reached trimmed kept_live = absurd trimmed
nodes_again (node ∷ later) (kept ∷ words) [] places live now cells from sized are one reached trimmed kept_live = absurd trimmed
nodes_again (node ∷ later) (kept ∷ words) (after ∷ afters) places live now cells from sized are one reached trimmed kept_live =
    let some : 1 ≤ size_of node.sizes = All-head (λ (n : NodeShape). 1 ≤ size_of n.sizes) node later sized in
    let below = reached_below node later kept words cells from reached in (
      are.0,
      trimmed.0.is_node (places * size_of node.sizes) (live_slot node live) (live_slot node now) are.1
          (λ other slot set stays. kept_live (slot / size_of node.sizes) (stays_in_kept node.kind (kept_above later words cells) node kept slot some other stays)),
      nodes_again later words afters (places_below node.kind node (places * size_of node.sizes)) (live_below node.kind kept (live_slot node live)) (live_below node.kind after (live_slot node now)) cells (LedFrom node kept)
          (All-tail (λ (n : NodeShape). 1 ≤ size_of n.sizes) node later sized) are.2 one.1 below trimmed.1
          (live_further node later kept after words cells now some are.3 (λ place on. kept_is_from later words cells (LedFrom node kept) one.1 below place on) kept_live trimmed.0.below),
      are.3,
    )
