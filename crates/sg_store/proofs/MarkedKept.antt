-- What is kept is below the high water marks, where the cells that are kept are.
use Rattle.std.specs.Prelude.{slice_get}
use Rattle.std.proofs.Common.{◌≡◌, ℕ, zero, suc, take, drop, refl, ◌*◌, ◌/◌, ◌<◌, ◌≤◌, Bool, true, List, [], ◌∷◌, Some, ap, ◌∙◌, subst, arith}
use Rattle.std.specs.List.{All}
use Rattle.std.proofs.lemmas.Bool.{false≢true, ltb-true}
use Rattle.std.proofs.lemmas.List.Elements.{All-head, All-tail}
use Rattle.std.proofs.lemmas.Nat.{div_below, div-mul-add, mul-le}
use Rattle.std.proofs.lemmas.Option.{same_Some, none-some}
use Rattle.std.proofs.Math.Nat.{div-lt_iff_lt-mul}
use Rattle.sg_layout.specs.declared.shape.Kind.{Kind}
use Rattle.sg_layout.specs.declared.shape.Kind.TheVariants.{Dense, Bitmasked, Pointer, Hash, Dynamic}
use Rattle.sg_layout.specs.declared.shape.NodeShape.{NodeShape}
use Rattle.sg_layout.specs.Axes.{size_of}
use Rattle.sg_pool.specs.Numbers.{IsParted}
use Rattle.sg_store.specs.declared.node.NodeWords.{NodeWords}
use Rattle.sg_store.specs.Slots.{slot_under, active_below}
use Rattle.sg_store.specs.WellFormed.{IsNode, AreNodes, is_root, live_below, live_slot, cells_below}
use Rattle.sg_store.specs.steps.Trimming.{leads_kept, kept_above}
use Rattle.sg_store.specs.steps.KeptWords.{LeadsWithin}
use Rattle.sg_store.specs.steps.Marks.{marked_below, marked_from}
use Rattle.sg_store.proofs.Walking.{active_leads, set_is_live}
use Rattle.sg_store.proofs.KeptPlaces.{offset_from_any, kept_some}
use Rattle.sg_store.proofs.Marked.{live_is_marked, marked_within}
use Rattle.sg_store.proofs.TrimmedWalks.{AreSized}

-- the slots that may be live are below a bound
abbrev pub AreBelow : (ℕ → Bool) → ℕ → Type 0
AreBelow live used = (place : ℕ) → live place ≡ true → place < used

-- a slot that leads to a place below the marks may be live itself
slot_marked : (kind : Kind) (node : NodeShape) (kept : NodeWords) (slots : ℕ) (live : ℕ → Bool) → IsNode kind node kept slots live → (used : ℕ) → AreBelow live used → (q n : ℕ) → active_below kind node kept q ≡ Some n → n < marked_below kind node kept used → q < used
slot_marked Dense node kept slots live is used below q n leads low = let same : q ≡ n = same_Some q n (active_leads Dense node kept q n leads).1 in omega arith
slot_marked Bitmasked node kept slots live is used below q n leads low = let same : q ≡ n = same_Some q n (active_leads Bitmasked node kept q n leads).1 in omega arith
slot_marked Pointer node kept slots live is used below q n leads low = below q (set_is_live Pointer node kept slots live is (λ e. cc) q (active_leads Pointer node kept q n leads).0)
slot_marked Hash node kept slots live is used below q n leads low = below q (set_is_live Hash node kept slots live is (λ e. cc) q (active_leads Hash node kept q n leads).0)
slot_marked Dynamic node kept slots live is used below q n leads low = below q (set_is_live Dynamic node kept slots live is (λ e. cc) q (active_leads Dynamic node kept q n leads).0)

-- and what is live below the node is below its marks
below_marked : (kind : Kind) (node : NodeShape) (kept : NodeWords) (live : ℕ → Bool) (used : ℕ) → IsParted kept.pool → AreBelow live used → AreBelow (live_below kind kept live) (marked_below kind node kept used)
below_marked Dense node kept live used parted below n on = below n on
below_marked Bitmasked node kept live used parted below n on = below n on
below_marked Pointer node kept live used parted below n on = live_is_marked kept.pool n parted on
below_marked Hash node kept live used parted below n on = live_is_marked kept.pool n parted on
below_marked Dynamic node kept live used parted below n on = absurd (false≢true on)

slots_marked : (node : NodeShape) (live : ℕ → Bool) (used : ℕ) → 1 ≤ size_of node.sizes → AreBelow live used → AreBelow (live_slot node live) (used * size_of node.sizes)
slots_marked node live used some below q on = (div-lt_iff_lt-mul some).0 (below (q / size_of node.sizes) on)

-- a place that is kept is below the bound of those that may be live
pub kept_marked : (nodes : List NodeShape) (words : List NodeWords) (places used : ℕ) (live cells : ℕ → Bool) → AreSized nodes → AreNodes nodes words places live → All (λ kept. IsParted kept.pool) words → AreBelow live used → ((cell : ℕ) → cells cell ≡ true → cell < marked_from nodes words used) → (place : ℕ) → kept_above nodes words cells place ≡ true → place < used
kept_marked [] words places used live cells sized are parted below within place on = within place on
kept_marked (node ∷ later) [] places used live cells sized are parted below within place on = absurd (false≢true on)
kept_marked (node ∷ later) (kept ∷ words) places used live cells sized are parted below within place on =
    let size : ℕ = size_of node.sizes in
    let some : 1 ≤ size = All-head (λ (m : NodeShape). 1 ≤ size_of m.sizes) node later sized in
    let here = slots_marked node live used some below in
    let found = offset_from_any (λ o. leads_kept (kept_above later words cells) node kept (slot_under node place o)) size on in
    let next = kept_some (kept_above later words cells) (active_below node.kind node kept (slot_under node place found.0)) found.2 in
    let low = kept_marked later words _ (marked_below node.kind node kept (used * size)) (live_below node.kind kept (live_slot node live)) cells (All-tail (λ (m : NodeShape). 1 ≤ size_of m.sizes) node later sized) are.2
    (All-tail (λ (k : NodeWords). IsParted k.pool) kept words parted)
    (below_marked node.kind node kept (live_slot node live) (used * size) (All-head (λ (k : NodeWords). IsParted k.pool) kept words parted) here) within next.0 next.2 in
    let slot : slot_under node place found.0 < used * size = slot_marked node.kind node kept _ (live_slot node live) are.1 (used * size) here (slot_under node place found.0) next.0 next.1 low in
    subst (λ p. p < used) (div-mul-add place size found.0 found.1) (div_below (slot_under node place found.0) size used (omega (arith, some)) slot)

-- and so are the slots that lead to what is kept
pub leads_marked_within : (node : NodeShape) (later : List NodeShape) (kept : NodeWords) (words : List NodeWords) (places used : ℕ) (live cells : ℕ → Bool) → AreSized (node ∷ later) → AreNodes (node ∷ later) (kept ∷ words) places live → All (λ k. IsParted k.pool) (kept ∷ words) → AreBelow live used → ((cell : ℕ) → cells cell ≡ true → cell < marked_from (node ∷ later) (kept ∷ words) used) → LeadsWithin (kept_above later words cells) node kept (used * size_of node.sizes)
leads_marked_within node later kept words places used live cells sized are parted below within slot on =
    let size : ℕ = size_of node.sizes in
    let some : 1 ≤ size = All-head (λ (m : NodeShape). 1 ≤ size_of m.sizes) node later sized in
    let here = slots_marked node live used some below in
    let next = kept_some (kept_above later words cells) (active_below node.kind node kept slot) on in
    let low = kept_marked later words _ (marked_below node.kind node kept (used * size)) (live_below node.kind kept (live_slot node live)) cells (All-tail (λ (m : NodeShape). 1 ≤ size_of m.sizes) node later sized) are.2
    (All-tail (λ (k : NodeWords). IsParted k.pool) kept words parted)
    (below_marked node.kind node kept (live_slot node live) (used * size) (All-head (λ (k : NodeWords). IsParted k.pool) kept words parted) here) within next.0 next.2 in
    slot_marked node.kind node kept _ (live_slot node live) are.1 (used * size) here slot next.0 next.1 low

-- ── The nodes from an index on ──

marked_none : (nodes : List NodeShape) (places : ℕ) → marked_from nodes [] places ≡ places
marked_none [] places = refl
marked_none (node ∷ later) places = refl

pub marked_cut : (nodes : List NodeShape) (words : List NodeWords) (places i : ℕ) → marked_from (drop i nodes) (drop i words) (marked_from (take i nodes) (take i words) places) ≡ marked_from nodes words places
marked_cut nodes words places zero = refl
marked_cut [] words places (suc i) = refl
marked_cut (node ∷ later) [] places (suc i) = marked_none (drop i later) places
marked_cut (node ∷ later) (kept ∷ words) places (suc i) = marked_cut later words (marked_below node.kind node kept (places * size_of node.sizes)) i

-- one node more
pub marked_on : (nodes : List NodeShape) (words : List NodeWords) (places i : ℕ) (node : NodeShape) (kept : NodeWords) → slice_get nodes i ≡ Some node → slice_get words i ≡ Some kept → marked_from (take (suc i) nodes) (take (suc i) words) places ≡ marked_below node.kind node kept (marked_from (take i nodes) (take i words) places * size_of node.sizes)
marked_on [] words places i node kept at has = absurd (none-some node at)
marked_on (first ∷ later) [] places i node kept at has = absurd (none-some kept has)
marked_on (first ∷ later) (own ∷ words) places zero node kept at has =
    ap (λ (n : NodeShape). marked_below n.kind n own (places * size_of n.sizes)) (same_Some first node at)
    ∙ ap (λ (k : NodeWords). marked_below node.kind node k (places * size_of node.sizes)) (same_Some own kept has)
marked_on (first ∷ later) (own ∷ words) places (suc i) node kept at has = marked_on later words (marked_below first.kind first own (places * size_of first.sizes)) i node kept at has

-- above a node no more places may be live than there are
pub marked_above_few : (nodes : List NodeShape) (words : List NodeWords) (places used : ℕ) (live : ℕ → Bool) (i : ℕ) → AreNodes nodes words places live → All (λ kept. IsParted kept.pool) words → used ≤ places → marked_from (take i nodes) (take i words) used ≤ cells_below (take i nodes) places
marked_above_few nodes words places used live zero are parted few = few
marked_above_few [] words places used live (suc i) are parted few = few
marked_above_few (node ∷ later) [] places used live (suc i) are parted few = absurd are
marked_above_few (node ∷ later) (kept ∷ words) places used live (suc i) are parted few =
    marked_above_few later words _ (marked_below node.kind node kept (used * size_of node.sizes)) _ i are.2 (All-tail (λ (k : NodeWords). IsParted k.pool) kept words parted)
    (marked_within node.kind node kept _ _ are.1 (All-head (λ (k : NodeWords). IsParted k.pool) kept words parted) (used * size_of node.sizes)
    (mul-le used (size_of node.sizes) places (size_of node.sizes) few (omega arith)))

-- the nodes from an index on, and that the places above them that are live are below the marks
pub record AreBound (nodes : List NodeShape) (words : List NodeWords) (places used i : ℕ) : Type 0 where
  pub live : ℕ → Bool
  pub are : AreNodes (drop i nodes) (drop i words) (cells_below (take i nodes) places) live
  pub below : AreBelow live (marked_from (take i nodes) (take i words) used)

pub bound_from : (nodes : List NodeShape) (words : List NodeWords) (places used : ℕ) (live : ℕ → Bool) (i : ℕ) → AreSized nodes → AreNodes nodes words places live → All (λ kept. IsParted kept.pool) words → AreBelow live used → AreBound nodes words places used i
bound_from nodes words places used live zero sized are parted below = record { live = live; are = are; below = below }
bound_from [] [] places used live (suc i) sized are parted below = record { live = live; are = are; below = below }
bound_from [] (kept ∷ words) places used live (suc i) sized are parted below = absurd are
bound_from (node ∷ later) [] places used live (suc i) sized are parted below = absurd are
bound_from (node ∷ later) (kept ∷ words) places used live (suc i) sized are parted below =
    let some : 1 ≤ size_of node.sizes = All-head (λ (m : NodeShape). 1 ≤ size_of m.sizes) node later sized in
    let rest = bound_from later words _ (marked_below node.kind node kept (used * size_of node.sizes)) (live_below node.kind kept (live_slot node live)) i
    (All-tail (λ (m : NodeShape). 1 ≤ size_of m.sizes) node later sized) are.2 (All-tail (λ (k : NodeWords). IsParted k.pool) kept words parted)
    (below_marked node.kind node kept (live_slot node live) (used * size_of node.sizes) (All-head (λ (k : NodeWords). IsParted k.pool) kept words parted) (slots_marked node live used some below)) in
    record { live = rest.live; are = rest.are; below = rest.below }

-- the root is one place
pub root_below : AreBelow is_root 1
root_below place on = ltb-true place 1 on
