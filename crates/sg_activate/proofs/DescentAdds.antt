-- The next node of a plan, whatever its kind.
use Rattle.std.proofs.Common.{◌≡◌, ℕ, suc, ◌+◌, ◌-◌, ◌*◌, ◌<◌, ◌≤◌, ◌⊎◌, inl, inr, Bool, true, false, cond, drop, List, length, sym, ap, ◌∙◌, subst, arith}
use Rattle.std.specs.Prelude.{◌^◌, slice_index, slice_index_or, slice_get, Result, Ok, Err, OnOk}
use Rattle.std.proofs.lemmas.List.{length-map, get_or-map}
use Rattle.sg_layout.specs.declared.shape.Kind.{Kind}
use Rattle.sg_layout.specs.declared.shape.Kind.TheVariants.{Dense, Bitmasked, Pointer, Hash, Dynamic}
use Rattle.sg_layout.specs.declared.shape.NodeShape.{NodeShape}
use Rattle.sg_layout.specs.Axes.{sizes_of}
use Rattle.sg_layout.specs.Live.{kind_or, kind_at}
use Rattle.sg_layout.proofs.Uses.{few_nodes}
use Rattle.sg_store.specs.StoreWords.{StoreWords}
use Rattle.sg_store.specs.WellFormed.{IsWellFormed}
use Rattle.sg_store.specs.OpeningLaws.{HashIsFirst, DynamicIsLast}
use Rattle.sg_activate.specs.declared.descent.rule.MaskPart.{MaskPart}
use Rattle.sg_activate.specs.declared.descent.plan.Plan.{Plan}
use Rattle.sg_activate.specs.DescentRace.{words_each, mask_part}
use Rattle.sg_activate.specs.Descending.{is_fused, is_pointer, is_mask, last_from, number_among, last_fused, nodes_before, open_before}
use Rattle.sg_activate.specs.steps.DescentWalk.{places_at}
use Rattle.sg_activate.specs.steps.DescentPlans.{IsPlanOf, AddsSlots, AddsMasks, AddsDense}
use Rattle.sg_activate.proofs.DescentNodeSteps.{AtNode, at_node, item_there, last-within, last-fused, last-step, number-one, number-none, number-few}
use Rattle.sg_activate.proofs.DescentNextNode.{node-kind, small-now, wide-now}
use Rattle.sg_activate.proofs.DescentSlotNode.{slots_added}
use Rattle.sg_activate.proofs.DescentMaskNode.{masks_added}
use Rattle.sg_activate.proofs.DescentDenseNode.{dense_added}
use Rattle.sg_activate.proofs.DescentPlanned.{places-few}

-- the kind of an item of the nodes
pub kind_item : (nodes : List NodeShape) (index number : ℕ) (d : NodeShape) → number ≡ index + 1 → index < length nodes → kind_at nodes number ≡ (slice_index_or nodes index d).kind
kind_item nodes index number d is below =
    let back : number - 1 ≡ index = omega arith in
    ap (λ i. kind_or (slice_get nodes i)) back ∙ ap kind_or (item_there nodes index d below)

module _ (store : StoreWords) (well : IsWellFormed store) (old : Plan) (plan : IsPlanOf store old) (index number size : ℕ) (is-index : index ≡ open_before store.shape + length old.levels)
    (fused : index < last_fused store.shape) (is-number : number ≡ index + 1) (is-size : size ≡ slice_index (sizes_of store.shape.nodes) index) where
  abbrev next : ℕ
  next = open_before store.shape + length old.levels

  pub there : index < length store.shape.nodes
  there = let w = last-within store.shape.nodes 1 0 (omega arith) in omega arith

  number-next : number ≡ suc next
  number-next = omega arith

  next-there : next < length store.shape.nodes
  next-there = let t = there in omega arith

  next-fused : next < last_fused store.shape
  next-fused = omega arith

  next-size : size ≡ slice_index (sizes_of store.shape.nodes) next
  next-size = is-size ∙ ap (slice_index (sizes_of store.shape.nodes)) is-index

  at : AtNode store.shape.nodes store.nodes (places_at old.start old.start.head_places old.levels (length old.levels)) plan.next.live next
  at = at_node store.shape.nodes store.nodes (places_at old.start old.start.head_places old.levels (length old.levels)) plan.next.live next plan.next.nodes next-there

  kind-next : (kind : Kind) → kind_at store.shape.nodes number ≡ kind → at.node.kind ≡ kind
  kind-next kind e = node-kind store old plan size at next-size ∙ ap (kind_at store.shape.nodes) (sym number-next) ∙ e

  -- how many places a container has above the next node is a word
  pub room : old.width * size < 2 ^ 64
  room = let a = wide-now store old plan size at next-size in let b = small-now store old plan size at next-size in omega arith

  pub few-masks : length old.start.masks < 2 ^ 56
  few-masks =
      let many : length (words_each old.start) ≡ length old.start.mask_parts = length-map old.start.mask_parts (λ (part : MaskPart). part.words) in
      let f = number-few is_mask store.shape.nodes next in
      let n = few_nodes store.shape well.accepted in
      let c = plan.mask_count in
      let a = places-few (words_each old.start) (2 ^ 47) (λ m below.
      (let item : slice_index (words_each old.start) m ≡ (mask_part old.start m).words = get_or-map (λ (part : MaskPart). part.words) old.start.mask_parts m _ 0 (omega arith) in
      let few = (plan.parts.mask_parts m (omega arith)).few in omega arith)) in
      let d = plan.parts.masks in omega arith

  pub slots_next : (new : Plan) → kind_at store.shape.nodes number ≡ Pointer → AddsSlots store number size old new → IsPlanOf store new
  slots_next new pointer adds = slots_added store old new plan size at (kind-next Pointer pointer) next-fused next-there next-size (subst (λ n. AddsSlots store n size old new) number-next adds)

  pub masks_next : (new : Plan) → kind_at store.shape.nodes number ≡ Bitmasked → AddsMasks store number size old new → IsPlanOf store new
  masks_next new masked adds = masks_added store old new plan size at (kind-next Bitmasked masked) next-there next-size (subst (λ n. AddsMasks store n size old new) number-next adds)

  pub dense_next : (new : Plan) → kind_at store.shape.nodes number ≡ Dense → AddsDense size old new → IsPlanOf store new
  dense_next new dense adds = dense_added store old new plan size at (kind-next Dense dense) next-there next-size adds

  -- it is neither a hash nor a dynamic node
  pub not_hash : HashIsFirst store → kind_at store.shape.nodes number ≡ Hash → ⊥
  not_hash first hash =
      let one' = first well number (omega arith) hash in
      let before : open_before store.shape ≡ 1 = ap nodes_before (ap (kind_at store.shape.nodes) (sym one') ∙ hash) in omega arith

  pub not_dynamic : DynamicIsLast store → kind_at store.shape.nodes number ≡ Dynamic → ⊥
  not_dynamic last dynamic =
      let end = last well number (omega arith) dynamic in
      let w = last-within store.shape.nodes 1 0 (omega arith) in
      let is-last : last_fused store.shape ≡ number = omega arith in
      let some' = last-fused store.shape.nodes (omega arith) in
      let h : false ≡ true = ap is_fused (sym dynamic) ∙ ap (λ n. is_fused (kind_at store.shape.nodes n)) (sym is-last) ∙ some' in cc

-- ---- nodes counted one by one
pub last_grows : (nodes : List NodeShape) (i last now : ℕ) (d : NodeShape) → i < length nodes → (last_from (suc i) (drop i nodes) last ≡ last_from 1 nodes 0) × (last ≤ i)
    → now ≡ cond (is_fused (slice_index_or nodes i d).kind) (suc i) last → (last_from (suc (i + 1)) (drop (i + 1) nodes) now ≡ last_from 1 nodes 0) × (now ≤ i + 1)
last_grows nodes i last now d below so-far is =
    let next : i + 1 ≡ suc i = omega arith in (
      ap (λ n. last_from (suc n) (drop n nodes) now) next ∙ ap (last_from (suc (suc i)) (drop (suc i) nodes)) is ∙ last-step nodes i (suc i) last d below ∙ so-far.0,
      subst (λ n. n ≤ i + 1) (sym is) (either-small (is_fused (slice_index_or nodes i d).kind) (let s = so-far.1 in omega arith)),
    )
  where
    either-small : (b : Bool) → last ≤ i → cond b (suc i) last ≤ i + 1
    either-small true small = omega arith
    either-small false small = omega arith

pub pointers_grow : (nodes : List NodeShape) (i many now : ℕ) (d : NodeShape) → i < length nodes → (many ≡ number_among is_pointer nodes (suc i)) × (many ≤ i)
    → ((is_pointer (slice_index_or nodes i d).kind ≡ true) × (now ≡ many + 1)) ⊎ ((is_pointer (slice_index_or nodes i d).kind ≡ false) × (now ≡ many))
    → (now ≡ number_among is_pointer nodes (suc (i + 1))) × (now ≤ i + 1)
pointers_grow nodes i many now d below so-far (inl (one', is)) =
    let next : suc i ≡ i + 1 = omega arith in
    let n = number-one is_pointer nodes i (slice_index_or nodes i d) (item_there nodes i d below) one' in
    let m = so-far.0 in let s = so-far.1 in
    ((let e : now ≡ number_among is_pointer nodes (suc (suc i)) = omega arith in e) ∙ ap (λ n. number_among is_pointer nodes (suc n)) next, omega arith)
pointers_grow nodes i many now d below so-far (inr (none, is)) =
    let next : suc i ≡ i + 1 = omega arith in
    let n = number-none is_pointer nodes i (slice_index_or nodes i d) (item_there nodes i d below) none in
    let m = so-far.0 in let s = so-far.1 in
    ((let e : now ≡ number_among is_pointer nodes (suc (suc i)) = omega arith in e) ∙ ap (λ n. number_among is_pointer nodes (suc n)) next, omega arith)

-- ---- for answers
pub kind_read : (nodes given : List NodeShape) (index number : ℕ) (d : NodeShape) → given ≡ nodes → number ≡ index + 1 → index < length nodes → kind_at nodes number ≡ (slice_index_or given index d).kind
kind_read nodes given index number d is is' below = kind_item nodes index number d is' below ∙ ap (λ (l : List NodeShape). (slice_index_or l index d).kind) (sym is)

pub before_last : (nodes : List NodeShape) (index : ℕ) → index < last_from 1 nodes 0 → index < length nodes
before_last nodes index below = let w = last-within nodes 1 0 (omega arith) in omega arith

pub on_ok : {A E : Type 0} (r : Result A E) (P Q : Type 0) → (P → Q) → OnOk r P → OnOk r Q
on_ok (Ok x) P Q so given = so given
on_ok (Err e) P Q so given = tt
