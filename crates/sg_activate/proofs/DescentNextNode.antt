-- The next node of a plan.
use Rattle.std.proofs.Common.{◌≡◌, ℕ, suc, ◌+◌, ◌-◌, ◌*◌, ◌/◌, ◌≤◌, Bool, false, length, sym, ap, ◌∙◌, subst, arith}
use Rattle.std.specs.Prelude.{◌^◌, slice_index, slice_get, IsTrue}
use native.Mathlib.Nat.{div-div-eq-div-mul, mul_comm, mul-le-mul_right}
use Rattle.sg_layout.specs.declared.shape.Kind.{Kind}
use Rattle.sg_layout.specs.Axes.{size_of, sizes_of}
use Rattle.sg_layout.specs.Live.{kind_or, kind_at}
use Rattle.sg_store.specs.StoreWords.{StoreWords}
use Rattle.sg_store.specs.WellFormed.{live_slot}
use Rattle.sg_activate.specs.declared.descent.plan.Plan.{Plan}
use Rattle.sg_activate.specs.Descending.{open_before, number_among}
use Rattle.sg_activate.specs.steps.DescentWalk.{places_at}
use Rattle.sg_activate.specs.steps.DescentPlans.{pointers_of, IsLinkedIn, IsPlanOf}
use Rattle.sg_activate.proofs.DescentBridge.{size_at}
use Rattle.sg_activate.proofs.DescentNodeSteps.{AtNode, number-none}

module _ (store : StoreWords) (old : Plan) (plan : IsPlanOf store old) (size : ℕ)
    (at : AtNode store.shape.nodes store.nodes (places_at old.start old.start.head_places old.levels (length old.levels)) plan.next.live (open_before store.shape + length old.levels))
    (is-size : size ≡ slice_index (sizes_of store.shape.nodes) (open_before store.shape + length old.levels)) where
  abbrev index : ℕ
  index = open_before store.shape + length old.levels

  abbrev above : ℕ
  above = places_at old.start old.start.head_places old.levels (length old.levels)

  index-back : suc index - 1 ≡ index
  index-back = omega arith

  pub node-size : size ≡ size_of at.node.sizes
  node-size = is-size ∙ size_at store.shape.nodes index at.node at.has_node

  pub node-kind : at.node.kind ≡ kind_at store.shape.nodes (suc index)
  node-kind = sym (ap (λ i. kind_or (slice_get store.shape.nodes i)) index-back ∙ ap kind_or at.has_node)

  pub size-there : size ≡ slice_index (sizes_of store.shape.nodes) (suc index - 1)
  size-there = is-size ∙ ap (slice_index (sizes_of store.shape.nodes)) (sym index-back)

  -- a slot in a live container has a link to it
  pub slot-linked : (slot : ℕ) → IsTrue (live_slot at.node plan.next.live slot) → IsLinkedIn (pointers_of store.shape) old.start old.over (slot / (old.width * size))
  slot-linked slot live =
      let same : slot / size_of at.node.sizes / old.width ≡ slot / (old.width * size) =
      div-div-eq-div-mul slot (size_of at.node.sizes) old.width ∙ ap (λ n. slot / n) (mul_comm (size_of at.node.sizes) old.width ∙ ap (λ n. old.width * n) (sym node-size)) in
      subst (λ n. IsLinkedIn (pointers_of store.shape) old.start old.over n) same (plan.next.linked (slot / size_of at.node.sizes) live)

  pub small-now : above * size ≤ 2 ^ 47
  small-now = subst (λ n. above * n ≤ 2 ^ 47) (sym node-size) at.small

  pub wide-now : old.width * size ≤ above * size
  wide-now = mul-le-mul_right size plan.wide

  pub same-count : (is_kind : Kind → Bool) → is_kind at.node.kind ≡ false → number_among is_kind store.shape.nodes (suc index) ≡ number_among is_kind store.shape.nodes (suc (suc index))
  same-count is_kind other =
      sym (number-none is_kind store.shape.nodes index at.node at.has_node other)
