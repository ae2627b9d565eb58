-- A plan with a dense node more.
use Rattle.std.proofs.Common.{◌≡◌, ℕ, suc, ◌+◌, ◌*◌, ◌/◌, ◌<◌, ◌≤◌, true, false, [], length, drop, sym, ap, ◌∙◌, subst, arith}
use Rattle.std.specs.Prelude.{slice_index}
use Rattle.std.proofs.lemmas.List.{append-nil}
use Rattle.sg_layout.specs.declared.shape.Kind.TheVariants.{Dense, Bitmasked, Pointer, Hash, Dynamic}
use Rattle.sg_layout.specs.Axes.{size_of, sizes_of}
use Rattle.sg_store.specs.StoreWords.{StoreWords}
use Rattle.sg_store.specs.WellFormed.{AreNodes, places_below, live_below, live_slot}
use Rattle.sg_activate.specs.declared.descent.rule.Start.{Start}
use Rattle.sg_activate.specs.declared.descent.level.Level.{Level}
use Rattle.sg_activate.specs.declared.descent.plan.Plan.{Plan}
use Rattle.sg_activate.specs.Descending.{is_pointer, is_mask, open_before}
use Rattle.sg_activate.specs.steps.DescentWalk.{places_at}
use Rattle.sg_activate.specs.steps.DescentPlans.{pointers_of, IsLinkedIn, IsOver, ArePartsOf, IsRow, StandsNext, IsPlanOf, AddsDense}
use Rattle.sg_activate.proofs.DescentExtends.{Extends, over-stays, linked-stays}
use Rattle.sg_activate.proofs.DescentNodeSteps.{AtNode}
use Rattle.sg_activate.proofs.DescentPlans.{plan-more}
use Rattle.sg_activate.proofs.DescentNextNode.{node-size, node-kind, size-there, slot-linked, small-now, wide-now, same-count}

module _ (store : StoreWords) (old new : Plan) (plan : IsPlanOf store old) (size : ℕ)
    (at : AtNode store.shape.nodes store.nodes (places_at old.start old.start.head_places old.levels (length old.levels)) plan.next.live (open_before store.shape + length old.levels))
    (dense : at.node.kind ≡ Dense) (there : open_before store.shape + length old.levels < length store.shape.nodes)
    (is-size : size ≡ slice_index (sizes_of store.shape.nodes) (open_before store.shape + length old.levels)) (adds : AddsDense size old new) where
  abbrev index : ℕ
  index = open_before store.shape + length old.levels

  abbrev above : ℕ
  above = places_at old.start old.start.head_places old.levels (length old.levels)

  abbrev level : Level
  level = record { kind = Dense; size = size; part = 0; first = 0 }

  more : Extends old.start new.start
  more = record {
    shape = ap (λ (s : Start). s.layout) adds.start;
    keys = ap (λ (s : Start). s.keys) adds.start;
    heads = ap (λ (s : Start). s.heads) adds.start;
    head_places = ap (λ (s : Start). s.head_places) adds.start;
    more_links = [];
    links = ap (λ (s : Start). s.links) adds.start ∙ sym (append-nil old.start.links);
    more_masks = [];
    masks = ap (λ (s : Start). s.masks) adds.start ∙ sym (append-nil old.start.masks);
    more_stock = [];
    stock = ap (λ (s : Start). s.stock) adds.start ∙ sym (append-nil old.start.stock);
    more_slot_parts = [];
    slot_parts = ap (λ (s : Start). s.slot_parts) adds.start ∙ sym (append-nil old.start.slot_parts);
    more_mask_parts = [];
    mask_parts = ap (λ (s : Start). s.mask_parts) adds.start ∙ sym (append-nil old.start.mask_parts);
  }

  new-row : IsRow store (suc index) new.start level old.over old.width above
  new-row = record {
    there = omega arith;
    kind = sym dense ∙ node-kind store old plan size at is-size;
    size = size-there store old plan size at is-size;
    not_hash = λ (e : Dense ≡ Hash). (cc);
    not_dynamic = λ (e : Dense ≡ Dynamic). (cc);
    small = small-now store old plan size at is-size;
    slots = λ (e : Dense ≡ Pointer). absurd (cc);
    masks = λ (e : Dense ≡ Bitmasked). absurd (cc);
    some = λ (e : false ≡ true). absurd (cc);
  }

  next : StandsNext store (suc index) (pointers_of store.shape) new.start new.over new.width (above * size)
  next = record {
    live = live_below Dense at.kept (live_slot at.node plan.next.live);
    nodes = subst (λ n. AreNodes (drop (suc index) store.shape.nodes) (drop (suc index) store.nodes) (above * n) (live_below Dense at.kept (live_slot at.node plan.next.live))) (sym (node-size store old plan size at is-size))
        (subst (λ k. AreNodes (drop (suc index) store.shape.nodes) (drop (suc index) store.nodes) (places_below k at.node (above * size_of at.node.sizes)) (live_below k at.kept (live_slot at.node plan.next.live))) dense at.below);
    linked = λ slot live.
        subst (λ w. IsLinkedIn (pointers_of store.shape) new.start new.over (slot / w)) (sym adds.width) (subst (λ o. IsLinkedIn (pointers_of store.shape) new.start o (slot / (old.width * size))) (sym adds.over)
        (linked-stays (pointers_of store.shape) old.start new.start plan.parts more old.over (slot / (old.width * size)) plan.stands (slot-linked store old plan size at is-size slot live)));
  }

  pub dense_added : IsPlanOf store new
  dense_added = plan-more store old.start new.start old.levels new.levels level old.over old.width new.over new.width plan more adds.levels
      (subst (λ s. ArePartsOf (pointers_of store.shape) s) (sym adds.start) plan.parts)
      (ap (λ (s : Start). length s.slot_parts) adds.start ∙ plan.slot_count ∙ same-count store old plan size at is-size is_pointer (ap is_pointer dense))
      (ap (λ (s : Start). length s.mask_parts) adds.start ∙ plan.mask_count ∙ same-count store old plan size at is-size is_mask (ap is_mask dense))
      new-row adds.over adds.width
      (subst (λ o. IsOver (pointers_of store.shape) new.start o) (sym adds.over) (over-stays (pointers_of store.shape) old.start new.start plan.parts more old.over plan.stands))
      (subst (λ w. w ≤ above * size) (sym adds.width) (wide-now store old plan size at is-size))
      next
