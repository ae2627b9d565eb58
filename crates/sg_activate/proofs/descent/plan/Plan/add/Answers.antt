use Rattle.std.proofs.Common.{◌+◌, length, refl, sym, ap, ◌∙◌, subst, ◌<◌, arith}
use Rattle.std.specs.Prelude.{slice_index}
use Rattle.sg_layout.specs.declared.shape.Shape.{Shape}
use Rattle.sg_layout.specs.Axes.{sizes_of}
use Rattle.sg_activate.specs.steps.DescentPlans.{IsPlanOf, AddsSlots, AddsMasks, AddsDense}
use Rattle.sg_activate.proofs.DescentAdds.{kind_read, before_last, on_ok, room, few-masks, slots_next, masks_next, dense_next, not_hash, not_dynamic}
use Rattle.sg_activate.proofs.descent.plan.Plan.add.Goals as goal

pub size-size-requires : goal.size-size-requires
size-size-requires c = subst (λ (s : Shape). c.args.index < length s.nodes) (sym c.layout-layout.ensures.layout) (before_last c.args.store.now.shape.nodes c.args.index c.requires.fused)

pub add_slots-requires : goal.add_slots-requires
add_slots-requires c = record {
  first = omega arith;
  pointer = (kind_read c.args.store.now.shape.nodes c.as_slice.result.now c.args.index (c.args.index + 1) _ (c.as_slice.ensures ∙ ap (λ (s : Shape). s.nodes) (c.shape.ensures.value ∙ c.layout-layout.ensures.layout)) refl (before_last c.args.store.now.shape.nodes c.args.index c.requires.fused) ∙ c.in-Pointer.is);
  there = (let b = before_last c.args.store.now.shape.nodes c.args.index c.requires.fused in omega arith);
  room = room c.args.store.now c.layout-layout.ensures.well_formed c.args.self.now c.requires.plan c.args.index (c.args.index + 1) c.size-size.result c.requires.next c.requires.fused refl (c.size-size.ensures.value ∙ ap (λ (s : Shape). slice_index (sizes_of s.nodes) c.args.index) c.layout-layout.ensures.layout);
}

pub add_masks-requires : goal.add_masks-requires
add_masks-requires c = record {
  first = omega arith;
  masked = (kind_read c.args.store.now.shape.nodes c.as_slice.result.now c.args.index (c.args.index + 1) _ (c.as_slice.ensures ∙ ap (λ (s : Shape). s.nodes) (c.shape.ensures.value ∙ c.layout-layout.ensures.layout)) refl (before_last c.args.store.now.shape.nodes c.args.index c.requires.fused) ∙ c.in-Bitmasked.is);
  room = room c.args.store.now c.layout-layout.ensures.well_formed c.args.self.now c.requires.plan c.args.index (c.args.index + 1) c.size-size.result c.requires.next c.requires.fused refl (c.size-size.ensures.value ∙ ap (λ (s : Shape). slice_index (sizes_of s.nodes) c.args.index) c.layout-layout.ensures.layout);
  few = few-masks c.args.store.now c.layout-layout.ensures.well_formed c.args.self.now c.requires.plan c.args.index (c.args.index + 1) c.size-size.result c.requires.next c.requires.fused refl (c.size-size.ensures.value ∙ ap (λ (s : Shape). slice_index (sizes_of s.nodes) c.args.index) c.layout-layout.ensures.layout);
}

pub add_dense-requires : goal.add_dense-requires
add_dense-requires c = record { room = room c.args.store.now c.layout-layout.ensures.well_formed c.args.self.now c.requires.plan c.args.index (c.args.index + 1) c.size-size.result c.requires.next c.requires.fused refl (c.size-size.ensures.value ∙ ap (λ (s : Shape). slice_index (sizes_of s.nodes) c.args.index) c.layout-layout.ensures.layout) }

pub unreachable-requires : goal.unreachable-requires
unreachable-requires c = not_hash c.args.store.now c.layout-layout.ensures.well_formed c.args.self.now c.requires.plan c.args.index (c.args.index + 1) c.size-size.result c.requires.next c.requires.fused refl (c.size-size.ensures.value ∙ ap (λ (s : Shape). slice_index (sizes_of s.nodes) c.args.index) c.layout-layout.ensures.layout) (c.opening_by_nodes.ensures.hash_first c.args.store.now) (kind_read c.args.store.now.shape.nodes c.as_slice.result.now c.args.index (c.args.index + 1) _ (c.as_slice.ensures ∙ ap (λ (s : Shape). s.nodes) (c.shape.ensures.value ∙ c.layout-layout.ensures.layout)) refl (before_last c.args.store.now.shape.nodes c.args.index c.requires.fused) ∙ c.in-Hash.is)

pub unreachable-requires-in-Dynamic : goal.unreachable-requires-in-Dynamic
unreachable-requires-in-Dynamic c = not_dynamic c.args.store.now c.layout-layout.ensures.well_formed c.args.self.now c.requires.plan c.args.index (c.args.index + 1) c.size-size.result c.requires.next c.requires.fused refl (c.size-size.ensures.value ∙ ap (λ (s : Shape). slice_index (sizes_of s.nodes) c.args.index) c.layout-layout.ensures.layout) (c.opening_by_nodes.ensures.dynamic_last c.args.store.now) (kind_read c.args.store.now.shape.nodes c.as_slice.result.now c.args.index (c.args.index + 1) _ (c.as_slice.ensures ∙ ap (λ (s : Shape). s.nodes) (c.shape.ensures.value ∙ c.layout-layout.ensures.layout)) refl (before_last c.args.store.now.shape.nodes c.args.index c.requires.fused) ∙ c.in-Dynamic.is)

pub returns-in-Dense-clause-plan : goal.returns-in-Dense-clause-plan
returns-in-Dense-clause-plan c =
    on_ok c.add_dense.result (AddsDense c.size-size.result c.args.self.now c.add_dense.new.self) (IsPlanOf c.args.store.now c.add_dense.new.self)
    (dense_next c.args.store.now c.layout-layout.ensures.well_formed c.args.self.now c.requires.plan c.args.index (c.args.index + 1) c.size-size.result c.requires.next c.requires.fused refl (c.size-size.ensures.value ∙ ap (λ (s : Shape). slice_index (sizes_of s.nodes) c.args.index) c.layout-layout.ensures.layout) c.add_dense.new.self (kind_read c.args.store.now.shape.nodes c.as_slice.result.now c.args.index (c.args.index + 1) _ (c.as_slice.ensures ∙ ap (λ (s : Shape). s.nodes) (c.shape.ensures.value ∙ c.layout-layout.ensures.layout)) refl (before_last c.args.store.now.shape.nodes c.args.index c.requires.fused) ∙ c.in-Dense.is)) c.add_dense.ensures

pub returns-in-Bitmasked-clause-plan : goal.returns-in-Bitmasked-clause-plan
returns-in-Bitmasked-clause-plan c =
    on_ok c.add_masks.result (AddsMasks c.args.store.now (c.args.index + 1) c.size-size.result c.args.self.now c.add_masks.new.self) (IsPlanOf c.args.store.now c.add_masks.new.self)
    (masks_next c.args.store.now c.layout-layout.ensures.well_formed c.args.self.now c.requires.plan c.args.index (c.args.index + 1) c.size-size.result c.requires.next c.requires.fused refl (c.size-size.ensures.value ∙ ap (λ (s : Shape). slice_index (sizes_of s.nodes) c.args.index) c.layout-layout.ensures.layout) c.add_masks.new.self (kind_read c.args.store.now.shape.nodes c.as_slice.result.now c.args.index (c.args.index + 1) _ (c.as_slice.ensures ∙ ap (λ (s : Shape). s.nodes) (c.shape.ensures.value ∙ c.layout-layout.ensures.layout)) refl (before_last c.args.store.now.shape.nodes c.args.index c.requires.fused) ∙ c.in-Bitmasked.is)) c.add_masks.ensures

pub returns-in-Pointer-clause-plan : goal.returns-in-Pointer-clause-plan
returns-in-Pointer-clause-plan c =
    on_ok c.add_slots.result (AddsSlots c.args.store.now (c.args.index + 1) c.size-size.result c.args.self.now c.add_slots.new.self) (IsPlanOf c.args.store.now c.add_slots.new.self)
    (slots_next c.args.store.now c.layout-layout.ensures.well_formed c.args.self.now c.requires.plan c.args.index (c.args.index + 1) c.size-size.result c.requires.next c.requires.fused refl (c.size-size.ensures.value ∙ ap (λ (s : Shape). slice_index (sizes_of s.nodes) c.args.index) c.layout-layout.ensures.layout) c.add_slots.new.self (kind_read c.args.store.now.shape.nodes c.as_slice.result.now c.args.index (c.args.index + 1) _ (c.as_slice.ensures ∙ ap (λ (s : Shape). s.nodes) (c.shape.ensures.value ∙ c.layout-layout.ensures.layout)) refl (before_last c.args.store.now.shape.nodes c.args.index c.requires.fused) ∙ c.in-Pointer.is)) c.add_slots.ensures
