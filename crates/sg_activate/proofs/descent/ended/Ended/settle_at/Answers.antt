use Rattle.std.proofs.Common.{suc, ◌+◌, length, sym, ap, ◌∙◌}
use Rattle.sg_layout.specs.declared.shape.Kind.TheVariants.{Bitmasked, Pointer}
use Rattle.sg_activate.specs.declared.descent.level.Level.{Level}
use Rattle.sg_activate.specs.steps.DescentEnds.{slots_of_node, masks_of_node}
use Rattle.sg_activate.proofs.DescentSettle.{kind_now, can_slots, fits_slots, goes_slots, can_bits, goes_bits, goes_dense}
use Rattle.sg_activate.proofs.descent.ended.Ended.settle_at.Goals as goal

pub bits-requires-clause-masked : goal.bits-requires-clause-masked
bits-requires-clause-masked c = sym (ap (λ (l : Level). l.kind) c.level-level.ensures) ∙ c.in-Bitmasked.is

pub bits-requires-clause-long : goal.bits-requires-clause-long
bits-requires-clause-long c = ap length c.as_slice.ensures ∙ c.args.self.now.wide

pub slots-requires-clause-pointer : goal.slots-requires-clause-pointer
slots-requires-clause-pointer c = sym (ap (λ (l : Level). l.kind) c.level-level.ensures) ∙ c.in-Pointer.is

pub slots-requires-clause-long : goal.slots-requires-clause-long
slots-requires-clause-long c = ap length c.as_slice-in-Pointer.ensures ∙ c.args.self.now.long

pub settle_masks-requires-clause-masked : goal.settle_masks-requires-clause-masked
settle_masks-requires-clause-masked c =
    let e = c.args.self.now in
    kind_now e.start e.base e.levels e.links e.masks c.args.store.now c.args.index c.requires.go c.requires.there c.number-node.result c.number-node.ensures Bitmasked
    (sym (ap (λ (l : Level). l.kind) c.level-level.ensures) ∙ c.in-Bitmasked.is)

pub settle_masks-requires-clause-can : goal.settle_masks-requires-clause-can
settle_masks-requires-clause-can c =
    let e = c.args.self.now in
    can_bits e.start e.base e.levels e.links e.masks c.args.store.now c.args.index c.requires.go c.requires.there c.number-node.result c.number-node.ensures c.bits.result.now
    (sym (ap (λ (l : Level). l.kind) c.level-level.ensures) ∙ c.in-Bitmasked.is) (c.bits.ensures ∙ ap (masks_of_node e.start (suc (e.base + c.args.index))) c.as_slice.ensures)

pub settle_slots-requires-clause-pointer : goal.settle_slots-requires-clause-pointer
settle_slots-requires-clause-pointer c =
    let e = c.args.self.now in
    kind_now e.start e.base e.levels e.links e.masks c.args.store.now c.args.index c.requires.go c.requires.there c.number-node.result c.number-node.ensures Pointer
    (sym (ap (λ (l : Level). l.kind) c.level-level.ensures) ∙ c.in-Pointer.is)

pub settle_slots-requires-clause-can : goal.settle_slots-requires-clause-can
settle_slots-requires-clause-can c =
    let e = c.args.self.now in
    can_slots e.start e.base e.levels e.links e.masks c.args.store.now c.args.index c.requires.go c.requires.there c.number-node.result c.number-node.ensures c.slots.result.now c.args.taken.now
    (sym (ap (λ (l : Level). l.kind) c.level-level.ensures) ∙ c.in-Pointer.is) (c.slots.ensures ∙ ap (slots_of_node e.start (suc (e.base + c.args.index))) c.as_slice-in-Pointer.ensures) c.requires.taken

pub settle_slots-requires-clause-fits : goal.settle_slots-requires-clause-fits
settle_slots-requires-clause-fits c =
    let e = c.args.self.now in
    fits_slots e.start e.base e.levels e.links e.masks c.args.store.now c.args.index c.requires.go c.requires.there c.number-node.result c.number-node.ensures c.args.taken.now
    (sym (ap (λ (l : Level). l.kind) c.level-level.ensures) ∙ c.in-Pointer.is) c.requires.taken

pub returns-in-Dense : goal.returns-in-Dense
returns-in-Dense c =
    let e = c.args.self.now in
    goes_dense e.start e.base e.levels e.links e.masks c.args.store.now c.args.index c.requires.go c.requires.there c.number-node.result c.number-node.ensures
    (sym (ap (λ (l : Level). l.kind) c.level-level.ensures) ∙ c.in-Dense.is)

pub returns-in-Bitmasked : goal.returns-in-Bitmasked
returns-in-Bitmasked c =
    let e = c.args.self.now in
    goes_bits e.start e.base e.levels e.links e.masks c.args.store.now c.args.index c.requires.go c.requires.there c.number-node.result c.number-node.ensures c.settle_masks.new.self c.bits.result.now
    (sym (ap (λ (l : Level). l.kind) c.level-level.ensures) ∙ c.in-Bitmasked.is) (c.bits.ensures ∙ ap (masks_of_node e.start (suc (e.base + c.args.index))) c.as_slice.ensures)
    c.settle_masks.ensures.settled c.settle_masks.ensures.well_formed c.settle_masks.ensures.keeps c.settle_masks.ensures.opened

pub returns-in-Pointer : goal.returns-in-Pointer
returns-in-Pointer c =
    let e = c.args.self.now in
    goes_slots e.start e.base e.levels e.links e.masks c.args.store.now c.args.index c.requires.go c.requires.there c.number-node.result c.number-node.ensures c.settle_slots.new.self c.slots.result.now c.args.taken.now
    (sym (ap (λ (l : Level). l.kind) c.level-level.ensures) ∙ c.in-Pointer.is) (c.slots.ensures ∙ ap (slots_of_node e.start (suc (e.base + c.args.index))) c.as_slice-in-Pointer.ensures) c.requires.taken
    c.settle_slots.ensures.settled c.settle_slots.ensures.well_formed c.settle_slots.ensures.keeps c.settle_slots.ensures.opened
