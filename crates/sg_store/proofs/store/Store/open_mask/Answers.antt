use Rattle.std.proofs.Common.{refl}
use Rattle.sg_store.specs.StoreWords.{StoreWords}
use Rattle.sg_store.specs.Changes.{IsRemasked, ChangesNode}
use Rattle.sg_store.proofs.Masked as lemmas
use Rattle.sg_store.proofs.store.Store.open_mask.Goals as goal

pub mark_node-requires-clause-there : goal.mark_node-requires-clause-there
mark_node-requires-clause-there c =
    let store : StoreWords = c.args.self.now in
    let is : lemmas.IsMasking store c.args.index c.args.wanted.now c.args.slots.now = record {
      well = c.layout.ensures.well_formed;
      is_slot = c.paths_tell.ensures.is_slot store.shape;
      masked = c.requires.masked;
      numbered = c.requires.numbers;
    } in
    lemmas.within_words store c.args.index c.args.wanted.now c.args.slots.now is

pub mark_node-requires-clause-within : goal.mark_node-requires-clause-within
mark_node-requires-clause-within c = λ kept has.
    let store : StoreWords = c.args.self.now in
    let is : lemmas.IsMasking store c.args.index c.args.wanted.now c.args.slots.now = record {
      well = c.layout.ensures.well_formed;
      is_slot = c.paths_tell.ensures.is_slot store.shape;
      masked = c.requires.masked;
      numbered = c.requires.numbers;
    } in
    lemmas.bits_fit store c.args.index c.args.wanted.now c.args.slots.now kept kept.masks is has refl

pub mark_node-requires-clause-can : goal.mark_node-requires-clause-can
mark_node-requires-clause-can c = λ masks kept has marked.
    let store : StoreWords = c.args.self.now in
    let is : lemmas.IsMasking store c.args.index c.args.wanted.now c.args.slots.now = record {
      well = c.layout.ensures.well_formed;
      is_slot = c.paths_tell.ensures.is_slot store.shape;
      masked = c.requires.masked;
      numbered = c.requires.numbers;
    } in
    lemmas.masks_can_settle store c.args.index c.args.wanted.now c.args.slots.now kept kept.masks masks is has refl marked

pub returns-clause-opened : goal.returns-clause-opened
returns-clause-opened c =
    let store : StoreWords = c.args.self.now in
    let is : lemmas.IsMasking store c.args.index c.args.wanted.now c.args.slots.now = record {
      well = c.layout.ensures.well_formed;
      is_slot = c.paths_tell.ensures.is_slot store.shape;
      masked = c.requires.masked;
      numbered = c.requires.numbers;
    } in
    let changed = c.mark_node.ensures in
    let same : ChangesNode (IsRemasked changed.after.masks) store c.mark_node.new.self c.args.index =
    record { kept = changed.kept; was = changed.was; after = changed.after; change = changed.change.same; now_is = changed.now_is } in
    lemmas.mask_opens store c.mark_node.new.self c.args.index c.args.wanted.now c.args.slots.now changed.kept changed.kept.masks changed.after.masks is changed.was refl changed.change.marked same

pub returns-clause-keeps : goal.returns-clause-keeps
returns-clause-keeps c =
    let store : StoreWords = c.args.self.now in
    let is : lemmas.IsMasking store c.args.index c.args.wanted.now c.args.slots.now = record {
      well = c.layout.ensures.well_formed;
      is_slot = c.paths_tell.ensures.is_slot store.shape;
      masked = c.requires.masked;
      numbered = c.requires.numbers;
    } in
    let changed = c.mark_node.ensures in
    let same : ChangesNode (IsRemasked changed.after.masks) store c.mark_node.new.self c.args.index =
    record { kept = changed.kept; was = changed.was; after = changed.after; change = changed.change.same; now_is = changed.now_is } in
    lemmas.mask_keeps store c.mark_node.new.self c.args.index c.args.wanted.now c.args.slots.now changed.kept changed.kept.masks changed.after.masks is changed.was refl changed.change.marked same
