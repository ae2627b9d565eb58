use Rattle.std.proofs.Common.{◌≡◌, sym, subst}
use Rattle.std.specs.Prelude.{Some, slice_get}
use Rattle.sg_store.specs.StoreWords.{StoreWords}
use Rattle.sg_store.specs.steps.AtNode.{AtNodeOf}
use Rattle.sg_store.specs.steps.Settling.{CanSettleMasks, ChangesAt}
use Rattle.sg_store.specs.Changes.{IsRemasked}
use Rattle.sg_store.proofs.Masked.{masked_well_formed}
use Rattle.sg_store.proofs.store.Store.mark_node.Goals as goal

pub mark_bits_at-requires-clause-can : goal.mark_bits_at-requires-clause-can
mark_bits_at-requires-clause-can c = λ kept has.
    c.requires.within kept (subst (λ (s : StoreWords). slice_get s.nodes c.args.index ≡ Some kept) c.self.view_is has)

pub invariant_of-self : goal.invariant_of-self
invariant_of-self c =
    let store : StoreWords = record { shape = c.self.inside.layout; nodes = c.self.inside.nodes.items; fields = c.self.inside.fields.items } in
    let changed = c.mark_bits_at.ensures in
    let was : slice_get c.args.self.now.nodes c.args.index ≡ Some changed.kept = subst (λ (s : StoreWords). slice_get s.nodes c.args.index ≡ Some changed.kept) c.self.view_is changed.was in
    let same : ChangesAt (IsRemasked changed.after.masks) c.self.inside.nodes.items c.mark_bits_at.new.nodes.items c.args.index = record {
      kept = changed.kept;
      was = changed.was;
      after = changed.after;
      change = changed.change.same;
      now_is = changed.now_is;
    } in
    masked_well_formed store c.args.index changed.after.masks c.mark_bits_at.new.nodes.items c.self.invariant
    (subst (λ s. AtNodeOf (CanSettleMasks changed.after.masks) s c.args.index) (sym c.self.view_is) (c.requires.can changed.after.masks changed.kept was changed.change.marked)) same
