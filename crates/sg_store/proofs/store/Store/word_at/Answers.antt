use Rattle.std.proofs.Common.{◌∙◌, sym, subst}
use Rattle.sg_store.specs.StoreWords.{StoreWords}
use Rattle.sg_store.specs.steps.Widths.{IsWidths}
use Rattle.sg_store.proofs.AtNumber.{word_none, word_some}
use Rattle.sg_store.proofs.store.Store.word_at.Goals as goal

pub returns-in_err-slot : goal.returns-in_err-slot
returns-in_err-slot c =
    c.from_residual.ensures ∙ sym (word_none c.args.self.now c.args.index c.args.at (sym c.number_at.ensures ∙ c.in_err-slot.was))

pub returns : goal.returns
returns c =
    let is : IsWidths c.args.self.now.shape.nodes c.args.index c.widths.result = subst (λ (s : StoreWords). IsWidths s.shape.nodes c.args.index c.widths.result) c.self.view_is c.widths.ensures in
    sym (word_some c.args.self.now c.args.index c.args.at c.in_ok-slot.slot c.word_number.result c.widths.result c.requires.node is c.word_number.ensures
    (sym c.number_at.ensures ∙ c.in_ok-slot.was))
