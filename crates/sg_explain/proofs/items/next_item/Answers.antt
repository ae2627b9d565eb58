use Rattle.std.proofs.Common.{◌∙◌, ◌∷◌, ap, sym, take}
use Rattle.std.proofs.lemmas.List.{take_rest}
use Rattle.sg_ast.specs.Items.{items_of}
use Rattle.sg_explain.proofs.LengthLemmas.{cut_some}
use Rattle.sg_explain.proofs.items.next_item.Goals as goal

pub returns-clause-cut : goal.returns-clause-cut
returns-clause-cut c =
    cut_some c.args.tokens.now c.item_len-len.result c.requires c.item_len-len.ensures.length
    ∙ ap (λ rest. take c.item_len-len.result c.args.tokens.now ∷ items_of rest) (sym (take_rest c.args.tokens.now c.item_len-len.result))
