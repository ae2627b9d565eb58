use Rattle.std.proofs.Common.{Bool, false, Option, sym, ap, ◌∙◌}
use Rattle.std.specs.Option.{option_copied, unwrap_or}
use Rattle.std.proofs.lemmas.Option.{unwrap_or-slice_get}
use Rattle.sg_words.proofs.spreads.is_marked.Goals as goal

pub returns-in-None : goal.returns-in-None
returns-in-None c =
    ap (λ (dirty : Option Bool). unwrap_or dirty false) (sym (ap option_copied c.in-None.is) ∙ c.get.ensures.value) ∙ unwrap_or-slice_get c.args.marks.now c.args.place false
