use Rattle.std.proofs.Common.{ℕ, drop, ap, ◌∙◌}
use Rattle.std.proofs.lemmas.List.{take_rest}
use Rattle.sg_journal.proofs.Lacks.{dropped_is}
use Rattle.sg_journal.proofs.between.past.Goals as goal

pub returns : goal.returns
returns c =
    take_rest c.args.links.now c.below.result ∙ ap (λ (n : ℕ). drop n c.args.links.now) c.below.ensures.value ∙ dropped_is c.args.number c.args.links.now
