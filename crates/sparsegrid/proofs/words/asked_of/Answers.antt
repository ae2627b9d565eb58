use Rattle.std.proofs.Common.{refl, sym, ◌∙◌}
use Rattle.std.specs.Option.{option_copied}
use Rattle.sparsegrid.proofs.Asking.{asked_first, rest_whole}
use Rattle.sparsegrid.proofs.words.asked_of.Goals as goal

pub returns-then-is_good_from-clause-asked : goal.returns-then-is_good_from-clause-asked
returns-then-is_good_from-clause-asked c =
    asked_first c.args.workers c.args.mode (option_copied c.args.from) c.args.positionals.now _ _ _ c.first_asked.result c.first_asked.ensures.asked refl (rest_whole c.args.positionals.now)
    c.in-len1-up.len_at_least (sym c.is_good_from.ensures ∙ c.if-is_good_from.true)
