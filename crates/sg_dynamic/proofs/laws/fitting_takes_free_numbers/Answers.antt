use Rattle.sg_dynamic.proofs.Uses as lemmas
use Rattle.sg_dynamic.proofs.laws.fitting_takes_free_numbers.Goals as goal

pub returns-clause-added : goal.returns-clause-added
returns-clause-added c = lemmas.added_were_free

pub returns-clause-kept : goal.returns-clause-kept
returns-clause-kept c = lemmas.stay_live
