use Rattle.sg_links.proofs.Uses as lemmas
use Rattle.sg_links.proofs.laws.lists_are_disjoint.Goals as goal

pub returns-clause-one_place : goal.returns-clause-one_place
returns-clause-one_place c = lemmas.stands_at_one_place

pub returns-clause-fit : goal.returns-clause-fit
returns-clause-fit c = lemmas.fit_numbers
