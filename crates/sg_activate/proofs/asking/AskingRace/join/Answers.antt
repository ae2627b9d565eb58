use Rattle.sg_activate.proofs.asking.AskingRace.join.Goals as goal

pub returns-clause-stays : goal.returns-clause-stays
returns-clause-stays g c = λ worker met finds is of_worker at has. c.join.ensures.stays at (met finds is of_worker at has)

pub returns-clause-others : goal.returns-clause-others
returns-clause-others g c = λ worker met finds is of_worker at has. c.join.ensures.others at (met finds is of_worker at has)
