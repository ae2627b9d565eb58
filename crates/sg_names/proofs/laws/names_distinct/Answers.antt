use Rattle.sg_names.proofs.LawLemmasDistinct as laws
use Rattle.sg_names.proofs.LawLemmasLookup as look_ups
use Rattle.sg_names.proofs.laws.names_distinct.Goals as goal

pub returns-clause-distinct : goal.returns-clause-distinct
returns-clause-distinct c = laws.names_are_distinct

pub returns-clause-once : goal.returns-clause-once
returns-clause-once c = look_ups.names_stand_once
