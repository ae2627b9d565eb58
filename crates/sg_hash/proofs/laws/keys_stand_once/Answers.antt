use Rattle.sg_hash.proofs.Uses as lemmas
use Rattle.sg_hash.proofs.laws.keys_stand_once.Goals as goal

pub returns-clause-once : goal.returns-clause-once
returns-clause-once c = lemmas.stands_once

pub returns-clause-empty : goal.returns-clause-empty
returns-clause-empty c = λ n. (lemmas.empty_table n, lemmas.empty_beside n)
