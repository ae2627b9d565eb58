use Rattle.std.proofs.Common.{refl}
use Rattle.sparsegrid.specs.Words.{worker_numbers}
use Rattle.sparsegrid.proofs.Workers.{some_count, few_count}
use Rattle.sparsegrid.proofs.words.workers_of.Goals as goal

pub returns-in-Some-clause-some : goal.returns-in-Some-clause-some
returns-in-Some-clause-some c = some_count worker_numbers c.in-Some.value.now c.number_beside.result refl c.number_beside.ensures

pub returns-in-Some-clause-few : goal.returns-in-Some-clause-few
returns-in-Some-clause-few c = few_count worker_numbers c.in-Some.value.now c.number_beside.result refl c.number_beside.ensures
