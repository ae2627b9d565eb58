use Rattle.std.proofs.Common.{◌<◌, ℕ, List, length, sym, subst, arith}
use Rattle.std.specs.Prelude.{All}
use Rattle.std.proofs.Math.Nat.{min-le_left}
use Rattle.sg_batch.specs.Independent.{IsLongestFront}
use Rattle.sparsegrid.proofs.GroupFront.{front_there, group_of_front, members_some}
use Rattle.sparsegrid.proofs.group.group_at.Goals as goal

pub count_of-count-requires-clause-there : goal.count_of-count-requires-clause-there
count_of-count-requires-clause-there c =
    subst (λ (order : List ℕ). All (λ number. number < length c.args.compiled.now.kernels) order) (sym c.as_slice.ensures.value)
    (front_there c.args.compiled.now c.args.tasks.now c.most_of-most.result c.in_ok-order.order.items c.requires.there c.in_ok-order.ensures)

pub count_of-count-requires-clause-one : goal.count_of-count-requires-clause-one
count_of-count-requires-clause-one c = let one = members_some c.args.workers c.requires.some in omega (arith, one, c.most_of-most.ensures)

pub count_of-count-requires-clause-few : goal.count_of-count-requires-clause-few
count_of-count-requires-clause-few c = let few = min-le_left 4 c.args.workers in omega (arith, few, c.most_of-most.ensures)

pub returns : goal.returns
returns c =
    group_of_front c.args.compiled.now c.args.tasks.now c.args.workers c.most_of-most.result c.count_of-count.result c.in_ok-order.order.items c.truncate.new.self.items c.most_of-most.ensures c.in_ok-order.ensures c.truncate.ensures.items
    (subst (λ (order : List ℕ). IsLongestFront c.args.compiled.now.kernels order c.most_of-most.result c.count_of-count.result) c.as_slice.ensures.value c.count_of-count.ensures)
