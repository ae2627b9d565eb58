use Rattle.std.proofs.Common.{ℕ, ◌≤◌, ◌/◌, ap, arith}
use Rattle.std.proofs.lemmas.Nat.{le-div}
use Rattle.sg_batch.proofs.readying.share_of.Goals as goal

pub returns-clause-start : goal.returns-clause-start
returns-clause-start c = ap (λ (pair : ℕ × ℕ). pair.0) c.slice_of-from.ensures.value

pub returns-clause-end : goal.returns-clause-end
returns-clause-end c = let to = ap (λ (pair : ℕ × ℕ). pair.1) c.slice_of-from.ensures.value in omega (arith, to, c.slice_of-from.ensures.in_order)

pub returns-clause-some : goal.returns-clause-some
returns-clause-some c =
    let one : 1 ≤ c.args.place.workers / c.args.place.members = le-div 1 c.args.place.workers c.args.place.members (omega arith) (omega arith) in
    omega (arith, one, c.slice_of-from.ensures.at_least, c.slice_of-from.ensures.in_order)

pub returns-clause-few : goal.returns-clause-few
returns-clause-few c = omega (arith, c.slice_of-from.ensures.within, c.slice_of-from.ensures.in_order)
