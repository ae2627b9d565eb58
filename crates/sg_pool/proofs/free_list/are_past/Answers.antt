use Rattle.std.proofs.Common.{◌≤◌, arith, get_or, subst, sym, inl, inr}
use Rattle.std.proofs.lemmas.Bool.{cases_eq}
use Rattle.sg_pool.proofs.free_list.are_past.Goals as goal

pub loop-place-preserved : goal.loop-place-preserved
loop-place-preserved c = λ place first below. elim (cases_eq place c.loop-place.place) [
  | inl same ↦ subst (λ n. c.args.mark ≤ get_or c.args.numbers.now n 0) (sym same) (omega arith)
  | inr other ↦ c.loop-place.invariant place first (omega (arith, below, other))
]

pub returns : goal.returns
returns c = λ yes place first below. c.loop-place.invariant place first (omega (arith, below, c.loop-place-test.false))
