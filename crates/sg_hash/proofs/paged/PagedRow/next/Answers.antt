use Rattle.std.proofs.Common.{inl, inr, arith}
use Rattle.std.proofs.lemmas.Bool.{cases_lt}
use Rattle.sg_hash.proofs.paged.PagedRow.next.Goals as goal

pub returns-then-get-ne0-clause-few : goal.returns-then-get-ne0-clause-few
returns-then-get-ne0-clause-few c = omega (arith, c.end-end.ensures.few)

pub past-place-requires-clause-there : goal.past-place-requires-clause-there
past-place-requires-clause-there c = omega (arith, c.loop-place-test.true, c.end-end.ensures.within)

pub past-place-requires-clause-small : goal.past-place-requires-clause-small
past-place-requires-clause-small c = omega (arith, c.loop-place-test.true, c.end-end.ensures.within, c.end-end.ensures.few)

pub loop-place-smaller : goal.loop-place-smaller
loop-place-smaller c = omega (arith, c.loop-place-test.true, c.end-end.ensures.within, c.past-place.ensures.further)

pub returns-clause-next : goal.returns-clause-next
returns-clause-next c = λ place low. elim (cases_lt place c.loop-place.place) [
  | inl before ↦ c.loop-place.invariant.1 place low before
  | inr past ↦ c.end-end.ensures.zeros place (omega (arith, past, c.loop-place-test.false))
]

pub returns-clause-few : goal.returns-clause-few
returns-clause-few c = omega (arith, c.end-end.ensures.few)
