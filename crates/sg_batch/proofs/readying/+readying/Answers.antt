use Rattle.std.proofs.Common.{◌+◌, ◌<◌, ℕ, List, length, sym, subst, arith}
use Rattle.sg_batch.specs.Batches.{RunnableAt}
use Rattle.sg_batch.specs.steps.Ready.{IsReadyFrom}
use Rattle.sg_batch.proofs.Members.{head_of, tail_of}
use Rattle.sg_batch.proofs.Readied.{ready_none}
use Rattle.sg_batch.proofs.readying.+readying.Goals as goal

pub ready_from-returns-in_default : goal.ready_from-returns-in_default
ready_from-returns-in_default g t c =
    ready_none c.args.layouts.now.list c.args.kernels.now c.args.stores.now.list c.args.place.at c.args.group.now _ c.in_default.ensures.cases c.nothing.ensures.items c.nothing.ensures.refused

pub ready_from-ready_beside-requires-clause-first : goal.ready_from-ready_beside-requires-clause-first
ready_from-ready_beside-requires-clause-first g t c κs within = head_of (λ (n : ℕ). n < length c.args.kernels.now) c.args.group.now c.in-Some.number.now c.in-Some.rest.now c.in-Some.ensures.cases.0 c.requires.there

pub ready_from-ready_beside-requires-clause-there : goal.ready_from-ready_beside-requires-clause-there
ready_from-ready_beside-requires-clause-there g t c κs within = tail_of (λ (n : ℕ). n < length c.args.kernels.now) c.args.group.now c.in-Some.number.now c.in-Some.rest.now c.in-Some.ensures.cases.0 c.requires.there

pub ready_from-ready_beside-requires-clause-can : goal.ready_from-ready_beside-requires-clause-can
ready_from-ready_beside-requires-clause-can g t c κs within = head_of (RunnableAt c.args.layouts.now.list c.args.kernels.now) c.args.group.now c.in-Some.number.now c.in-Some.rest.now c.in-Some.ensures.cases.0 c.requires.runnable

pub ready_from-ready_beside-requires-clause-runnable : goal.ready_from-ready_beside-requires-clause-runnable
ready_from-ready_beside-requires-clause-runnable g t c κs within = tail_of (RunnableAt c.args.layouts.now.list c.args.kernels.now) c.args.group.now c.in-Some.number.now c.in-Some.rest.now c.in-Some.ensures.cases.0 c.requires.runnable

pub ready_from-prepared_at-first-requires-clause-there : goal.ready_from-prepared_at-first-requires-clause-there
ready_from-prepared_at-first-requires-clause-there g t c κs within = head_of (λ (n : ℕ). n < length c.args.kernels.now) c.args.group.now c.in-Some.number.now c.in-Some.rest.now c.in-Some.ensures.cases.0 c.requires.there

pub ready_from-prepared_at-first-requires-clause-runnable : goal.ready_from-prepared_at-first-requires-clause-runnable
ready_from-prepared_at-first-requires-clause-runnable g t c κs within = head_of (RunnableAt c.args.layouts.now.list c.args.kernels.now) c.args.group.now c.in-Some.number.now c.in-Some.rest.now c.in-Some.ensures.cases.0 c.requires.runnable

pub ready_from-returns-then-rest-gt0 : goal.ready_from-returns-then-rest-gt0
ready_from-returns-then-rest-gt0 g t c =
    subst (λ (group : List ℕ). IsReadyFrom c.args.layouts.now.list c.args.kernels.now c.args.stores.now.list c.args.place.at group c.ready_beside.result) (sym c.in-Some.ensures.cases.0) c.ready_beside.ensures

pub ready_from-returns : goal.ready_from-returns
ready_from-returns g t c =
    subst (λ (group : List ℕ). IsReadyFrom c.args.layouts.now.list c.args.kernels.now c.args.stores.now.list c.args.place.at group c.with_first.result) (sym c.in-Some.ensures.cases.0)
    (c.with_first.ensures c.args.layouts.now.list c.args.kernels.now c.args.stores.now.list c.in-Some.number.now c.in-Some.rest.now (head_of (λ (n : ℕ). n < length c.args.kernels.now) c.args.group.now c.in-Some.number.now c.in-Some.rest.now c.in-Some.ensures.cases.0 c.requires.there)
    c.prepared_at-first.ensures
    (ready_none c.args.layouts.now.list c.args.kernels.now c.args.stores.now.list (c.args.place.at + 1) c.in-Some.rest.now _ (omega arith) c.nothing-2.ensures.items c.nothing-2.ensures.refused))

pub ready_beside-returns : goal.ready_beside-returns
ready_beside-returns g t c =
    c.with_first.ensures c.args.layouts.now.list c.args.kernels.now c.args.stores.now.list c.args.number c.args.rest.now c.requires.first c.join-first.ensures.first c.join-first.ensures.second
