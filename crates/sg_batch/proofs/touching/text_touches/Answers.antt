use Rattle.sg_batch.proofs.Alone.{slice_touches, code_touches, text_none}
use Rattle.sg_batch.proofs.touching.text_touches.Goals as goal

pub returns-then-touches_in-clause-some : goal.returns-then-touches_in-clause-some
returns-then-touches_in-clause-some c = λ is. slice_touches c.args.kernel.now c.as_slice.result.now c.args.layout c.as_slice.ensures (c.touches_in.ensures.some c.if-touches_in.true)

pub returns-else-touches_in-clause-some : goal.returns-else-touches_in-clause-some
returns-else-touches_in-clause-some c = λ is.
    code_touches c.args.kernel.now c.as_slice-else-touches_in.result.now c.args.layout c.as_slice-else-touches_in.ensures (c.touches_in-else-touches_in.ensures.some is)

pub returns-else-touches_in-clause-none : goal.returns-else-touches_in-clause-none
returns-else-touches_in-clause-none c = λ is.
    text_none c.args.kernel.now c.as_slice.result.now c.as_slice-else-touches_in.result.now c.args.layout c.as_slice.ensures c.as_slice-else-touches_in.ensures
    (c.touches_in.ensures.none c.if-touches_in.false) (c.touches_in-else-touches_in.ensures.none is)
