use Rattle.sg_batch.proofs.Alone.{text_some, walk_touches, none_touches}
use Rattle.sg_batch.proofs.touching.touches.Goals as goal

pub returns-then-text_touches-clause-some : goal.returns-then-text_touches-clause-some
returns-then-text_touches-clause-some c = λ is. text_some c.args.kernel.now c.args.layout (c.text_touches.ensures.some c.if-text_touches.true)

pub returns-else-text_touches-clause-some : goal.returns-else-text_touches-clause-some
returns-else-text_touches-clause-some c = λ is. walk_touches c.args.kernel.now c.args.layout (c.walks.ensures.some is)

pub returns-else-text_touches-clause-none : goal.returns-else-text_touches-clause-none
returns-else-text_touches-clause-none c = λ is. none_touches c.args.kernel.now c.args.layout (c.text_touches.ensures.none c.if-text_touches.false) (c.walks.ensures.none is)
