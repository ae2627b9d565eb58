use Rattle.sg_batch.proofs.Alone.{walk_some, walk_none, range_none}
use Rattle.sg_batch.proofs.touching.walks.Goals as goal

pub returns-in-Walk-clause-some : goal.returns-in-Walk-clause-some
returns-in-Walk-clause-some c = λ is. walk_some c.args.domain _ c.args.layout c.in-Walk.is is

pub returns-in-Walk-clause-none : goal.returns-in-Walk-clause-none
returns-in-Walk-clause-none c = λ is. walk_none c.args.domain _ c.args.layout c.in-Walk.is is

pub returns-in-Range-clause-none : goal.returns-in-Range-clause-none
returns-in-Range-clause-none c = λ is. range_none c.args.domain _ _ c.args.layout c.in-Range.is
