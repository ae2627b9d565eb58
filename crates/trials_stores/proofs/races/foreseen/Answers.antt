use Rattle.sg_coord.specs.Bounds.{bounds_of}
use Rattle.trials_stores.proofs.Pieces.{points_inside}
use Rattle.trials_stores.proofs.races.foreseen.Goals as goal

pub activated-answer-requires-clause-within : goal.activated-answer-requires-clause-within
activated-answer-requires-clause-within g c κs within = λ list means piece below. points_inside (bounds_of c.in-Some.want.extents) c.in-Some.want.coords list c.in-Some.want.inside means piece below
