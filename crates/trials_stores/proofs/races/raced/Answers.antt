use Rattle.sg_coord.specs.Bounds.{bounds_of}
use Rattle.trials_stores.proofs.Pieces.{points_inside}
use Rattle.trials_stores.proofs.races.raced.Goals as goal

pub activate-answer-requires-clause-within : goal.activate-answer-requires-clause-within
activate-answer-requires-clause-within g c κs within = λ list means piece below. points_inside (bounds_of c.in-Some.want.extents) c.in-Some.want.coords list c.in-Some.want.inside means piece below
