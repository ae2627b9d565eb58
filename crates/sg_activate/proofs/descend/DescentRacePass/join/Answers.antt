use Rattle.sg_activate.specs.Descents.{worker_of}
use Rattle.sg_activate.proofs.Descended.{reached_left, reached_right, made_join}
use Rattle.sg_activate.proofs.descend.DescentRacePass.join.Goals as goal

pub returns-clause-stays : goal.returns-clause-stays
returns-clause-stays c = λ at met. reached_left c.args.self.now.pass.start (worker_of c.args.seat.now) (worker_of c.args.other) (worker_of c.join.new.seat) c.join.ensures.worker at met

pub returns-clause-others : goal.returns-clause-others
returns-clause-others c = λ at met. reached_right c.args.self.now.pass.start (worker_of c.args.seat.now) (worker_of c.args.other) (worker_of c.join.new.seat) c.join.ensures.worker at met

pub returns-clause-made : goal.returns-clause-made
returns-clause-made c = λ wanted mine theirs. made_join c.args.self.now.pass.start wanted (worker_of c.args.seat.now) (worker_of c.args.other) (worker_of c.join.new.seat) c.join.ensures.worker mine theirs
