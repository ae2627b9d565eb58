use Rattle.std.proofs.Common.{◌/◌}
use Rattle.sg_activate.specs.Descents.{worker_of}
use Rattle.sg_activate.proofs.Descended.{made_none, made_split}
use Rattle.sg_activate.proofs.descend.DescentRacePass.split.Goals as goal

pub returns-clause-made : goal.returns-clause-made
returns-clause-made c = λ wanted made. made_split c.args.self.now.pass.start wanted (worker_of c.args.seat.now) (worker_of c.split.new.seat) c.split.ensures.worker made

pub returns-clause-none : goal.returns-clause-none
returns-clause-none c = λ wanted. made_none c.args.self.now.pass.start wanted (worker_of c.split.result) _ ((worker_of c.args.seat.now).share / 2) c.split.ensures.new_worker
