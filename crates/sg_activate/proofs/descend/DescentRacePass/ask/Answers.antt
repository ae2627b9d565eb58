use Rattle.sg_activate.specs.Descents.{worker_of}
use Rattle.sg_activate.proofs.Descended.{reached_here, reached_more, made_more}
use Rattle.sg_activate.proofs.descend.DescentRacePass.ask.Goals as goal

pub returns-clause-met : goal.returns-clause-met
returns-clause-met c = reached_here c.args.self.now.pass.start (worker_of c.reach_keyed.new.seat) c.args.at c.reach_keyed.result c.reach_keyed.ensures.answer

pub returns-clause-stays : goal.returns-clause-stays
returns-clause-stays c = λ other met. reached_more c.args.self.now.pass.start (worker_of c.args.seat.now) (worker_of c.reach_keyed.new.seat) c.reach_keyed.ensures.knows_more other met

pub returns-clause-made : goal.returns-clause-made
returns-clause-made c = λ wanted has made. made_more c.args.self.now.pass.start (worker_of c.args.seat.now) (worker_of c.reach_keyed.new.seat) c.args.at c.reach_keyed.ensures.knows_more c.reach_keyed.ensures.grew wanted has made
