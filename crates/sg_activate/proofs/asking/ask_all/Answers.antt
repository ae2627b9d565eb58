use Rattle.sg_activate.proofs.Asked.{met_all}
use Rattle.sg_activate.proofs.asking.ask_all.Goals as goal

pub returns-clause-met : goal.returns-clause-met
returns-clause-met g c = met_all (g.P.Pass.IsMet c.args.pass.now) c.args.work.now.axes c.args.work.now.workers c.args.work.now.found.now c.race_all.result.seat c.race_all.result.done c.args.work.now.of_workers c.race_all.ensures.done
