use Rattle.sg_exec.proofs.LinksKept.{links_itself}
use Rattle.sg_exec.proofs.run.load_each.Goals as goal

pub returns-in_err-rows-clause-links : goal.returns-in_err-rows-clause-links
returns-in_err-rows-clause-links g c = links_itself c.args.stores.now.list
