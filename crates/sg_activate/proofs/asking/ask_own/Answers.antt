use Rattle.std.proofs.Common.{Contains, subst}
use Rattle.sg_activate.specs.steps.Finding.{coords_found}
use Rattle.sg_activate.proofs.asking.ask_own.Goals as goal

pub ask_each-requires-clause-inside : goal.ask_each-requires-clause-inside
ask_each-requires-clause-inside g c = λ at has. c.requires.inside at (subst (λ l. Contains (coords_found c.args.work.now.axes l) at) c.as_slice.ensures has)
