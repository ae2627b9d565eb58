use Rattle.std.proofs.Common.{sym, ◌∙◌}
use Rattle.sparsegrid.proofs.Cuts.{bound_there}
use Rattle.sparsegrid.proofs.words.has_binding.Goals as goal

pub returns-then-is : goal.returns-then-is
returns-then-is c =
    bound_there c.args.binds.now c.args.name.now.text c.loop-bind.bind-index c.bind-item.result c.loop-bind-test.true c.bind-item.is (sym c.is.ensures ∙ c.if-is.true)
