use Rattle.std.proofs.Common.{ap, ◌∙◌, refl, length}
use Rattle.sg_activate.proofs.DescentNodeSteps.{some_nodes}
use Rattle.sg_activate.proofs.DescentHeads.{begins}
use Rattle.sg_activate.proofs.descent.start.begun.Goals as goal

pub returns-clause-plan : goal.returns-clause-plan
returns-clause-plan c =
    begins c.args.store.now c.layout.ensures.well_formed (some_nodes c.args.store.now.shape c.layout.ensures.well_formed.accepted.declared) _ (c.in_ok-copy.ensures ∙ c.layout.ensures.layout) c.in_ok-keys.ensures
    c.new.ensures c.new-2.ensures c.new-3.ensures c.new-4.ensures c.new-5.ensures c.new-6.result c.args.total 1 c.new-6.ensures c.requires.total refl

pub returns-clause-empty : goal.returns-clause-empty
returns-clause-empty c = ap length c.new-6.ensures
