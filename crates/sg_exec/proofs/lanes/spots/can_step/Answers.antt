use Rattle.std.proofs.Common.{arith}
use Rattle.sg_exec.proofs.PlacesHeld.{test_there, test_past}
use Rattle.sg_exec.proofs.lanes.spots.can_step.Goals as goal

pub returns-then-index-nodes : goal.returns-then-index-nodes
returns-then-index-nodes c = test_past c.args.layout.now.nodes c.args.node c.args.offset c.if-node-eq0.false (omega (arith, c.nodes.ensures.value, c.if-index-nodes.true))

pub returns : goal.returns
returns c = test_there c.args.layout.now.nodes c.args.node c.args.offset c.size.result c.if-node-eq0.false (omega (arith, c.nodes.ensures.value, c.if-index-nodes.false)) c.size.ensures.value
