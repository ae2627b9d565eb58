use Rattle.sg_exec.proofs.Unsought.{nothing_sought}
use Rattle.sg_exec.proofs.activation.first_pass.first_pass.Goals as goal

pub returns : goal.returns
returns g c = λ state sees named. nothing_sought c.args.stores.now.list state c.args.block.now c.args.points.now (c.block_seeks.ensures c.if-block_seeks.false)
