use Rattle.std.proofs.Common.{rules, arith}
use Rattle.sg_activate.proofs.DescentPasses.{look-allowed}
use Rattle.sg_activate.proofs.descent.seat.DescentPass.look.Goals as goal

pub load-requires : goal.load-requires
load-requires c =
    let sized = c.args.self.now.sized in
    let inside = c.requires.inside in
    (search rules, omega arith, look-allowed c.args.self.now _ _ _ _ (search rules) c.requires.own.told c.requires.inside)
