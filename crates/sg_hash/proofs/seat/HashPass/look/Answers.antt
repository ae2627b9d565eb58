use Rattle.std.proofs.Common.{rules, arith}
use Rattle.sg_hash.proofs.Passes.{look-allowed}
use Rattle.sg_hash.proofs.seat.HashPass.look.Goals as goal

pub load-requires : goal.load-requires
load-requires c =
    let sized = c.args.self.now.sized in
    (search rules, omega arith, look-allowed c.args.self.now _ _ _ _ (search rules) c.requires.inside)
