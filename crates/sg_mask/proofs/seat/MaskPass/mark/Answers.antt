use Rattle.std.proofs.Common.{rules, ◌<◌, ◌/◌, length, refl, ap, arith}
use Rattle.sg_mask.proofs.Moves.{mark-allowed}
use Rattle.sg_mask.proofs.seat.MaskPass.mark.Goals as goal

pub fetch_or-requires : goal.fetch_or-requires
fetch_or-requires c =
    let sized = c.args.self.now.sized in
    let inside = c.requires.inside in
    let below : c.args.bit / 64 < length c.args.self.now.masks = omega arith in
    (search rules, omega arith, mark-allowed c.args.self.now.masks _ _ _ _ c.args.bit _ _ c.args.self.now.told (search rules) below refl c.power_of-power.ensures)

pub returns-clause-worker : goal.returns-clause-worker
returns-clause-worker c = ap (λ m. m.0) (c.fetch_or.ensures.2 c.args.bit refl c.power_of-power.ensures)
