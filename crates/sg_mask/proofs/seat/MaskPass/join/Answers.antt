use Rattle.std.proofs.Common.{rules, arith}
use Rattle.sg_mask.proofs.Moves.{join-allowed}
use Rattle.sg_mask.proofs.seat.MaskPass.join.Goals as goal

pub join_seat-requires : goal.join_seat-requires
join_seat-requires c =
    let sized = c.args.self.now.sized in
    let some' = c.args.self.now.some_word in
    (search rules, search rules, search rules, omega arith, join-allowed _ _ _ _ _ (search rules) (search rules))
