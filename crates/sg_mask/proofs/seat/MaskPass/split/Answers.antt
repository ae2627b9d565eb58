use Rattle.std.proofs.Common.{rules, arith}
use Rattle.sg_mask.proofs.Moves.{split-allowed}
use Rattle.sg_mask.proofs.seat.MaskPass.split.Goals as goal

pub split_seat-other-requires : goal.split_seat-other-requires
split_seat-other-requires c =
    let sized = c.args.self.now.sized in
    let some' = c.args.self.now.some_word in
    (search rules, omega arith, split-allowed _ _ _ c.requires.share)
