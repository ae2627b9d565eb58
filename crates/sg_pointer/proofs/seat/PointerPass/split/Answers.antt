use Rattle.std.proofs.Common.{rules, arith}
use Rattle.sg_pointer.proofs.Passes.{split-allowed}
use Rattle.sg_pointer.proofs.seat.PointerPass.split.Goals as goal

pub split_seat-other-requires : goal.split_seat-other-requires
split_seat-other-requires c =
    let sized = c.args.self.now.sized in
    (search rules, omega arith, split-allowed c.args.self.now _ _ c.requires.share)
