use Rattle.std.proofs.Common.{rules, arith}
use Rattle.sg_accum.proofs.Moves.{split-allowed}
use Rattle.sg_accum.proofs.part.Part.split.Goals as goal

pub split_seat-other-requires : goal.split_seat-other-requires
split_seat-other-requires c =
    let sized = c.args.self.now.sized in
    let some' = c.args.self.now.some_cell in
    (search rules, omega arith, split-allowed _ _ _ c.requires.share)
