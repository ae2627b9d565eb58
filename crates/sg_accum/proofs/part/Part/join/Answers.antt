use Rattle.std.proofs.Common.{rules, arith}
use Rattle.sg_accum.proofs.Moves.{join-allowed}
use Rattle.sg_accum.proofs.part.Part.join.Goals as goal

pub join_seat-requires : goal.join_seat-requires
join_seat-requires c =
    let sized = c.args.self.now.sized in
    let some' = c.args.self.now.some_cell in
    (search rules, search rules, search rules, omega arith, join-allowed _ _ _ _ _ (search rules) (search rules))
