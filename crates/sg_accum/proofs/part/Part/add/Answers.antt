use Rattle.sg_accum.proofs.Moves.{asks-add}
use Rattle.sg_accum.proofs.part.Part.add.Goals as goal

pub fetch_add-requires : goal.fetch_add-requires
fetch_add-requires c = asks-add c.args.self.now c.args.seat.now c.args.cell c.args.word c.requires.own c.requires.inside c.requires.operator
