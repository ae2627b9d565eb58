use Rattle.sg_accum.proofs.Moves.{asks-and}
use Rattle.sg_accum.proofs.part.Part.keep_bits.Goals as goal

pub fetch_and-requires : goal.fetch_and-requires
fetch_and-requires c = asks-and c.args.self.now c.args.seat.now c.args.cell c.args.word c.requires.own c.requires.inside c.requires.operator
