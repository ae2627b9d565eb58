use Rattle.sg_accum.proofs.Moves.{asks-or}
use Rattle.sg_accum.proofs.part.Part.set_bits.Goals as goal

pub fetch_or-requires : goal.fetch_or-requires
fetch_or-requires c = asks-or c.args.self.now c.args.seat.now c.args.cell c.args.word c.requires.own c.requires.inside c.requires.operator c.ranges.word.fits
