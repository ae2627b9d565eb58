use Rattle.sg_accum.proofs.Moves.{asks-xor}
use Rattle.sg_accum.proofs.part.Part.flip_bits.Goals as goal

pub fetch_xor-requires : goal.fetch_xor-requires
fetch_xor-requires c = asks-xor c.args.self.now c.args.seat.now c.args.cell c.args.word c.requires.own c.requires.inside c.requires.operator c.ranges.word.fits
