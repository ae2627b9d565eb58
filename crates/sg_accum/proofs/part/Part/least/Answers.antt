use Rattle.sg_words.specs.declared.operators.Ty.TheVariants as ty
use Rattle.sg_accum.proofs.Words.{ranked-signed, ranked-plain}
use Rattle.sg_accum.proofs.Moves.{asks-least}
use Rattle.sg_accum.proofs.part.Part.least.Goals as goal

pub fetch_min-requires : goal.fetch_min-requires
fetch_min-requires c =
    asks-least c.args.self.now c.args.seat.now ty.I32 c.args.cell _ c.args.word c.requires.own c.requires.inside c.requires.operator c.ranges.word.fits c.rank-place.ensures.value (ranked-signed c.args.self.now.start.ty _ _ c.if-signed.ensures c.ranges.word.fits c.rank-place.ensures.value)

pub fetch_min-requires-else-signed : goal.fetch_min-requires-else-signed
fetch_min-requires-else-signed c =
    asks-least c.args.self.now c.args.seat.now ty.U32 c.args.cell _ c.args.word c.requires.own c.requires.inside c.requires.operator c.ranges.word.fits c.rank-place.ensures.value (ranked-plain c.args.self.now.start.ty _ _ c.if-signed.ensures c.rank-place.ensures.value)
