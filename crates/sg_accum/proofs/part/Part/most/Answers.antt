use Rattle.sg_words.specs.declared.operators.Ty.TheVariants as ty
use Rattle.sg_accum.proofs.Words.{ranked-signed, ranked-plain}
use Rattle.sg_accum.proofs.Moves.{asks-most}
use Rattle.sg_accum.proofs.part.Part.most.Goals as goal

pub fetch_max-requires : goal.fetch_max-requires
fetch_max-requires c =
    asks-most c.args.self.now c.args.seat.now ty.I32 c.args.cell _ c.args.word c.requires.own c.requires.inside c.requires.operator c.ranges.word.fits c.rank-place.ensures.value (ranked-signed c.args.self.now.start.ty _ _ c.if-signed.ensures c.ranges.word.fits c.rank-place.ensures.value)

pub fetch_max-requires-else-signed : goal.fetch_max-requires-else-signed
fetch_max-requires-else-signed c =
    asks-most c.args.self.now c.args.seat.now ty.U32 c.args.cell _ c.args.word c.requires.own c.requires.inside c.requires.operator c.ranges.word.fits c.rank-place.ensures.value (ranked-plain c.args.self.now.start.ty _ _ c.if-signed.ensures c.rank-place.ensures.value)
