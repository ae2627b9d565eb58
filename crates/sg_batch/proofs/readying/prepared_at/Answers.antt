use Rattle.std.proofs.Common.{length, refl}
use Rattle.std.proofs.lemmas.Option.{slice_get_read}
use Rattle.sg_batch.proofs.Readied.{prepared_here}
use Rattle.sg_batch.proofs.readying.prepared_at.Goals as goal

pub prepare-requires-clause-runnable : goal.prepare-requires-clause-runnable
prepare-requires-clause-runnable g c κs within =
    c.requires.runnable c.index-kernels-number.result (slice_get_read c.args.kernels.now (length c.args.kernels.now) c.args.number c.index-kernels-number.result refl c.requires.there c.index-kernels-number.is)

pub returns : goal.returns
returns g c =
    prepared_here c.args.layouts.now.list c.args.kernels.now c.args.stores.now.list c.args.number c.index-kernels-number.result c.prepare.result
    (slice_get_read c.args.kernels.now (length c.args.kernels.now) c.args.number c.index-kernels-number.result refl c.requires.there c.index-kernels-number.is) c.prepare.ensures.lands c.prepare.ensures.prepared
