use Rattle.std.proofs.lemmas.Result.{on_ok_weaker}
use Rattle.sg_coord.specs.Bounds.{bounds_of, volume}
use Rattle.sg_flat.proofs.Landings.{field_after-one}
use Rattle.sg_flat.proofs.landing.Target.land.Goals as goal

pub returns : goal.returns
returns c =
    let target = c.args.self.now in
    on_ok_weaker c.put.result
    (λ puts.
    field_after-one (bounds_of target.extents) target.layout target.place target.ty c.args.field.now c.put.new.self c.args.write.now c.row-row.result c.word_after-word.result
    c.if-write-self.false c.if-write-self-2.false c.row-row.ensures.value c.word_after-word.ensures
    (puts (volume (bounds_of target.extents)) c.row-row.ensures.below c.requires.words))
    c.put.ensures
