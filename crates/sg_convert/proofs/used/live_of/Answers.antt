use Rattle.std.proofs.Common.{refl}
use Rattle.sg_layout.specs.declared.shape.Kind.TheVariants.{Pointer, Hash, Dynamic}
use Rattle.sg_convert.proofs.Lives.{live_at}
use Rattle.sg_convert.proofs.used.live_of.Goals as goal

pub returns-in-Pointer : goal.returns-in-Pointer
returns-in-Pointer c =
    let at = live_at c.args.store.now c.layout.ensures.well_formed c.args.number c.args.node.now c.requires.numbered Pointer c.in-Pointer.is refl c.live.result c.live.ensures.value in
    record { value = at.0; few = at.1 }

pub returns-in-Hash : goal.returns-in-Hash
returns-in-Hash c =
    let at = live_at c.args.store.now c.layout.ensures.well_formed c.args.number c.args.node.now c.requires.numbered Hash c.in-Hash.is refl c.live-in-Hash.result c.live-in-Hash.ensures.value in
    record { value = at.0; few = at.1 }

pub returns-in-Dynamic : goal.returns-in-Dynamic
returns-in-Dynamic c =
    let at = live_at c.args.store.now c.layout.ensures.well_formed c.args.number c.args.node.now c.requires.numbered Dynamic c.in-Dynamic.is refl c.live-in-Dynamic.result c.live-in-Dynamic.ensures.value in
    record { value = at.0; few = at.1 }
