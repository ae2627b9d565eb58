use Rattle.sg_session.proofs.Lists.{at_place}
use Rattle.sg_session.proofs.Performing.{dump_done, has_store}
use Rattle.sg_session.proofs.perform.dump.Goals as goal

pub returns : goal.returns
returns c =
    let layouts = c.args.compiled.now.layouts in
    let stores = c.args.stores.now.list in
    let at = c.args.at in
    dump_done layouts stores at.place at.layout c.index-as_slice-at.result c.dump.result
    (at_place stores c.as_slice.result.now at.layout c.index-as_slice-at.result c.as_slice.ensures (has_store layouts stores at.layout at.place at.ty c.requires.stand c.requires.field.placed) c.index-as_slice-at.is)
    c.dump.ensures
