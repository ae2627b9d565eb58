use Rattle.sg_store.proofs.Padded.{cells_are, none_zero}
use Rattle.std.proofs.Common.{sym}
use Rattle.sg_store.proofs.field_row.FieldRow.clear.Goals as goal

pub returns : goal.returns
returns c =
    let few = c.self.invariant.0 in
    none_zero c.clear.new.self.items c.args.self.now c.self.inside.cells c.clear.ensures.items
    (sym (cells_are c.self.inside.words.items c.args.self.now c.self.inside.cells c.self.view_is few))
