use Rattle.std.proofs.Common.{◌<◌, refl, subst, sym}
use Rattle.std.specs.Vec.{with_item}
use Rattle.sg_store.proofs.Padded.{cells_are, given}
use Rattle.sg_store.proofs.field_row.FieldRow.set.Goals as goal

pub returns : goal.returns
returns c =
    let words = c.self.inside.words.items in
    let cells = c.self.inside.cells in
    let few = c.self.invariant.0 in
    let all = cells_are words c.args.self.now cells c.self.view_is few in
    given words c.args.self.now c.grow.new.words.items (with_item c.grow.new.words c.args.cell c.args.word).items cells c.args.cell c.args.word c.self.view_is few
    (subst (λ n. c.args.cell < n) (sym all) c.requires) c.grow.ensures.items refl
