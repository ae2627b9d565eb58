use Rattle.std.proofs.Common.{◌≡◌, ◌<◌, ◌≤◌, List, length, Some, refl, sym, ap, subst, ◌∙◌, arith}
use Rattle.std.specs.Prelude.{slice_get, slice_set}
use Rattle.std.proofs.lemmas.Option.{slice_get_read, slice_get_past}
use Rattle.sg_journal.specs.declared.lines.Line.TheVariants.{Free}
use Rattle.sg_audit.specs.declared.table.NodeTable.{NodeTable}
use Rattle.sg_audit.specs.steps.Tables.{Follows}
use Rattle.sg_audit.proofs.Following.{frees_nowhere, frees_line}
use Rattle.sg_audit.proofs.tables.Tables.free.Goals as goal

pub returns-then-index-len : goal.returns-then-index-len
returns-then-index-len c =
    let far : length c.args.self.now ≤ c.args.layout = omega (arith, c.if-index-len.true, c.len.ensures, c.self.inside.layouts.ok.0, ap length c.self.view_is) in
    frees_nowhere c.args.self.now c.args.layout c.args.node c.args.number (slice_get_past c.args.self.now c.args.layout far)

pub returns : goal.returns
returns c =
    let layouts : List (List NodeTable) = c.args.self.now in
    let below : c.args.layout < length c.self.inside.layouts.items = omega (arith, c.if-index-len.false, c.len.ensures, c.self.inside.layouts.ok.0) in
    let at : slice_get layouts c.args.layout ≡ Some c.index_mut-tables.result.now =
    ap (λ (l : List (List NodeTable)). slice_get l c.args.layout) (sym c.self.view_is)
    ∙ slice_get_read c.self.inside.layouts.items (length c.self.inside.layouts.items) c.args.layout c.index_mut-tables.result.now refl below c.index_mut-tables.ensures.value in
    let now : List (List NodeTable) → List (List NodeTable) = λ (l : List (List NodeTable)). slice_set l c.args.layout c.free.new.self in
    subst (λ (l : List (List NodeTable)). Follows layouts (now l) (Free c.args.layout c.args.node c.args.number) c.free.result) (sym c.self.view_is)
    (frees_line layouts c.args.layout c.args.node c.args.number c.index_mut-tables.result.now c.free.new.self c.free.result at c.free.ensures)
