use Rattle.std.proofs.Common.{◌≡◌, ◌<◌, List, length, Some, refl, sym, ap, subst, ◌∙◌, arith}
use Rattle.std.specs.Prelude.{slice_get, slice_set}
use Rattle.std.proofs.lemmas.Option.{slice_get_read}
use Rattle.std.proofs.lemmas.Result.{IfOk-weaker}
use Rattle.sg_journal.specs.declared.lines.Line.TheVariants.{Take}
use Rattle.sg_audit.specs.declared.table.NodeTable.{NodeTable}
use Rattle.sg_audit.specs.steps.Tables.{Follows, TakesLink}
use Rattle.sg_audit.proofs.Following.{takes_line}
use Rattle.sg_audit.proofs.tables.Tables.take.Goals as goal

pub returns : goal.returns
returns c =
    let layouts : List (List NodeTable) = c.args.self.now in
    let layout = c.args.link.layout in
    let below : layout < length c.self.inside.layouts.items = omega (arith, c.if-index-len.false, c.len.ensures, c.self.inside.layouts.ok.0) in
    let at : slice_get layouts layout ≡ Some c.index_mut-tables.result.now =
    ap (λ (l : List (List NodeTable)). slice_get l layout) (sym c.self.view_is)
    ∙ slice_get_read c.self.inside.layouts.items (length c.self.inside.layouts.items) layout c.index_mut-tables.result.now refl below c.index_mut-tables.ensures.value in
    let now : List (List NodeTable) → List (List NodeTable) = λ (l : List (List NodeTable)). slice_set l layout c.take.new.self in
    IfOk-weaker c.take.result (TakesLink c.index_mut-tables.result.now c.take.new.self c.args.link) (Follows layouts (now c.self.inside.layouts.items) (Take c.args.link))
    (λ done takes. subst (λ (l : List (List NodeTable)). Follows layouts (now l) (Take c.args.link) done) (sym c.self.view_is)
    (takes_line layouts c.args.link c.index_mut-tables.result.now c.take.new.self done at takes))
    c.take.ensures
