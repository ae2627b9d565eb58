use Rattle.std.proofs.Common.{sym, ap, ◌∙◌}
use Rattle.sg_names.specs.Tables.{layout_name_of}
use Rattle.sg_session.specs.Compiled.{CompiledProgram}
use Rattle.sg_session.proofs.Lists.{at_place}
use Rattle.sg_session.proofs.Viewing.{stats_done, has_own_store}
use Rattle.sg_session.proofs.views.stats.Goals as goal

pub returns : goal.returns
returns g c =
    let layouts = c.args.compiled.now.layouts in
    let stores = c.args.stores.now.list in
    let k = c.args.layout in
    stats_done layouts stores (layout_name_of c.args.compiled.now.names k) c.layout_name.result.now c.as_slice-2.result.now k c.index-as_slice-layout.result c.stats_by_workers.result
    (ap (λ (p : CompiledProgram). layout_name_of p.names k) (sym c.compiled.view_is) ∙ c.layout_name.ensures) c.as_slice-2.ensures
    (at_place stores c.as_slice.result.now k c.index-as_slice-layout.result c.as_slice.ensures (has_own_store layouts stores k c.requires.stand c.requires.layout) c.index-as_slice-layout.is)
    c.stats_by_workers.ensures
