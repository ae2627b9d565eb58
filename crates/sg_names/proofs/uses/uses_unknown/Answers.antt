use Rattle.std.proofs.Common.{◌∙◌, sym, ap}
use Rattle.std.specs.List.{list_any}
use Rattle.sg_names.specs.Uses.{node_sizes}
use Rattle.sg_names.specs.Names.{is_no_size, uses_unknown}
use Rattle.sg_names.proofs.UseVariants.{uses_unknown-Layout}
use Rattle.sg_names.proofs.uses.uses_unknown.Goals as goal

pub returns-in-Layout : goal.returns-in-Layout
returns-in-Layout c =
    c.sizes_unknown.ensures ∙ (ap (list_any (λ node. list_any (is_no_size c.args.names.now) (node_sizes node))) c.as_slice.ensures
    ∙ (sym (uses_unknown-Layout c.args.names.now c.in-Layout.decl) ∙ ap (uses_unknown c.args.names.now) (sym c.in-Layout.is)))
