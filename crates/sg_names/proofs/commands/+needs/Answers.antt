use Rattle.std.proofs.Common.{◌∙◌, sym, ap}
use Rattle.std.specs.List.{list_any}
use Rattle.sg_names.specs.Names.{is_no_layout, is_no_field, is_no_kernel}
use Rattle.sg_names.proofs.UseVariants.{needs_any, needs_any-Times}
use Rattle.sg_names.proofs.commands.+needs.Goals as goal

pub needs_unknown-returns-in-Times : goal.needs_unknown-returns-in-Times
needs_unknown-returns-in-Times t c =
    let needs = needs_any (is_no_layout c.args.names.now) (is_no_field c.args.names.now) (is_no_kernel c.args.names.now) in
    c.any_needs_unknown.ensures ∙ (ap (list_any needs) c.as_slice.ensures
    ∙ (sym (needs_any-Times (is_no_layout c.args.names.now) (is_no_field c.args.names.now) (is_no_kernel c.args.names.now) c.in-Times.number c.in-Times.body)
    ∙ ap needs (sym c.in-Times.is)))
