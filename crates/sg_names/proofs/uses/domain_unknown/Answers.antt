use Rattle.std.proofs.Common.{◌∙◌, sym, ap}
use Rattle.std.specs.List.{list_any}
use Rattle.sg_names.specs.Uses.{range_reads}
use Rattle.sg_names.specs.Names.{is_no_field}
use Rattle.sg_names.proofs.Lists.{list_any-flat_map}
use Rattle.sg_names.proofs.UseVariants.{domain_any}
use Rattle.sg_names.proofs.uses.domain_unknown.Goals as goal

pub returns-in-Ranges : goal.returns-in-Ranges
returns-in-Ranges c =
    c.ranges_unknown.ensures ∙ (ap (list_any (λ range. list_any (is_no_field c.args.names.now) (range_reads range))) c.as_slice.ensures
    ∙ (sym (list_any-flat_map (is_no_field c.args.names.now) range_reads c.in-Ranges.ranges) ∙ ap (domain_any c.args.names.now) (sym c.in-Ranges.is)))
