use Rattle.std.proofs.Common.{◌∙◌, ap}
use Rattle.std.specs.List.{list_any}
use Rattle.sg_names.specs.Names.{is_no_field}
use Rattle.sg_names.proofs.Lists.{or_first, or_second}
use Rattle.sg_names.proofs.UseVariants.{fields_any, uses_unknown-Kernel}
use Rattle.sg_names.proofs.uses.kernel_unknown.Goals as goal

pub returns-then-domain_unknown : goal.returns-then-domain_unknown
returns-then-domain_unknown c =
    or_first _ _ _ _ (uses_unknown-Kernel c.args.names.now c.args.kernel.now) c.domain_unknown.ensures c.if-domain_unknown.true

pub returns-else-domain_unknown : goal.returns-else-domain_unknown
returns-else-domain_unknown c =
    or_second _ _ _ _ _ (uses_unknown-Kernel c.args.names.now c.args.kernel.now) c.domain_unknown.ensures c.if-domain_unknown.false
    (c.block_unknown.ensures ∙ ap (list_any (fields_any (is_no_field c.args.names.now))) c.as_slice.ensures)
