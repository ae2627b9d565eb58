use Rattle.std.proofs.Common.{◌∙◌, ap, refl}
use Rattle.std.specs.List.{list_any}
use Rattle.sg_names.specs.Uses.{size_names}
use Rattle.sg_names.specs.Names.{is_no_size}
use Rattle.sg_names.proofs.Lists.{or_first, or_second}
use Rattle.sg_names.proofs.UseVariants.{node_any-sizes}
use Rattle.sg_names.proofs.sizes.node_unknown.Goals as goal

pub returns-then-axes_unknown : goal.returns-then-axes_unknown
returns-then-axes_unknown c =
    or_first _ _ _ _ (node_any-sizes (is_no_size c.args.names.now) c.args.node.now)
    (c.axes_unknown.ensures ∙ ap (list_any (λ axis. list_any (is_no_size c.args.names.now) (size_names axis.size))) c.as_slice.ensures) c.if-axes_unknown.true

pub returns-then-optional_unknown : goal.returns-then-optional_unknown
returns-then-optional_unknown c =
    or_second _ _ _ _ _ (node_any-sizes (is_no_size c.args.names.now) c.args.node.now)
    (c.axes_unknown.ensures ∙ ap (list_any (λ axis. list_any (is_no_size c.args.names.now) (size_names axis.size))) c.as_slice.ensures) c.if-axes_unknown.false
    (or_first _ _ _ _ refl c.optional_unknown.ensures c.if-optional_unknown.true)

pub returns-else-optional_unknown : goal.returns-else-optional_unknown
returns-else-optional_unknown c =
    or_second _ _ _ _ _ (node_any-sizes (is_no_size c.args.names.now) c.args.node.now)
    (c.axes_unknown.ensures ∙ ap (list_any (λ axis. list_any (is_no_size c.args.names.now) (size_names axis.size))) c.as_slice.ensures) c.if-axes_unknown.false
    (or_second _ _ _ _ _ refl c.optional_unknown.ensures c.if-optional_unknown.false c.optional_unknown-else-optional_unknown.ensures)
