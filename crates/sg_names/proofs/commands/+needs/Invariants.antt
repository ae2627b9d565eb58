use Rattle.std.proofs.Common.{◌≡◌, drop}
use Rattle.std.specs.List.{list_any}
use Rattle.sg_names.specs.Names.{is_no_layout, is_no_field, is_no_kernel}
use Rattle.sg_names.proofs.UseVariants.{needs_any}
use Rattle.sg_names.proofs.commands.+needs.Given as goal

abbrev pub invariant-any_needs_unknown-loop-command : goal.invariant-any_needs_unknown-loop-command
invariant-any_needs_unknown-loop-command l =
    list_any (needs_any (is_no_layout l.names) (is_no_field l.names) (is_no_kernel l.names)) (drop l.command-index l.body)
    ≡ list_any (needs_any (is_no_layout l.names) (is_no_field l.names) (is_no_kernel l.names)) l.body
