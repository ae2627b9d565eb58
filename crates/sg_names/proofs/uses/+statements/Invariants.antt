use Rattle.std.proofs.Common.{◌≡◌, drop}
use Rattle.std.specs.List.{list_any}
use Rattle.sg_names.specs.Names.{is_no_field}
use Rattle.sg_names.proofs.UseVariants.{fields_any}
use Rattle.sg_names.proofs.uses.+statements.Given as goal

abbrev pub invariant-block_unknown-loop-statement : goal.invariant-block_unknown-loop-statement
invariant-block_unknown-loop-statement l =
    list_any (fields_any (is_no_field l.names)) (drop l.statement-index l.block) ≡ list_any (fields_any (is_no_field l.names)) l.block
