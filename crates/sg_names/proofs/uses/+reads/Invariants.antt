use Rattle.std.proofs.Common.{◌≡◌, drop}
use Rattle.std.specs.List.{list_any}
use Rattle.sg_names.specs.Names.{is_no_field}
use Rattle.sg_names.proofs.UseVariants.{reads_any}
use Rattle.sg_names.proofs.uses.+reads.Given as goal

abbrev pub invariant-any_reads_unknown-loop-part : goal.invariant-any_reads_unknown-loop-part
invariant-any_reads_unknown-loop-part l =
    list_any (reads_any (is_no_field l.names)) (drop l.part-index l.parts) ≡ list_any (reads_any (is_no_field l.names)) l.parts
