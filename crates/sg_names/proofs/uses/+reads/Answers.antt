use Rattle.std.proofs.Common.{◌∙◌, sym, ap}
use Rattle.std.specs.List.{list_any}
use Rattle.sg_names.specs.Names.{is_no_field}
use Rattle.sg_names.proofs.Lists.{or_first, or_second}
use Rattle.sg_names.proofs.UseVariants.{reads_any, reads_any-Read, reads_any-Bin, reads_any-Call, reads_any-Active}
use Rattle.sg_names.proofs.uses.+reads.Goals as goal

pub reads_unknown-returns-else-lacks_field : goal.reads_unknown-returns-else-lacks_field
reads_unknown-returns-else-lacks_field t c =
    or_second _ _ _ _ _ (ap (reads_any (is_no_field c.args.names.now)) c.in-Read.is ∙ reads_any-Read (is_no_field c.args.names.now) c.in-Read.field c.in-Read.index)
    c.lacks_field.ensures c.if-lacks_field.false
    (c.any_reads_unknown.ensures ∙ ap (list_any (reads_any (is_no_field c.args.names.now))) c.as_slice.ensures)

pub reads_unknown-returns-then-reads_unknown : goal.reads_unknown-returns-then-reads_unknown
reads_unknown-returns-then-reads_unknown t c =
    or_first _ _ _ _ (ap (reads_any (is_no_field c.args.names.now)) c.in-Bin.is ∙ reads_any-Bin (is_no_field c.args.names.now) c.in-Bin.op c.in-Bin.left c.in-Bin.right)
    (c.reads_unknown-in-Bin.ensures ∙ ap (reads_any (is_no_field c.args.names.now)) c.get-in-Bin.ensures) c.if-reads_unknown.true

pub reads_unknown-returns-else-reads_unknown : goal.reads_unknown-returns-else-reads_unknown
reads_unknown-returns-else-reads_unknown t c =
    or_second _ _ _ _ _ (ap (reads_any (is_no_field c.args.names.now)) c.in-Bin.is ∙ reads_any-Bin (is_no_field c.args.names.now) c.in-Bin.op c.in-Bin.left c.in-Bin.right)
    (c.reads_unknown-in-Bin.ensures ∙ ap (reads_any (is_no_field c.args.names.now)) c.get-in-Bin.ensures) c.if-reads_unknown.false
    (c.reads_unknown-else-reads_unknown.ensures ∙ ap (reads_any (is_no_field c.args.names.now)) c.get-else-reads_unknown.ensures)

pub reads_unknown-returns-in-Call : goal.reads_unknown-returns-in-Call
reads_unknown-returns-in-Call t c =
    c.any_reads_unknown-in-Call.ensures ∙ (ap (list_any (reads_any (is_no_field c.args.names.now))) c.as_slice-in-Call.ensures
    ∙ (sym (reads_any-Call (is_no_field c.args.names.now) c.in-Call.callee c.in-Call.args) ∙ ap (reads_any (is_no_field c.args.names.now)) (sym c.in-Call.is)))

pub reads_unknown-returns-else-lacks_field-2 : goal.reads_unknown-returns-else-lacks_field-2
reads_unknown-returns-else-lacks_field-2 t c =
    or_second _ _ _ _ _ (ap (reads_any (is_no_field c.args.names.now)) c.in-Active.is ∙ reads_any-Active (is_no_field c.args.names.now) c.in-Active.field c.in-Active.index)
    c.lacks_field-in-Active.ensures c.if-lacks_field-2.false
    (c.any_reads_unknown-else-lacks_field-2.ensures ∙ ap (list_any (reads_any (is_no_field c.args.names.now))) c.as_slice-else-lacks_field-2.ensures)
