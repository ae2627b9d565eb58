use Rattle.std.proofs.Common.{◌∙◌, sym, ap, refl}
use Rattle.std.specs.List.{list_any}
use Rattle.sg_names.specs.Names.{is_no_field}
use Rattle.sg_names.proofs.Lists.{or_first, or_second}
use Rattle.sg_names.proofs.UseVariants.{reads_any, fields_any, else_any, fields_any-Write, fields_any-If, fields_any-For}
use Rattle.sg_names.proofs.uses.+statements.Goals as goal

pub stmt_unknown-returns-then-any_reads_unknown : goal.stmt_unknown-returns-then-any_reads_unknown
stmt_unknown-returns-then-any_reads_unknown t c =
    or_second _ _ _ _ _ (ap (fields_any (is_no_field c.args.names.now)) c.in-Write.is
    ∙ fields_any-Write (is_no_field c.args.names.now) c.in-Write.field c.in-Write.index c.in-Write.way c.in-Write.value)
    c.lacks_field.ensures c.if-lacks_field.false
    (or_first _ _ _ _ refl (c.any_reads_unknown.ensures ∙ ap (list_any (reads_any (is_no_field c.args.names.now))) c.as_slice.ensures) c.if-any_reads_unknown.true)

pub stmt_unknown-returns-else-any_reads_unknown : goal.stmt_unknown-returns-else-any_reads_unknown
stmt_unknown-returns-else-any_reads_unknown t c =
    or_second _ _ _ _ _ (ap (fields_any (is_no_field c.args.names.now)) c.in-Write.is
    ∙ fields_any-Write (is_no_field c.args.names.now) c.in-Write.field c.in-Write.index c.in-Write.way c.in-Write.value)
    c.lacks_field.ensures c.if-lacks_field.false
    (or_second _ _ _ _ _ refl (c.any_reads_unknown.ensures ∙ ap (list_any (reads_any (is_no_field c.args.names.now))) c.as_slice.ensures) c.if-any_reads_unknown.false
    c.reads_unknown.ensures)

pub stmt_unknown-returns-then-reads_unknown : goal.stmt_unknown-returns-then-reads_unknown
stmt_unknown-returns-then-reads_unknown t c =
    or_first _ _ _ _ (ap (fields_any (is_no_field c.args.names.now)) c.in-If.is ∙ fields_any-If (is_no_field c.args.names.now) c.in-If.cond c.in-If.yes c.in-If.no)
    c.reads_unknown-in-If.ensures c.if-reads_unknown.true

pub stmt_unknown-returns-then-block_unknown : goal.stmt_unknown-returns-then-block_unknown
stmt_unknown-returns-then-block_unknown t c =
    or_second _ _ _ _ _ (ap (fields_any (is_no_field c.args.names.now)) c.in-If.is ∙ fields_any-If (is_no_field c.args.names.now) c.in-If.cond c.in-If.yes c.in-If.no)
    c.reads_unknown-in-If.ensures c.if-reads_unknown.false
    (or_first _ _ _ _ refl (c.block_unknown.ensures ∙ ap (list_any (fields_any (is_no_field c.args.names.now))) c.as_slice-else-reads_unknown.ensures) c.if-block_unknown.true)

pub stmt_unknown-returns-in-None : goal.stmt_unknown-returns-in-None
stmt_unknown-returns-in-None t c =
    or_second _ _ _ _ _ (ap (fields_any (is_no_field c.args.names.now)) c.in-If.is ∙ fields_any-If (is_no_field c.args.names.now) c.in-If.cond c.in-If.yes c.in-If.no)
    c.reads_unknown-in-If.ensures c.if-reads_unknown.false
    (or_second _ _ _ _ _ refl (c.block_unknown.ensures ∙ ap (list_any (fields_any (is_no_field c.args.names.now))) c.as_slice-else-reads_unknown.ensures) c.if-block_unknown.false
    (ap (else_any (fields_any (is_no_field c.args.names.now))) (sym c.in-None.is)))

pub stmt_unknown-returns-in-Some : goal.stmt_unknown-returns-in-Some
stmt_unknown-returns-in-Some t c =
    or_second _ _ _ _ _ (ap (fields_any (is_no_field c.args.names.now)) c.in-If.is ∙ fields_any-If (is_no_field c.args.names.now) c.in-If.cond c.in-If.yes c.in-If.no)
    c.reads_unknown-in-If.ensures c.if-reads_unknown.false
    (or_second _ _ _ _ _ refl (c.block_unknown.ensures ∙ ap (list_any (fields_any (is_no_field c.args.names.now))) c.as_slice-else-reads_unknown.ensures) c.if-block_unknown.false
    (c.block_unknown-in-Some.ensures ∙ (ap (list_any (fields_any (is_no_field c.args.names.now))) c.as_slice-in-Some.ensures
    ∙ ap (else_any (fields_any (is_no_field c.args.names.now))) (sym c.in-Some.is))))

pub stmt_unknown-returns-then-range_unknown : goal.stmt_unknown-returns-then-range_unknown
stmt_unknown-returns-then-range_unknown t c =
    or_first _ _ _ _ (ap (fields_any (is_no_field c.args.names.now)) c.in-For.is ∙ fields_any-For (is_no_field c.args.names.now) c.in-For.name c.in-For.range c.in-For.body)
    c.range_unknown.ensures c.if-range_unknown.true

pub stmt_unknown-returns-else-range_unknown : goal.stmt_unknown-returns-else-range_unknown
stmt_unknown-returns-else-range_unknown t c =
    or_second _ _ _ _ _ (ap (fields_any (is_no_field c.args.names.now)) c.in-For.is ∙ fields_any-For (is_no_field c.args.names.now) c.in-For.name c.in-For.range c.in-For.body)
    c.range_unknown.ensures c.if-range_unknown.false
    (c.block_unknown-else-range_unknown.ensures ∙ ap (list_any (fields_any (is_no_field c.args.names.now))) c.as_slice-else-range_unknown.ensures)
