use Rattle.std.proofs.Common.{◌∙◌, sym, ap, refl, true, false}
use Rattle.std.specs.List.{list_all}
use Rattle.sg_types.specs.Expressions.{counts, field_axes, equals_some}
use Rattle.sg_types.proofs.ExprWords.{counts_read, counts_call, counts_active}
use Rattle.sg_types.proofs.known.Known.+counts.Goals as goal

pub counts-returns-then-has_axes : goal.counts-returns-then-has_axes
counts-returns-then-has_axes t c =
    let tables = c.args.self.now.names.now in
    counts_read tables c.in-Read.field c.in-Read.index c.args.expr.now c.in-Read.is true c.counts_all.result
    (sym c.if-has_axes.true ∙ (c.has_axes.ensures ∙ ap (equals_some (field_axes tables c.in-Read.field)) c.len.ensures))
    (c.counts_all.ensures ∙ ap (list_all (counts tables)) c.as_slice.ensures)

pub counts-returns-else-has_axes : goal.counts-returns-else-has_axes
counts-returns-else-has_axes t c =
    let tables = c.args.self.now.names.now in
    c.if-has_axes.false
    ∙ counts_read tables c.in-Read.field c.in-Read.index c.args.expr.now c.in-Read.is false (list_all (counts tables) c.in-Read.index)
    (sym c.if-has_axes.false ∙ (c.has_axes.ensures ∙ ap (equals_some (field_axes tables c.in-Read.field)) c.len.ensures)) refl

pub counts-returns-in-Call : goal.counts-returns-in-Call
counts-returns-in-Call t c =
    let tables = c.args.self.now.names.now in
    counts_call tables c.in-Call.callee c.in-Call.args c.args.expr.now c.in-Call.is c.counts_all-in-Call.result
    (c.counts_all-in-Call.ensures ∙ ap (list_all (counts tables)) c.as_slice-in-Call.ensures)

pub counts-returns-then-has_axes-2 : goal.counts-returns-then-has_axes-2
counts-returns-then-has_axes-2 t c =
    let tables = c.args.self.now.names.now in
    counts_active tables c.in-Active.field c.in-Active.index c.args.expr.now c.in-Active.is true c.counts_all-then-has_axes-2.result
    (sym c.if-has_axes-2.true ∙ (c.has_axes-in-Active.ensures ∙ ap (equals_some (field_axes tables c.in-Active.field)) c.len-in-Active.ensures))
    (c.counts_all-then-has_axes-2.ensures ∙ ap (list_all (counts tables)) c.as_slice-then-has_axes-2.ensures)

pub counts-returns-else-has_axes-2 : goal.counts-returns-else-has_axes-2
counts-returns-else-has_axes-2 t c =
    let tables = c.args.self.now.names.now in
    c.if-has_axes-2.false
    ∙ counts_active tables c.in-Active.field c.in-Active.index c.args.expr.now c.in-Active.is false (list_all (counts tables) c.in-Active.index)
    (sym c.if-has_axes-2.false ∙ (c.has_axes-in-Active.ensures ∙ ap (equals_some (field_axes tables c.in-Active.field)) c.len-in-Active.ensures)) refl
