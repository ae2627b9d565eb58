use Rattle.std.proofs.Common.{◌∙◌, sym, ap, true}
use Rattle.std.specs.List.{list_all}
use Rattle.sg_types.specs.Expressions.{knows}
use Rattle.sg_types.specs.steps.Views.{known_view}
use Rattle.sg_types.proofs.ExprWords.{knows_read, knows_call, knows_active}
use Rattle.sg_types.proofs.known.Known.+knows.Goals as goal

pub knows-returns-then-has_field : goal.knows-returns-then-has_field
knows-returns-then-has_field t c =
    let known = known_view c.args.self.now in
    knows_read known c.args.scope.now c.in-Read.field c.in-Read.index c.args.expr.now c.in-Read.is true c.knows_all.result
    (sym c.if-has_field.true ∙ c.has_field.ensures)
    (c.knows_all.ensures ∙ ap (list_all (knows known c.args.scope.now)) c.as_slice.ensures)

pub knows-returns-in-Call : goal.knows-returns-in-Call
knows-returns-in-Call t c =
    let known = known_view c.args.self.now in
    knows_call known c.args.scope.now c.in-Call.callee c.in-Call.args c.args.expr.now c.in-Call.is c.knows_all-in-Call.result
    (c.knows_all-in-Call.ensures ∙ ap (list_all (knows known c.args.scope.now)) c.as_slice-in-Call.ensures)

pub knows-returns-then-has_field-2 : goal.knows-returns-then-has_field-2
knows-returns-then-has_field-2 t c =
    let known = known_view c.args.self.now in
    knows_active known c.args.scope.now c.in-Active.field c.in-Active.index c.args.expr.now c.in-Active.is true c.knows_all-then-has_field-2.result
    (sym c.if-has_field-2.true ∙ c.has_field-in-Active.ensures)
    (c.knows_all-then-has_field-2.ensures ∙ ap (list_all (knows known c.args.scope.now)) c.as_slice-then-has_field-2.ensures)
