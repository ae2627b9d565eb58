use Rattle.std.proofs.Common.{List, map, sym, ap, ◌∙◌}
use Rattle.std.proofs.lemmas.Bool.{eq-eqb}
use Rattle.sg_types.specs.declared.typed.TypedExpr.{TypedExpr}
use Rattle.sg_admit.specs.Rules.{name_of, are_names}
use Rattle.sg_admit.proofs.Guards.{cell_read}
use Rattle.sg_admit.proofs.neutral.is_cell.Goals as goal

pub returns-then-layout-walked : goal.returns-then-layout-walked
returns-then-layout-walked c =
    c.are_names.ensures
    ∙ (ap (λ (index : List TypedExpr). are_names c.args.vars 0 (map name_of index)) c.as_slice.ensures
    ∙ sym (cell_read c.args.walked c.args.vars c.args.expr.now c.in-Read.layout _ c.in-Read.index c.in-Read.is (eq-eqb c.in-Read.layout c.args.walked c.if-layout-walked.true)))
