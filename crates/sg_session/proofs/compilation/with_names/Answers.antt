use Rattle.sg_session.specs.steps.Parts.{with_tables}
use Rattle.sg_session.proofs.Kept.{HasLaws, compiled_keeps}
use Rattle.sg_session.proofs.compilation.with_names.Goals as goal

pub invariant_of-result : goal.invariant_of-result
invariant_of-result c =
    let program = c.args.program.now in
    let laws : HasLaws program = record {
      layouts = c.tables_declared.ensures.layouts program;
      kernels = c.tables_declared.ensures.kernels program;
      placed = c.tables_declared.ensures.placed program;
      fields = c.look_ups_invert.ensures.fields program;
      named = c.look_ups_invert.ensures.kernels program;
      numbered = c.look_ups_invert.ensures.layouts program;
      fit = c.declared_layouts_fit.ensures;
      typed = c.typed_is_well_typed.ensures;
      variables = c.variables_are_numbered.ensures;
    } in
    compiled_keeps program c.args.names (with_tables c.args.names c.in-Ok.field-0) c.requires.spelled.grammar laws c.requires.names c.in-Ok.ensures

pub returns-in-Ok-clause-compiled : goal.returns-in-Ok-clause-compiled
returns-in-Ok-clause-compiled c = invariant_of-result c
