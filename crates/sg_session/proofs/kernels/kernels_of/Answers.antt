use Rattle.std.proofs.Common.{arith}
use Rattle.sg_session.proofs.Answered.{typed_ready, count_kernels, lowerable_all}
use Rattle.sg_session.proofs.kernels.kernels_of.Goals as goal

pub admit_all-requires-clause-ready : goal.admit_all-requires-clause-ready
admit_all-requires-clause-ready c =
    let names = c.args.names.now in
    let layouts = c.args.layouts.now.list in
    let program = c.args.program.now in
    (typed_ready names layouts program c.in-Ok.typed c.variables_are_numbered.ensures c.requires.spelled.grammar
    (c.typed_is_well_typed.ensures names layouts program c.in-Ok.typed c.requires.fit c.in-Ok.ensures) c.in-Ok.ensures).0

pub admit_all-requires-clause-few : goal.admit_all-requires-clause-few
admit_all-requires-clause-few c =
    let names = c.args.names.now in
    let layouts = c.args.layouts.now.list in
    let program = c.args.program.now in
    let ready = typed_ready names layouts program c.in-Ok.typed c.variables_are_numbered.ensures c.requires.spelled.grammar
    (c.typed_is_well_typed.ensures names layouts program c.in-Ok.typed c.requires.fit c.in-Ok.ensures) c.in-Ok.ensures in
    omega (arith, ready.1, count_kernels program.items, c.requires.spelled.few_items)

pub returns-in-Ok-clause-lowerable : goal.returns-in-Ok-clause-lowerable
returns-in-Ok-clause-lowerable c =
    let names = c.args.names.now in
    let layouts = c.args.layouts.now.list in
    let program = c.args.program.now in
    lowerable_all layouts c.in-Ok.typed.kernels c.admit_all.result
    (typed_ready names layouts program c.in-Ok.typed c.variables_are_numbered.ensures c.requires.spelled.grammar
    (c.typed_is_well_typed.ensures names layouts program c.in-Ok.typed c.requires.fit c.in-Ok.ensures) c.in-Ok.ensures).0
    c.admit_all.ensures
