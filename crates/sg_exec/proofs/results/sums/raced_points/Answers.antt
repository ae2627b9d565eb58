use Rattle.std.proofs.Common.{List, sym, subst}
use Rattle.sg_ir.specs.Apt.{uses_in}
use Rattle.sg_exec.specs.declared.results.shared.Accumulated.{Accumulated}
use Rattle.sg_exec.specs.declared.results.shared.Owned.{Owned}
use Rattle.sg_exec.specs.steps.Landing.{current}
use Rattle.sg_exec.specs.steps.Racing.{AreSeats}
use Rattle.sg_exec.specs.steps.Passes.{HaveFields, GaveReached}
use Rattle.sg_exec.specs.steps.Working.{HasTurns}
use Rattle.sg_exec.proofs.MadeLands.{if_rows, if_cells, if_used, if_lands}
use Rattle.sg_exec.proofs.results.sums.raced_points.Goals as goal

pub raced-requires-clause-fields : goal.raced-requires-clause-fields
raced-requires-clause-fields g c κs within =
    let mids = current c.args.reached.now c.args.stores.now.list in
    let fields = c.in_ok-fields.fields in
    subst (λ (list : List Accumulated). HaveFields mids (uses_in c.args.code.now) list fields.seats.items c.as_slice-own.result.now) (sym c.as_slice-list.ensures.value)
    (subst (λ (own : List Owned). HaveFields mids (uses_in c.args.code.now) fields.accumulated.items fields.seats.items own) (sym c.as_slice-own.ensures.value) c.in_ok-fields.ensures)

pub landed-requires-clause-seats : goal.landed-requires-clause-seats
landed-requires-clause-seats g c κs within =
    subst (λ (list : List Accumulated). AreSeats list c.in_ok-after.after.seats.items) c.as_slice-list.ensures.value c.in_ok-after.ensures.seats

pub returns-clause-rows : goal.returns-clause-rows
returns-clause-rows g c =
    let mids = current c.args.reached.now c.args.stores.now.list in
    let after = c.in_ok-after.after in
    if_rows mids c.in_ok-fields.fields.accumulated.items after c.landed.result c.in_ok-fields.ensures.passes
    (subst (λ (list : List Accumulated). GaveReached mids list after.seats.items) c.as_slice-list.ensures.value c.in_ok-after.ensures.reached) c.landed.ensures.sums

pub returns-clause-cells : goal.returns-clause-cells
returns-clause-cells g c = if_cells (current c.args.reached.now c.args.stores.now.list) c.in_ok-fields.fields.accumulated.items c.in_ok-after.after c.landed.result c.in_ok-after.ensures.cells c.landed.ensures.puts

pub returns-clause-used : goal.returns-clause-used
returns-clause-used g c =
    if_used (current c.args.reached.now c.args.stores.now.list) c.in_ok-fields.fields.accumulated.items c.in_ok-after.after (uses_in c.args.code.now) c.landed.result c.in_ok-fields.ensures.used c.in_ok-after.ensures.used
    c.landed.ensures.sums c.landed.ensures.puts

pub returns-clause-lands : goal.returns-clause-lands
returns-clause-lands g c =
    let mids = current c.args.reached.now c.args.stores.now.list in
    let after = c.in_ok-after.after in
    if_lands mids c.in_ok-fields.fields.accumulated.items after c.args.code.now c.args.points.now c.landed.result c.in_ok-fields.ensures.passes
    (λ one_way state sees named turn are. subst (λ (list : List Accumulated). HasTurns mids list turn c.args.points.now after) c.as_slice-list.ensures.value (c.in_ok-after.ensures.turns one_way state sees named turn are))
    c.landed.ensures.sums c.landed.ensures.puts
