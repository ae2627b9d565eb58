use Rattle.std.proofs.Common.{map}
use Rattle.sg_exec.specs.declared.activation.turns.Turns.TheVariants.{Slice}
use Rattle.sg_exec.specs.steps.Moments.{slice_turn}
use Rattle.sg_exec.proofs.Turning.{outside_stops, all_told, are_meant, stands_seen}
use Rattle.sg_exec.proofs.activation.activate.activated_for_slice.Goals as goal

pub returns-in_err-active-clause-ran : goal.returns-in_err-active-clause-ran
returns-in_err-active-clause-ran g c = λ state all named.
    let stores = c.args.stores.now.list in
    let block = c.args.block.now in
    let points = c.args.points.now in
    outside_stops _ stores (map (slice_turn stores state block) points) c.from_residual.result c.in_err-active.field-0.0 c.from_residual.ensures.1
    (c.in_err-active.ensures state (stands_seen stores state all) named)

pub returns-clause-ran : goal.returns-clause-ran
returns-clause-ran g c = λ state all named.
    let stores = c.args.stores.now.list in
    let block = c.args.block.now in
    let points = c.args.points.now in
    let turns = map (slice_turn stores state block) points in
    all_told _ stores turns c.activated_copies.result
    (c.in_ok-active.ensures state (stands_seen stores state all) named).0
    (c.activated_copies.ensures.reached _ (are_meant stores state (Slice c.args.points c.args.block) (stands_seen stores state all) named))

pub activated_copies-requires-clause-active : goal.activated_copies-requires-clause-active
activated_copies-requires-clause-active g c κs within = λ all state sees named. (c.in_ok-active.ensures state sees named).1 all

pub returns-clause-into : goal.returns-clause-into
returns-clause-into g c = c.activated_copies.ensures.into
