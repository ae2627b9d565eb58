use Rattle.std.proofs.Common.{sym, subst}
use Rattle.std.specs.Prelude.{OnOk, All}
use Rattle.std.specs.List.{Contains}
use Rattle.sg_coord.specs.declared.coord.Coord.{Coord}
use Rattle.sg_coord.specs.Coord.{Inside}
use Rattle.sg_layout.specs.declared.shape.Shape.{Shape}
use Rattle.sg_layout.specs.Axes.{bounds_of_shape}
use Rattle.sg_activate.specs.Descents.{worker_of}
use Rattle.sg_activate.specs.steps.Descended.{HasReached}
use Rattle.sg_activate.specs.steps.Finding.{found_in}
use Rattle.sg_activate.proofs.Active.{refused_then}
use Rattle.sg_activate.proofs.Looking.{ok_so}
use Rattle.sg_activate.proofs.Descended.{made_none, fits_seat}
use Rattle.sg_activate.proofs.Keyed.{keyed}
use Rattle.sg_activate.proofs.descend.descend.Goals as goal

pub ask_all-seat-requires-clause-made : goal.ask_all-seat-requires-clause-made
ask_all-seat-requires-clause-made g c κs within = made_none c.in_ok-pass.pass.start (found_in c.args.work.now.axes c.args.work.now.found.now) (worker_of c.in_ok-pass.seat) _ 16 c.in_ok-pass.ensures.worker

pub ask_all-seat-requires-clause-inside : goal.ask_all-seat-requires-clause-inside
ask_all-seat-requires-clause-inside g c κs within = subst (λ (s : Shape). All (Inside (bounds_of_shape s)) (found_in c.args.work.now.axes c.args.work.now.found.now)) (sym c.in_ok-pass.ensures.given.same_shape) c.requires.inside

pub returns-clause-opened : goal.returns-clause-opened
returns-clause-opened g c =
    let store = c.args.store.now in
    let start = c.in_ok-pass.pass.start in
    let v = worker_of c.ask_all-seat.result.seat in
    let wanted = found_in c.args.work.now.axes c.args.work.now.found.now in
    let met : (at : Coord) → Contains wanted at → HasReached start at v = subst (λ r. OnOk r ((at : Coord) → Contains wanted at → HasReached start at v)) c.in_ok-done.was c.ask_all-seat.ensures.met in
    ok_so c.finish.result c.finish.ensures.opened (λ opens old before.
    opens old wanted (fits_seat start wanted v c.ask_all-seat.ensures.made met (keyed start store c.in_ok-pass.ensures.given c.layout.ensures.well_formed (c.paths_tell.ensures.is_slot store.shape) old wanted before)) before)

pub returns-clause-full : goal.returns-clause-full
returns-clause-full g c =
    let store = c.args.store.now in
    let start = c.in_ok-pass.pass.start in
    let v = worker_of c.ask_all-seat.result.seat in
    let wanted = found_in c.args.work.now.axes c.args.work.now.found.now in
    let met : (at : Coord) → Contains wanted at → HasReached start at v = subst (λ r. OnOk r ((at : Coord) → Contains wanted at → HasReached start at v)) c.in_ok-done.was c.ask_all-seat.ensures.met in
    refused_then c.finish.result _ _ c.finish.ensures.full (λ fault full old before.
    full old wanted (fits_seat start wanted v c.ask_all-seat.ensures.made met (keyed start store c.in_ok-pass.ensures.given c.layout.ensures.well_formed (c.paths_tell.ensures.is_slot store.shape) old wanted before)) before)
