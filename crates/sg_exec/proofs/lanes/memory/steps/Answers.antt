use Rattle.std.proofs.Common.{ℕ, List, refl, ap, ◌∙◌}
use Rattle.std.specs.Prelude.{None, Option}
use Rattle.sg_ir.specs.Runs.{Place, down}
use Rattle.sg_exec.specs.Standing.{shapes_of}
use Rattle.sg_exec.specs.steps.Machines.{HoldsPlace}
use Rattle.sg_exec.specs.steps.Rows.{item_in, On}
use Rattle.sg_exec.proofs.PlacesMoved.{places_done, keeps_both, step_holds}
use Rattle.sg_exec.proofs.lanes.memory.steps.Goals as goal

pub returns-then-has_places : goal.returns-then-has_places
returns-then-has_places c =
    let mid = c.has_places.new.self in
    places_done c.args.batch.now mid (record mid { places = c.step.new.self }) (On c.args.columns.now.on) c.args.to
    (λ k held. (there : Option Place) → HoldsPlace mid.places.stores (item_in mid.places.list None k c.args.place) there
    → HoldsPlace mid.places.stores held (down (shapes_of mid.places.stores) c.args.node (item_in c.as_slice.result.now 0 k c.args.offset) there))
    (λ now. now.roots c.args.place) (λ seen now. down seen.shapes c.args.node (now.regs c.args.offset) (now.places c.args.place)) _ (λ seen now. refl)
    (keeps_both c.args.batch.now c.has_regs.new.self mid c.has_regs.ensures.keeps c.has_places.ensures.keeps) (record { kept = λ lacks. lacks; regs = refl; vars = refl; moments = refl; stores = c.step.ensures.stores }) (λ lacks. c.step.ensures.put)
    (λ k held stores state at moment now small holds sees moved.
    step_holds mid.places.stores stores held (item_in mid.places.list None k c.args.place) (now.places c.args.place) c.args.node (item_in c.as_slice.result.now 0 k c.args.offset) (now.regs c.args.offset) moved.stores_are
    (ap (λ (items : List ℕ). item_in items 0 k c.args.offset) c.as_slice.ensures.value ∙ moved.regs_are c.args.offset) holds (moved.places_are c.args.place))
