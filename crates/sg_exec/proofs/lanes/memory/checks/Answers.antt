use Rattle.std.proofs.Common.{◌≡◌, ℕ, List, refl, ap, ◌∙◌}
use Rattle.std.specs.Prelude.{None, if◌then◌else◌}
use Rattle.sg_words.specs.declared.operators.Ty.TheVariants as ty
use Rattle.sg_words.specs.Words.{number}
use Rattle.sg_coord.specs.Coord.{is_on_axis}
use Rattle.sg_ir.specs.Runs.{check}
use Rattle.sg_ir.proofs.Uses.{does-Check}
use Rattle.sg_exec.specs.steps.Rows.{item_in, On}
use Rattle.sg_exec.proofs.PlacesMoved.{places_done, keeps_both, check_holds}
use Rattle.sg_exec.proofs.lanes.memory.checks.Goals as goal

pub returns-then-has_places : goal.returns-then-has_places
returns-then-has_places c =
    let mid = c.has_places.new.self in
    places_done c.args.batch.now mid (record mid { places = c.check.new.self }) (On c.args.columns.now.on) c.args.to
    (λ k held. held ≡ (if is_on_axis c.args.extent (number ty.I32 (item_in c.as_slice.result.now 0 k c.args.index)) then item_in mid.places.list None k c.args.place else None))
    (λ now. now.roots c.args.place) (λ seen now. check c.args.extent (now.regs c.args.index) (now.places c.args.place)) _ (λ seen now. does-Check seen c.args.to c.args.place c.args.axis c.args.extent c.args.index now)
    (keeps_both c.args.batch.now c.has_regs.new.self mid c.has_regs.ensures.keeps c.has_places.ensures.keeps) (record { kept = λ lacks. lacks; regs = refl; vars = refl; moments = refl; stores = c.check.ensures.stores }) (λ lacks. c.check.ensures.put)
    (λ k held stores state at moment now small holds sees moved.
    check_holds stores held (item_in mid.places.list None k c.args.place) (now.places c.args.place) c.args.extent (item_in c.as_slice.result.now 0 k c.args.index) (now.regs c.args.index) holds
    (ap (λ (items : List ℕ). item_in items 0 k c.args.index) c.as_slice.ensures.value ∙ moved.regs_are c.args.index) (moved.places_are c.args.place))
