use Rattle.std.proofs.Common.{refl, true, List, [], subst}
use Rattle.std.specs.Prelude.{Some}
use Rattle.sg_store.specs.StoreWords.{StoreWords}
use Rattle.sg_ir.specs.Runs.{Place}
use Rattle.sg_ir.proofs.Uses.{does-Root}
use Rattle.sg_exec.specs.steps.Machines.{HoldsPlace}
use Rattle.sg_exec.specs.steps.Rows.{On}
use Rattle.sg_exec.specs.declared.lanes.batch.Batch.{Batch}
use Rattle.sg_exec.proofs.MomentsMoved.{no_lack}
use Rattle.sg_exec.proofs.PlacesMoved.{places_done}
use Rattle.sg_exec.proofs.lanes.memory.roots.Goals as goal

pub returns-then-not-rooted : goal.returns-then-not-rooted
returns-then-not-rooted c =
    let root : Place = record { layout = c.args.layout; path = [] } in
    let mid = c.has_places.new.self in
    let new : Batch = record mid { places = c.root-rooted.new.self; lacks = true } in
    places_done c.args.batch.now mid new (On c.args.columns.now.on) c.args.to
    (λ k held. HoldsPlace mid.places.stores held (Some root)) (λ now. c.args.layout) (λ seen now. Some root) _ (λ seen now. does-Root seen c.args.to c.args.layout now)
    c.has_places.ensures.keeps (record { kept = no_lack; regs = refl; vars = refl; moments = refl; stores = c.root-rooted.ensures.stores }) no_lack
    (λ k held stores state at moment now small holds sees moved. subst (λ (ss : List StoreWords). HoldsPlace ss held (Some root)) moved.stores_are holds)

pub returns-else-not-rooted : goal.returns-else-not-rooted
returns-else-not-rooted c =
    let root : Place = record { layout = c.args.layout; path = [] } in
    let mid = c.has_places.new.self in
    places_done c.args.batch.now mid (record mid { places = c.root-rooted.new.self }) (On c.args.columns.now.on) c.args.to
    (λ k held. HoldsPlace mid.places.stores held (Some root)) (λ now. c.args.layout) (λ seen now. Some root) _ (λ seen now. does-Root seen c.args.to c.args.layout now)
    c.has_places.ensures.keeps (record { kept = λ lacks. lacks; regs = refl; vars = refl; moments = refl; stores = c.root-rooted.ensures.stores }) (λ lacks. c.if-not-rooted.ensures.put refl)
    (λ k held stores state at moment now small holds sees moved. subst (λ (ss : List StoreWords). HoldsPlace ss held (Some root)) moved.stores_are holds)
