use Rattle.std.proofs.Common.{◌≡◌, List, length, refl, ap, sym, subst, arith, true}
use Rattle.std.specs.Vec.{with_items}
use Rattle.sg_exec.specs.declared.lanes.batch.Batch.{Batch}
use Rattle.sg_exec.specs.declared.lanes.moment.Moment.{Moment}
use Rattle.sg_exec.specs.steps.Rows.{item_in, On}
use Rattle.sg_exec.specs.steps.Accessing.{own_write_at, AreCellsOver, IsWritten}
use Rattle.sg_exec.proofs.Added.{keep_as, made_as}
use Rattle.sg_exec.proofs.MomentsMoved.{own_writes_done, no_lack}
use Rattle.sg_exec.proofs.PlacesMoved.{over_kept}
use Rattle.sg_exec.proofs.RowsMoved.{whole_items}
use Rattle.sg_exec.proofs.lanes.effects.own_writes.Goals as goal

pub add_own_writes-wrote-requires : goal.add_own_writes-wrote-requires
add_own_writes-wrote-requires c =
    let mid = c.has_regs.new.self in
    record {
      room = omega (arith, c.requires.room, ap length c.as_mut_slice.ensures.value, ap (λ ms. length ms.items) c.has_regs.ensures.keeps.moments);
      from = omega (arith, ap length c.as_slice.ensures.value, c.if-has_regs.ensures.a refl);
      over = subst (λ (moments : List Moment). AreCellsOver mid.places.stores moments) (sym c.as_mut_slice.ensures.value) (over_kept c.args.batch.now mid c.has_regs.ensures.keeps c.requires.over);
    }

pub returns-then-not-wrote : goal.returns-then-not-wrote
returns-then-not-wrote c =
    let mid = c.has_regs.new.self in
    let news = c.add_own_writes-wrote.new.moments in
    let new : Batch = record mid { moments = with_items mid.moments news; lacks = true } in
    let wrote : new.moments.items ≡ news =
    whole_items mid.moments.len news mid.moments.items (omega (arith, c.add_own_writes-wrote.ensures.stores.long, ap length c.as_mut_slice.ensures.value, mid.moments.ok.0)) (omega (arith, mid.moments.ok.0)) in
    own_writes_done c.args.batch.now mid new c.as_slice.result.now (On c.args.columns.now.on) c.args.layout c.args.field c.args.from c.args.stmt c.as_slice.ensures.value c.has_regs.ensures.keeps (record { kept = no_lack; regs = refl; vars = refl; places = refl })
    (keep_as c.as_mut_slice.result.now mid.moments.items news new.moments.items c.as_mut_slice.ensures.value wrote c.add_own_writes-wrote.ensures.stores) no_lack

pub returns-else-not-wrote : goal.returns-else-not-wrote
returns-else-not-wrote c =
    let mid = c.has_regs.new.self in
    let news = c.add_own_writes-wrote.new.moments in
    let new : Batch = record mid { moments = with_items mid.moments news } in
    let wrote : new.moments.items ≡ news =
    whole_items mid.moments.len news mid.moments.items (omega (arith, c.add_own_writes-wrote.ensures.stores.long, ap length c.as_mut_slice.ensures.value, mid.moments.ok.0)) (omega (arith, mid.moments.ok.0)) in
    own_writes_done c.args.batch.now mid new c.as_slice.result.now (On c.args.columns.now.on) c.args.layout c.args.field c.args.from c.args.stmt c.as_slice.ensures.value c.has_regs.ensures.keeps (record { kept = λ lacks. lacks; regs = refl; vars = refl; places = refl })
    (keep_as c.as_mut_slice.result.now mid.moments.items news new.moments.items c.as_mut_slice.ensures.value wrote c.add_own_writes-wrote.ensures.stores) (λ lacks.
    made_as (λ k before. IsWritten (own_write_at c.args.layout c.args.field (item_in c.as_slice.result.now 0 k c.args.from) before) before) (On c.args.columns.now.on) c.as_mut_slice.result.now mid.moments.items news new.moments.items c.as_mut_slice.ensures.value wrote (c.if-not-wrote.ensures.made refl))
