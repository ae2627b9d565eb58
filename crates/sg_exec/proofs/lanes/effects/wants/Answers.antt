use Rattle.std.proofs.Common.{◌≡◌, length, refl, ap, arith, true}
use Rattle.std.specs.Vec.{with_items}
use Rattle.sg_exec.specs.declared.lanes.batch.Batch.{Batch}
use Rattle.sg_exec.specs.steps.Accessing.{coord_in, IsWanted}
use Rattle.sg_exec.specs.steps.Rows.{On}
use Rattle.sg_exec.proofs.Added.{keep_as, made_as}
use Rattle.sg_exec.proofs.MomentsMoved.{wants_done, no_lack}
use Rattle.sg_exec.proofs.RowsMoved.{whole_items}
use Rattle.sg_exec.proofs.lanes.effects.wants.Goals as goal

pub returns-then-not-wanted : goal.returns-then-not-wanted
returns-then-not-wanted c =
    let mid = c.args.batch.now in
    let news = c.add_wants-wanted.new.moments in
    let new : Batch = record mid { moments = with_items mid.moments news; lacks = true } in
    let wrote : new.moments.items ≡ news =
    whole_items mid.moments.len news mid.moments.items (omega (arith, c.add_wants-wanted.ensures.stores.long, ap length c.as_mut_slice.ensures.value, mid.moments.ok.0)) (omega (arith, mid.moments.ok.0)) in
    wants_done mid new c.as_slice.result.now (On c.args.columns.now.on) c.args.layout c.args.index.now c.args.stmt c.as_slice.ensures.value (record { kept = no_lack; regs = refl; vars = refl; places = refl })
    (keep_as c.as_mut_slice.result.now mid.moments.items news new.moments.items c.as_mut_slice.ensures.value wrote c.add_wants-wanted.ensures.stores) no_lack

pub returns-else-not-wanted : goal.returns-else-not-wanted
returns-else-not-wanted c =
    let mid = c.args.batch.now in
    let news = c.add_wants-wanted.new.moments in
    let new : Batch = record mid { moments = with_items mid.moments news } in
    let wrote : new.moments.items ≡ news =
    whole_items mid.moments.len news mid.moments.items (omega (arith, c.add_wants-wanted.ensures.stores.long, ap length c.as_mut_slice.ensures.value, mid.moments.ok.0)) (omega (arith, mid.moments.ok.0)) in
    wants_done mid new c.as_slice.result.now (On c.args.columns.now.on) c.args.layout c.args.index.now c.args.stmt c.as_slice.ensures.value (record { kept = λ lacks. lacks; regs = refl; vars = refl; places = refl })
    (keep_as c.as_mut_slice.result.now mid.moments.items news new.moments.items c.as_mut_slice.ensures.value wrote c.add_wants-wanted.ensures.stores) (λ lacks.
    made_as (λ k. IsWanted (record { layout = c.args.layout; stmt = c.args.stmt; at = coord_in c.as_slice.result.now k c.args.index.now })) (On c.args.columns.now.on) c.as_mut_slice.result.now mid.moments.items news new.moments.items c.as_mut_slice.ensures.value wrote (c.if-not-wanted.ensures.made refl))
