use Rattle.std.proofs.Common.{◌≡◌, length, refl, ap, arith}
use Rattle.std.specs.Vec.{with_items}
use Rattle.sg_exec.specs.steps.Rows.{On}
use Rattle.sg_exec.proofs.PlacesMoved.{keeps_both}
use Rattle.sg_exec.proofs.RowsMoved.{whole_items}
use Rattle.sg_exec.proofs.ValuesRead.{asks_done}
use Rattle.sg_exec.proofs.lanes.memory.asks.Goals as goal

pub returns-then-has_places : goal.returns-then-has_places
returns-then-has_places c =
    let mid = c.has_places.new.self in
    let wrote : (with_items mid.regs c.put_active.new.regs).items ≡ c.put_active.new.regs =
    whole_items mid.regs.len c.put_active.new.regs mid.regs.items (omega (arith, c.put_active.ensures.long, ap length c.as_mut_slice.ensures.value, mid.regs.ok.0)) (omega (arith, mid.regs.ok.0)) in
    asks_done c.args.batch.now mid (record mid { regs = with_items mid.regs c.put_active.new.regs }) c.as_mut_slice.result.now c.put_active.new.regs (On c.args.columns.now.on) c.args.to c.args.place
    c.args.index.now (keeps_both c.args.batch.now c.has_regs.new.self mid c.has_regs.ensures.keeps c.has_places.ensures.keeps) (record { lacks = refl; vars = refl; places = refl; moments = refl }) c.as_mut_slice.ensures.value wrote c.put_active.ensures
