use Rattle.std.proofs.Common.{◌≡◌, List, length, refl, ap, sym, ◌∙◌, subst, arith}
use Rattle.std.specs.Vec.{with_items}
use Rattle.sg_exec.specs.declared.lanes.moment.Moment.{Moment}
use Rattle.sg_exec.specs.steps.Accessing.{AreCellsOver}
use Rattle.sg_exec.specs.steps.Rows.{On}
use Rattle.sg_exec.proofs.PlacesMoved.{over_kept}
use Rattle.sg_exec.proofs.RowsMoved.{whole_items}
use Rattle.sg_exec.proofs.ValuesRead.{own_values_done}
use Rattle.sg_exec.proofs.lanes.memory.own_reads.Goals as goal

pub put_own_values-requires : goal.put_own_values-requires
put_own_values-requires c = record {
  room = omega (arith, c.requires.room, ap length c.as_mut_slice.ensures.value, ap (λ ms. length ms.items) c.has_regs.ensures.keeps.moments);
  to = omega (arith, ap length c.as_mut_slice-then-has_regs.ensures.value, c.if-has_regs.ensures.a refl);
  over = subst (λ (moments : List Moment). AreCellsOver c.has_regs.new.self.places.stores moments) (sym c.as_mut_slice.ensures.value) (over_kept c.args.batch.now c.has_regs.new.self c.has_regs.ensures.keeps c.requires.over);
}

pub returns-then-has_regs : goal.returns-then-has_regs
returns-then-has_regs c =
    let mid = c.has_regs.new.self in
    let put = c.put_own_values.ensures in
    let regs : (with_items mid.regs c.put_own_values.new.regs).items ≡ c.put_own_values.new.regs =
    whole_items mid.regs.len c.put_own_values.new.regs mid.regs.items (omega (arith, put.put.long, ap length c.as_mut_slice-then-has_regs.ensures.value, mid.regs.ok.0)) (omega (arith, mid.regs.ok.0)) in
    let moments : (with_items mid.moments c.put_own_values.new.moments).items ≡ mid.moments.items =
    whole_items mid.moments.len c.put_own_values.new.moments mid.moments.items (omega (arith, ap length put.same, ap length c.as_mut_slice.ensures.value, mid.moments.ok.0)) (omega (arith, mid.moments.ok.0))
    ∙ put.same ∙ c.as_mut_slice.ensures.value in
    own_values_done c.args.batch.now mid (record mid { regs = with_items mid.regs c.put_own_values.new.regs; moments = with_items mid.moments c.put_own_values.new.moments }) c.as_mut_slice-then-has_regs.result.now c.put_own_values.new.regs
    c.as_mut_slice.result.now (On c.args.columns.now.on) c.args.to c.args.layout c.args.field c.has_regs.ensures.keeps (record { lacks = refl; vars = refl; places = refl; moments = moments })
    c.as_mut_slice-then-has_regs.ensures.value regs c.as_mut_slice.ensures.value put.put
