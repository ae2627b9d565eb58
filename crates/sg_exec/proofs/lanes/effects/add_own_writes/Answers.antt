use Rattle.std.proofs.Common.{◌≡◌, List, length, ap, subst, arith}
use Rattle.sg_exec.specs.declared.lanes.moment.Moment.{Moment}
use Rattle.sg_exec.specs.steps.Rows.{item_in, On}
use Rattle.sg_exec.specs.steps.Accessing.{own_write_at, AreMade, IsWritten, KeepStores}
use Rattle.sg_exec.proofs.lanes.effects.add_own_writes.Goals as goal

pub write_all-requires : goal.write_all-requires
write_all-requires c = record { room = omega (arith, c.requires.room, ap length c.find_cells.ensures); from = c.requires.from }

pub returns : goal.returns
returns c = record {
  stores = subst (λ (moments : List Moment). KeepStores moments c.write_all.new.moments) c.find_cells.ensures c.write_all.ensures.stores;
  made = λ told.
      subst (λ (moments : List Moment). AreMade (λ k before. IsWritten (own_write_at c.args.layout c.args.field (item_in c.args.regs.now 0 k c.args.from) before) before) (On c.args.columns.now.on) moments c.write_all.new.moments) c.find_cells.ensures
      (c.write_all.ensures.made told);
}
