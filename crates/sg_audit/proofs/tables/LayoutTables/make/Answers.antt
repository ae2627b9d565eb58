use Rattle.std.proofs.Common.{sym, subst}
use Rattle.sg_journal.specs.Rooms.{AreRooms}
use Rattle.sg_audit.proofs.Built.{own_next, tables_made}
use Rattle.sg_audit.proofs.tables.LayoutTables.make.Goals as goal

pub loop-index-preserved : goal.loop-index-preserved
loop-index-preserved c =
    own_next c.as_slice-rooms.result.now c.loop-index.index _ c.loop-index.nodes.items c.push.new.self.items c.in_ok-make.field-0 c.parents_of.result c.loop-index-test.true c.in_ok-push.ensures.items c.parents_of.ensures c.in_ok-make.ensures
    c.loop-index.invariant

pub returns : goal.returns
returns c =
    tables_made c.args.layout.now c.as_slice-rooms.result.now c.loop-index.nodes.items c.loop-index.index
    (subst (AreRooms c.args.layout.now) (sym c.as_slice-rooms.ensures) c.in_ok-rooms.ensures) c.loop-index.invariant c.loop-index-test.false
