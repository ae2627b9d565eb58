use Rattle.std.proofs.Common.{sym, ◌∙◌}
use Rattle.sparsegrid.proofs.Beginning.{refused_without, left_none, full_end, full_last, full_program}
use Rattle.sparsegrid.proofs.Kept.{holds_none}
use Rattle.sparsegrid.proofs.refuse.refuse_snapshot.Goals as goal

pub returns-then-lacks_room-clause-last : goal.returns-then-lacks_room-clause-last
returns-then-lacks_room-clause-last g c = full_last c.args.compiled c.args.why c.refuse_full.result (sym c.lacks_room.ensures ∙ c.if-lacks_room.true) c.refuse_full.ensures.opened

pub returns-then-lacks_room-clause-end : goal.returns-then-lacks_room-clause-end
returns-then-lacks_room-clause-end g c =
    full_end c.args.compiled.names c.args.name.now c.args.why c.refuse_full.result (sym c.lacks_room.ensures ∙ c.if-lacks_room.true) (rw c.in-Ok.ensures at c.refuse_full.ensures.status) c.refuse_full.ensures.some

pub returns-then-lacks_room-clause-program : goal.returns-then-lacks_room-clause-program
returns-then-lacks_room-clause-program g c = full_program c.args.compiled c.refuse_full.result c.refuse_full.ensures.opened

pub returns-in-Ok-clause-last : goal.returns-in-Ok-clause-last
returns-in-Ok-clause-last g c = left_none _ c.refuse.result c.refuse.ensures.session

pub returns-in-Ok-clause-end : goal.returns-in-Ok-clause-end
returns-in-Ok-clause-end g c =
    refused_without c.args.compiled.names c.args.name.now c.args.why c.refuse.result (sym c.lacks_room.ensures ∙ c.if-lacks_room.false) (rw c.in-Ok.ensures at c.refuse.ensures.status) c.refuse.ensures.session

pub returns-in-Ok-clause-nothing : goal.returns-in-Ok-clause-nothing
returns-in-Ok-clause-nothing g c = holds_none c.refuse.result c.refuse.ensures.session
