use Rattle.std.proofs.Common.{List, subst, arith}
use Rattle.std.proofs.lemmas.List.{take_all}
use Rattle.std.proofs.lemmas.Option.{slice_get_within}
use Rattle.sg_exec.specs.declared.lanes.cell_write.CellWrite.{CellWrite}
use Rattle.sg_exec.specs.steps.Pending.{HaveTaken}
use Rattle.sg_exec.proofs.Taking.{took_nothing, took_next}
use Rattle.sg_exec.proofs.results.contributions.give_all.Goals as goal

pub returns-then-accumulated-eq0-clause-taken : goal.returns-then-accumulated-eq0-clause-taken
returns-then-accumulated-eq0-clause-taken c = λ k it before old after now is is_before is_old is_after is_now. absurd (omega (arith, slice_get_within c.args.accumulated.now k it is, c.if-accumulated-eq0.true))

pub loop-write-init : goal.loop-write-init
loop-write-init c = record { pending = c.requires.pending; seats = c.requires.seats; taken = took_nothing c.args.accumulated.now c.args.pending.now.items c.args.seats.now.items }

pub loop-write-preserved : goal.loop-write-preserved
loop-write-preserved c = record {
  pending = c.give_one-last.ensures.pending;
  seats = c.give_one-last.ensures.seats;
  taken = took_next c.args.accumulated.now c.args.writes.now c.loop-write.write-index _ c.args.pending.now.items c.args.seats.now.items c.loop-write.pending.items c.loop-write.seats.items c.give_one-last.new.pending.items
      c.give_one-last.new.seats.items (omega arith) c.loop-write.invariant.pending.long c.loop-write.invariant.seats.long c.loop-write.invariant.taken c.give_one-last.ensures.taken;
}

pub returns-clause-taken : goal.returns-clause-taken
returns-clause-taken c =
    subst (λ (writes : List CellWrite). HaveTaken c.args.accumulated.now writes c.args.pending.now.items c.args.seats.now.items c.loop-write.pending.items c.loop-write.seats.items)
    (take_all c.loop-write.write-index c.args.writes.now (omega arith)) c.loop-write.invariant.taken
