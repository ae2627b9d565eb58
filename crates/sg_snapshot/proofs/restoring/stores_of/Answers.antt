use Rattle.std.proofs.Common.{sym}
use Rattle.sg_snapshot.proofs.Fillings.{none_open, one_open}
use Rattle.sg_snapshot.proofs.restoring.stores_of.Goals as goal

pub returns-in-Some : goal.returns-in-Some
returns-in-Some c = one_open c.args.layouts.now c.args.parts.now c.in-Some.fault (rw c.in-Some.is at c.in_ok-fault.ensures)

pub filled-requires : goal.filled-requires
filled-requires c = record { few_words = c.requires.few_words; are = c.requires.are; closed = sym (rw c.in-None.is at c.in_ok-fault.ensures) }

pub returns-in-None : goal.returns-in-None
returns-in-None c = none_open c.args.layouts.now c.args.parts.now c.filled.result (sym (rw c.in-None.is at c.in_ok-fault.ensures)) c.filled.ensures
