use Rattle.std.proofs.Common.{refl}
use Rattle.sg_activate.specs.declared.notes.Notes.{Notes}
use Rattle.sg_activate.proofs.Looking.{grew_added}
use Rattle.sg_activate.proofs.notes.Notes.add.Goals as goal

pub returns-clause-grew : goal.returns-clause-grew
returns-clause-grew c = (grew_added c.args.self.now c.make_room.new.self _ c.args.found c.in_ok-make_room.ensures.grew refl refl c.in_ok-push.ensures.ok refl).0

pub returns-clause-has : goal.returns-clause-has
returns-clause-has c =
    let old = c.make_room.new.self in
    let now : Notes = record { worker = old.worker; axes = old.axes; found = old.found; fresh = c.push.new.self; last = old.last } in
    (grew_added c.args.self.now old now c.args.found c.in_ok-make_room.ensures.grew refl refl c.in_ok-push.ensures.ok refl).1
