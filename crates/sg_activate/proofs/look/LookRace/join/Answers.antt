use Rattle.std.proofs.Common.{◌+◌}
use Rattle.sg_coord.specs.Slices.{slice_start}
use Rattle.sg_activate.specs.steps.Finding.{found_in}
use Rattle.sg_activate.specs.steps.Looked.{IsNew}
use Rattle.sg_activate.proofs.Looking.{joined_own, joined_left, joined_right, are_known_more}
use Rattle.sg_activate.proofs.look.LookRace.join.Goals as goal

pub returns-in-Ok-clause-own : goal.returns-in-Ok-clause-own
returns-in-Ok-clause-own g c =
    joined_own (IsNew c.args.self.now.store.now (g.W.Wanted.Means c.args.self.now.want.now) (g.W.Wanted.count c.args.self.now.want.now)) c.args.self.now.axes c.args.self.now.workers
    c.args.seat.now.found c.args.other.found c.append.new.self c.in-Ok.ensures c.requires.own c.requires.other

pub returns-in-Ok-clause-stays : goal.returns-in-Ok-clause-stays
returns-in-Ok-clause-stays g c = λ worker known.
    let len = g.W.Wanted.count c.args.self.now.want.now in
    are_known_more c.args.self.now.store.now (g.W.Wanted.Means c.args.self.now.want.now) (slice_start len c.args.self.now.workers worker) (slice_start len c.args.self.now.workers (worker + 1))
    (found_in c.args.self.now.axes c.args.seat.now.found) (found_in c.args.self.now.axes c.append.new.self) (joined_left c.args.self.now.axes c.args.seat.now.found c.args.other.found c.append.new.self c.in-Ok.ensures) known

pub returns-in-Ok-clause-others : goal.returns-in-Ok-clause-others
returns-in-Ok-clause-others g c = λ worker known.
    let len = g.W.Wanted.count c.args.self.now.want.now in
    are_known_more c.args.self.now.store.now (g.W.Wanted.Means c.args.self.now.want.now) (slice_start len c.args.self.now.workers worker) (slice_start len c.args.self.now.workers (worker + 1))
    (found_in c.args.self.now.axes c.args.other.found) (found_in c.args.self.now.axes c.append.new.self) (joined_right c.args.self.now.axes c.args.seat.now.found c.args.other.found c.append.new.self c.in-Ok.ensures) known
