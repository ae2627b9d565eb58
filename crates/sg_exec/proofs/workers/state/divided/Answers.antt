use Rattle.std.proofs.Common.{refl, ◌/◌}
use Rattle.sg_exec.proofs.Halves.{shares_left, shares_right}
use Rattle.sg_exec.proofs.workers.state.divided.Goals as goal

pub returns-clause-shares : goal.returns-clause-shares
returns-clause-shares c = (
  shares_left c.args.accumulated.now c.args.hand.seats.items c.split_all.new.seats.items c.in_ok-others.others.items c.args.share (c.args.share / 2) refl c.requires.seats c.split_all.ensures.seats c.in_ok-others.ensures.others c.in_ok-others.ensures.split c.requires.shares,
  shares_right c.args.accumulated.now c.args.hand.seats.items c.split_all.new.seats.items c.in_ok-others.others.items c.args.share (c.args.share / 2) refl c.requires.seats c.split_all.ensures.seats c.in_ok-others.ensures.others c.in_ok-others.ensures.split c.requires.shares,
)
