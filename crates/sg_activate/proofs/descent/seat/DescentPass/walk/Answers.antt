use Rattle.std.proofs.Common.{suc, ◌+◌, ◌≡◌, ◌≤◌, length, sym, subst, arith}
use Rattle.std.specs.Prelude.{MatchOption}
use Rattle.sg_activate.specs.steps.DescentReaching.{offsets_below, place_from, IsOpenAt, IsOpenAbove, IsMissedAt, StandsAt}
use Rattle.sg_activate.proofs.DescentMores.{more-same, more-then}
use Rattle.sg_activate.proofs.DescentSteps.{open_next, walk_begins, walk_opens, walk_stops, grew_not, grew_then}
use Rattle.sg_activate.proofs.descent.seat.DescentPass.walk.Goals as goal

pub loop-index-preserved : goal.loop-index-preserved
loop-index-preserved c =
    let p = c.args.self.now in
    let from = place_from p.start p.base c.args.at in
    let offs = offsets_below p.start p.base c.args.at in
    let before = c.loop-index.invariant in
    let k = c.loop-index.index in
    let u = c.args.seat.now.seat.me.0 in
    let v = c.loop-index.seat.seat.me.0 in
    let w = c.step.new.seat.seat.me.0 in
    let next : suc k ≡ k + 1 = omega arith in
    let answer = subst (λ r. MatchOption r (IsMissedAt w p.levels from offs k) (λ n. StandsAt p.start w p.levels from offs (suc k) n × IsOpenAt w p.levels from offs k)) c.in-Some.is c.step.ensures.answer in
    record {
      own = c.step.ensures.own;
      more = more-then u v w before.more c.step.ensures.more;
      stands = subst (λ n. StandsAt p.start w p.levels from offs n c.in-Some.next) next answer.0;
      above = subst (IsOpenAbove w p.levels from offs) next (open_next p.start p.levels from offs v w k c.step.ensures.more before.above answer.1);
      grew = grew_then p.start p.levels from offs u v w c.step.ensures.more before.grew c.step.ensures.grew;
    }

pub loop-index-init : goal.loop-index-init
loop-index-init c =
    let p = c.args.self.now in
    let from = place_from p.start p.base c.args.at in
    let offs = offsets_below p.start p.base c.args.at in
    let v = c.args.seat.now.seat.me.0 in
    record {
      own = c.requires.own;
      more = more-same v;
      stands = subst (λ n. StandsAt p.start v p.levels from offs 0 n) (sym c.requires.place) (walk_begins p.start p.levels from offs v c.requires.begins.within c.requires.begins.live);
      above = λ j below. absurd (omega arith);
      grew = grew_not p.start p.levels from offs v;
    }

pub returns-in-None-clause-more : goal.returns-in-None-clause-more
returns-in-None-clause-more c = more-then c.args.seat.now.seat.me.0 c.loop-index.seat.seat.me.0 c.step.new.seat.seat.me.0 c.loop-index.invariant.more c.step.ensures.more

pub returns-in-None-clause-walked : goal.returns-in-None-clause-walked
returns-in-None-clause-walked c =
    let p = c.args.self.now in
    let from = place_from p.start p.base c.args.at in
    let offs = offsets_below p.start p.base c.args.at in
    let k = c.loop-index.index in
    let v = c.loop-index.seat.seat.me.0 in
    let w = c.step.new.seat.seat.me.0 in
    let missed = subst (λ r. MatchOption r (IsMissedAt w p.levels from offs k) (λ n. StandsAt p.start w p.levels from offs (suc k) n × IsOpenAt w p.levels from offs k)) c.in-None.is c.step.ensures.answer in
    walk_stops p.start p.levels from offs v w k c.step.ensures.more c.loop-index.invariant.above missed

pub returns-in-None-clause-grew : goal.returns-in-None-clause-grew
returns-in-None-clause-grew c =
    let p = c.args.self.now in
    grew_then p.start p.levels (place_from p.start p.base c.args.at) (offsets_below p.start p.base c.args.at) c.args.seat.now.seat.me.0 c.loop-index.seat.seat.me.0 c.step.new.seat.seat.me.0
    c.step.ensures.more c.loop-index.invariant.grew c.step.ensures.grew

pub returns-clause-walked : goal.returns-clause-walked
returns-clause-walked c =
    let p = c.args.self.now in
    let all : length p.levels ≤ c.loop-index.index = omega arith in
    walk_opens p.start p.levels (place_from p.start p.base c.args.at) (offsets_below p.start p.base c.args.at) c.loop-index.seat.seat.me.0 c.loop-index.index all c.loop-index.invariant.above
