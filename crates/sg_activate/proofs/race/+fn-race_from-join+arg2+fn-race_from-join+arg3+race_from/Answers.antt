use Rattle.std.proofs.Common.{◌≡◌, ℕ, ◌+◌, ◌-◌, subst, arith}
use Rattle.std.specs.Prelude.{OnOk}
use Rattle.sg_activate.specs.steps.Racing.{HaveDone}
use Rattle.sg_activate.proofs.Raced.{done_one, done_halves}
use Rattle.sg_activate.proofs.race.+fn-race_from-join+arg2+fn-race_from-join+arg3+race_from.Goals as goal

pub returns-then-team-clause-done : goal.returns-then-team-clause-done
returns-then-team-clause-done g t c = done_one (g.P.Race.HasDone c.args.on.now) c.args.team.from (c.args.team.from + c.args.team.count) c.part_apart.result.seat c.part_apart.result.done (omega arith) c.part_apart.ensures.done

pub returns-then-team-lt2-clause-done : goal.returns-then-team-lt2-clause-done
returns-then-team-lt2-clause-done g t c = done_one (g.P.Race.HasDone c.args.on.now) c.args.team.from (c.args.team.from + c.args.team.count) c.part.result.seat c.part.result.done (omega arith) c.part.ensures.done

pub returns-clause-done : goal.returns-clause-done
returns-clause-done g t c =
    let mid = c.args.team.from + (c.args.team.count - c.rest_of-rest.result) in
    let end : mid + c.rest_of-rest.result ≡ c.args.team.from + c.args.team.count = omega (arith, c.rest_of-rest.ensures.less, c.rest_of-rest.ensures.some) in
    subst (λ (to : ℕ). OnOk c.joined.result.done (HaveDone (g.P.Race.HasDone c.args.on.now) c.args.team.from to c.joined.result.seat)) end
    (done_halves (g.P.Race.HasDone c.args.on.now) c.args.team.from mid (mid + c.rest_of-rest.result) c.join-mine.result.0.seat c.join-mine.result.1.seat c.joined.result.seat c.join-mine.result.0.done c.join-mine.result.1.done c.joined.result.done
    c.joined.ensures.mine c.joined.ensures.theirs c.join-mine.ensures.first.2 c.join-mine.ensures.second.2 c.joined.ensures.stays c.joined.ensures.others)
