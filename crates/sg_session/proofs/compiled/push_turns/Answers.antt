use Rattle.sg_session.proofs.Behind.{repeat_step}
use Rattle.sg_session.proofs.compiled.push_turns.Goals as goal

pub loop-turn-preserved : goal.loop-turn-preserved
loop-turn-preserved c =
    repeat_step c.args.number c.loop-turn.turn c.args.repeated.now c.loop-turn.tasks c.push_all.new.tasks _ c.loop-turn-test.true c.in_ok-push_all.ensures c.loop-turn.invariant
