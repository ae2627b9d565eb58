use Rattle.std.proofs.Common.{◌≡◌, ◌++◌, ◌-◌}
use Rattle.std.specs.List.{repeat}
use Rattle.sg_session.proofs.compiled.push_turns.Given as goal

abbrev pub invariant-loop-turn : goal.invariant-loop-turn
invariant-loop-turn l = l.tasks ++ repeat (l.number - l.turn) l.repeated ≡ l.initial.tasks ++ repeat l.number l.repeated
