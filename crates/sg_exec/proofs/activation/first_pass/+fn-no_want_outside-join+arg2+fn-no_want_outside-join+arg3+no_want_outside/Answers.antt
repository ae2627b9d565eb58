use Rattle.std.proofs.Common.{◌+◌, ◌-◌, ◌/◌, ◌≤◌, Bool, Result, map, sym, subst, arith}
use Rattle.sg_words.specs.declared.memory.Stop.{Stop}
use Rattle.sg_flat.specs.declared.effects.RunFault.{RunFault}
use Rattle.sg_exec.specs.steps.Moments.{slice_turn}
use Rattle.sg_exec.specs.steps.Racing.{between}
use Rattle.sg_exec.specs.steps.Turning.{TellsOutside}
use Rattle.sg_exec.proofs.Ranges.{between_left, between_right}
use Rattle.sg_exec.proofs.Turning.{told_left, told_right, named_left, named_right}
use Rattle.sg_exec.proofs.activation.first_pass.+fn-no_want_outside-join+arg2+fn-no_want_outside-join+arg3+no_want_outside.Goals as goal

pub returns-in-Ok : goal.returns-in-Ok
returns-in-Ok g t c = λ state sees named.
    let view = c.args.stores.now.list in
    let block = c.args.block.now in
    let from = c.args.from in
    let to = c.args.to in
    let mid = from + (to - from) / 2 in
    let points = between from to c.args.points.now in
    let left = between from mid c.args.points.now in
    let right = between mid to c.args.points.now in
    let above : from ≤ mid = omega arith in
    let below : mid ≤ to = omega (arith, c.requires.order) in
    let is_left = between_left from mid to c.args.points.now below in
    let is_right = between_right from mid to c.args.points.now above below in
    subst (λ (r : Result Bool (Stop RunFault)). TellsOutside view (map (slice_turn view state block) points) r) (sym c.in_both.ensures)
    (told_right view (slice_turn view state block) points left right (mid - from) c.in-Ok.active c.join-first.result.1 is_left is_right
    (rw c.in-Ok.is at (c.join-first.ensures.first state sees (named_left view state block points left (mid - from) is_left named)))
    (c.join-first.ensures.second state sees (named_right view state block points right (mid - from) is_right named)))

pub returns-in-Err : goal.returns-in-Err
returns-in-Err g t c = λ state sees named.
    let view = c.args.stores.now.list in
    let block = c.args.block.now in
    let from = c.args.from in
    let to = c.args.to in
    let mid = from + (to - from) / 2 in
    let points = between from to c.args.points.now in
    let left = between from mid c.args.points.now in
    let right = between mid to c.args.points.now in
    let above : from ≤ mid = omega arith in
    let below : mid ≤ to = omega (arith, c.requires.order) in
    let is_left = between_left from mid to c.args.points.now below in
    told_left view (slice_turn view state block) points left right (mid - from) c.in-Err.why is_left (between_right from mid to c.args.points.now above below)
    (rw c.in-Err.is at (c.join-first.ensures.first state sees (named_left view state block points left (mid - from) is_left named)))
