use Rattle.std.proofs.Common.{◌≡◌, ℕ, ◌+◌, ◌-◌, ◌≤◌, map, length, subst, arith}
use Rattle.std.specs.Prelude.{IfOk}
use Rattle.sg_coord.specs.Slices.{slice_start}
use Rattle.sg_flat.specs.declared.state.FlatState.{FlatState}
use Rattle.sg_exec.specs.declared.workers.state.Hand.{Hand}
use Rattle.sg_exec.specs.steps.Landing.{current}
use Rattle.sg_exec.specs.steps.Racing.{wrote, between}
use Rattle.sg_exec.specs.steps.Working.{RunsAt, HasRunAt}
use Rattle.sg_exec.proofs.Halves.{if_first_two, one_worker, joined_run, starts_past, workers_points}
use Rattle.sg_exec.proofs.workers.race.+racing.Goals as goal

pub returns-then-workers-lt2-clause-ran : goal.returns-then-workers-lt2-clause-ran
returns-then-workers-lt2-clause-ran g t c =
    let stores = current c.args.reached.now c.args.stores.now.list in
    let points = c.args.points.now in
    one_worker (λ (n : ℕ) (after : Hand). HasRunAt stores c.args.code.now points (between (slice_start (length points) c.args.all c.args.first) (slice_start (length points) c.args.all (c.args.first + n)) points)
    c.args.accumulated.now c.args.owned.now c.args.hand after)
    c.args.workers c.work.result c.requires.some c.if-workers-lt2.true c.work.ensures.ran

pub returns-then-len-first-clause-ran : goal.returns-then-len-first-clause-ran
returns-then-len-first-clause-ran g t c =
    let stores = current c.args.reached.now c.args.stores.now.list in
    let points = c.args.points.now in
    let mid = c.args.first + (c.args.workers - c.rest_of-rest.result) in
    subst (λ (to : ℕ). IfOk c.race.result (HasRunAt stores c.args.code.now points (between (slice_start (length points) c.args.all c.args.first) to points) c.args.accumulated.now c.args.owned.now c.args.hand))
    (starts_past (length points) c.args.all mid (c.args.first + c.args.workers) (omega (arith, c.rest_of-rest.ensures.less, c.rest_of-rest.ensures.some)) (omega (arith, c.rest_of-rest.ensures.less, c.rest_of-rest.ensures.some)) (omega (arith, c.rest_of-rest.ensures.less, c.rest_of-rest.ensures.some))) c.race.ensures.ran

pub both-requires-clause-left : goal.both-requires-clause-left
both-requires-clause-left g t c = if_first_two c.args.accumulated.now (current c.args.reached.now c.args.stores.now.list) _ c.join-left.result.0 c.join-left.ensures.first

pub both-requires-clause-right : goal.both-requires-clause-right
both-requires-clause-right g t c = if_first_two c.args.accumulated.now (current c.args.reached.now c.args.stores.now.list) _ c.join-left.result.1 c.join-left.ensures.second

pub returns-clause-ran : goal.returns-clause-ran
returns-clause-ran g t c =
    let stores = current c.args.reached.now c.args.stores.now.list in
    let code = c.args.code.now in
    let points = c.args.points.now in
    let workers = c.args.all in
    let first = c.args.first in
    let half = c.rest_of-rest.result in
    let mid = first + (c.args.workers - half) in
    let a = slice_start (length points) workers first in
    let b = slice_start (length points) workers mid in
    let d = slice_start (length points) workers (mid + half) in
    let z = slice_start (length points) workers (first + c.args.workers) in
    let whole : mid + half ≡ first + c.args.workers = omega (arith, c.rest_of-rest.ensures.less, c.rest_of-rest.ensures.some) in
    let below : first ≤ mid = omega (arith, c.rest_of-rest.ensures.less, c.rest_of-rest.ensures.some) in
    joined_run (RunsAt stores code points) c.args.accumulated.now c.args.owned.now stores c.args.hand c.in_ok-hand.hand c.in_ok-hand.other
    (λ (state : FlatState). map (wrote stores state code) (between a b points)) (λ (state : FlatState). map (wrote stores state code) (between b d points)) (λ (state : FlatState). map (wrote stores state code) (between a z points))
    c.join-left.result.0 c.join-left.result.1 c.both.result
    (λ state. workers_points (wrote stores state code) points workers first mid half whole below)
    c.in_ok-hand.ensures.divided c.requires.seats c.in_ok-hand.ensures.seats.0 c.in_ok-hand.ensures.seats.1 c.join-left.ensures.first c.join-left.ensures.second c.both.ensures.joined
