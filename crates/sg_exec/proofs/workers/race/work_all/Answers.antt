use Rattle.std.proofs.Common.{◌≡◌, ◌∙◌, ◌+◌, ◌-◌, ◌*◌, List, length, drop, sym, subst, arith}
use Rattle.std.proofs.lemmas.List.{take_all, take-take}
use Rattle.sg_coord.specs.declared.coord.Coord.{Coord}
use Rattle.sg_exec.specs.steps.Landing.{current}
use Rattle.sg_exec.specs.steps.Racing.{wrote, between}
use Rattle.sg_exec.specs.steps.Working.{RunsAt, HasRunAt}
use Rattle.sg_exec.proofs.Iterations.{run_nothing, batch_taken}
use Rattle.sg_exec.proofs.Ranges.{between_long}
use Rattle.sg_exec.proofs.workers.race.work_all.Goals as goal

pub loop-number-init : goal.loop-number-init
loop-number-init g c =
    let stores = current c.args.reached.now c.args.stores.now.list in
    record {
      over = c.requires.over;
      none = c.requires.none;
      seats = c.requires.seats;
      cells = c.requires.cells;
      ran = run_nothing stores c.args.accumulated.now c.args.owned.now (RunsAt stores c.args.code.now c.args.points.now) (λ state. wrote stores state c.args.code.now) (between c.args.from c.args.to c.args.points.now) c.args.hand;
    }

pub loop-number-preserved : goal.loop-number-preserved
loop-number-preserved g c =
    let stores = current c.args.reached.now c.args.stores.now.list in
    let points = c.args.points.now in
    let mine = between c.args.from c.args.to points in
    let rest = drop c.args.from points in
    let far = c.args.to - c.args.from in
    let first = c.loop-number.number * 32 in
    let long : length mine ≡ far = between_long c.args.from c.args.to points c.requires.order c.requires.within in
    record {
      over = c.work_some.ensures.over;
      none = c.in_ok-work_some.ensures.none;
      seats = c.in_ok-work_some.ensures.seats;
      cells = c.in_ok-work_some.ensures.cells;
      ran =
          subst (λ (some : List Coord). HasRunAt stores c.args.code.now points some c.args.accumulated.now c.args.owned.now c.args.hand c.work_some.new.hand)
          (sym (take-take (first + c.min-count.result) far rest (omega (arith, c.min-count.ensures)))
          ∙ batch_taken mine c.loop-number.number c.min-count.result (omega (arith, c.min-count.ensures)) (omega (arith, c.min-count.ensures, long)) (λ short. omega (arith, c.min-count.ensures, short, long)))
          (c.in_ok-work_some.ensures.ran c.args.hand
          (subst (λ (some : List Coord). HasRunAt stores c.args.code.now points some c.args.accumulated.now c.args.owned.now c.args.hand c.loop-number.hand)
          (take-take first far rest (omega (arith, c.min-count.ensures))) c.loop-number.invariant.ran));
    }

pub returns-clause-ran : goal.returns-clause-ran
returns-clause-ran g c =
    let stores = current c.args.reached.now c.args.stores.now.list in
    let long : length (between c.args.from c.args.to c.args.points.now) ≡ c.args.to - c.args.from = between_long c.args.from c.args.to c.args.points.now c.requires.order c.requires.within in
    subst (λ (points : List Coord). HasRunAt stores c.args.code.now c.args.points.now points c.args.accumulated.now c.args.owned.now c.args.hand c.loop-number.hand)
    (take_all (c.loop-number.number * 32) (between c.args.from c.args.to c.args.points.now) (omega (arith, long))) c.loop-number.invariant.ran
