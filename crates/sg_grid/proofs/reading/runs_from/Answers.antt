use Rattle.std.proofs.Common.{◌+◌, ◌-◌, List, ◌++◌, ◌∷◌, [], ◌∙◌, ap, sym, subst, arith}
use Rattle.std.specs.List.{All}
use Rattle.std.proofs.lemmas.List.Elements.{All-push}
use Rattle.sg_coord.specs.Bounds.{bounds_of}
use Rattle.sg_grid.specs.declared.grid.GridRun.{GridRun}
use Rattle.sg_grid.specs.declared.grid.LineStart.{LineStart}
use Rattle.sg_grid.specs.Reading.{IsRunInside, runs_from}
use Rattle.sg_grid.specs.steps.Finding.{with_runs}
use Rattle.sg_grid.proofs.Turns.{line_turn}
use Rattle.sg_grid.proofs.reading.runs_from.Goals as goal

pub loop-turn-preserved : goal.loop-turn-preserved
loop-turn-preserved c =
    let bounds = bounds_of c.args.extents.now in
    let old = c.loop-turn.start in
    let run = c.in-Ok.run' in
    let next = c.after_run-start.ensures in
    let left = c.args.count - (c.loop-turn._turn + 1) in
    record {
      few = omega (arith, ap (λ (s : LineStart). s.rows) next, c.in-Ok.ensures.few);
      line = omega (arith, ap (λ (s : LineStart). s.line) next, c.loop-turn.invariant.line);
      inside = subst (λ (runs : List GridRun). All (IsRunInside bounds) runs) (sym c.in_ok-push-in-Ok.ensures.ok)
          (All-push (IsRunInside bounds) c.loop-turn.runs run c.loop-turn.invariant.inside c.in-Ok.ensures.inside);
      read = ap (λ (runs : List GridRun). with_runs runs (runs_from c.args.version bounds c.args.ty left c.after_run-start.result c.in-Ok.rest.now)) c.in_ok-push-in-Ok.ensures.ok
          ∙ ap (λ (s : LineStart). with_runs (c.loop-turn.runs ++ run ∷ []) (runs_from c.args.version bounds c.args.ty left s c.in-Ok.rest.now)) next
          ∙ line_turn c.args.version bounds c.args.ty c.args.count c.loop-turn._turn old c.loop-turn.runs c.loop-turn.left.now c.in-Ok.rest.now run (omega arith) c.in-Ok.ensures.value
          ∙ c.loop-turn.invariant.read;
    }
