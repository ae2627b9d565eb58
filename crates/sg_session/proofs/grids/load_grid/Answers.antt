use Rattle.std.proofs.Common.{List, sym, ap, ◌∙◌, subst}
use Rattle.std.specs.List.{All}
use Rattle.sg_coord.specs.Bounds.{Bounds}
use Rattle.sg_grid.specs.Reading.{IsRunInside}
use Rattle.sg_flat.specs.declared.effects.Write.{Write}
use Rattle.sg_exec.specs.Runs.{writes_of_runs}
use Rattle.sg_exec.specs.Running.{Ran, load_meaning}
use Rattle.sg_session.proofs.LongLoads.{long_writes}
use Rattle.sg_session.proofs.grids.load_grid.Goals as goal

pub row_runs-requires : goal.row_runs-requires
row_runs-requires g c = subst (λ (bounds : Bounds). All (IsRunInside bounds) c.args.runs.now) (sym c.extents_of-extents.ensures) c.requires.inside

pub writes_of-requires : goal.writes_of-requires
writes_of-requires g c = subst (λ (bounds : Bounds). All (IsRunInside bounds) c.args.runs.now) (sym c.extents_of-extents.ensures) c.requires.inside

pub returns-then-any-clause-answer : goal.returns-then-any-clause-answer
returns-then-any-clause-answer g c = λ state stand.
    let layouts = c.args.compiled.now.layouts in
    let layout = c.args.at.layout in
    let place = c.args.at.place in
    subst (λ (writes : List Write). Ran layouts c.load_long.new.stores.list c.load_long.result (load_meaning layouts state writes))
    (ap (writes_of_runs layout place) (c.as_slice.ensures ∙ c.in_ok-long.ensures.runs) ∙ long_writes layout place c.args.runs.now)
    (c.load_long.ensures.answer state stand)
