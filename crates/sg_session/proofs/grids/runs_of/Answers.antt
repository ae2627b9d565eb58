use Rattle.std.proofs.Common.{map, Ok, subst}
use Rattle.std.specs.Prelude.{IfOk}
use Rattle.std.specs.List.{All}
use Rattle.sg_words.specs.Answers.{AnswersAs}
use Rattle.sg_words.specs.Results.{◌>>=◌}
use Rattle.sg_coord.specs.Bounds.{Bounds, bounds_of}
use Rattle.sg_grid.specs.Reading.{rows_of, IsRunInside}
use Rattle.sg_grid.specs.Runs.{rows_of_runs}
use Rattle.sg_session.specs.Commands.{row_write}
use Rattle.sg_session.proofs.LongLoads.{answers_mapped}
use Rattle.sg_session.proofs.grids.runs_of.Goals as goal

pub returns-clause-rows : goal.returns-clause-rows
returns-clause-rows c =
    let write = row_write c.args.at.layout c.args.at.place in
    subst (λ (bounds : Bounds). AnswersAs (λ grid. map write (rows_of_runs grid.runs)) c.read_grid.result (rows_of bounds c.args.at.ty c.args.bytes.now >>= (λ rows. Ok (map write rows))))
    c.extents_of-extents.ensures
    (answers_mapped (map write) (λ grid. rows_of_runs grid.runs) c.read_grid.result (rows_of (bounds_of c.extents_of-extents.result) c.args.at.ty c.args.bytes.now) c.read_grid.ensures.rows)

pub returns-clause-inside : goal.returns-clause-inside
returns-clause-inside c =
    subst (λ (bounds : Bounds). IfOk c.read_grid.result (λ grid. All (IsRunInside bounds) grid.runs)) c.extents_of-extents.ensures c.read_grid.ensures.inside
