-- The writes of runs are those of their rows, and what is read is seen as writes.
use Rattle.std.proofs.Common.{◌≡◌, ℕ, List, [], ◌∷◌, ◌++◌, map, Result, Ok, Err, refl, sym, ap, ◌∙◌}
use Rattle.std.specs.List.{range_with_len}
use Rattle.std.proofs.lemmas.List.{map-append}
use Rattle.sg_words.specs.Answers.{AnswersAs}
use Rattle.sg_words.specs.Results.{◌>>=◌}
use Rattle.sg_words.specs.declared.memory.Stop.{Stop}
use Rattle.sg_words.specs.declared.memory.Stop.TheVariants as stop
use Rattle.sg_flat.specs.declared.effects.Write.{Write}
use Rattle.sg_grid.specs.declared.grid.GridRow.{GridRow}
use Rattle.sg_grid.specs.declared.grid.GridRun.{GridRun}
use Rattle.sg_grid.specs.Runs.{along, run_rows, rows_of_runs}
use Rattle.sg_exec.specs.Runs.{run_writes, writes_of_runs}
use Rattle.sg_session.specs.Commands.{row_write}
use Rattle.sg_session.specs.steps.LongRuns.{row_run}

map_map : {A B C : Type 0} (g : B → C) (f : A → B) (xs : List A) → map g (map f xs) ≡ map (λ x. g (f x)) xs
map_map g f [] = refl
map_map {A} {B} {C} g f (x ∷ xs) = ap (λ (ys : List C). g (f x) ∷ ys) (map_map g f xs)

one_run : (layout place : ℕ) (run : GridRun) → run_writes layout place (row_run run) ≡ map (row_write layout place) (run_rows run)
one_run layout place run =
    let row : ℕ → GridRow = λ k. record { at = along k run.at; word = run.word } in
    sym (map_map (row_write layout place) row (range_with_len 0 run.len))

pub long_writes : (layout place : ℕ) (runs : List GridRun) → writes_of_runs layout place (map row_run runs) ≡ map (row_write layout place) (rows_of_runs runs)
long_writes layout place [] = refl
long_writes layout place (run ∷ runs) =
    ap (λ (later : List Write). run_writes layout place (row_run run) ++ later) (long_writes layout place runs)
    ∙ ap (λ (first : List Write). first ++ map (row_write layout place) (rows_of_runs runs)) (one_run layout place run)
    ∙ sym (map-append (row_write layout place) (run_rows run) (rows_of_runs runs))

-- what is read is seen by a further view
pub answers_mapped : {A B C E : Type 0} (f : B → C) (view : A → B) (result : Result A (Stop E)) (meaning : Result B E) → AnswersAs view result meaning
    → AnswersAs (λ (a : A). f (view a)) result (meaning >>= (λ (b : B). Ok (f b)))
answers_mapped {A} {B} {C} {E} f view (Ok a) meaning is = ap (λ (m : Result B E). m >>= (λ (b : B). Ok (f b))) is
answers_mapped f view (Err stop.Memory) meaning is = tt
answers_mapped {A} {B} {C} {E} f view (Err (stop.Refused fault)) meaning is = ap (λ (m : Result B E). m >>= (λ (b : B). Ok (f b))) is
