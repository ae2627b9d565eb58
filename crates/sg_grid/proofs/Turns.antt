-- The loop over the lines of a grid text: the runs so far, and what is read from the lines that are left.
use Rattle.std.proofs.Common.{◌≡◌, ℕ, suc, ◌+◌, ◌-◌, ◌<◌, List, [], ◌∷◌, ◌++◌, Result, Ok, Err, sym, ap, ◌∙◌, refl, append_assoc, arith}
use Rattle.sg_coord.specs.Bounds.{Bounds}
use Rattle.sg_words.specs.declared.operators.Ty.{Ty}
use Rattle.sg_words.specs.Results.{◌>>=◌}
use Rattle.sg_grid.specs.declared.grid.GridRun.{GridRun}
use Rattle.sg_grid.specs.declared.grid.LineStart.{LineStart}
use Rattle.sg_grid.specs.declared.grid.Version.{Version}
use Rattle.sg_grid.specs.declared.grid.GridFault.{GridFault}
use Rattle.sg_grid.specs.Reading.{run_in, after_run, runs_from}
use Rattle.sg_grid.specs.steps.Finding.{with_runs}

with_more : (runs : List GridRun) (run : GridRun) (rest : Result (List GridRun) GridFault) → with_runs (runs ++ run ∷ []) rest ≡ with_runs runs (with_runs (run ∷ []) rest)
with_more runs run (Ok more) = ap (λ (list : List GridRun). let out : Result (List GridRun) GridFault = Ok list in out) (simp append_assoc)
with_more runs run (Err f) = refl

one_more : (run : GridRun) (rest : Result (List GridRun) GridFault) → (rest >>= (λ runs. Ok (run ∷ runs))) ≡ with_runs (run ∷ []) rest
one_more run (Ok more) = refl
one_more run (Err f) = refl

-- a line with a run: one line less is left
pub line_turn : (version : Version) (bounds : Bounds) (type : Ty) (count turn : ℕ) (start : LineStart) (runs : List GridRun) (left rest : List ℕ) (run : GridRun)
    → turn < count → run_in version bounds type start left ≡ Ok (run, rest)
    → with_runs (runs ++ run ∷ []) (runs_from version bounds type (count - (turn + 1)) (after_run start run) rest)
    ≡ with_runs runs (runs_from version bounds type (count - turn) start left)
line_turn version bounds type count turn start runs left rest run below found =
    let next : ℕ = count - (turn + 1) in
    let more : count - turn ≡ suc next = omega arith in
    let here : runs_from version bounds type (suc next) start left ≡ with_runs (run ∷ []) (runs_from version bounds type next (after_run start run) rest) =
    ap (λ r. r >>= (λ r. runs_from version bounds type next (after_run start r.0) r.1 >>= (λ runs. Ok (r.0 ∷ runs)))) found
    ∙ one_more run (runs_from version bounds type next (after_run start run) rest) in
    with_more runs run (runs_from version bounds type next (after_run start run) rest)
    ∙ sym (ap (with_runs runs) (ap (λ k. runs_from version bounds type k start left) more ∙ here))
