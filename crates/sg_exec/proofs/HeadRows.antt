-- Rows among those of runs, and the writes of one run more.
use Rattle.std.proofs.Common.{◌≡◌, ℕ, zero, suc, ◌+◌, ◌<◌, List, [], ◌∷◌, ◌++◌, length, take, get_or, sym, ap, ◌∙◌, subst, arith, append-nil}
use Rattle.std.specs.Prelude.{All, Contains}
use Rattle.std.proofs.lemmas.List.{take_more}
use Rattle.std.proofs.lemmas.List.Concat.{flat_map-append}
use Rattle.std.proofs.lemmas.List.Elements.{All-push, Contains-append_left, Contains-append_right, Contains-get_or}
use Rattle.std.proofs.lemmas.List.FromFn.{length-map-range_with_len, get_or-map-range_with_len}
use Rattle.sg_coord.specs.declared.coord.Coord.{Coord}
use Rattle.sg_flat.specs.declared.effects.Way.TheVariants.{Own}
use Rattle.sg_flat.specs.declared.effects.Write.{Write}
use Rattle.sg_exec.specs.declared.loads.row_run.RowRun.{RowRun}
use Rattle.sg_exec.specs.Runs.{along, run_write, run_writes, writes_of_runs}

run_has : (layout place : ℕ) (run : RowRun) (k : ℕ) → k < run.len → Contains (run_writes layout place run) (run_write layout place run k)
run_has layout place run k low =
    subst (λ (write : Write). Contains (run_writes layout place run) write)
    (get_or-map-range_with_len (run_write layout place run) 0 run.len k k (run_write layout place run k) low (omega arith))
    (Contains-get_or (run_writes layout place run) k (run_write layout place run k) (omega (arith, low, length-map-range_with_len (run_write layout place run) 0 run.len)))

pub runs_have : (layout place : ℕ) (runs : List RowRun) (i : ℕ) (d : RowRun) (k : ℕ) → i < length runs → k < (get_or runs i d).len
    → Contains (writes_of_runs layout place runs) (run_write layout place (get_or runs i d) k)
runs_have layout place [] i d k low below = absurd (omega (arith, low))
runs_have layout place (run ∷ runs) zero d k low below = Contains-append_left (run_writes layout place run) (writes_of_runs layout place runs) (run_write layout place run k) (run_has layout place run k below)
runs_have layout place (run ∷ runs) (suc i) d k low below =
    Contains-append_right (run_writes layout place run) (writes_of_runs layout place runs) (run_write layout place (get_or runs i d) k) (runs_have layout place runs i d k (omega (arith, low)) below)

-- one head more
pub head_pushed : (rows heads now : List Write) (layout place : ℕ) (run : RowRun) (k : ℕ) (at : Coord) → at ≡ along k run.at
    → now ≡ heads ++ record { layout = layout; place = place; stmt = 0; at = at; way = Own; value = run.word } ∷ []
    → Contains rows (run_write layout place run k) → All (Contains rows) heads → All (Contains rows) now
head_pushed rows heads now layout place run k at is_at pushed has all =
    let head : Coord → Write = λ x. record { layout = layout; place = place; stmt = 0; at = x; way = Own; value = run.word } in
    subst (λ (writes : List Write). All (Contains rows) writes) (sym pushed)
    (All-push (Contains rows) heads (head at) all (subst (λ (x : Coord). Contains rows (head x)) (sym is_at) has))

-- the writes of one run more
pub runs_next : (layout place : ℕ) (runs : List RowRun) (i : ℕ) (d : RowRun) → i < length runs
    → writes_of_runs layout place (take (i + 1) runs) ≡ writes_of_runs layout place (take i runs) ++ run_writes layout place (get_or runs i d)
runs_next layout place runs i d low =
    ap (writes_of_runs layout place) (take_more runs i d low)
    ∙ flat_map-append (run_writes layout place) (take i runs) (get_or runs i d ∷ [])
    ∙ ap (λ (writes : List Write). writes_of_runs layout place (take i runs) ++ writes) (append-nil (run_writes layout place (get_or runs i d)))
