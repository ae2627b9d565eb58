-- Iterations that ran ahead of their pieces.
use Rattle.std.proofs.Common.{◌≡◌, ℕ, ◌+◌, ◌<◌, ◌≤◌, List, length, take, drop, Some, ap, subst, ◌∙◌, arith}
use Rattle.std.specs.Prelude.{slice_get}
use Rattle.std.proofs.lemmas.Option.{get_or_from_slice_get}
use Rattle.sg_coord.specs.declared.coord.Coord.{Coord}
use Rattle.sg_flat.specs.declared.state.FlatState.{FlatState}
use Rattle.sg_store.specs.StoreWords.{StoreWords}
use Rattle.sg_ir.specs.declared.code.Inst.{Inst}
use Rattle.sg_exec.specs.declared.activation.ahead.Ahead.{Ahead}
use Rattle.sg_exec.specs.declared.lanes.batch.Batch.{Batch}
use Rattle.sg_exec.specs.declared.activation.turns.Turns.{Turns}
use Rattle.sg_exec.specs.declared.activation.turns.Turns.TheVariants.{Slice, Rows}
use Rattle.sg_exec.specs.steps.Machines.{Sees}
use Rattle.sg_exec.specs.steps.Moments.{IsOver, Iterated}
use Rattle.sg_exec.specs.steps.Turning.{IsColumnOf, MayRun}
use Rattle.sg_exec.proofs.Iterations.{point_in}

-- none has run yet
pub none_ahead : (stores : List StoreWords) (turns : Turns) (ahead : Ahead) → ahead.count ≡ 0 → IsOver stores ahead.batch → MayRun stores turns ahead
none_ahead stores (Slice points block) ahead none over = record {
  over = over;
  each = λ k below. absurd (omega (arith, below, none));
}
none_ahead stores (Rows rows) ahead none over = tt

-- the block has run at the points from a number on, which are in a row
pub columns_of : (stores : List StoreWords) (points row : List Coord) (block : List Inst) (batch : Batch) (first count : ℕ) → row ≡ take count (drop first points) → count ≤ 32 → first + count ≤ length points
    → ((state : FlatState) → Sees stores state → (k : ℕ) (at : Coord) → slice_get row k ≡ Some at → Iterated stores state at block batch k)
    → (k : ℕ) → k < count → IsColumnOf stores points block batch (first + k) k
columns_of stores points row block batch first count is few within ran k low = record {
  few = omega (arith, few, low);
  ran = λ state sees at there.
      let below : first + k < length points = omega (arith, within, low) in
      ran state sees k at (ap (λ (l : List Coord). slice_get l k) is ∙ point_in points first count k at low below ∙ ap Some (get_or_from_slice_get points (first + k) at at there));
}

-- a column is that of the number
pub column_at : (stores : List StoreWords) (points : List Coord) (block : List Inst) (batch : Batch) (first k number : ℕ) → first + k ≡ number → IsColumnOf stores points block batch (first + k) k → IsColumnOf stores points block batch number k
column_at stores points block batch first k number same column = subst (λ (n : ℕ). IsColumnOf stores points block batch n k) same column
