-- What an activation answers of a store in which turns want something, or nothing.
use Rattle.std.proofs.Common.{◌≡◌, ℕ, Bool, true, false, ◌&&◌, List, [], ◌∷◌, ◌++◌, map, cond, length, Option, Some, None, Result, Ok, Err, refl, sym, ap, ◌∙◌, subst}
use Rattle.std.specs.Prelude.{◌==◌, filter}
use Rattle.sg_coord.specs.declared.coord.Coord.{Coord}
use Rattle.sg_coord.specs.Bounds.{Bounds}
use Rattle.sg_coord.specs.Coord.{is_inside}
use Rattle.sg_layout.specs.declared.shape.Shape.{Shape}
use Rattle.sg_layout.specs.Axes.{bounds_of_shape}
use Rattle.sg_layout.specs.Need.{FullNode, first_full}
use Rattle.sg_flat.specs.declared.effects.Write.{Write}
use Rattle.sg_flat.specs.declared.state.FlatLayout.{FlatLayout}
use Rattle.sg_flat.specs.declared.state.FlatState.{FlatState}
use Rattle.sg_flat.specs.Effects.{writes_of}
use Rattle.sg_flat.specs.Kernel.{full_fault}
use Rattle.sg_store.specs.StoreWords.{StoreWords}
use Rattle.sg_store.specs.StandsFor.{StandsFor}
use Rattle.sg_activate.specs.declared.fault.ActFault.{ActFault}
use Rattle.sg_activate.specs.Activating.{unless_full}
use Rattle.sg_ir.specs.declared.code.Inst.{Inst}
use Rattle.sg_ir.specs.Runs.{CodeWant, iteration, iteration_start}
use Rattle.sg_exec.specs.declared.activation.turns.Turns.{Turns}
use Rattle.sg_exec.specs.declared.activation.turns.Turns.TheVariants.{Slice, Rows}
use Rattle.sg_exec.specs.Running.{turn_of}
use Rattle.sg_exec.specs.steps.Machines.{seen_in, want_write}
use Rattle.sg_exec.specs.steps.Moments.{slice_turn}
use Rattle.sg_exec.specs.steps.Turning.{BlockWantsNone, WantsNone, wanted_of, IsMeant, full_layout}
use Rattle.sg_exec.specs.steps.Wants.{reached_layout}
use Rattle.sg_exec.proofs.Turning.{wanted_more}

-- ---- what was answered

none_full : (full : Option FullNode) → unless_full full ≡ Ok tt → full ≡ None
none_full None answer = refl
none_full (Some full) answer = absurd (cc)

pub room_for : (shape : Shape) (flat : FlatLayout) (below wanted : List Coord) → below ≡ wanted → unless_full (first_full shape (flat.active ++ below)) ≡ Ok tt → first_full shape (flat.active ++ wanted) ≡ None
room_for shape flat below wanted same answer =
    none_full (first_full shape (flat.active ++ wanted)) (ap (λ (l : List Coord). unless_full (first_full shape (flat.active ++ l))) (sym same) ∙ answer)

pub stands_with : (shape : Shape) (flat : FlatLayout) (next : StoreWords) (below wanted : List Coord) → below ≡ wanted → StandsFor next (reached_layout shape flat below) → StandsFor next (reached_layout shape flat wanted)
stands_with shape flat next below wanted same stands = subst (λ (l : List Coord). StandsFor next (reached_layout shape flat l)) same stands

abbrev fault_or : Result Unit ActFault → ActFault → ActFault
fault_or (Ok done) other = other
fault_or (Err found) other = found

fault_of : (layout : ℕ) (full : Option FullNode) (found : ActFault) → unless_full full ≡ Err found → full_fault layout full ≡ Some (full_layout layout found)
fault_of layout None found answer = absurd (cc)
fault_of layout (Some full) found answer = ap (λ (r : Result Unit ActFault). Some (full_layout layout (fault_or r found))) answer

pub no_room_for : (number layout : ℕ) (shape : Shape) (flat : FlatLayout) (below wanted : List Coord) (found : ActFault) → layout ≡ number → below ≡ wanted → unless_full (first_full shape (flat.active ++ below)) ≡ Err found
    → full_fault number (first_full shape (flat.active ++ wanted)) ≡ Some (full_layout layout found)
no_room_for number layout shape flat below wanted found same_number same answer =
    ap (λ (n : ℕ). full_fault n (first_full shape (flat.active ++ wanted))) (sym same_number)
    ∙ fault_of layout (first_full shape (flat.active ++ wanted)) found (ap (λ (l : List Coord). unless_full (first_full shape (flat.active ++ l))) (sym same) ∙ answer)

-- ---- nothing is wanted

module _ (bounds : Bounds) (layout : ℕ) where
  want_dropped : (want : CodeWant) (wants : List CodeWant) (rest : List Write) (test : Bool) → cond test (want ∷ wants) wants ≡ []
      → map (λ (w : Write). w.at) (cond (test && is_inside bounds want.at) (want_write want ∷ rest) rest) ≡ map (λ (w : Write). w.at) rest
  want_dropped want wants rest true none = absurd (cc)
  want_dropped want wants rest false none = refl

  rest_none : (want : CodeWant) (wants : List CodeWant) (test : Bool) → cond test (want ∷ wants) wants ≡ [] → wants ≡ []
  rest_none want wants true none = absurd (cc)
  rest_none want wants false none = none

  wants_none : (wants : List CodeWant) → filter (λ (want : CodeWant). want.layout == layout) wants ≡ [] → wanted_of bounds layout (map want_write wants) ≡ []
  wants_none [] none = refl
  wants_none (want ∷ wants) none =
      want_dropped want (filter (λ (w : CodeWant). w.layout == layout) wants) (filter (λ (w : Write). (w.layout == layout) && is_inside bounds w.at) (map want_write wants)) (want.layout == layout) none
      ∙ wants_none wants (rest_none want (filter (λ (w : CodeWant). w.layout == layout) wants) (want.layout == layout) none)

  slice_none : (stores : List StoreWords) (state : FlatState) (block : List Inst) (points : List Coord) → BlockWantsNone layout block → wanted_of bounds layout (writes_of (map (slice_turn stores state block) points)) ≡ []
  slice_none stores state block [] none = refl
  slice_none stores state block (point ∷ points) none =
      let wants = (iteration (seen_in stores state point) block).wants in
      wanted_more bounds layout (map want_write wants) (writes_of (map (slice_turn stores state block) points))
      ∙ ap (λ (l : List Coord). l ++ wanted_of bounds layout (writes_of (map (slice_turn stores state block) points)))
      (wants_none wants (none (seen_in stores state point) (iteration_start (seen_in stores state point))))
      ∙ slice_none stores state block points none

  row_dropped : (row : Write) (rows rest : List Write) (test : Bool) → cond test (row ∷ rows) rows ≡ []
      → map (λ (w : Write). w.at) (cond (test && is_inside bounds row.at) (row ∷ rest) rest) ≡ map (λ (w : Write). w.at) rest
  row_dropped row rows rest true none = absurd (cc)
  row_dropped row rows rest false none = refl

  rows_left : (row : Write) (rows : List Write) (test : Bool) → cond test (row ∷ rows) rows ≡ [] → rows ≡ []
  rows_left row rows true none = absurd (cc)
  rows_left row rows false none = none

  rows_none : (rows : List Write) → filter (λ (row : Write). row.layout == layout) rows ≡ [] → wanted_of bounds layout (writes_of (map turn_of rows)) ≡ []
  rows_none [] none = refl
  rows_none (row ∷ rows) none =
      row_dropped row (filter (λ (w : Write). w.layout == layout) rows) (filter (λ (w : Write). (w.layout == layout) && is_inside bounds w.at) (writes_of (map turn_of rows))) (row.layout == layout) none
      ∙ rows_none rows (rows_left row (filter (λ (w : Write). w.layout == layout) rows) (row.layout == layout) none)

pub none_wanted : (stores : List StoreWords) (turns : Turns) (number : ℕ) (store : StoreWords) (wanted : List Coord) → WantsNone turns number → IsMeant stores turns number store wanted → length wanted ≡ 0
none_wanted stores (Slice points block) number store wanted none meant =
    ap length (meant.list ∙ slice_none (bounds_of_shape store.shape) number stores meant.state block.now points.now none)
none_wanted stores (Rows rows) number store wanted none meant =
    ap length (meant.list ∙ rows_none (bounds_of_shape store.shape) number rows.now none)
