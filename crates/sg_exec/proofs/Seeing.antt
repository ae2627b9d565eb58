-- Stores that stand for a state, and what code does after the activation that it wants.
use Rattle.std.proofs.Common.{◌≡◌, ℕ, zero, suc, true, List, [], ◌∷◌, refl, sym, subst}
use Rattle.std.specs.Prelude.{slice_get, map, All, Contains}
use Rattle.std.specs.List.{AllZip}
use Rattle.sg_coord.specs.declared.coord.Coord.{Coord}
use Rattle.sg_layout.specs.declared.shape.Shape.{Shape}
use Rattle.sg_flat.specs.declared.effects.Turn.{Turn}
use Rattle.sg_flat.specs.declared.state.FlatLayout.{FlatLayout}
use Rattle.sg_flat.specs.declared.state.FlatState.{FlatState}
use Rattle.sg_flat.specs.State.{value_or_zero}
use Rattle.sg_flat.specs.Domain.{is_active}
use Rattle.sg_store.specs.StoreWords.{StoreWords}
use Rattle.sg_store.specs.StandsFor.{StandsFor}
use Rattle.sg_ir.specs.declared.code.Inst.{Inst}
use Rattle.sg_ir.specs.Runs.{Moved, Access, iteration}
use Rattle.sg_ir.specs.Named.{AreNamed}
use Rattle.sg_ir.proofs.Uses.{same_iteration}
use Rattle.sg_exec.specs.Standing.{shapes_of}
use Rattle.sg_exec.specs.Running.{seen_at}
use Rattle.sg_exec.specs.steps.Machines.{Sees, IsAtLoop}
use Rattle.sg_exec.specs.steps.Moments.{AreNamedAt}
use Rattle.sg_exec.specs.steps.Landing.{AreTurnsOf, code_write}
use Rattle.sg_exec.specs.steps.Wants.{reached_layouts}

pub sees_itself : (stores : List StoreWords) (state : FlatState) → AllZip StandsFor stores state.layouts → Sees stores state
sees_itself stores state all = record { stand = all }

same_reached : (k : ℕ) (shapes : List Shape) (flats : List FlatLayout) (turns : List Turn) (i place : ℕ) (at : Coord)
    → value_or_zero (slice_get shapes i) (slice_get (reached_layouts k shapes flats turns) i) place at ≡ value_or_zero (slice_get shapes i) (slice_get flats i) place at
same_reached k [] flats turns i place at = refl
same_reached k (shape ∷ shapes) [] turns i place at = refl
same_reached k (shape ∷ shapes) (flat ∷ flats) turns zero place at = refl
same_reached k (shape ∷ shapes) (flat ∷ flats) turns (suc i) place at = same_reached (suc k) shapes flats turns i place at

-- the state after the activation that turns want: the same values, and more is active
abbrev pub reached_state : List Shape → FlatState → List Turn → FlatState
reached_state shapes state turns = record { layouts = reached_layouts 0 shapes state.layouts turns }

pub sees_reached : (stores mids : List StoreWords) (state : FlatState) (turns : List Turn) → AllZip StandsFor mids (reached_layouts 0 (shapes_of stores) state.layouts turns) → Sees mids (reached_state (shapes_of stores) state turns)
sees_reached stores mids state turns all = record { stand = all }

-- in each layout that code asks, the same is active in both states
abbrev pub AsksTheSame : List Shape → FlatState → FlatState → List Inst → List Coord → Type 0
AsksTheSame shapes state reached block points = (at : Coord) → Contains points at
    → All (λ (access : Access). access.asks ≡ true → (there : Coord) → is_active state access.layout there ≡ is_active reached access.layout there) (iteration (seen_at shapes state at) block).accesses

-- so it does the same in both
pub done_over : (shapes : List Shape) (state : FlatState) (turns : List Turn) (block : List Inst) (points : List Coord)
    → ((at : Coord) → Contains points at → AreNamed shapes (iteration (seen_at shapes state at) block).accesses) → AsksTheSame shapes state (reached_state shapes state turns) block points
    → (at : Coord) → Contains points at → iteration (seen_at shapes state at) block ≡ iteration (seen_at shapes (reached_state shapes state turns) at) block
done_over shapes state turns block points named asks at has =
    same_iteration shapes state (reached_state shapes state turns) at
    (λ layout field there. sym (same_reached 0 shapes state.layouts turns layout field there)) block
    (λ k access below. (named at has k access below, asks at has k access below))

-- what code makes is the same over all stores of the same shapes, and in the state after the activation
pub named_over : (stores mids : List StoreWords) (state : FlatState) (turns : List Turn) (block : List Inst) (points : List Coord) → shapes_of mids ≡ shapes_of stores → AreNamedAt stores state block points
    → AsksTheSame (shapes_of stores) state (reached_state (shapes_of stores) state turns) block points → AreNamedAt mids (reached_state (shapes_of stores) state turns) block points
named_over stores mids state turns block points same named asks =
    subst (λ (shapes : List Shape). (at : Coord) → Contains points at → AreNamed shapes (iteration (seen_at shapes (reached_state (shapes_of stores) state turns) at) block).accesses) (sym same)
    (λ at has. subst (λ (moved : Moved). AreNamed (shapes_of stores) moved.accesses) (done_over (shapes_of stores) state turns block points named asks at has) (named at has))

pub turns_over : (stores mids : List StoreWords) (state : FlatState) (wanted : List Turn) (block : List Inst) (points : List Coord) (turn : Coord → Turn) → shapes_of mids ≡ shapes_of stores → AreNamedAt stores state block points
    → AsksTheSame (shapes_of stores) state (reached_state (shapes_of stores) state wanted) block points → AreTurnsOf stores state block points turn
    → AreTurnsOf mids (reached_state (shapes_of stores) state wanted) block points turn
turns_over stores mids state wanted block points turn same named asks turns =
    subst (λ (shapes : List Shape). (at : Coord) → Contains points at → All (IsAtLoop at) (iteration (seen_at shapes (reached_state (shapes_of stores) state wanted) at) block).writes
    → (iteration (seen_at shapes (reached_state (shapes_of stores) state wanted) at) block).writes ≡ map (code_write shapes) (turn at).writes) (sym same)
    (λ at has. subst (λ (moved : Moved). All (IsAtLoop at) moved.writes → moved.writes ≡ map (code_write (shapes_of stores)) (turn at).writes)
    (done_over (shapes_of stores) state wanted block points named asks at has) (turns at has))
