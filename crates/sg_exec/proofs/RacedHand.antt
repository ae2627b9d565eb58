-- A hand after all iterations of a run.
use Rattle.std.proofs.Common.{◌≡◌, ℕ, ◌+◌, ◌-◌, ◌≤◌, List, [], map, length, take, Result, Ok, Err, sym, ap, ◌∙◌, subst, arith}
use Rattle.std.specs.Prelude.{◌++◌, Contains, IfOk}
use Rattle.std.specs.List.{flat_map}
use Rattle.std.proofs.lemmas.List.{take_all}
use Rattle.sg_words.specs.declared.memory.Memory.{Memory}
use Rattle.sg_coord.specs.declared.coord.Coord.{Coord}
use Rattle.sg_coord.specs.Slices.{slice_start, IsPartition}
use Rattle.sg_flat.specs.declared.effects.Write.{Write}
use Rattle.sg_accum.specs.declared.seat.AccSeat.{AccSeat}
use Rattle.sg_store.specs.StoreWords.{StoreWords}
use Rattle.sg_ir.specs.declared.code.Inst.{Inst}
use Rattle.sg_ir.specs.Apt.{uses_in}
use Rattle.sg_exec.specs.declared.results.shared.Accumulated.{Accumulated}
use Rattle.sg_exec.specs.declared.results.shared.Owned.{Owned}
use Rattle.sg_exec.specs.declared.workers.state.Hand.{Hand}
use Rattle.sg_exec.specs.steps.Machines.{AreCells}
use Rattle.sg_exec.specs.steps.Landing.{Lands}
use Rattle.sg_exec.specs.declared.lanes.cell_write.CellWrite.{CellWrite}
use Rattle.sg_exec.specs.steps.Racing.{between, last_own, wrote, AreSeats, HaveShares}
use Rattle.sg_exec.specs.steps.Passes.{HaveFields, AreGiven, passed}
use Rattle.sg_exec.specs.steps.Working.{HasRunAt, HasRaced}
use Rattle.sg_exec.specs.steps.Puts.{kept_writes}
use Rattle.sg_exec.proofs.CellsLanded.{landings_are}
use Rattle.sg_exec.proofs.PassesLanded.{turns_writes}
use Rattle.sg_exec.proofs.PutsUsed.{kept_used}
use Rattle.sg_exec.proofs.RacedRun.{are_whole, gave_reached, are_given, puts_are, raced_lands, turn_is, turn_used, turn_own}

-- the first seats have all shares
pub all_shares : (stores : List StoreWords) (code : List Inst) (accumulated : List Accumulated) (seats : List AccSeat) (owned : List Owned) (workers : ℕ) → HaveFields stores (uses_in code) accumulated seats owned → workers ≤ 16 → HaveShares workers seats
all_shares stores code accumulated seats owned workers have few = λ k seat at. subst (λ (share : ℕ). workers ≤ share) (sym (have.new k seat at).share_is) few

-- the points of all workers
all_points : (points : List Coord) (workers : ℕ) → IsPartition (length points) workers → between (slice_start (length points) workers 0) (slice_start (length points) workers (0 + workers)) points ≡ points
all_points points workers parts =
    let zero_plus : 0 + workers ≡ workers = omega arith in
    let none : length points - 0 ≡ length points = omega arith in
    ap (λ (n : ℕ). between (slice_start (length points) workers 0) (slice_start (length points) workers n) points) zero_plus
    ∙ ap (λ (n : ℕ). between n (slice_start (length points) workers workers) points) parts.first
    ∙ ap (λ (n : ℕ). between 0 n points) parts.last
    ∙ ap (λ (n : ℕ). take n points) none
    ∙ take_all (length points) points (omega arith)

module _ (stores : List StoreWords) (code : List Inst) (points : List Coord) (accumulated : List Accumulated) (owned : List Owned) (workers : ℕ) (old : Hand) (have : HaveFields stores (uses_in code) accumulated old.seats.items owned) (none : (kept_writes old.puts) ≡ [])
    (parts : IsPartition (length points) workers) where
  raced : (after : Hand) → AreSeats accumulated after.seats.items → AreCells stores (kept_writes after.puts)
      → HasRunAt stores code points (between (slice_start (length points) workers 0) (slice_start (length points) workers (0 + workers)) points) accumulated owned old after → HasRaced stores code points accumulated after
  raced after seats cells ran = record {
    seats = seats;
    cells = cells;
    used = λ write has. kept_used (uses_in code) owned ran.turns have.own_used write
        (subst (λ (ws : List CellWrite). Contains ws write) (ran.worked.puts ∙ ap (λ (ws : List CellWrite). ws ++ flat_map (last_own owned) ran.turns) none) has);
    whole = are_whole stores (uses_in code) accumulated owned _ _ old after have seats ran;
    reached = gave_reached stores (uses_in code) accumulated owned _ _ old after have seats ran;
    turns = λ one_way state sees named turn are.
        let turns_are : ran.turns ≡ map (wrote stores state code) points = ran.are state (sees, named) ∙ ap (map (wrote stores state code)) (all_points points workers parts) in
        let whole = turns_writes turn points in
        let given = are_given stores (uses_in code) accumulated owned _ _ old after have seats ran one_way (λ (at : Coord). (turn at).writes) points (wrote stores state code) turns_are
        (λ at has. landings_are stores _ (turn at).writes (turn_is stores state code points turn are at has)) (turn_used stores state code points turn are) (turn_own stores state code points turn are) in
        let puts = puts_are stores (uses_in code) accumulated owned _ _ old after have seats ran one_way (λ (at : Coord). (turn at).writes) points (wrote stores state code) turns_are
        (λ at has. landings_are stores _ (turn at).writes (turn_is stores state code points turn are at has)) (turn_used stores state code points turn are) (turn_own stores state code points turn are) none in
        record {
          given = subst (λ (ws : List Write). AreGiven stores accumulated after.seats.items ws) (sym whole) given;
          lands = λ mids news first second.
              subst (λ (ws : List Write). Lands stores news ws) (sym whole)
              (raced_lands stores (uses_in code) accumulated owned _ _ old after have seats ran one_way (λ (at : Coord). (turn at).writes) points (wrote stores state code) turns_are
              (λ at has. landings_are stores _ (turn at).writes (turn_is stores state code points turn are at has)) (turn_used stores state code points turn are) (turn_own stores state code points turn are)
              mids news (subst (λ (ws : List Write). Lands stores mids (passed accumulated ws)) whole first) (second _ puts));
        };
  }

  pub if_raced : (result : Result Hand Memory) → IfOk result (λ after. AreSeats accumulated after.seats.items) → IfOk result (λ after. AreCells stores (kept_writes after.puts))
      → IfOk result (HasRunAt stores code points (between (slice_start (length points) workers 0) (slice_start (length points) workers (0 + workers)) points) accumulated owned old) → IfOk result (HasRaced stores code points accumulated)
  if_raced (Ok after) seats cells ran = raced after seats cells ran
  if_raced (Err e) seats cells ran = tt
