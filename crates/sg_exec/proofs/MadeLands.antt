-- What the workers of a run left lands as the run's turns do.
use Rattle.std.proofs.Common.{◌≡◌, ℕ, List, [], map, Result, Ok, Err, sym, ◌∙◌, subst}
use Rattle.std.specs.Prelude.{All, Contains, IfOk, Some, slice_get}
use Rattle.std.proofs.lemmas.List.Elements.{All-contains}
use Rattle.sg_words.specs.declared.memory.Memory.{Memory}
use Rattle.sg_coord.specs.declared.coord.Coord.{Coord}
use Rattle.sg_flat.specs.declared.effects.Turn.{Turn}
use Rattle.sg_flat.specs.declared.effects.Way.TheVariants.{Own, Acc}
use Rattle.sg_flat.specs.declared.effects.Write.{Write}
use Rattle.sg_flat.specs.declared.state.FlatState.{FlatState}
use Rattle.sg_flat.specs.Effects.{writes_of}
use Rattle.sg_store.specs.StoreWords.{StoreWords}
use Rattle.sg_ir.specs.declared.code.Inst.{Inst}
use Rattle.sg_ir.specs.Apt.{Use, Writes, uses_in}
use Rattle.sg_exec.specs.declared.lanes.cell_write.CellWrite.{CellWrite}
use Rattle.sg_exec.specs.declared.workers.state.Hand.{Hand}
use Rattle.sg_exec.specs.declared.results.made.Ended.{Ended}
use Rattle.sg_exec.specs.declared.results.shared.Accumulated.{Accumulated}
use Rattle.sg_exec.specs.declared.results.sums.Sum.{Sum}
use Rattle.sg_exec.specs.steps.Machines.{Sees, AreCells}
use Rattle.sg_exec.specs.steps.Moments.{AreNamedAt}
use Rattle.sg_exec.specs.steps.Landing.{AreTurnsOf, Lands}
use Rattle.sg_exec.specs.steps.Racing.{ArePasses}
use Rattle.sg_exec.specs.steps.Passes.{HasPass, WritesOneWay, GaveReached}
use Rattle.sg_exec.specs.steps.Working.{HasTurns}
use Rattle.sg_exec.specs.steps.Made.{AddsSums, AreSums, EndsUsed, HasLanded, HasRow, summed}
use Rattle.sg_exec.specs.steps.Puts.{kept_writes}

module _ (stores : List StoreWords) (accumulated : List Accumulated) (after : Hand) where
  pub if_rows : (result : Result Ended Memory) → ArePasses stores accumulated → GaveReached stores accumulated after.seats.items
      → IfOk result (λ ended. AddsSums accumulated after.seats.items [] ended.sums.items) → IfOk result (λ ended. All (HasRow stores) ended.sums.items)
  if_rows (Ok ended) are reached sums = subst (λ (list : List Sum). All (HasRow stores) list) (sym sums.added) (sums.rows stores are reached)
  if_rows (Err e) are reached sums = tt

  pub if_cells : (result : Result Ended Memory) → AreCells stores (kept_writes after.puts) → IfOk result (λ ended. (kept_writes ended.puts) ≡ (kept_writes after.puts)) → IfOk result (λ ended. AreCells stores (kept_writes ended.puts))
  if_cells (Ok ended) cells puts = subst (λ (list : List CellWrite). AreCells stores list) (sym puts) cells
  if_cells (Err e) cells puts = tt

  pub if_used : (uses : List Use) (result : Result Ended Memory) → ((k : ℕ) (it : Accumulated) → slice_get accumulated k ≡ Some it → Contains uses (Writes it.layout it.field (Acc it.op)))
      → ((write : CellWrite) → Contains (kept_writes after.puts) write → Contains uses (Writes write.layout write.place Own))
      → IfOk result (λ ended. AddsSums accumulated after.seats.items [] ended.sums.items) → IfOk result (λ ended. (kept_writes ended.puts) ≡ (kept_writes after.puts)) → IfOk result (EndsUsed uses)
  if_used uses (Ok ended) used kept sums puts = record {
    sums = λ sum has.
        let pass = All-contains (λ (it : Sum). HasPass accumulated it.layout it.field) sums.more sum sums.of_passes (subst (λ (list : List Sum). Contains list sum) sums.added has) in (
          pass.it.op,
          subst (λ (l : ℕ). Contains uses (Writes l sum.field (Acc pass.it.op))) pass.layout_is
              (subst (λ (f : ℕ). Contains uses (Writes pass.it.layout f (Acc pass.it.op))) pass.field_is (used pass.number pass.it pass.there)),
        );
    puts = λ write has. kept write (subst (λ (ws : List CellWrite). Contains ws write) puts has);
  }
  if_used uses (Err e) used kept sums puts = tt

  module _ (code : List Inst) (points : List Coord) where
    made_lands : (ended : Ended) → ArePasses stores accumulated → AddsSums accumulated after.seats.items [] ended.sums.items → (kept_writes ended.puts) ≡ (kept_writes after.puts)
        → (turn : Coord → Turn) → HasTurns stores accumulated turn points after → (news : List StoreWords) → HasLanded stores ended news → Lands stores news (writes_of (map turn points))
    made_lands ended are sums puts turn turns news landed =
        let writes = writes_of (map turn points) in
        let both = sums.sums stores (writes_of (map turn points)) are turns.given in
        let first : Lands stores landed.mids (summed sums.more (writes_of (map turn points))) =
        subst (λ (list : List Sum). Lands stores landed.mids (summed list writes)) sums.added
        (landed.sums_land writes (subst (λ (list : List Sum). AreSums stores list writes) (sym sums.added) both.0)) in
        turns.lands landed.mids news (subst (λ (ws : List Write). Lands stores landed.mids ws) both.1 first) (λ made is. landed.puts_land made (puts ∙ is))

    pub if_lands : (result : Result Ended Memory) → ArePasses stores accumulated
        → (WritesOneWay (uses_in code) → (state : FlatState) → Sees stores state → AreNamedAt stores state code points → (turn : Coord → Turn) → AreTurnsOf stores state code points turn → HasTurns stores accumulated turn points after)
        → IfOk result (λ ended. AddsSums accumulated after.seats.items [] ended.sums.items) → IfOk result (λ ended. (kept_writes ended.puts) ≡ (kept_writes after.puts))
        → IfOk result (λ ended. WritesOneWay (uses_in code) → (state : FlatState) → Sees stores state → AreNamedAt stores state code points → (turn : Coord → Turn) → AreTurnsOf stores state code points turn
        → (news : List StoreWords) → HasLanded stores ended news → Lands stores news (writes_of (map turn points)))
    if_lands (Ok ended) are turns sums puts = λ one_way state sees named turn of news landed.
        made_lands ended are sums puts turn (turns one_way state sees named turn of) news landed
    if_lands (Err e) are turns sums puts = tt
