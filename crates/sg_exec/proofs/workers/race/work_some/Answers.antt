use Rattle.std.proofs.Common.{◌≡◌, ◌∙◌, ℕ, ◌+◌, ◌-◌, ◌<◌, ◌≤◌, ◌++◌, List, length, take, drop, refl, sym, ap, subst, append_assoc, arith}
use Rattle.std.specs.Prelude.{slice_get, IfSome}
use Rattle.std.proofs.lemmas.Option.{slice_get_read}
use Rattle.std.proofs.lemmas.List.{append-nil, length-drop, length-take, drop-drop}
use Rattle.std.proofs.lemmas.List.Elements.{All-nil}
use Rattle.sg_coord.specs.declared.coord.Coord.{Coord}
use Rattle.sg_store.specs.StoreWords.{StoreWords}
use Rattle.sg_exec.specs.declared.lanes.cell_write.CellWrite.{CellWrite}
use Rattle.sg_exec.specs.declared.lanes.moment.Moment.{Moment}
use Rattle.sg_exec.specs.declared.workers.state.Hand.{Hand}
use Rattle.sg_exec.specs.steps.Machines.{AreCells, IsCellOf}
use Rattle.sg_exec.specs.steps.Landing.{current}
use Rattle.sg_exec.specs.steps.Racing.{wrote, last_own, all_writes, HaveGiven, HasWorked}
use Rattle.sg_exec.specs.steps.Pending.{HaveTaken}
use Rattle.sg_exec.specs.steps.Working.{RunsAt}
use Rattle.sg_exec.specs.steps.Puts.{kept_writes}
use Rattle.sg_exec.proofs.Giving.{writes_more}
use Rattle.sg_exec.proofs.Taking.{took_nothing, took_more, none_are_pending, taken_is_given}
use Rattle.sg_exec.proofs.Iterations.{turns_of, owns_of, owns_are, owns_more, writes_joined, cells_more, same_turns, run_batch}
use Rattle.sg_exec.proofs.Ranges.{rest_among, front_among, at_among}
use Rattle.sg_exec.proofs.workers.race.work_some.Goals as goal

pub loop-k-init : goal.loop-k-init
loop-k-init g c = record {
  pending = none_are_pending c.args.accumulated.now c.args.pending.now.items c.requires.none;
  seats = c.requires.seats;
  taken = took_nothing c.args.accumulated.now c.args.pending.now.items c.args.hand.now.seats.items;
  cells = c.requires.cells;
  wrote = All-nil (λ (write : CellWrite). IfSome write.cell (IsCellOf (current c.args.reached.now c.args.stores.now.list) write.layout));
  puts = sym (append-nil (kept_writes c.args.hand.now.puts));
}

pub loop-k-preserved : goal.loop-k-preserved
loop-k-preserved g c =
    let stores = current c.args.reached.now c.args.stores.now.list in
    let moments = c.iterate_all.new.batch.moments.items in
    let within : c.loop-k.k < length moments = omega (arith, c.iterate_all.ensures.over.whole, c.requires.few) in
    let moment = c.index-moment.result.now in
    let over : moment.cells.stores ≡ stores = c.iterate_all.ensures.over.moments c.loop-k.k moment (slice_get_read moments _ c.loop-k.k moment refl within c.index-moment.ensures) in
    let last = last_own c.args.owned.now moment.cells.writes in
    let before = kept_writes c.args.hand.now.puts in
    record {
      pending = c.give_all.ensures.pending;
      seats = c.give_all.ensures.seats;
      taken = subst (λ (ws : List CellWrite). HaveTaken c.args.accumulated.now ws c.args.pending.now.items c.args.hand.now.seats.items c.give_all.new.pending.items c.give_all.new.seats.items)
          (sym (writes_more moments c.loop-k.k moment within c.index-moment.ensures))
          (took_more c.args.accumulated.now (all_writes (take c.loop-k.k moments)) moment.cells.writes c.args.pending.now.items c.args.hand.now.seats.items c.loop-k.pending.items c.loop-k.hand.seats.items
          c.give_all.new.pending.items c.give_all.new.seats.items c.loop-k.invariant.pending.long c.loop-k.invariant.seats.long c.loop-k.invariant.taken
          (subst (λ (ws : List CellWrite). HaveTaken c.args.accumulated.now ws c.loop-k.pending.items c.loop-k.hand.seats.items c.give_all.new.pending.items c.give_all.new.seats.items) c.writes-writes.ensures.value c.give_all.ensures.taken));
      cells = subst (λ (list : List StoreWords). AreCells list (kept_writes c.put_all.new.puts)) over
          (c.in_ok-put_all.ensures.cells (subst (λ (list : List StoreWords). AreCells list (kept_writes c.loop-k.hand.puts)) (sym over) c.loop-k.invariant.cells));
      wrote = cells_more stores moments c.loop-k.k moment within c.index-moment.ensures c.loop-k.invariant.wrote
          (subst (λ (list : List StoreWords). AreCells list moment.cells.writes) over (subst (λ (ws : List CellWrite). AreCells moment.cells.stores ws) c.writes-writes.ensures.value c.writes-writes.ensures.cells));
      puts = c.in_ok-put_all.ensures.puts ∙ ap (λ (ps : List CellWrite). ps ++ last) c.loop-k.invariant.puts
          ∙ append_assoc before (owns_of c.args.owned.now (take c.loop-k.k moments)) last
          ∙ ap (λ (ps : List CellWrite). before ++ ps) (sym (owns_more c.args.owned.now moments c.loop-k.k moment within c.index-moment.ensures));
    }

pub returns-clause-ran : goal.returns-clause-ran
returns-clause-ran g c = λ start run.
    let stores = current c.args.reached.now c.args.stores.now.list in
    let moments = c.iterate_all.new.batch.moments.items in
    let mine = drop c.args.from c.args.points.now in
    let row : c.as_slice.result.now ≡ take c.args.count (drop c.args.first mine) =
    c.as_slice.ensures.value ∙ c.in_ok-fill.ensures ∙ ap (take c.args.count) (sym (drop-drop c.args.first c.args.from c.args.points.now)) in
    let points = take c.args.count (drop c.args.first mine) in
    let long : length mine ≡ length c.args.points.now - c.args.from = length-drop c.args.from c.args.points.now in
    let rest : length (drop c.args.first mine) ≡ length mine - c.args.first = length-drop c.args.first mine in
    let some : length points ≡ _ = length-take c.args.count (drop c.args.first mine) in
    let count_is : length points ≡ c.args.count = omega (arith, c.requires.room) in
    let within : c.args.count ≤ length moments = omega (arith, c.iterate_all.ensures.over.whole, c.requires.few) in
    let all : c.loop-k.k ≡ c.args.count = omega arith in
    let front = take c.args.count moments in
    let turns = turns_of front in
    let now : Hand = record { seats = c.give_last.new.seats; puts = c.loop-k.hand.puts } in
    let taken = subst (λ (n : ℕ). HaveTaken c.args.accumulated.now (all_writes (take n moments)) c.args.pending.now.items c.args.hand.now.seats.items c.loop-k.pending.items c.loop-k.hand.seats.items) all c.loop-k.invariant.taken in
    let gave : HaveGiven c.args.accumulated.now (all_writes front) c.args.hand.now.seats.items c.give_last.new.seats.items =
    taken_is_given c.args.accumulated.now (all_writes front) c.args.pending.now.items c.args.hand.now.seats.items c.loop-k.pending.items c.loop-k.hand.seats.items c.give_last.new.seats.items c.requires.none
    c.loop-k.invariant.pending.long c.loop-k.invariant.seats.long taken c.give_last.ensures.gave in
    let worked : HasWorked c.args.accumulated.now c.args.owned.now turns c.args.hand.now now = record {
      gave = subst (λ (ws : List CellWrite). HaveGiven c.args.accumulated.now ws c.args.hand.now.seats.items c.give_last.new.seats.items) (writes_joined front) gave;
      puts = subst (λ (n : ℕ). kept_writes c.loop-k.hand.puts ≡ kept_writes c.args.hand.now.puts ++ owns_of c.args.owned.now (take n moments)) all c.loop-k.invariant.puts
          ∙ ap (λ (ps : List CellWrite). kept_writes c.args.hand.now.puts ++ ps) (owns_are c.args.owned.now front);
    } in
    let cells = subst (λ (ws : List CellWrite). AreCells stores ws) (writes_joined front) (subst (λ (n : ℕ). AreCells stores (all_writes (take n moments))) all c.loop-k.invariant.wrote) in
    run_batch stores c.args.accumulated.now c.args.owned.now (RunsAt stores c.args.code.now c.args.points.now) (λ state. wrote stores state c.args.code.now) mine c.args.first c.args.count turns start c.args.hand.now now
    c.requires.seats.long run worked cells
    (λ state runs. same_turns (λ (m : Moment). m.cells.writes) (wrote stores state c.args.code.now) c.args.count moments points within count_is
    (λ k moment at here there. (c.in_ok-iterate_all.ensures.ran state runs.0 k at (ap (λ (l : List Coord). slice_get l k) row ∙ there) moment here
    (runs.1 at (rest_among c.args.from c.args.points.now at (rest_among c.args.first mine at (front_among c.args.count (drop c.args.first mine) at (at_among points k at there)))))).writes_are))
