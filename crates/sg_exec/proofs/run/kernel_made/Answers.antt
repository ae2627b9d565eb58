use Rattle.std.proofs.Common.{◌≡◌, ◌∙◌, List, Option, map, inl, inr, sym, ap, subst, Err, Ok}
use Rattle.std.specs.Prelude.{All, Contains}
use Rattle.sg_flat.specs.Effects.{writes_of}
use Rattle.sg_store.specs.StoreWords.{StoreWords}
use Rattle.sg_ir.specs.declared.code.Inst.{Inst}
use Rattle.sg_flat.specs.declared.effects.Way.TheVariants.{Own, Acc}
use Rattle.sg_ir.specs.Apt.{Writes, uses_in}
use Rattle.sg_ir.specs.Touches.{layouts_wanted}
use Rattle.sg_exec.specs.Standing.{shapes_of}
use Rattle.sg_exec.specs.Running.{code_turn, run_meaning}
use Rattle.sg_exec.specs.steps.Machines.{Sees, AreCells}
use Rattle.sg_exec.specs.steps.Moments.{AreNamedAt, slice_turn}
use Rattle.sg_exec.specs.steps.Landing.{current, AreTurnsOf, Lands}
use Rattle.sg_exec.specs.steps.Passes.{WritesOneWay}
use Rattle.sg_exec.specs.steps.Made.{HasLanded, HasRow}
use Rattle.sg_exec.specs.steps.Turning.{wants_from, TurnsActivated}
use Rattle.sg_exec.specs.steps.Puts.{kept_writes}
use Rattle.sg_exec.proofs.Kernels.{KernelLaws, slice_is_named, code_is_named, asks_settled, turns_are, kernel_outside, kernel_full, kernel_ran}
use Rattle.sg_exec.proofs.Seeing.{reached_state, AsksTheSame, sees_reached, named_over, turns_over}
use Rattle.sg_exec.proofs.LocalRuns.{use_written, want_written}
use Rattle.sg_exec.proofs.MadeRuns.{made_stopped}
use Rattle.sg_exec.proofs.Turning.{are_wants, activated_fault}
use Rattle.sg_exec.proofs.run.kernel_made.Goals as goal

pub returns-in_err-copies-clause-ran : goal.returns-in_err-copies-clause-ran
returns-in_err-copies-clause-ran g c = λ runnable state all.
    let stores = c.args.stores.now.list in
    let kept = c.args.kernel.now in
    let laws : KernelLaws = record { test = c.numbering.ensures.inside_test; inside = c.closure_members.ensures.inside; extends = c.closure_closes.ensures.extends } in
    let points = c.in_ok-points.points in
    let turns = map (slice_turn stores state kept.slice.body) points in
    let are = c.in_ok-points.ensures.points state all in
    let named : AreNamedAt stores state c.as_slice-slice.result.now points =
    subst (λ (block : List Inst). AreNamedAt stores state block points) (sym c.as_slice-slice.ensures) (slice_is_named laws stores state kept points all runnable are) in
    let ran : TurnsActivated {A = Unit {0}} (λ _. stores) stores turns (Err c.in_err-copies.field-0.0) =
    subst (λ (block : List Inst). TurnsActivated {A = Unit {0}} (λ _. stores) stores (map (slice_turn stores state block) points) (Err c.in_err-copies.field-0.0)) c.as_slice-slice.ensures (c.in_err-copies.ensures.ran state all named) in
    made_stopped stores (run_meaning (shapes_of stores) state kept) c.from_residual-in_err-copies.result c.in_err-copies.field-0.0 c.from_residual-in_err-copies.ensures.1
    (λ fault is. elim (activated_fault {A = Unit {0}} (λ _. stores) stores turns c.in_err-copies.field-0.0 fault ran is) [
      | inl outside ↦ kernel_outside laws stores state kept points all runnable are fault outside
      | inr full ↦ kernel_full laws stores state kept points all runnable are (wants_from 0 stores turns) fault (full.0, are_wants stores state.layouts turns full.0) full.1
    ])

pub returns-clause-ran : goal.returns-clause-ran
returns-clause-ran g c = λ runnable state all news landed.
    let stores = c.args.stores.now.list in
    let kept = c.args.kernel.now in
    let laws : KernelLaws = record { test = c.numbering.ensures.inside_test; inside = c.closure_members.ensures.inside; extends = c.closure_closes.ensures.extends } in
    let points = c.in_ok-points.points in
    let slices = map (slice_turn stores state kept.slice.body) points in
    let mids = current c.in_ok-copies.copies.items stores in
    let are = c.in_ok-points.ensures.points state all in
    let named : AreNamedAt stores state c.as_slice-slice.result.now points =
    subst (λ (block : List Inst). AreNamedAt stores state block points) (sym c.as_slice-slice.ensures) (slice_is_named laws stores state kept points all runnable are) in
    let ran = subst (λ (block : List Inst). TurnsActivated (λ copies. current copies.items stores) stores (map (slice_turn stores state block) points) (Ok c.in_ok-copies.copies)) c.as_slice-slice.ensures (c.in_ok-copies.ensures.ran state all named) in
    let wanted = are_wants stores state.layouts slices ran.0 in
    let turn = code_turn (shapes_of stores) state kept in
    let code_named : AreNamedAt stores state c.as_slice-code.result.now points =
    subst (λ (block : List Inst). AreNamedAt stores state block points) (sym c.as_slice-code.ensures) (code_is_named laws stores state kept points all runnable are) in
    let turns : AreTurnsOf stores state c.as_slice-code.result.now points turn =
    subst (λ (block : List Inst). AreTurnsOf stores state block points turn) (sym c.as_slice-code.ensures) (turns_are laws stores state kept points all runnable are ran.0) in
    let reached = reached_state (shapes_of stores) state slices in
    let sees : Sees mids reached = sees_reached stores mids state slices (ran.1 state.layouts slices all wanted).1 in
    let asks : AsksTheSame (shapes_of stores) state reached c.as_slice-code.result.now points =
    subst (λ (block : List Inst). AsksTheSame (shapes_of stores) state reached block points) (sym c.as_slice-code.ensures) (asks_settled laws stores state kept points all runnable are) in
    let held = current c.deref.result.now stores in
    let lent : held ≡ mids = ap (λ (copies : List (Option StoreWords)). current copies stores) c.deref.ensures.value in
    let shapes : shapes_of held ≡ shapes_of stores = ap shapes_of lent ∙ c.in_ok-copies.ensures.shapes in
    kernel_ran laws stores state kept points all runnable are (wants_from 0 stores slices) mids news (ran.0, wanted) ran.1 c.in_ok-copies.ensures.shapes
    (subst (λ (ms : List StoreWords). Lands ms news (writes_of (map turn points))) lent
    (c.in_ok-ended.ensures.lands (subst (λ (block : List Inst). WritesOneWay (uses_in block)) (sym c.as_slice-code.ensures) runnable.apt.ways.one_way) reached (subst (λ (ms : List StoreWords). Sees ms reached) (sym lent) sees) (named_over stores held state slices c.as_slice-code.result.now points shapes code_named asks) turn
    (turns_over stores held state slices c.as_slice-code.result.now points turn shapes code_named asks turns) news (subst (λ (ms : List StoreWords). HasLanded ms c.in_ok-ended.ended news) (sym lent) landed)))

pub returns-clause-lands : goal.returns-clause-lands
returns-clause-lands g c =
    let stores = c.args.stores.now.list in
    let ended = c.in_ok-ended.ended in
    let lent : current c.deref.result.now stores ≡ current c.in_ok-copies.copies.items stores = ap (λ (copies : List (Option StoreWords)). current copies stores) c.deref.ensures.value in
    record {
      copies = c.in_ok-copies.ensures.room;
      links = c.in_ok-copies.ensures.links;
      rows = subst (λ (ms : List StoreWords). All (HasRow ms) ended.sums.items) lent c.in_ok-ended.ensures.rows;
      cells = subst (λ (ms : List StoreWords). AreCells ms (kept_writes ended.puts)) lent c.in_ok-ended.ensures.cells;
      none = c.in_ok-room.ensures.none;
      space = c.in_ok-room.ensures.space;
    }

pub returns-clause-goes : goal.returns-clause-goes
returns-clause-goes g c =
    let kernel = c.args.kernel.now in
    let used = c.in_ok-ended.ensures.used in
    record {
      lands = returns-clause-lands g c;
      shapes = c.in_ok-copies.ensures.shapes;
      copies = λ layout copy is. want_written kernel layout (subst (λ (block : List Inst). Contains (layouts_wanted block) layout) c.as_slice-slice.ensures (c.in_ok-copies.ensures.into layout copy is));
      sums = λ sum has. use_written kernel sum.layout sum.field _
          (subst (λ (block : List Inst). Contains (uses_in block) (Writes sum.layout sum.field (Acc (used.sums sum has).0))) c.as_slice-code.ensures (used.sums sum has).1);
      puts = λ write has. use_written kernel write.layout write.place _
          (subst (λ (block : List Inst). Contains (uses_in block) (Writes write.layout write.place Own)) c.as_slice-code.ensures (used.puts write has));
    }
