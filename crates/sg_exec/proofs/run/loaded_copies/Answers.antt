use Rattle.std.proofs.Common.{map, inl, inr}
use Rattle.sg_exec.specs.Standing.{shapes_of}
use Rattle.sg_exec.specs.Running.{load_meaning, turn_of}
use Rattle.sg_exec.specs.steps.Landing.{current}
use Rattle.sg_exec.specs.steps.Turning.{wants_from}
use Rattle.sg_exec.proofs.Kernels.{load_outside, load_full, load_ran}
use Rattle.sg_exec.proofs.Answering.{stopped}
use Rattle.sg_exec.proofs.Turning.{are_wants, activated_fault}
use Rattle.sg_exec.proofs.LinksKept.{links_over, links_then}
use Rattle.sg_exec.proofs.run.loaded_copies.Goals as goal

pub returns-in_err-copies-clause-ran : goal.returns-in_err-copies-clause-ran
returns-in_err-copies-clause-ran g c = λ state all.
    let stores = c.args.stores.now.list in
    let rows = c.args.rows.now in
    let turns = map turn_of rows in
    stopped _ (shapes_of stores) (load_meaning (shapes_of stores) state rows) c.from_residual.result c.in_err-copies.field-0.0 c.from_residual.ensures.1
    (λ fault is. elim (activated_fault {A = Unit {0}} (λ _. stores) stores turns c.in_err-copies.field-0.0 fault (c.in_err-copies.ensures.ran state all) is) [
      | inl outside ↦ load_outside stores state rows fault outside
      | inr full ↦ load_full stores state rows (wants_from 0 stores turns) fault all (full.0, are_wants stores state.layouts turns full.0) full.1
    ])

pub returns-clause-ran : goal.returns-clause-ran
returns-clause-ran g c = λ state all.
    let stores = c.args.stores.now.list in
    let turns = map turn_of c.args.rows.now in
    let ran = c.in_ok-copies.ensures.ran state all in
    load_ran stores state c.args.rows.now (wants_from 0 stores turns) (current c.in_ok-copies.copies.items stores) _ c.numbering.ensures.inside_test c.closure_closes.ensures.extends all
    (ran.0, are_wants stores state.layouts turns ran.0) ran.1 c.in_ok-copies.ensures.shapes c.in_ok-land_all.ensures.lands

pub returns-clause-links : goal.returns-clause-links
returns-clause-links g c =
    let stores = c.args.stores.now.list in
    links_then stores (current c.in_ok-copies.copies.items stores) _ c.in_ok-copies.ensures.links (links_over _ _ c.in_ok-land_all.ensures.trees)
