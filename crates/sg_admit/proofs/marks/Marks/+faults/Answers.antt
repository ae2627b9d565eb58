use Rattle.std.proofs.Common.{◌≡◌, List, None, Some, refl, sym, ap, ◌∙◌}
use Rattle.std.specs.Prelude.{is_some}
use Rattle.sg_types.specs.declared.typed.TypedExpr.{TypedExpr}
use Rattle.sg_types.specs.declared.typed.TypedStmt.{TypedStmt}
use Rattle.sg_admit.specs.Lines.{Writes, line_of, within_if, within_loop, block_lines}
use Rattle.sg_admit.specs.Admission.{line_fault, first_fault}
use Rattle.sg_admit.specs.steps.Marked.{marked_facts}
use Rattle.sg_admit.specs.steps.Reading.{turns_if_constant, turns_if_few}
use Rattle.sg_admit.proofs.FaultWords.{block_more, fault-Write, if_found, for_found, round_within_if, round_within_loop}
use Rattle.sg_admit.proofs.marks.Marks.+faults.Goals as goal

pub block_fault-loop-stmt-preserved : goal.block_fault-loop-stmt-preserved
block_fault-loop-stmt-preserved t c = λ around is.
    let facts = marked_facts c.args.self.now in
    sym (block_more facts c.args.block.now c.loop-stmt.stmt-index c.stmt-item.result c.loop-stmt-test.true c.stmt-item.is around None (c.in_default.ensures around is))
    ∙ c.loop-stmt.invariant around is

pub block_fault-returns-in-Some : goal.block_fault-returns-in-Some
block_fault-returns-in-Some t c = λ around is.
    let facts = marked_facts c.args.self.now in
    sym (block_more facts c.args.block.now c.loop-stmt.stmt-index c.stmt-item.result c.loop-stmt-test.true c.stmt-item.is around (Some c.in-Some.fault) (c.in-Some.ensures around is))
    ∙ c.loop-stmt.invariant around is

pub stmt_fault-returns-in-Write : goal.stmt_fault-returns-in-Write
stmt_fault-returns-in-Write t c = λ around is.
    let facts = marked_facts c.args.self.now in
    let stmt = c.args.stmt.now in
    let w = c.in-Write in
    c.write_fault.ensures around is.conditions
    ∙ (ap (λ (index : List TypedExpr). line_fault facts (line_of stmt.number around (Writes w.layout w.place index w.way w.value))) c.as_slice.ensures
    ∙ sym (fault-Write facts stmt w.layout w.place w.index w.way w.value w.is around))

pub stmt_fault-returns-in-Some-block_fault : goal.stmt_fault-returns-in-Some-block_fault
stmt_fault-returns-in-Some-block_fault t c = λ around is.
    let marks = c.args.self.now in
    let facts = marked_facts marks in
    let i = c.in-If in
    let inside = round_within_if marks c.args.clean c.is_clean_within-inside.result c.args.depth c.args.turns around i.cond is c.is_clean_within-inside.ensures in
    let rest = first_fault facts (block_lines i.no (within_if i.cond around)) in
    if_found facts c.args.stmt.now i.cond i.yes i.no i._has_else i.is around None (Some c.in-Some-block_fault.fault) rest c.in_default.ensures
    (c.in-Some-block_fault.ensures (within_if i.cond around) inside ∙ ap (λ (block : List TypedStmt). first_fault facts (block_lines block (within_if i.cond around))) c.as_slice-in-If.ensures) refl

pub stmt_fault-returns-in_default-block_fault : goal.stmt_fault-returns-in_default-block_fault
stmt_fault-returns-in_default-block_fault t c = λ around is.
    let marks = c.args.self.now in
    let facts = marked_facts marks in
    let i = c.in-If in
    let inside = round_within_if marks c.args.clean c.is_clean_within-inside.result c.args.depth c.args.turns around i.cond is c.is_clean_within-inside.ensures in
    if_found facts c.args.stmt.now i.cond i.yes i.no i._has_else i.is around None None c.block_fault-in-If.result c.in_default.ensures
    (c.in_default-block_fault.ensures (within_if i.cond around) inside ∙ ap (λ (block : List TypedStmt). first_fault facts (block_lines block (within_if i.cond around))) c.as_slice-in-If.ensures)
    (c.block_fault-in-If.ensures (within_if i.cond around) inside ∙ ap (λ (block : List TypedStmt). first_fault facts (block_lines block (within_if i.cond around))) c.as_slice-in-If-2.ensures)

pub stmt_fault-returns-in-Some-inside : goal.stmt_fault-returns-in-Some-inside
stmt_fault-returns-in-Some-inside t c = λ around is.
    let marks = c.args.self.now in
    let facts = marked_facts marks in
    let i = c.in-For in
    let depth = c.args.depth in
    let turns = c.args.turns in
    let product = c.in-Some-inside.product in
    let few : Some product ≡ turns_if_few depth turns (turns_if_constant i.range) = sym c.in-Some-inside.is ∙ (c.turns_within-inside.ensures.value ∙ ap (turns_if_few depth turns) c.turns_of.ensures.value) in
    let inside = round_within_loop marks c.args.clean depth turns product around i.range is few in
    for_found facts c.args.stmt.now i._var i.range i.body i.is around depth turns is.loops is.product (Some product) few c.is_some.result (c.is_some.ensures ∙ ap is_some c.in-Some-inside.is)
    None c.block_fault-in-Some-inside.result c.in_default-range_fault.ensures
    (c.block_fault-in-Some-inside.ensures (within_loop i.range around) inside ∙ ap (λ (block : List TypedStmt). first_fault facts (block_lines block (within_loop i.range around))) c.as_slice-in-Some-inside.ensures)
