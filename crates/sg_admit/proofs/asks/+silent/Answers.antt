use Rattle.std.proofs.Common.{Bool, true, false, ◌&&◌, List, refl, sym, ap, ◌∙◌}
use Rattle.sg_types.specs.declared.typed.TypedStmt.{TypedStmt}
use Rattle.sg_admit.specs.Lines.{within_if, within_loop, block_lines}
use Rattle.sg_admit.proofs.Silent.{is_silent, asks_no, silent-Let, silent-Assign, write_silent, if_silent, for_silent, silent_more, silent_end}
use Rattle.sg_admit.proofs.asks.+silent.Goals as goal

pub block_asks_nothing-loop-stmt-preserved : goal.block_asks_nothing-loop-stmt-preserved
block_asks_nothing-loop-stmt-preserved t c = λ around.
    sym (silent_more c.args.block.now c.loop-stmt.stmt-index c.stmt-item.result c.loop-stmt-test.true c.stmt-item.is around true (sym c.if-not-stmt_asks_nothing.false ∙ c.stmt_asks_nothing.ensures around))
    ∙ c.loop-stmt.invariant around

pub block_asks_nothing-returns-then-not-stmt_asks_nothing : goal.block_asks_nothing-returns-then-not-stmt_asks_nothing
block_asks_nothing-returns-then-not-stmt_asks_nothing t c = λ around.
    sym (silent_more c.args.block.now c.loop-stmt.stmt-index c.stmt-item.result c.loop-stmt-test.true c.stmt-item.is around false (sym c.if-not-stmt_asks_nothing.true ∙ c.stmt_asks_nothing.ensures around))
    ∙ c.loop-stmt.invariant around

pub block_asks_nothing-returns : goal.block_asks_nothing-returns
block_asks_nothing-returns t c = λ around.
    silent_end c.args.block.now c.loop-stmt.stmt-index c.loop-stmt-test.false around ∙ c.loop-stmt.invariant around

pub stmt_asks_nothing-returns-in-Let : goal.stmt_asks_nothing-returns-in-Let
stmt_asks_nothing-returns-in-Let t c = λ around.
    c.good_asks.ensures ∙ silent-Let c.args.stmt.now c.in-Let._var c.in-Let.value c.in-Let.is around

pub stmt_asks_nothing-returns-in-Assign : goal.stmt_asks_nothing-returns-in-Assign
stmt_asks_nothing-returns-in-Assign t c = λ around.
    c.good_asks-in-Assign.ensures ∙ silent-Assign c.args.stmt.now c.in-Assign._var c.in-Assign.value c.in-Assign.is around

pub stmt_asks_nothing-returns-then-all_good_asks : goal.stmt_asks_nothing-returns-then-all_good_asks
stmt_asks_nothing-returns-then-all_good_asks t c = λ around.
    let w = c.in-Write in
    ap (λ (b : Bool). b && c.good_asks-then-all_good_asks.result) (sym c.if-all_good_asks.true)
    ∙ write_silent c.args.stmt.now w._layout w._place w.index c.as_slice.result.now w._way w.value w.is c.as_slice.ensures around
    c.all_good_asks.result c.good_asks-then-all_good_asks.result c.all_good_asks.ensures c.good_asks-then-all_good_asks.ensures

pub stmt_asks_nothing-returns-else-all_good_asks : goal.stmt_asks_nothing-returns-else-all_good_asks
stmt_asks_nothing-returns-else-all_good_asks t c = λ around.
    let w = c.in-Write in
    (c.if-all_good_asks.false ∙ sym (ap (λ (b : Bool). b && asks_no w.value) c.if-all_good_asks.false))
    ∙ write_silent c.args.stmt.now w._layout w._place w.index c.as_slice.result.now w._way w.value w.is c.as_slice.ensures around
    c.all_good_asks.result (asks_no w.value) c.all_good_asks.ensures refl

pub stmt_asks_nothing-returns-else-good_asks : goal.stmt_asks_nothing-returns-else-good_asks
stmt_asks_nothing-returns-else-good_asks t c = λ around.
    let i = c.in-If in
    let first = is_silent (block_lines i.yes (within_if i.cond around)) in
    let second = is_silent (block_lines i.no (within_if i.cond around)) in
    (c.if-good_asks.false ∙ sym (ap (λ (b : Bool). b && (first && second)) c.if-good_asks.false))
    ∙ if_silent c.args.stmt.now i.cond i.yes i.no i._has_else i.is around c.good_asks-in-If.result first second c.good_asks-in-If.ensures refl refl

pub stmt_asks_nothing-returns-else-block_asks_nothing : goal.stmt_asks_nothing-returns-else-block_asks_nothing
stmt_asks_nothing-returns-else-block_asks_nothing t c = λ around.
    let i = c.in-If in
    let second = is_silent (block_lines i.no (within_if i.cond around)) in
    (c.if-block_asks_nothing.false
    ∙ (sym (ap (λ (b : Bool). b && second) c.if-block_asks_nothing.false) ∙ ap (λ (b : Bool). b && (c.block_asks_nothing.result && second)) (sym c.if-good_asks.true)))
    ∙ if_silent c.args.stmt.now i.cond i.yes i.no i._has_else i.is around c.good_asks-in-If.result c.block_asks_nothing.result second c.good_asks-in-If.ensures
    (c.block_asks_nothing.ensures (within_if i.cond around) ∙ ap (λ (block : List TypedStmt). is_silent (block_lines block (within_if i.cond around))) c.as_slice-then-good_asks.ensures) refl

pub stmt_asks_nothing-returns-then-block_asks_nothing : goal.stmt_asks_nothing-returns-then-block_asks_nothing
stmt_asks_nothing-returns-then-block_asks_nothing t c = λ around.
    let i = c.in-If in
    let second = c.block_asks_nothing-then-block_asks_nothing.result in
    (ap (λ (b : Bool). b && second) (sym c.if-block_asks_nothing.true) ∙ ap (λ (b : Bool). b && (c.block_asks_nothing.result && second)) (sym c.if-good_asks.true))
    ∙ if_silent c.args.stmt.now i.cond i.yes i.no i._has_else i.is around c.good_asks-in-If.result c.block_asks_nothing.result second c.good_asks-in-If.ensures
    (c.block_asks_nothing.ensures (within_if i.cond around) ∙ ap (λ (block : List TypedStmt). is_silent (block_lines block (within_if i.cond around))) c.as_slice-then-good_asks.ensures)
    (c.block_asks_nothing-then-block_asks_nothing.ensures (within_if i.cond around) ∙ ap (λ (block : List TypedStmt). is_silent (block_lines block (within_if i.cond around))) c.as_slice-then-block_asks_nothing.ensures)

pub stmt_asks_nothing-returns-else-is_good_range : goal.stmt_asks_nothing-returns-else-is_good_range
stmt_asks_nothing-returns-else-is_good_range t c = λ around.
    let i = c.in-For in
    let inside = is_silent (block_lines i.body (within_loop i.range around)) in
    (c.if-is_good_range.false ∙ sym (ap (λ (b : Bool). b && inside) c.if-is_good_range.false))
    ∙ for_silent c.args.stmt.now i._var i.range i.body i.is around c.is_good_range.result inside c.is_good_range.ensures refl

pub stmt_asks_nothing-returns-then-is_good_range : goal.stmt_asks_nothing-returns-then-is_good_range
stmt_asks_nothing-returns-then-is_good_range t c = λ around.
    let i = c.in-For in
    let inside = c.block_asks_nothing-then-is_good_range.result in
    ap (λ (b : Bool). b && inside) (sym c.if-is_good_range.true)
    ∙ for_silent c.args.stmt.now i._var i.range i.body i.is around c.is_good_range.result inside c.is_good_range.ensures
    (c.block_asks_nothing-then-is_good_range.ensures (within_loop i.range around) ∙ ap (λ (block : List TypedStmt). is_silent (block_lines block (within_loop i.range around))) c.as_slice-then-is_good_range.ensures)
