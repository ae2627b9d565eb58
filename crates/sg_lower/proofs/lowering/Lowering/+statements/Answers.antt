use Rattle.std.proofs.Common.{◌≡◌, true, List, [], ◌∷◌, ◌++◌, map, take, sym, subst, rules}
use Rattle.std.specs.List.{list_all}
use Rattle.std.proofs.lemmas.List.{take_all}
use Rattle.sg_types.specs.declared.typed.TypedExpr.{TypedExpr}
use Rattle.sg_types.specs.declared.typed.TypedStmt.{TypedStmt}
use Rattle.sg_types.specs.declared.typed.TypedKind.TheVariants as kind
use Rattle.sg_types.specs.Iterations.{run_all, action_of}
use Rattle.sg_ir.specs.declared.code.Inst.{Inst}
use Rattle.sg_ir.specs.declared.code.Inst.TheVariants as v
use Rattle.sg_lower.specs.steps.Basis.{basis_of}
use Rattle.sg_lower.specs.steps.Fitting.{stmt_fits, write_stmt}
use Rattle.sg_lower.specs.steps.Agreeing.{Steps}
use Rattle.sg_lower.specs.steps.Using.{UsesStmt, UsesBlock}
use Rattle.sg_lower.specs.steps.Asking.{AsksStmt, AsksBlock}
use Rattle.sg_lower.specs.steps.Typing.{AddsStmt, AddsBlock, SetsStmt, SetsBlock}
use Rattle.sg_lower.proofs.SettingLines.{sets_let, sets_assign, sets_if, sets_for, sets_next}
use Rattle.sg_lower.proofs.TypingLines.{let_typed, assign_typed}
use Rattle.sg_lower.proofs.TypingBlocks.{block_same, block_next, if_typed, for_typed}
use Rattle.sg_lower.proofs.Stepping.{of_kind, does_let, does_assign, does_if, does_for, steps-next, block_does}
use Rattle.sg_lower.proofs.AskingLines.{asks_let, asks_assign, asks_if, asks_for, asks_next}
use Rattle.sg_lower.proofs.UsingLines.{uses_let, uses_assign, uses_if, uses_for, uses_same, uses_next}
use Rattle.sg_lower.proofs.Turns.{item_holds, take_item}
use Rattle.sg_lower.proofs.lowering.Lowering.+statements.Goals as goal

pub inner_block-returns-clause-steps : goal.inner_block-returns-clause-steps
inner_block-returns-clause-steps t c =
    subst (λ (first : List Inst). list_all (stmt_fits (basis_of c.args.layouts.now c.args.self.now)) c.args.stmts.now ≡ true → Steps (basis_of c.args.layouts.now c.args.self.now) (λ world now. run_all (map (action_of world) c.args.stmts.now) now) first c.stmts.new.block)
    c.new-block.ensures c.in_ok-stmts.ensures.steps

pub stmt-returns-in_ok-push-in-Let-clause-steps : goal.stmt-returns-in_ok-push-in-Let-clause-steps
stmt-returns-in_ok-push-in-Let-clause-steps t c =
    does_let (basis_of c.args.layouts.now c.args.self.now) c.args.stmt.now c.in-Let.var c.in-Let.value c.in-Let.is c.in_ok-from-in-Let.from _ _ _ _ _ c.in_ok-from-in-Let.ensures.values c.in_ok-push-in-Let.ensures.ok

pub stmt-returns-in_ok-push-in-Assign-clause-steps : goal.stmt-returns-in_ok-push-in-Assign-clause-steps
stmt-returns-in_ok-push-in-Assign-clause-steps t c =
    does_assign (basis_of c.args.layouts.now c.args.self.now) c.args.stmt.now c.in-Assign.var c.in-Assign.value c.in-Assign.is c.in_ok-from-in-Assign.from _ _ _ _ _ c.in_ok-from-in-Assign.ensures.values c.in_ok-push-in-Assign.ensures.ok

pub stmt-returns-in_ok-write-in-Write-clause-steps : goal.stmt-returns-in_ok-write-in-Write-clause-steps
stmt-returns-in_ok-write-in-Write-clause-steps t c =
    let i = c.in-Write in
    let basis = basis_of c.args.layouts.now c.args.self.now in
    of_kind (λ (stmt : TypedStmt). stmt_fits basis stmt ≡ true → Steps basis (λ world now. action_of world stmt now) c.args.block.now c.write.new.block) c.args.stmt.now (kind.Write i.layout i.place i.index i.way i.value) i.is
    (subst (λ (index : List TypedExpr). stmt_fits basis (write_stmt c.args.stmt.now.number i.layout i.place index i.way i.value) ≡ true → Steps basis (λ world now. action_of world (write_stmt c.args.stmt.now.number i.layout i.place index i.way i.value) now) c.args.block.now c.write.new.block)
    c.as_slice-index.ensures c.in_ok-write-in-Write.ensures.steps)

pub stmt-returns-in_ok-push-in-If-clause-steps : goal.stmt-returns-in_ok-push-in-If-clause-steps
stmt-returns-in_ok-push-in-If-clause-steps t c =
    let i = c.in-If in
    let basis = basis_of c.args.layouts.now c.args.self.now in
    does_if basis c.args.stmt.now i.cond i.yes i.no i._has_else i.is c.in_ok-cond-in-If.cond _ _ _ _ _ c.in_ok-yes-in-If.yes c.in_ok-no-in-If.no c.in_ok-cond-in-If.ensures.values
    (block_does basis c.as_slice.result.now i.yes c.in_ok-yes-in-If.yes c.as_slice.ensures c.in_ok-yes-in-If.ensures.steps)
    (block_does basis c.as_slice-in-If.result.now i.no c.in_ok-no-in-If.no c.as_slice-in-If.ensures c.in_ok-no-in-If.ensures.steps)
    c.in_ok-push-in-If.ensures.ok

pub stmt-returns-in_ok-push-in-For-clause-steps : goal.stmt-returns-in_ok-push-in-For-clause-steps
stmt-returns-in_ok-push-in-For-clause-steps t c =
    let i = c.in-For in
    let basis = basis_of c.args.layouts.now c.args.self.now in
    let pushed : c.push-in-For.new.self ≡ c.args.block.now ++ v.For i.var c.constant_number-lo.result c.constant_number-hi.result c.in_ok-body-in-For.body ∷ [] = search rules in
    does_for basis c.args.stmt.now i.var i.range i.body i.is c.constant_number-lo.result c.constant_number-hi.result _ _ c.in_ok-body-in-For.body c.constant_number-lo.ensures c.constant_number-hi.ensures
    (block_does basis c.as_slice-in-For.result.now i.body c.in_ok-body-in-For.body c.as_slice-in-For.ensures c.in_ok-body-in-For.ensures.steps)
    pushed

pub stmts-loop-stmt-preserved : goal.stmts-loop-stmt-preserved
stmts-loop-stmt-preserved t c =
    let basis = basis_of c.args.layouts.now c.args.self.now in
    let before = c.loop-stmt.invariant in
    let done = take c.loop-stmt.stmt-index c.args.stmts.now in
    let one_more = sym (take_item c.args.stmts.now c.loop-stmt.stmt-index c.stmt-item.result c.loop-stmt-test.true c.stmt-item.is) in
    record {
      steps = λ h.
          let item = item_holds (stmt_fits basis) c.args.stmts.now c.loop-stmt.stmt-index c.stmt-item.result c.loop-stmt-test.true c.stmt-item.is h in
          subst (λ (list : List TypedStmt). Steps basis (λ world now. run_all (map (action_of world) list) now) c.args.block.now c.stmt.new.block) one_more
          (steps-next basis done c.stmt-item.result c.args.block.now c.loop-stmt.block c.stmt.new.block (before.steps h) (c.in_ok-stmt.ensures.steps item));
      uses = subst (λ (list : List TypedStmt). UsesBlock basis list c.args.block.now c.stmt.new.block) one_more
          (uses_next basis done c.stmt-item.result c.args.block.now c.loop-stmt.block c.stmt.new.block before.uses c.in_ok-stmt.ensures.uses);
      asks = subst (λ (list : List TypedStmt). AsksBlock list c.args.block.now c.stmt.new.block) one_more
          (asks_next done c.stmt-item.result c.args.block.now c.loop-stmt.block c.stmt.new.block before.asks c.in_ok-stmt.ensures.asks);
      typed = subst (λ (list : List TypedStmt). AddsBlock c.args.layouts.now.list list c.args.names.now c.stmt.new.names c.args.block.now c.stmt.new.block) one_more
          (block_next c.args.layouts.now.list done c.stmt-item.result c.args.names.now c.loop-stmt.names c.stmt.new.names c.args.block.now c.loop-stmt.block c.stmt.new.block before.typed c.in_ok-stmt.ensures.typed);
      sets = subst (λ (list : List TypedStmt). SetsBlock list c.args.block.now c.stmt.new.block) one_more
          (sets_next done c.stmt-item.result c.args.block.now c.loop-stmt.block c.stmt.new.block before.sets c.in_ok-stmt.ensures.sets);
    }

pub stmts-returns-clause-steps : goal.stmts-returns-clause-steps
stmts-returns-clause-steps t c = λ h.
    let basis = basis_of c.args.layouts.now c.args.self.now in
    subst (λ (done : List TypedStmt). Steps basis (λ world now. run_all (map (action_of world) done) now) c.args.block.now c.loop-stmt.block)
    (take_all c.loop-stmt.stmt-index c.args.stmts.now c.loop-stmt-test.false) (c.loop-stmt.invariant.steps h)

pub stmts-returns-clause-uses : goal.stmts-returns-clause-uses
stmts-returns-clause-uses t c =
    let basis = basis_of c.args.layouts.now c.args.self.now in
    subst (λ (done : List TypedStmt). UsesBlock basis done c.args.block.now c.loop-stmt.block) (take_all c.loop-stmt.stmt-index c.args.stmts.now c.loop-stmt-test.false) c.loop-stmt.invariant.uses

pub inner_block-returns-clause-uses : goal.inner_block-returns-clause-uses
inner_block-returns-clause-uses t c =
    subst (λ (first : List Inst). UsesBlock (basis_of c.args.layouts.now c.args.self.now) c.args.stmts.now first c.stmts.new.block) c.new-block.ensures c.in_ok-stmts.ensures.uses

pub stmt-returns-in_ok-push-in-Let-clause-uses : goal.stmt-returns-in_ok-push-in-Let-clause-uses
stmt-returns-in_ok-push-in-Let-clause-uses t c =
    uses_let (basis_of c.args.layouts.now c.args.self.now) c.args.stmt.now c.in-Let.var c.in-Let.value c.in_ok-from-in-Let.from _ _ _ c.in-Let.is c.in_ok-from-in-Let.ensures.uses c.in_ok-push-in-Let.ensures.ok

pub stmt-returns-in_ok-push-in-Assign-clause-uses : goal.stmt-returns-in_ok-push-in-Assign-clause-uses
stmt-returns-in_ok-push-in-Assign-clause-uses t c =
    uses_assign (basis_of c.args.layouts.now c.args.self.now) c.args.stmt.now c.in-Assign.var c.in-Assign.value c.in_ok-from-in-Assign.from _ _ _ c.in-Assign.is c.in_ok-from-in-Assign.ensures.uses c.in_ok-push-in-Assign.ensures.ok

pub stmt-returns-in_ok-write-in-Write-clause-uses : goal.stmt-returns-in_ok-write-in-Write-clause-uses
stmt-returns-in_ok-write-in-Write-clause-uses t c =
    let i = c.in-Write in
    let basis = basis_of c.args.layouts.now c.args.self.now in
    of_kind (λ (stmt : TypedStmt). UsesStmt basis stmt c.args.block.now c.write.new.block) c.args.stmt.now (kind.Write i.layout i.place i.index i.way i.value) i.is
    (subst (λ (index : List TypedExpr). UsesStmt basis (write_stmt c.args.stmt.now.number i.layout i.place index i.way i.value) c.args.block.now c.write.new.block) c.as_slice-index.ensures c.in_ok-write-in-Write.ensures.uses)

pub stmt-returns-in_ok-push-in-If-clause-uses : goal.stmt-returns-in_ok-push-in-If-clause-uses
stmt-returns-in_ok-push-in-If-clause-uses t c =
    let i = c.in-If in
    let basis = basis_of c.args.layouts.now c.args.self.now in
    uses_if basis c.args.stmt.now i.cond i.yes i.no i._has_else c.in_ok-cond-in-If.cond c.in_ok-yes-in-If.yes c.in_ok-no-in-If.no _ _ _ i.is c.in_ok-cond-in-If.ensures.uses
    (uses_same basis c.as_slice.result.now i.yes [] c.in_ok-yes-in-If.yes c.as_slice.ensures c.in_ok-yes-in-If.ensures.uses)
    (uses_same basis c.as_slice-in-If.result.now i.no [] c.in_ok-no-in-If.no c.as_slice-in-If.ensures c.in_ok-no-in-If.ensures.uses)
    c.in_ok-push-in-If.ensures.ok

pub stmt-returns-in_ok-push-in-For-clause-uses : goal.stmt-returns-in_ok-push-in-For-clause-uses
stmt-returns-in_ok-push-in-For-clause-uses t c =
    let i = c.in-For in
    let basis = basis_of c.args.layouts.now c.args.self.now in
    let pushed : c.push-in-For.new.self ≡ c.args.block.now ++ v.For i.var c.constant_number-lo.result c.constant_number-hi.result c.in_ok-body-in-For.body ∷ [] = search rules in
    uses_for basis c.args.stmt.now i.var i.range i.body c.constant_number-lo.result c.constant_number-hi.result c.in_ok-body-in-For.body _ _ i.is
    (uses_same basis c.as_slice-in-For.result.now i.body [] c.in_ok-body-in-For.body c.as_slice-in-For.ensures c.in_ok-body-in-For.ensures.uses) pushed

-- ---- well typed

pub stmts-returns-clause-typed : goal.stmts-returns-clause-typed
stmts-returns-clause-typed t c =
    subst (λ (done : List TypedStmt). AddsBlock c.args.layouts.now.list done c.args.names.now c.loop-stmt.names c.args.block.now c.loop-stmt.block) (take_all c.loop-stmt.stmt-index c.args.stmts.now c.loop-stmt-test.false) c.loop-stmt.invariant.typed

pub inner_block-returns-clause-typed : goal.inner_block-returns-clause-typed
inner_block-returns-clause-typed t c =
    subst (λ (first : List Inst). AddsBlock c.args.layouts.now.list c.args.stmts.now c.args.names.now c.stmts.new.names first c.stmts.new.block) c.new-block.ensures c.in_ok-stmts.ensures.typed

pub stmt-returns-in_ok-push-in-Let-clause-typed : goal.stmt-returns-in_ok-push-in-Let-clause-typed
stmt-returns-in_ok-push-in-Let-clause-typed t c =
    let_typed c.args.layouts.now.list c.args.stmt.now c.in-Let.var c.in-Let.value c.in_ok-from-in-Let.from _ _ _ _ _ c.in-Let.is c.in_ok-from-in-Let.ensures.typed c.in_ok-push-in-Let.ensures.ok

pub stmt-returns-in_ok-push-in-Assign-clause-typed : goal.stmt-returns-in_ok-push-in-Assign-clause-typed
stmt-returns-in_ok-push-in-Assign-clause-typed t c =
    assign_typed c.args.layouts.now.list c.args.stmt.now c.in-Assign.var c.in-Assign.value c.in_ok-from-in-Assign.from _ _ _ _ _ c.in-Assign.is c.in_ok-from-in-Assign.ensures.typed c.in_ok-push-in-Assign.ensures.ok

pub stmt-returns-in_ok-write-in-Write-clause-typed : goal.stmt-returns-in_ok-write-in-Write-clause-typed
stmt-returns-in_ok-write-in-Write-clause-typed t c =
    let i = c.in-Write in
    let shapes = c.args.layouts.now.list in
    of_kind (λ (stmt : TypedStmt). AddsStmt shapes stmt c.args.names.now c.write.new.names c.args.block.now c.write.new.block) c.args.stmt.now (kind.Write i.layout i.place i.index i.way i.value) i.is
    (subst (λ (index : List TypedExpr). AddsStmt shapes (write_stmt c.args.stmt.now.number i.layout i.place index i.way i.value) c.args.names.now c.write.new.names c.args.block.now c.write.new.block) c.as_slice-index.ensures c.in_ok-write-in-Write.ensures.typed)

pub stmt-returns-in_ok-push-in-If-clause-typed : goal.stmt-returns-in_ok-push-in-If-clause-typed
stmt-returns-in_ok-push-in-If-clause-typed t c =
    let i = c.in-If in
    let shapes = c.args.layouts.now.list in
    if_typed shapes c.args.stmt.now i.cond i.yes i.no i._has_else c.in_ok-cond-in-If.cond c.in_ok-yes-in-If.yes c.in_ok-no-in-If.no _ _ _ _ _ _ _ i.is c.in_ok-cond-in-If.ensures.typed
    (block_same shapes c.as_slice.result.now i.yes _ _ [] c.in_ok-yes-in-If.yes c.as_slice.ensures c.in_ok-yes-in-If.ensures.typed)
    (block_same shapes c.as_slice-in-If.result.now i.no _ _ [] c.in_ok-no-in-If.no c.as_slice-in-If.ensures c.in_ok-no-in-If.ensures.typed)
    c.in_ok-push-in-If.ensures.ok

pub stmt-returns-in_ok-push-in-For-clause-typed : goal.stmt-returns-in_ok-push-in-For-clause-typed
stmt-returns-in_ok-push-in-For-clause-typed t c =
    let i = c.in-For in
    let shapes = c.args.layouts.now.list in
    let pushed : c.push-in-For.new.self ≡ c.args.block.now ++ v.For i.var c.constant_number-lo.result c.constant_number-hi.result c.in_ok-body-in-For.body ∷ [] = search rules in
    for_typed shapes c.args.stmt.now i.var i.range i.body c.constant_number-lo.result c.constant_number-hi.result c.in_ok-body-in-For.body _ _ _ _ i.is
    (block_same shapes c.as_slice-in-For.result.now i.body _ _ [] c.in_ok-body-in-For.body c.as_slice-in-For.ensures c.in_ok-body-in-For.ensures.typed) pushed

-- ---- which variables are set

pub stmts-returns-clause-sets : goal.stmts-returns-clause-sets
stmts-returns-clause-sets t c =
    subst (λ (done : List TypedStmt). SetsBlock done c.args.block.now c.loop-stmt.block) (take_all c.loop-stmt.stmt-index c.args.stmts.now c.loop-stmt-test.false) c.loop-stmt.invariant.sets

pub inner_block-returns-clause-sets : goal.inner_block-returns-clause-sets
inner_block-returns-clause-sets t c = subst (λ (first : List Inst). SetsBlock c.args.stmts.now first c.stmts.new.block) c.new-block.ensures c.in_ok-stmts.ensures.sets

pub stmt-returns-in_ok-push-in-Let-clause-sets : goal.stmt-returns-in_ok-push-in-Let-clause-sets
stmt-returns-in_ok-push-in-Let-clause-sets t c = sets_let c.args.stmt.now c.in-Let.var c.in-Let.value c.in_ok-from-in-Let.from _ _ _ c.in-Let.is c.in_ok-from-in-Let.ensures.vars c.in_ok-push-in-Let.ensures.ok

pub stmt-returns-in_ok-push-in-Assign-clause-sets : goal.stmt-returns-in_ok-push-in-Assign-clause-sets
stmt-returns-in_ok-push-in-Assign-clause-sets t c =
    sets_assign c.args.stmt.now c.in-Assign.var c.in-Assign.value c.in_ok-from-in-Assign.from _ _ _ c.in-Assign.is c.in_ok-from-in-Assign.ensures.vars c.in_ok-push-in-Assign.ensures.ok

pub stmt-returns-in_ok-write-in-Write-clause-sets : goal.stmt-returns-in_ok-write-in-Write-clause-sets
stmt-returns-in_ok-write-in-Write-clause-sets t c =
    let i = c.in-Write in
    of_kind (λ (stmt : TypedStmt). SetsStmt stmt c.args.block.now c.write.new.block) c.args.stmt.now (kind.Write i.layout i.place i.index i.way i.value) i.is
    (subst (λ (index : List TypedExpr). SetsStmt (write_stmt c.args.stmt.now.number i.layout i.place index i.way i.value) c.args.block.now c.write.new.block) c.as_slice-index.ensures c.in_ok-write-in-Write.ensures.sets)

pub stmt-returns-in_ok-push-in-If-clause-sets : goal.stmt-returns-in_ok-push-in-If-clause-sets
stmt-returns-in_ok-push-in-If-clause-sets t c =
    let i = c.in-If in
    sets_if c.args.stmt.now i.cond i.yes i.no i._has_else c.in_ok-cond-in-If.cond c.in_ok-yes-in-If.yes c.in_ok-no-in-If.no _ _ _ i.is c.in_ok-cond-in-If.ensures.vars
    (subst (λ (list : List TypedStmt). SetsBlock list [] c.in_ok-yes-in-If.yes) c.as_slice.ensures c.in_ok-yes-in-If.ensures.sets)
    (subst (λ (list : List TypedStmt). SetsBlock list [] c.in_ok-no-in-If.no) c.as_slice-in-If.ensures c.in_ok-no-in-If.ensures.sets)
    c.in_ok-push-in-If.ensures.ok

pub stmt-returns-in_ok-push-in-For-clause-sets : goal.stmt-returns-in_ok-push-in-For-clause-sets
stmt-returns-in_ok-push-in-For-clause-sets t c =
    let i = c.in-For in
    let pushed : c.push-in-For.new.self ≡ c.args.block.now ++ v.For i.var c.constant_number-lo.result c.constant_number-hi.result c.in_ok-body-in-For.body ∷ [] = search rules in
    sets_for c.args.stmt.now i.var i.range i.body c.constant_number-lo.result c.constant_number-hi.result c.in_ok-body-in-For.body _ _ i.is
    (subst (λ (list : List TypedStmt). SetsBlock list [] c.in_ok-body-in-For.body) c.as_slice-in-For.ensures c.in_ok-body-in-For.ensures.sets) pushed

-- ---- what is asked

pub stmts-returns-clause-asks : goal.stmts-returns-clause-asks
stmts-returns-clause-asks t c =
    subst (λ (done : List TypedStmt). AsksBlock done c.args.block.now c.loop-stmt.block) (take_all c.loop-stmt.stmt-index c.args.stmts.now c.loop-stmt-test.false) c.loop-stmt.invariant.asks

pub inner_block-returns-clause-asks : goal.inner_block-returns-clause-asks
inner_block-returns-clause-asks t c = subst (λ (first : List Inst). AsksBlock c.args.stmts.now first c.stmts.new.block) c.new-block.ensures c.in_ok-stmts.ensures.asks

pub stmt-returns-in_ok-push-in-Let-clause-asks : goal.stmt-returns-in_ok-push-in-Let-clause-asks
stmt-returns-in_ok-push-in-Let-clause-asks t c = asks_let c.args.stmt.now c.in-Let.var c.in-Let.value c.in_ok-from-in-Let.from _ _ _ c.in-Let.is c.in_ok-from-in-Let.ensures.asks c.in_ok-push-in-Let.ensures.ok

pub stmt-returns-in_ok-push-in-Assign-clause-asks : goal.stmt-returns-in_ok-push-in-Assign-clause-asks
stmt-returns-in_ok-push-in-Assign-clause-asks t c =
    asks_assign c.args.stmt.now c.in-Assign.var c.in-Assign.value c.in_ok-from-in-Assign.from _ _ _ c.in-Assign.is c.in_ok-from-in-Assign.ensures.asks c.in_ok-push-in-Assign.ensures.ok

pub stmt-returns-in_ok-write-in-Write-clause-asks : goal.stmt-returns-in_ok-write-in-Write-clause-asks
stmt-returns-in_ok-write-in-Write-clause-asks t c =
    let i = c.in-Write in
    of_kind (λ (stmt : TypedStmt). AsksStmt stmt c.args.block.now c.write.new.block) c.args.stmt.now (kind.Write i.layout i.place i.index i.way i.value) i.is
    (subst (λ (index : List TypedExpr). AsksStmt (write_stmt c.args.stmt.now.number i.layout i.place index i.way i.value) c.args.block.now c.write.new.block) c.as_slice-index.ensures c.in_ok-write-in-Write.ensures.asks)

pub stmt-returns-in_ok-push-in-If-clause-asks : goal.stmt-returns-in_ok-push-in-If-clause-asks
stmt-returns-in_ok-push-in-If-clause-asks t c =
    let i = c.in-If in
    asks_if c.args.stmt.now i.cond i.yes i.no i._has_else c.in_ok-cond-in-If.cond c.in_ok-yes-in-If.yes c.in_ok-no-in-If.no _ _ _ i.is c.in_ok-cond-in-If.ensures.asks
    (subst (λ (list : List TypedStmt). AsksBlock list [] c.in_ok-yes-in-If.yes) c.as_slice.ensures c.in_ok-yes-in-If.ensures.asks)
    (subst (λ (list : List TypedStmt). AsksBlock list [] c.in_ok-no-in-If.no) c.as_slice-in-If.ensures c.in_ok-no-in-If.ensures.asks)
    c.in_ok-push-in-If.ensures.ok

pub stmt-returns-in_ok-push-in-For-clause-asks : goal.stmt-returns-in_ok-push-in-For-clause-asks
stmt-returns-in_ok-push-in-For-clause-asks t c =
    let i = c.in-For in
    let pushed : c.push-in-For.new.self ≡ c.args.block.now ++ v.For i.var c.constant_number-lo.result c.constant_number-hi.result c.in_ok-body-in-For.body ∷ [] = search rules in
    asks_for c.args.stmt.now i.var i.range i.body c.constant_number-lo.result c.constant_number-hi.result c.in_ok-body-in-For.body _ _ i.is
    (subst (λ (list : List TypedStmt). AsksBlock list [] c.in_ok-body-in-For.body) c.as_slice-in-For.ensures c.in_ok-body-in-For.ensures.asks) pushed
