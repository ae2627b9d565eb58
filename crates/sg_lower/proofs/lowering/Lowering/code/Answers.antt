use Rattle.std.proofs.Common.{List, [], subst, map}
use Rattle.sg_types.specs.Iterations.{run_all, action_of}
use Rattle.sg_ir.specs.declared.code.Inst.{Inst}
use Rattle.sg_lower.specs.steps.Basis.{basis_of}
use Rattle.sg_lower.specs.steps.Agreeing.{Steps}
use Rattle.sg_lower.specs.steps.Using.{UsesBlock}
use Rattle.sg_lower.specs.steps.Asking.{AsksBlock}
use Rattle.sg_lower.specs.steps.Typing.{AddsBlock, SetsBlock}
use Rattle.sg_ir.specs.declared.names.Names.{Names}
use Rattle.sg_lower.proofs.Opening.{tells}
use Rattle.sg_lower.proofs.lowering.Lowering.code.Goals as goal

pub returns-clause-tells : goal.returns-clause-tells
returns-clause-tells c = λ h.
    let basis = basis_of c.args.layouts.now c.args.self.now in
    tells basis c.args.stmts.now c.stmts.new.block
    (subst (λ (first : List Inst). Steps basis (λ world now. run_all (map (action_of world) c.args.stmts.now) now) first c.stmts.new.block) c.new-body.ensures (c.in_ok-stmts.ensures.steps h))

pub returns-clause-uses : goal.returns-clause-uses
returns-clause-uses c =
    subst (λ (first : List Inst). UsesBlock (basis_of c.args.layouts.now c.args.self.now) c.args.stmts.now first c.stmts.new.block) c.new-body.ensures c.in_ok-stmts.ensures.uses

pub returns-clause-typed : goal.returns-clause-typed
returns-clause-typed c =
    let shapes = c.args.layouts.now.list in
    subst (λ (names : Names). AddsBlock shapes c.args.stmts.now names c.stmts.new.names [] c.stmts.new.block) c.new-names.ensures
    (subst (λ (first : List Inst). AddsBlock shapes c.args.stmts.now c.new-names.result c.stmts.new.names first c.stmts.new.block) c.new-body.ensures c.in_ok-stmts.ensures.typed)

pub returns-clause-sets : goal.returns-clause-sets
returns-clause-sets c = subst (λ (first : List Inst). SetsBlock c.args.stmts.now first c.stmts.new.block) c.new-body.ensures c.in_ok-stmts.ensures.sets

pub returns-clause-asks : goal.returns-clause-asks
returns-clause-asks c = subst (λ (first : List Inst). AsksBlock c.args.stmts.now first c.stmts.new.block) c.new-body.ensures c.in_ok-stmts.ensures.asks
