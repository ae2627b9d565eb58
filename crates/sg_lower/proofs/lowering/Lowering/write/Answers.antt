use Rattle.std.proofs.Common.{◌≡◌, true, ℕ, List, length, subst, ◌∙◌}
use Rattle.sg_types.specs.Expressions.{equals_some}
use Rattle.sg_types.specs.WellTyped.{axes_in}
use Rattle.sg_ir.specs.Runs.{named_by}
use Rattle.sg_ir.specs.Places.{place_at}
use Rattle.sg_ir.specs.Emits.{LeadsToPlace}
use Rattle.sg_lower.specs.steps.Basis.{basis_of}
use Rattle.sg_lower.proofs.Stepping.{does_want, does_own, does_acc}
use Rattle.sg_ir.specs.EmitTypes.{Adds, CanRead}
use Rattle.sg_lower.specs.steps.Typing.{IsCell}
use Rattle.sg_ir.specs.declared.code.Inst.TheVariants as v
use Rattle.sg_ir.specs.WellTyped.{sets_step}
use Rattle.sg_ir.proofs.Uses.{fold-OwnWrite, fold-Acc, fold-Want}
use Rattle.sg_lower.proofs.SettingLines.{none_set, sets_write}
use Rattle.sg_lower.proofs.TypingLines.{want_typed, own_typed, acc_typed}
use Rattle.sg_lower.proofs.UsingLines.{uses_want, uses_own, uses_acc}
use Rattle.sg_lower.proofs.AskingLines.{asks_want, asks_own, asks_acc}
use Rattle.sg_lower.proofs.lowering.Lowering.write.Goals as goal

pub returns-then-self-clause-steps : goal.returns-then-self-clause-steps
returns-then-self-clause-steps c =
    let a = c.args in
    does_want (basis_of a.layouts.now a.self.now) a.stmt a.layout a.place a.index.now a.way a.value.now c.in_ok-index.index _ _ _ _ _ c.if-self.true c.in_ok-index.ensures.values c.in_ok-push.ensures.ok

pub returns-in_ok-push-in-Own-clause-steps : goal.returns-in_ok-push-in-Own-clause-steps
returns-in_ok-push-in-Own-clause-steps c =
    let a = c.args in
    does_own (basis_of a.layouts.now a.self.now) a.stmt a.layout a.place a.index.now a.way c.in-Own.is a.value.now c.in_ok-from.from _ _ _ _ _ c.if-self.false c.in_ok-from.ensures.values c.in_ok-push-in-Own.ensures.ok

pub returns-in_ok-push-in-Acc-clause-steps : goal.returns-in_ok-push-in-Acc-clause-steps
returns-in_ok-push-in-Acc-clause-steps c =
    let a = c.args in
    let basis = basis_of a.layouts.now a.self.now in
    does_acc basis a.stmt a.layout a.place a.index.now a.way c.in-Acc.op c.in-Acc.is a.value.now c.in_ok-from.from c.in_ok-at-in-Acc.at c.in_ok-index-in-Acc.index _ _ c.indices-in-Acc.new.names c.named_place.new.names _ _ c.indices-in-Acc.new.block c.named_place.new.block _
    c.if-self.false c.in_ok-from.ensures.values c.in_ok-index-in-Acc.ensures.values c.in_ok-index-in-Acc.ensures.count
    (subst (λ (regs : List ℕ). equals_some (axes_in basis.shapes a.layout) (length regs) ≡ true → LeadsToPlace basis.shapes regs (λ seen now. place_at basis.shapes a.layout (named_by regs now)) a.layout c.in_ok-at-in-Acc.at c.indices-in-Acc.new.names c.named_place.new.names c.indices-in-Acc.new.block c.named_place.new.block) c.as_slice.ensures c.in_ok-at-in-Acc.ensures.leads)
    c.in_ok-push-in-Acc.ensures.ok

pub returns-then-self-clause-uses : goal.returns-then-self-clause-uses
returns-then-self-clause-uses c =
    let a = c.args in
    uses_want (basis_of a.layouts.now a.self.now) a.stmt a.layout a.place a.index.now a.way a.value.now c.in_ok-index.index _ _ _ c.if-self.true c.in_ok-index.ensures.uses c.in_ok-push.ensures.ok

pub returns-in_ok-push-in-Own-clause-uses : goal.returns-in_ok-push-in-Own-clause-uses
returns-in_ok-push-in-Own-clause-uses c =
    let a = c.args in
    uses_own (basis_of a.layouts.now a.self.now) a.stmt a.layout a.place a.index.now a.way a.value.now c.in_ok-from.from _ _ _ c.if-self.false c.in-Own.is c.in_ok-from.ensures.uses c.in_ok-push-in-Own.ensures.ok

pub returns-in_ok-push-in-Acc-clause-uses : goal.returns-in_ok-push-in-Acc-clause-uses
returns-in_ok-push-in-Acc-clause-uses c =
    let a = c.args in
    uses_acc (basis_of a.layouts.now a.self.now) a.stmt a.layout a.place a.index.now a.way a.value.now c.in-Acc.op c.in_ok-from.from c.in_ok-at-in-Acc.at c.in_ok-index-in-Acc.index _ _ c.indices-in-Acc.new.block c.named_place.new.block _
    c.if-self.false c.in-Acc.is c.in_ok-from.ensures.uses c.in_ok-index-in-Acc.ensures.uses c.in_ok-at-in-Acc.ensures.uses c.in_ok-push-in-Acc.ensures.ok

pub returns-then-self-clause-typed : goal.returns-then-self-clause-typed
returns-then-self-clause-typed c =
    let a = c.args in
    want_typed a.layouts.now.list a.stmt a.layout a.place a.index.now a.way a.value.now c.in_ok-index.index _ _ _ _ _ c.in_ok-index.ensures.count c.in_ok-index.ensures.typed c.in_ok-push.ensures.ok

pub returns-in_ok-push-in-Own-clause-typed : goal.returns-in_ok-push-in-Own-clause-typed
returns-in_ok-push-in-Own-clause-typed c =
    let a = c.args in
    own_typed a.layouts.now.list a.stmt a.layout a.place a.index.now a.way a.value.now c.in_ok-from.from _ _ _ _ _ c.in_ok-from.ensures.typed c.in_ok-push-in-Own.ensures.ok

pub returns-in_ok-push-in-Acc-clause-typed : goal.returns-in_ok-push-in-Acc-clause-typed
returns-in_ok-push-in-Acc-clause-typed c =
    let a = c.args in
    let shapes = a.layouts.now.list in
    acc_typed shapes a.stmt a.layout a.place a.index.now a.way a.value.now c.in-Acc.op c.in_ok-from.from c.in_ok-at-in-Acc.at c.in_ok-index-in-Acc.index _ _ c.indices-in-Acc.new.names c.named_place.new.names _ _ c.indices-in-Acc.new.block c.named_place.new.block _
    c.in_ok-from.ensures.grows.1 c.in_ok-index-in-Acc.ensures.grows.0.regs c.in_ok-index-in-Acc.ensures.count c.in_ok-index-in-Acc.ensures.grows.1 c.in_ok-from.ensures.typed c.in_ok-index-in-Acc.ensures.typed
    (subst (λ (regs : List ℕ). equals_some (axes_in shapes a.layout) (length regs) ≡ true → Adds shapes (CanRead regs) (IsCell c.in_ok-at-in-Acc.at a.layout) c.indices-in-Acc.new.names c.named_place.new.names c.indices-in-Acc.new.block c.named_place.new.block) c.as_slice.ensures c.in_ok-at-in-Acc.ensures.typed)
    c.in_ok-push-in-Acc.ensures.ok

pub returns-then-self-clause-sets : goal.returns-then-self-clause-sets
returns-then-self-clause-sets c =
    let a = c.args in
    sets_write a.stmt a.layout a.place a.index.now a.way a.value.now (v.Want a.layout c.in_ok-index.index a.stmt) _ _ _ c.in_ok-index.ensures.vars c.in_ok-push.ensures.ok (none_set _ (fold-Want sets_step a.layout c.in_ok-index.index a.stmt))

pub returns-in_ok-push-in-Own-clause-sets : goal.returns-in_ok-push-in-Own-clause-sets
returns-in_ok-push-in-Own-clause-sets c =
    let a = c.args in
    sets_write a.stmt a.layout a.place a.index.now a.way a.value.now (v.OwnWrite a.layout a.place c.in_ok-from.from a.stmt) _ _ _ c.in_ok-from.ensures.vars c.in_ok-push-in-Own.ensures.ok (none_set _ (fold-OwnWrite sets_step a.layout a.place c.in_ok-from.from a.stmt))

pub returns-in_ok-push-in-Acc-clause-sets : goal.returns-in_ok-push-in-Acc-clause-sets
returns-in_ok-push-in-Acc-clause-sets c =
    let a = c.args in
    sets_write a.stmt a.layout a.place a.index.now a.way a.value.now (v.Acc c.in-Acc.op a.layout a.place c.in_ok-at-in-Acc.at c.in_ok-from.from c.in_ok-index-in-Acc.index a.stmt) _ _ _
    (c.in_ok-at-in-Acc.ensures.vars ∙ (c.in_ok-index-in-Acc.ensures.vars ∙ c.in_ok-from.ensures.vars)) c.in_ok-push-in-Acc.ensures.ok
    (none_set _ (fold-Acc sets_step c.in-Acc.op a.layout a.place c.in_ok-at-in-Acc.at c.in_ok-from.from c.in_ok-index-in-Acc.index a.stmt))

pub returns-then-self-clause-asks : goal.returns-then-self-clause-asks
returns-then-self-clause-asks c =
    let a = c.args in
    asks_want a.stmt a.layout a.place a.index.now a.way a.value.now c.in_ok-index.index _ _ _ c.in_ok-index.ensures.asks c.in_ok-push.ensures.ok

pub returns-in_ok-push-in-Own-clause-asks : goal.returns-in_ok-push-in-Own-clause-asks
returns-in_ok-push-in-Own-clause-asks c =
    let a = c.args in
    asks_own a.stmt a.layout a.place a.index.now a.way a.value.now c.in_ok-from.from _ _ _ c.in_ok-from.ensures.asks c.in_ok-push-in-Own.ensures.ok

pub returns-in_ok-push-in-Acc-clause-asks : goal.returns-in_ok-push-in-Acc-clause-asks
returns-in_ok-push-in-Acc-clause-asks c =
    let a = c.args in
    asks_acc a.stmt a.layout a.place a.index.now a.way a.value.now c.in-Acc.op c.in_ok-from.from c.in_ok-at-in-Acc.at c.in_ok-index-in-Acc.index _ _ c.indices-in-Acc.new.block c.named_place.new.block _
    c.in_ok-from.ensures.asks c.in_ok-index-in-Acc.ensures.asks c.in_ok-at-in-Acc.ensures.asks c.in_ok-push-in-Acc.ensures.ok
