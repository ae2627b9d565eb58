use Rattle.std.proofs.Common.{◌≡◌, ℕ, List, length, get_or, true, false, ap, sym, ◌∙◌, subst, arith}
use Rattle.std.specs.Vec.{with_items}
use Rattle.sg_exec.specs.declared.lanes.moment.Moment.{Moment}
use Rattle.sg_exec.specs.steps.Rows.{item_in}
use Rattle.sg_exec.specs.steps.Moments.{AreFresh}
use Rattle.sg_exec.proofs.RowsMoved.{whole_items}
use Rattle.sg_exec.proofs.Starting.{started_all}
use Rattle.sg_exec.proofs.lanes.batch.start_all.Goals as goal

pub put_parts-requires-clause-none : goal.put_parts-requires-clause-none
put_parts-requires-clause-none c = λ place. ap (λ (items : List ℕ). get_or items place 0) c.as_mut_slice-then-has_var.ensures.value ∙ c.has_var.ensures.keeps.vars place ∙ c.reset-2.ensures.none place

pub returns-then-has_var : goal.returns-then-has_var
returns-then-has_var c =
    let wrote : (with_items c.has_var.new.self.vars c.put_parts.new.vars).items ≡ c.put_parts.new.vars =
    whole_items c.has_var.new.self.vars.len c.put_parts.new.vars c.has_var.new.self.vars.items (omega (arith, c.put_parts.ensures.long, ap length c.as_mut_slice-then-has_var.ensures.value, c.has_var.new.self.vars.ok.0)) (omega (arith, c.has_var.new.self.vars.ok.0)) in
    let made : (with_items c.args.batch.now.moments c.start_moments.new.moments).items ≡ c.start_moments.new.moments =
    whole_items c.args.batch.now.moments.len c.start_moments.new.moments c.args.batch.now.moments.items (omega (arith, c.start_moments.ensures.long, ap length c.as_mut_slice.ensures.value, c.args.batch.now.moments.ok.0)) (omega (arith, c.args.batch.now.moments.ok.0)) in
    let fresh : AreFresh c.args.points.now c.args.batch.now.moments.items c.has_var.new.self.moments.items =
    subst (λ (olds : List Moment). AreFresh c.args.points.now olds c.has_var.new.self.moments.items) c.as_mut_slice.ensures.value
    (subst (λ (news : List Moment). AreFresh c.args.points.now c.as_mut_slice.result.now news) (sym (ap (λ ms. ms.items) c.has_var.ensures.keeps.moments ∙ made)) c.start_moments.ensures) in
    started_all c.args.points.now c.args.batch.now (record c.has_var.new.self { vars = with_items c.has_var.new.self.vars c.put_parts.new.vars }) (c.has_var.ensures.keeps.stores ∙ c.start.ensures.stores) fresh
    (λ place. c.has_var.ensures.keeps.regs place ∙ c.reset.ensures.none place) (λ place. c.has_var.ensures.keeps.held place ∙ c.start.ensures.none place)
    (λ lacks k at is number. ap (λ (items : List ℕ). item_in items 0 k number) wrote ∙ c.put_parts.ensures.parts k at is number)

pub returns-else-has_var : goal.returns-else-has_var
returns-else-has_var c =
    let made : (with_items c.args.batch.now.moments c.start_moments.new.moments).items ≡ c.start_moments.new.moments =
    whole_items c.args.batch.now.moments.len c.start_moments.new.moments c.args.batch.now.moments.items (omega (arith, c.start_moments.ensures.long, ap length c.as_mut_slice.ensures.value, c.args.batch.now.moments.ok.0)) (omega (arith, c.args.batch.now.moments.ok.0)) in
    let fresh : AreFresh c.args.points.now c.args.batch.now.moments.items c.has_var.new.self.moments.items =
    subst (λ (olds : List Moment). AreFresh c.args.points.now olds c.has_var.new.self.moments.items) c.as_mut_slice.ensures.value
    (subst (λ (news : List Moment). AreFresh c.args.points.now c.as_mut_slice.result.now news) (sym (ap (λ ms. ms.items) c.has_var.ensures.keeps.moments ∙ made)) c.start_moments.ensures) in
    started_all c.args.points.now c.args.batch.now c.has_var.new.self (c.has_var.ensures.keeps.stores ∙ c.start.ensures.stores) fresh
    (λ place. c.has_var.ensures.keeps.regs place ∙ c.reset.ensures.none place) (λ place. c.has_var.ensures.keeps.held place ∙ c.start.ensures.none place)
    (λ lacks k at is number. absurd (let wanting : true ≡ false = sym (c.has_var.ensures.lacks c.if-has_var.false) ∙ lacks in cc))
