use Rattle.std.proofs.Common.{◌≡◌, ℕ, refl, ap, ◌∙◌, length, arith}
use Rattle.std.specs.Prelude.{List}
use Rattle.std.specs.Vec.{with_items}
use Rattle.sg_ir.proofs.Uses.{does-Set}
use Rattle.sg_exec.specs.steps.Rows.{item_in, On}
use Rattle.sg_exec.proofs.RowsMoved.{vars_done, whole_items}
use Rattle.sg_exec.proofs.SideBySide.{keeps_both}
use Rattle.sg_exec.proofs.lanes.words.assigns.Goals as goal

pub returns-then-has_var : goal.returns-then-has_var
returns-then-has_var c =
    let wrote : (with_items c.has_var.new.self.vars c.copy.new.items).items ≡ c.copy.new.items = whole_items c.has_var.new.self.vars.len c.copy.new.items c.has_var.new.self.vars.items (omega (arith, c.copy.ensures.long, ap length c.as_mut_slice.ensures.value, c.has_var.new.self.vars.ok.0)) (omega (arith, c.has_var.new.self.vars.ok.0)) in
    vars_done c.args.batch.now c.has_var.new.self (record c.has_var.new.self { vars = with_items c.has_var.new.self.vars c.copy.new.items }) c.as_mut_slice.result.now c.copy.new.items (On c.args.columns.now.on) c.args.var (λ k word. word ≡ item_in c.as_slice.result.now 0 k c.args.from) (λ seen now. now.regs c.args.from) _ (λ seen now. does-Set seen c.args.var c.args.from now)
    (keeps_both c.args.batch.now c.has_regs.new.self c.has_var.new.self c.has_regs.ensures.keeps c.has_var.ensures.keeps) (record { lacks = refl; regs = refl; places = refl; moments = refl }) c.as_mut_slice.ensures.value wrote c.copy.ensures
    (λ k word stores state at moment now small is sees moved. is ∙ ap (λ (items : List ℕ). item_in items 0 k c.args.from) c.as_slice.ensures.value ∙ moved.regs_are c.args.from)
