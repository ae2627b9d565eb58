use Rattle.std.proofs.Common.{◌≡◌, ℕ, refl, ap, ◌∙◌, length, arith}
use Rattle.std.specs.Prelude.{List}
use Rattle.std.specs.Vec.{with_items}
use Rattle.sg_ir.proofs.Uses.{does-Var}
use Rattle.sg_exec.specs.steps.Rows.{item_in, On}
use Rattle.sg_exec.proofs.RowsMoved.{regs_done, whole_items}
use Rattle.sg_exec.proofs.SideBySide.{keeps_both}
use Rattle.sg_exec.proofs.lanes.words.variables.Goals as goal

pub returns-then-has_var : goal.returns-then-has_var
returns-then-has_var c =
    let wrote : (with_items c.has_var.new.self.regs c.copy.new.items).items ≡ c.copy.new.items = whole_items c.has_var.new.self.regs.len c.copy.new.items c.has_var.new.self.regs.items (omega (arith, c.copy.ensures.long, ap length c.as_mut_slice.ensures.value, c.has_var.new.self.regs.ok.0)) (omega (arith, c.has_var.new.self.regs.ok.0)) in
    regs_done c.args.batch.now c.has_var.new.self (record c.has_var.new.self { regs = with_items c.has_var.new.self.regs c.copy.new.items }) c.as_mut_slice.result.now c.copy.new.items (On c.args.columns.now.on) c.args.to (λ k word. word ≡ item_in c.as_slice.result.now 0 k c.args.var) (λ seen now. now.vars c.args.var) _ (λ seen now. does-Var seen c.args.to c.args.var now)
    (keeps_both c.args.batch.now c.has_regs.new.self c.has_var.new.self c.has_regs.ensures.keeps c.has_var.ensures.keeps) (record { lacks = refl; vars = refl; places = refl; moments = refl }) c.as_mut_slice.ensures.value wrote c.copy.ensures
    (λ k word stores state at moment now small is sees moved. is ∙ ap (λ (items : List ℕ). item_in items 0 k c.args.var) c.as_slice.ensures.value ∙ moved.vars_are c.args.var)
