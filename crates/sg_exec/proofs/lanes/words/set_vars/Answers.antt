use Rattle.std.proofs.Common.{◌≡◌, refl, ap, length, arith}
use Rattle.std.specs.Vec.{with_items}
use Rattle.sg_ir.specs.Runs.{set_var_word}
use Rattle.sg_exec.specs.steps.Rows.{On}
use Rattle.sg_exec.proofs.RowsMoved.{vars_done, whole_items}
use Rattle.sg_exec.proofs.lanes.words.set_vars.Goals as goal

pub returns-then-has_var : goal.returns-then-has_var
returns-then-has_var c =
    let wrote : (with_items c.has_var.new.self.vars c.fill.new.items).items ≡ c.fill.new.items = whole_items c.has_var.new.self.vars.len c.fill.new.items c.has_var.new.self.vars.items (omega (arith, c.fill.ensures.long, ap length c.as_mut_slice.ensures.value, c.has_var.new.self.vars.ok.0)) (omega (arith, c.has_var.new.self.vars.ok.0)) in
    vars_done c.args.batch.now c.has_var.new.self (record c.has_var.new.self { vars = with_items c.has_var.new.self.vars c.fill.new.items }) c.as_mut_slice.result.now c.fill.new.items (On c.args.columns.now.on) c.args.var (λ k word. word ≡ c.args.word) (λ seen now. c.args.word) (λ seen. set_var_word c.args.var c.args.word) (λ seen now. refl)
    c.has_var.ensures.keeps (record { lacks = refl; regs = refl; places = refl; moments = refl }) c.as_mut_slice.ensures.value wrote c.fill.ensures
    (λ k word stores state at moment now small is sees moved. is)
