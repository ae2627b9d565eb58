use Rattle.std.proofs.Common.{◌≡◌, refl, ap, length, arith}
use Rattle.std.specs.Vec.{with_items}
use Rattle.sg_ir.proofs.Uses.{does-Const}
use Rattle.sg_exec.specs.steps.Rows.{On}
use Rattle.sg_exec.proofs.RowsMoved.{regs_done, whole_items}
use Rattle.sg_exec.proofs.lanes.words.constants.Goals as goal

pub returns-then-has_regs : goal.returns-then-has_regs
returns-then-has_regs c =
    let wrote : (with_items c.has_regs.new.self.regs c.fill.new.items).items ≡ c.fill.new.items = whole_items c.has_regs.new.self.regs.len c.fill.new.items c.has_regs.new.self.regs.items (omega (arith, c.fill.ensures.long, ap length c.as_mut_slice.ensures.value, c.has_regs.new.self.regs.ok.0)) (omega (arith, c.has_regs.new.self.regs.ok.0)) in
    regs_done c.args.batch.now c.has_regs.new.self (record c.has_regs.new.self { regs = with_items c.has_regs.new.self.regs c.fill.new.items }) c.as_mut_slice.result.now c.fill.new.items (On c.args.columns.now.on) c.args.to (λ k word. word ≡ c.args.word) (λ seen now. c.args.word) _ (λ seen now. does-Const seen c.args.to c.args.word now)
    c.has_regs.ensures.keeps (record { lacks = refl; vars = refl; places = refl; moments = refl }) c.as_mut_slice.ensures.value wrote c.fill.ensures
    (λ k word stores state at moment now small is sees moved. is)
