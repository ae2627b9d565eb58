use Rattle.std.proofs.Common.{◌≡◌, ℕ, refl, ap, ◌∙◌, length, arith}
use Rattle.std.specs.Prelude.{List}
use Rattle.std.specs.Vec.{with_items}
use Rattle.sg_words.specs.Words.{applied_un}
use Rattle.sg_ir.proofs.Uses.{does-Un}
use Rattle.sg_exec.specs.steps.Rows.{item_in, On}
use Rattle.sg_exec.proofs.RowsMoved.{regs_done, whole_items}
use Rattle.sg_exec.proofs.lanes.words.unaries.Goals as goal

pub returns-then-has_regs : goal.returns-then-has_regs
returns-then-has_regs c =
    let wrote : (with_items c.has_regs.new.self.regs c.alter.new.regs).items ≡ c.alter.new.regs = whole_items c.has_regs.new.self.regs.len c.alter.new.regs c.has_regs.new.self.regs.items (omega (arith, c.alter.ensures.long, ap length c.as_mut_slice.ensures.value, c.has_regs.new.self.regs.ok.0)) (omega (arith, c.has_regs.new.self.regs.ok.0)) in
    regs_done c.args.batch.now c.has_regs.new.self (record c.has_regs.new.self { regs = with_items c.has_regs.new.self.regs c.alter.new.regs }) c.as_mut_slice.result.now c.alter.new.regs (On c.args.columns.now.on) c.args.to (λ k word. word ≡ applied_un c.args.op (item_in c.as_mut_slice.result.now 0 k c.args.a)) (λ seen now. applied_un c.args.op (now.regs c.args.a)) _ (λ seen now. does-Un seen c.args.to c.args.op c.args.ty c.args.a now)
    c.has_regs.ensures.keeps (record { lacks = refl; vars = refl; places = refl; moments = refl }) c.as_mut_slice.ensures.value wrote c.alter.ensures
    (λ k word stores state at moment now small is sees moved. is ∙ ap (λ (x : ℕ). applied_un c.args.op x) (ap (λ (items : List ℕ). item_in items 0 k c.args.a) c.as_mut_slice.ensures.value ∙ moved.regs_are c.args.a))
