use Rattle.std.proofs.Common.{◌≡◌, ℕ, ◌/◌, ◌%◌, refl, ap, ◌∙◌, length, arith}
use Rattle.std.specs.Prelude.{List}
use Rattle.std.specs.Vec.{with_items}
use Rattle.sg_ir.proofs.Uses.{does-Extract}
use Rattle.sg_exec.specs.steps.Rows.{item_in, On}
use Rattle.sg_exec.proofs.RowsMoved.{regs_done, whole_items}
use Rattle.sg_exec.proofs.lanes.words.extracts.Goals as goal

pub returns-then-has_regs : goal.returns-then-has_regs
returns-then-has_regs c =
    let wrote : (with_items c.has_regs.new.self.regs c.take_digits.new.regs).items ≡ c.take_digits.new.regs = whole_items c.has_regs.new.self.regs.len c.take_digits.new.regs c.has_regs.new.self.regs.items (omega (arith, c.take_digits.ensures.long, ap length c.as_mut_slice.ensures.value, c.has_regs.new.self.regs.ok.0)) (omega (arith, c.has_regs.new.self.regs.ok.0)) in
    regs_done c.args.batch.now c.has_regs.new.self (record c.has_regs.new.self { regs = with_items c.has_regs.new.self.regs c.take_digits.new.regs }) c.as_mut_slice.result.now c.take_digits.new.regs (On c.args.columns.now.on) c.args.to (λ k word. word ≡ (item_in c.as_mut_slice.result.now 0 k c.args.from) / c.args.div % c.args.size) (λ seen now. now.regs c.args.from / c.args.div % c.args.size) _ (λ seen now. does-Extract seen c.args.to c.args.div c.args.size c.args.from now)
    c.has_regs.ensures.keeps (record { lacks = refl; vars = refl; places = refl; moments = refl }) c.as_mut_slice.ensures.value wrote c.take_digits.ensures
    (λ k word stores state at moment now small is sees moved. is ∙ ap (λ (x : ℕ). x / c.args.div % c.args.size) (ap (λ (items : List ℕ). item_in items 0 k c.args.from) c.as_mut_slice.ensures.value ∙ moved.regs_are c.args.from))
