use Rattle.std.proofs.Common.{◌≡◌, ℕ, ◌+◌, ◌*◌, ◌%◌, ◌^◌, refl, ap, ◌∙◌, length, arith}
use Rattle.std.specs.Prelude.{List}
use Rattle.std.specs.Vec.{with_items}
use Rattle.sg_ir.proofs.Uses.{does-Offset}
use Rattle.sg_exec.specs.steps.Rows.{item_in, On}
use Rattle.sg_exec.proofs.RowsMoved.{regs_done, whole_items}
use Rattle.sg_exec.proofs.lanes.words.offsets.Goals as goal

pub returns-then-has_regs : goal.returns-then-has_regs
returns-then-has_regs c =
    let wrote : (with_items c.has_regs.new.self.regs c.join.new.regs).items ≡ c.join.new.regs = whole_items c.has_regs.new.self.regs.len c.join.new.regs c.has_regs.new.self.regs.items (omega (arith, c.join.ensures.long, ap length c.as_mut_slice.ensures.value, c.has_regs.new.self.regs.ok.0)) (omega (arith, c.has_regs.new.self.regs.ok.0)) in
    regs_done c.args.batch.now c.has_regs.new.self (record c.has_regs.new.self { regs = with_items c.has_regs.new.self.regs c.join.new.regs }) c.as_mut_slice.result.now c.join.new.regs (On c.args.columns.now.on) c.args.to (λ k word. word ≡ ((item_in c.as_mut_slice.result.now 0 k c.args.high) * c.args.size + (item_in c.as_mut_slice.result.now 0 k c.args.low)) % 2 ^ 32) (λ seen now. (now.regs c.args.high * c.args.size + now.regs c.args.low) % 2 ^ 32) _ (λ seen now. does-Offset seen c.args.to c.args.high c.args.size c.args.low now)
    c.has_regs.ensures.keeps (record { lacks = refl; vars = refl; places = refl; moments = refl }) c.as_mut_slice.ensures.value wrote c.join.ensures
    (λ k word stores state at moment now small is sees moved. is ∙ ap (λ (x : ℕ). (x * c.args.size + (item_in c.as_mut_slice.result.now 0 k c.args.low)) % 2 ^ 32) (ap (λ (items : List ℕ). item_in items 0 k c.args.high) c.as_mut_slice.ensures.value ∙ moved.regs_are c.args.high) ∙ ap (λ (y : ℕ). (now.regs c.args.high * c.args.size + y) % 2 ^ 32) (ap (λ (items : List ℕ). item_in items 0 k c.args.low) c.as_mut_slice.ensures.value ∙ moved.regs_are c.args.low))
