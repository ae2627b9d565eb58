use Rattle.std.proofs.Common.{◌≡◌, ℕ, refl, ap, ◌∙◌, length, arith}
use Rattle.std.specs.Prelude.{List}
use Rattle.std.specs.Vec.{with_items}
use Rattle.sg_words.specs.Words.{mulq_of}
use Rattle.sg_ir.proofs.Uses.{does-Mulq}
use Rattle.sg_exec.specs.steps.Rows.{item_in, On}
use Rattle.sg_exec.proofs.RowsMoved.{regs_done, whole_items}
use Rattle.sg_exec.proofs.lanes.words.products.Goals as goal

pub returns-then-has_four_regs : goal.returns-then-has_four_regs
returns-then-has_four_regs c =
    let wrote : (with_items c.has_four_regs.new.self.regs c.multiply.new.regs).items ≡ c.multiply.new.regs = whole_items c.has_four_regs.new.self.regs.len c.multiply.new.regs c.has_four_regs.new.self.regs.items (omega (arith, c.multiply.ensures.long, ap length c.as_mut_slice.ensures.value, c.has_four_regs.new.self.regs.ok.0)) (omega (arith, c.has_four_regs.new.self.regs.ok.0)) in
    regs_done c.args.batch.now c.has_four_regs.new.self (record c.has_four_regs.new.self { regs = with_items c.has_four_regs.new.self.regs c.multiply.new.regs }) c.as_mut_slice.result.now c.multiply.new.regs (On c.args.columns.now.on) c.args.to (λ k word. word ≡ mulq_of (item_in c.as_mut_slice.result.now 0 k c.args.a) (item_in c.as_mut_slice.result.now 0 k c.args.b) (item_in c.as_mut_slice.result.now 0 k c.args.s)) (λ seen now. mulq_of (now.regs c.args.a) (now.regs c.args.b) (now.regs c.args.s)) _ (λ seen now. does-Mulq seen c.args.to c.args.a c.args.b c.args.s now)
    c.has_four_regs.ensures.keeps (record { lacks = refl; vars = refl; places = refl; moments = refl }) c.as_mut_slice.ensures.value wrote c.multiply.ensures
    (λ k word stores state at moment now small is sees moved. is ∙ ap (λ (x : ℕ). mulq_of x (item_in c.as_mut_slice.result.now 0 k c.args.b) (item_in c.as_mut_slice.result.now 0 k c.args.s)) (ap (λ (items : List ℕ). item_in items 0 k c.args.a) c.as_mut_slice.ensures.value ∙ moved.regs_are c.args.a) ∙ ap (λ (y : ℕ). mulq_of (now.regs c.args.a) y (item_in c.as_mut_slice.result.now 0 k c.args.s)) (ap (λ (items : List ℕ). item_in items 0 k c.args.b) c.as_mut_slice.ensures.value ∙ moved.regs_are c.args.b) ∙ ap (λ (z : ℕ). mulq_of (now.regs c.args.a) (now.regs c.args.b) z) (ap (λ (items : List ℕ). item_in items 0 k c.args.s) c.as_mut_slice.ensures.value ∙ moved.regs_are c.args.s))
