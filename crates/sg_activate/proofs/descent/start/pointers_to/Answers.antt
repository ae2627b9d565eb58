use Rattle.std.proofs.Common.{◌≡◌, suc, inl, inr, refl, sym, ap, ◌∙◌, arith}
use Rattle.sg_activate.specs.Descending.{is_pointer, number_among}
use Rattle.sg_activate.proofs.DescentAdds.{pointers_grow}
use Rattle.sg_activate.proofs.descent.start.pointers_to.Goals as goal
use Rattle.sg_activate.proofs.descent.start.pointers_to.Goals.{then-is_pointer, else-is_pointer}

pub loop-index-init : goal.loop-index-init
loop-index-init c = (refl, omega arith)

pub loop-index-preserved : goal.loop-index-preserved
loop-index-preserved c =
    pointers_grow c.args.nodes.now c.loop-index.index c.loop-index.many c.if-is_pointer.many _ (let a = c.loop-index-test.true in let b = c.requires.within in omega arith) c.loop-index.invariant (elim c.if-is_pointer.branch [
      | then-is_pointer w ↦ inl (sym c.is_pointer.ensures ∙ w.if-is_pointer.true, w.many-is)
      | else-is_pointer w ↦ inr (sym c.is_pointer.ensures ∙ w.if-is_pointer.false, w.many-is)
    ])

pub overflow_add-many : goal.overflow_add-many
overflow_add-many c = let i = c.loop-index.invariant.1 in let t = c.loop-index-test.true in let r = c.ranges.last.fits in omega arith

pub returns : goal.returns
returns c =
    let f = c.loop-index-test.false in
    let e = c.loop-index.auto.index-end in
    let end : c.loop-index.index ≡ c.args.last = omega arith in
    c.loop-index.invariant.0 ∙ ap (λ n. number_among is_pointer c.args.nodes.now (suc n)) end
