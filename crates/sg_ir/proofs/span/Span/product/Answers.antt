use Rattle.std.proofs.Common.{arith, ap₂, ◌∙◌, ◌≡◌, ℤ, ◌*ℤ◌, to_z, of_z, w64, to_z-of_z}
use Rattle.sg_ir.specs.declared.span.Span.{Span}
use Rattle.sg_ir.specs.Span.{cut_to_i32, lesser_of, greater_of}
use Rattle.sg_ir.proofs.span.Span.product.Goals as goal

-- the interval of two numbers that are known
cuts : {result : Span} {lo hi a b : ℤ} → result ≡ cut_to_i32 a b → a ≡ lo → b ≡ hi → result ≡ cut_to_i32 lo hi
cuts e p q = e ∙ ap₂ cut_to_i32 p q

-- a choice of a choice of four products that are known
four : (how : ℤ → ℤ → ℤ) {a b c d w x y z : ℤ} → a ≡ w → b ≡ x → c ≡ y → d ≡ z → how (how a b) (how c d) ≡ how (how w x) (how y z)
four how p q r s = ap₂ how (ap₂ how p q) (ap₂ how r s)

pub returns : goal.returns
returns c =
    let x : Span = c.args.self in
    let y : Span = c.args.other in
    let a : to_z w64 (of_z w64 c.times-a.result) ≡ x.lo *ℤ y.lo = grind (arith, to_z-of_z) in
    let b : to_z w64 (of_z w64 c.times-b.result) ≡ x.lo *ℤ y.hi = grind (arith, to_z-of_z) in
    let d : to_z w64 (of_z w64 c.times-c.result) ≡ x.hi *ℤ y.lo = grind (arith, to_z-of_z) in
    let e : to_z w64 (of_z w64 c.times-d.result) ≡ x.hi *ℤ y.hi = grind (arith, to_z-of_z) in
    let l : to_z w64 (of_z w64 c.least_of.result) ≡ c.least_of.result = grind (arith, to_z-of_z) in
    let g : to_z w64 (of_z w64 c.greatest_of.result) ≡ c.greatest_of.result = grind (arith, to_z-of_z) in
    cuts c.cut.ensures (l ∙ c.least_of.ensures ∙ four lesser_of a b d e) (g ∙ c.greatest_of.ensures ∙ four greater_of a b d e)
