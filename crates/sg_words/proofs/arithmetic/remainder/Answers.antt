use Rattle.std.proofs.Common.{rules, ℤ, ◌-ℤ◌, ◌*ℤ◌, ap, ap₂, ◌∙◌, FitsSigned, w64}
use Rattle.std.specs.Prelude.{int_div}
use Rattle.sg_words.specs.Words.{number, word_of}
use Rattle.sg_words.proofs.DivisionLemmas.{int_rem-is, computed_rem, int_div-quotient}
use Rattle.sg_words.proofs.arithmetic.remainder.Goals as goal

pub returns-else-b-eq0 : goal.returns-else-b-eq0
returns-else-b-eq0 c =
    let t = c.args.ty in
    let a = c.args.a in
    let b = c.args.b in
    let x = c.number.result in
    let y = c.number-else-b-eq0.result in
    let f : FitsSigned w64 x = search rules in
    let g : FitsSigned w64 y = search rules in
    c.word_of.ensures ∙ ap word_of (computed_rem x y f g ∙ int_rem-is x y
    ∙ ap₂ (λ (u v : ℤ). u -ℤ (int_div u v *ℤ v)) c.number.ensures.value c.number-else-b-eq0.ensures.value
    ∙ ap (λ (q : ℤ). number t a -ℤ (q *ℤ number t b)) (int_div-quotient t a b c.if-b-eq0.false))
