use Rattle.std.proofs.Common.{◌≡◌, length, inl, inr, refl, sym, ap, ◌∙◌, arith}
use Rattle.std.specs.Prelude.{slice_get}
use Rattle.std.proofs.lemmas.Bool.{cases_eq}
use Rattle.std.proofs.lemmas.Option.{same_Some, slice_get_read}
use Rattle.sg_exec.specs.declared.results.shared.Accumulated.{Accumulated}
use Rattle.sg_exec.proofs.results.contributions.number_between.Goals.{else-it-layout-via-then-it-layout+else-it-field, else-it-layout-via-else-it-layout}
use Rattle.sg_exec.proofs.results.contributions.number_between.Goals as goal

pub returns-then-it-field : goal.returns-then-it-field
returns-then-it-field c = (
  c.index-accumulated-number.result,
  slice_get_read c.args.accumulated.now (length c.args.accumulated.now) c.loop-number.number c.index-accumulated-number.result refl (omega arith) c.index-accumulated-number.is,
  c.if-it-layout.true,
  c.if-it-field.true,
)

pub loop-number-preserved : goal.loop-number-preserved
loop-number-preserved c = λ k it from below at layouts fields. elim (cases_eq k c.loop-number.number) [
  | inr earlier ↦ c.loop-number.invariant k it from (omega arith) at layouts fields
  | inl here ↦ (
      let there = slice_get_read c.args.accumulated.now (length c.args.accumulated.now) c.loop-number.number c.index-accumulated-number.result refl (omega arith) c.index-accumulated-number.is in
      let item : c.index-accumulated-number.result ≡ it = same_Some _ _ (sym there ∙ sym (ap (slice_get c.args.accumulated.now) here) ∙ at) in
      elim c.else-it-layout.branch [
        | else-it-layout-via-then-it-layout+else-it-field w ↦ w.if-it-field.false (ap (λ (x : Accumulated). x.field) item ∙ fields)
        | else-it-layout-via-else-it-layout w ↦ w.if-it-layout.false (ap (λ (x : Accumulated). x.layout) item ∙ layouts)
      ]
      )
]

pub returns : goal.returns
returns c = λ k it from below at layouts fields. c.loop-number.invariant k it from (omega arith) at layouts fields
