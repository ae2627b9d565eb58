use Rattle.std.proofs.Common.{◌≡◌, ◌+◌, ◌++◌, take, drop, sym, ap, ◌∙◌, arith}
use Rattle.std.proofs.lemmas.List.{take-append-drop}
use Rattle.sg_store.proofs.FieldRows.{word_put}
use Rattle.sg_store.proofs.rows.write.Goals as goal

pub loop-word-init : goal.loop-word-init
loop-word-init c =
    let none : c.args.from + 0 ≡ c.args.from = omega arith in (
      sym none,
      c.stand.ensures ∙ sym (take-append-drop c.args.from c.args.row.now) ∙ ap (λ n. take c.args.from c.args.row.now ++ drop n c.args.row.now) (sym none),
    )

pub loop-word-preserved : goal.loop-word-preserved
loop-word-preserved c = (
  omega (arith, c.loop-word.invariant.0),
  word_put c.args.row.now c.args.words.now c.loop-word.row c.set.new.self c.args.from c.loop-word.word-index c.loop-word.cell _ c.loop-word-test.true c.requires
      c.loop-word.invariant.0 c.loop-word.invariant.1 c.set.ensures,
)
