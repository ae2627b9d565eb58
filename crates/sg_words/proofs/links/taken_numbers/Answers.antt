use Rattle.std.proofs.Common.{ap, ◌∙◌, inl, inr, ◌++◌, ◌+◌, drop}
use Rattle.sg_words.specs.Stocks.{taken_of}
use Rattle.sg_words.proofs.LinkLoops.{taken-new, taken-none}
use Rattle.sg_words.proofs.links.taken_numbers.Goals.{then-old-i-eq0+then-new-i-ne0+in_ok-push, else-old-i-eq0, else-old-i-eq0-via-then-old-i-eq0+else-new-i-ne0, else-old-i-eq0-via-else-old-i-eq0}
use Rattle.sg_words.proofs.links.taken_numbers.Goals as goal

pub loop-i-preserved : goal.loop-i-preserved
loop-i-preserved c =
    let rest = taken_of (drop (c.loop-i.i + 1) c.args.old.now) (drop (c.loop-i.i + 1) c.args.new.now) in
    elim c.if-old-i-eq0.branch [
      | then-old-i-eq0+then-new-i-ne0+in_ok-push w ↦ ap (λ l. l ++ rest) (w.taken-is ∙ w.in_ok-push.ensures.ok)
          ∙ taken-new c.args.old.now c.args.new.now c.loop-i.taken c.loop-i.i c.loop-i-test.true c.requires.long w.if-old-i-eq0.true w.if-new-i-ne0.true ∙ c.loop-i.invariant
      | else-old-i-eq0 w ↦ ap (λ l. l ++ rest) w.taken-is ∙ ap (λ l. c.loop-i.taken ++ l) (taken-none c.args.old.now c.args.new.now c.loop-i.i c.loop-i-test.true c.requires.long
          (elim w.else-old-i-eq0.branch [
            | else-old-i-eq0-via-then-old-i-eq0+else-new-i-ne0 u ↦ inr u.if-new-i-ne0.false
            | else-old-i-eq0-via-else-old-i-eq0 u ↦ inl u.if-old-i-eq0.false
          ])) ∙ c.loop-i.invariant
    ]
