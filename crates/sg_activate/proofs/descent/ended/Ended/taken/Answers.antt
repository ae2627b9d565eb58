use Rattle.std.proofs.Common.{[], ◌∷◌, ℕ, List, length, ap, sym, ◌∙◌, subst, arith}
use Rattle.std.proofs.lemmas.List.{length-append}
use Rattle.sg_activate.specs.steps.DescentEnds.{AreTaken, IsOverFull, IsFirstOverFull}
use Rattle.sg_activate.proofs.DescentGone.{refused_then, taken_more, first_over}
use Rattle.sg_activate.proofs.descent.ended.Ended.taken.Goals as goal

pub loop-index-preserved : goal.loop-index-preserved
loop-index-preserved c =
    let e = c.args.self.now in
    let many = c.loop-index.invariant.many in
    let pushed = c.in_ok-push-in-Ok.ensures.ok in
    let long = length-append c.loop-index.taken (c.in-Ok.numbers ∷ []) in
    record {
      many = ap length pushed ∙ omega arith;
      each = subst (AreTaken e.start e.base e.levels e.links) (sym pushed) (taken_more e.start e.base e.levels e.links c.loop-index.taken c.loop-index.index c.in-Ok.numbers many c.loop-index.invariant.each c.in-Ok.ensures.taken);
    }

pub returns-in-Err-clause-full : goal.returns-in-Err-clause-full
returns-in-Err-clause-full c =
    let e = c.args.self.now in
    refused_then (List ℕ) (List (List ℕ)) c.in-Err.stop (IsOverFull e.start e.base e.levels e.links c.loop-index.index) (IsFirstOverFull e.start e.base e.levels e.links)
    (λ fault over. first_over e.start e.base e.levels e.links c.loop-index.taken c.loop-index.index fault c.loop-index.invariant.many c.loop-index.invariant.each over) c.in-Err.ensures.full

pub returns-clause-taken : goal.returns-clause-taken
returns-clause-taken c =
    let end = c.loop-index-test.false in
    let within = c.loop-index.auto.index-end in
    let long = c.len-index-end.ensures in
    let many = c.loop-index.invariant.many in
    (omega arith, c.loop-index.invariant.each)
