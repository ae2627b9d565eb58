use Rattle.std.proofs.Common.{ℕ, Bool, List, [], ◌∷◌, length, get_or, ◌∙◌, ap, sym, subst, arith}
use Rattle.std.proofs.lemmas.List.{length-append}
use Rattle.sg_words.specs.Spread.{bears_mark}
use Rattle.sg_words.specs.steps.SpreadSteps.{links_waiting}
use Rattle.sg_words.proofs.Spreading.{IsSpreading, spreading_begun, spreading_visited, spreading_done, fewer_waiting}
use Rattle.sg_words.proofs.spreads.spread.Goals as goal

pub loop-place-init : goal.loop-place-init
loop-place-init c =
    let links = c.args.links.now in
    let start = c.args.start.now in
    subst (λ (marks : List Bool). IsSpreading links start marks c.in_ok-work.work) (sym c.new-marks.ensures)
    (subst (IsSpreading links start []) (sym c.in_ok-work.ensures) (spreading_begun links start))

pub loop-place-preserved : goal.loop-place-preserved
loop-place-preserved c =
    let links = c.args.links.now in
    let start = c.args.start.now in
    spreading_visited links start c.as_slice.result.now (λ place. ap (λ (targets : List (List ℕ)). get_or targets place []) c.as_slice.ensures.value ∙ c.in_ok-targets.ensures place)
    c.loop-place.marks c.pop.new.self c.in-Some.place c.visit.new.marks c.visit.new.work c.in_ok-visit.ensures (subst (IsSpreading links start c.loop-place.marks) c.in-Some.ensures c.loop-place.invariant)

pub loop-place-smaller : goal.loop-place-smaller
loop-place-smaller c =
    let targets = c.as_slice.result.now in
    let fewer = fewer_waiting targets c.in-Some.place c.loop-place.marks c.pop.new.self c.visit.new.marks c.visit.new.work c.in_ok-visit.ensures in
    let popped = ap length c.in-Some.ensures ∙ length-append c.pop.new.self (c.in-Some.place ∷ []) in
    let after = ap (links_waiting (bears_mark c.visit.new.marks) 0) c.as_slice.ensures.value in
    let before = ap (links_waiting (bears_mark c.loop-place.marks) 0) c.as_slice.ensures.value in
    omega (arith, fewer, popped, after, before)

pub returns : goal.returns
returns c =
    spreading_done c.args.links.now c.args.start.now c.loop-place.marks (subst (IsSpreading c.args.links.now c.args.start.now c.loop-place.marks) c.in_default.ensures.0 c.loop-place.invariant)
