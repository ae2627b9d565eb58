use Rattle.std.proofs.Common.{◌≡◌, ◌++◌, ◌+◌, ◌-◌, ℕ, suc, List, map, refl, sym, ap, ◌∙◌, subst, append-nil, arith}
use Rattle.std.specs.Prelude.{All}
use Rattle.sg_store.specs.declared.links.LinkAt.{LinkAt}
use Rattle.sg_journal.specs.Lines.{lines_text, IsInRange}
use Rattle.sg_journal.specs.Placing.{LayoutLinks, links_in}
use Rattle.sg_journal.specs.Changes.{lacking, free_line, frees_upto}
use Rattle.sg_journal.proofs.PlacingLoops.{frees_next}
use Rattle.sg_journal.proofs.InRange.{frees_more, frees_all}
use Rattle.sg_journal.proofs.between.push_frees.Goals as goal

pub loop-done-preserved : goal.loop-done-preserved
loop-done-preserved c =
    let layout : ℕ = c.args.layout in
    let old : LayoutLinks = c.args.old.now in
    let new : LayoutLinks = c.args.new.now in
    let count : ℕ = c.in_ok-count.count in
    let done : ℕ = c.loop-done.done in
    let index : ℕ = count - 1 - done in
    let before : List ℕ = c.loop-done.lines.items in
    let after : List ℕ = c.push_lacking.new.lines.items in
    let left : count - done ≡ suc index = omega (arith, c.loop-done-test.true) in
    let next : count - (done + 1) ≡ index = omega (arith, c.loop-done-test.true) in
    let node : index + 1 ≡ suc index = omega arith in
    record {
      text = ap (λ (n : ℕ). after ++ lines_text (frees_upto layout old new n)) next
          ∙ frees_next layout old new (count - done) index before after _ left
          (c.in_ok-push_lacking.ensures.text
          ∙ ap (λ (o : List LinkAt). before ++ lines_text (map (free_line layout (index + 1)) (lacking o c.links_in-gone.result.now))) c.links_in-others.ensures.links
          ∙ ap (λ (g : List LinkAt). before ++ lines_text (map (free_line layout (index + 1)) (lacking (links_in new index) g))) c.links_in-gone.ensures.links)
          c.loop-done.invariant.text;
      range = frees_more layout old new count done index c.loop-done-test.true refl
          (subst (λ n. All IsInRange (map (free_line layout n) (lacking (links_in new index) (links_in old index)))) node
          (subst (λ (g : List LinkAt). All IsInRange (map (free_line layout (index + 1)) (lacking (links_in new index) g))) c.links_in-gone.ensures.links
          (subst (λ (o : List LinkAt). All IsInRange (map (free_line layout (index + 1)) (lacking o c.links_in-gone.result.now))) c.links_in-others.ensures.links
          c.in_ok-push_lacking.ensures.range)))
          c.loop-done.invariant.range;
    }

pub loop-done-init : goal.loop-done-init
loop-done-init c =
    let all : c.in_ok-count.count - 0 ≡ c.in_ok-count.count = omega arith in
    record {
      text = ap (λ (n : ℕ). c.args.lines.now.items ++ lines_text (frees_upto c.args.layout c.args.old.now c.args.new.now n)) all;
      range = λ k least most. absurd (omega (arith, least, most));
    }

pub returns-clause-text : goal.returns-clause-text
returns-clause-text c =
    let none : 0 ≡ c.in_ok-count.count - c.loop-done.done = omega (arith, c.loop-done-test.false) in
    sym (append-nil c.loop-done.lines.items)
    ∙ ap (λ (n : ℕ). c.loop-done.lines.items ++ lines_text (frees_upto c.args.layout c.args.old.now c.args.new.now n)) none
    ∙ c.loop-done.invariant.text
    ∙ ap (λ (n : ℕ). c.args.lines.now.items ++ lines_text (frees_upto c.args.layout c.args.old.now c.args.new.now n)) c.in_ok-count.ensures

pub returns-clause-range : goal.returns-clause-range
returns-clause-range c =
    subst (λ (n : ℕ). All IsInRange (frees_upto c.args.layout c.args.old.now c.args.new.now n)) c.in_ok-count.ensures
    (frees_all c.args.layout c.args.old.now c.args.new.now c.in_ok-count.count (λ k below. c.loop-done.invariant.range k (omega (arith, c.loop-done-test.false)) below))
