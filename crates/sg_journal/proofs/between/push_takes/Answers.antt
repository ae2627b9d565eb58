use Rattle.std.proofs.Common.{◌≡◌, ◌++◌, ◌+◌, ℕ, suc, List, map, length, ap, ◌∙◌, sym, subst, append-nil, arith}
use Rattle.std.specs.Prelude.{All}
use Rattle.std.proofs.lemmas.List.Elements.{All-nil}
use Rattle.sg_store.specs.declared.links.LinkAt.{LinkAt}
use Rattle.sg_journal.specs.Lines.{lines_text, IsInRange}
use Rattle.sg_journal.specs.Placing.{LayoutLinks, links_in}
use Rattle.sg_journal.specs.Changes.{lacking, take_line, takes_upto}
use Rattle.sg_journal.proofs.PlacingLoops.{takes_next}
use Rattle.sg_journal.proofs.InRange.{takes_more}
use Rattle.sg_journal.proofs.between.push_takes.Goals as goal

pub loop-index-preserved : goal.loop-index-preserved
loop-index-preserved c =
    let layout : ℕ = c.args.layout in
    let old : LayoutLinks = c.args.old.now in
    let new : LayoutLinks = c.args.new.now in
    let index : ℕ = c.loop-index.index in
    let before : List ℕ = c.loop-index.lines.items in
    let node : index + 1 ≡ suc index = omega arith in
    record {
      text = takes_next layout old new index c.args.lines.now.items before c.push_lacking.new.lines.items
          (c.in_ok-push_lacking.ensures.text
          ∙ ap (λ (o : List LinkAt). before ++ lines_text (map (take_line layout (index + 1)) (lacking o c.links_in-come.result.now))) c.links_in-others.ensures.links
          ∙ ap (λ (g : List LinkAt). before ++ lines_text (map (take_line layout (index + 1)) (lacking (links_in old index) g))) c.links_in-come.ensures.links)
          c.loop-index.invariant.text;
      range = takes_more layout old new index
          (subst (λ n. All IsInRange (map (take_line layout n) (lacking (links_in old index) (links_in new index)))) node
          (subst (λ (g : List LinkAt). All IsInRange (map (take_line layout (index + 1)) (lacking (links_in old index) g))) c.links_in-come.ensures.links
          (subst (λ (o : List LinkAt). All IsInRange (map (take_line layout (index + 1)) (lacking o c.links_in-come.result.now))) c.links_in-others.ensures.links
          c.in_ok-push_lacking.ensures.range)))
          c.loop-index.invariant.range;
    }

pub loop-index-init : goal.loop-index-init
loop-index-init c = record { text = sym (append-nil _); range = All-nil IsInRange }

pub returns-clause-text : goal.returns-clause-text
returns-clause-text c =
    let all : c.loop-index.index ≡ length c.args.new.now = omega (arith, c.loop-index-test.false, c.loop-index.auto.index-end, c.in_ok-index-end.ensures) in
    c.loop-index.invariant.text ∙ ap (λ (n : ℕ). c.args.lines.now.items ++ lines_text (takes_upto c.args.layout c.args.old.now c.args.new.now n)) all

pub returns-clause-range : goal.returns-clause-range
returns-clause-range c =
    let all : c.loop-index.index ≡ length c.args.new.now = omega (arith, c.loop-index-test.false, c.loop-index.auto.index-end, c.in_ok-index-end.ensures) in
    subst (λ (n : ℕ). All IsInRange (takes_upto c.args.layout c.args.old.now c.args.new.now n)) all c.loop-index.invariant.range
