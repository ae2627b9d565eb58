use Rattle.std.proofs.Common.{◌≡◌, ℕ, List, ◌++◌, length, get_or, sym, ap, ◌∙◌, subst, arith}
use Rattle.std.specs.Prelude.{All}
use Rattle.sg_journal.specs.Lines.{lines_text, IsInRange}
use Rattle.sg_journal.specs.Placing.{LayoutLinks, Placing}
use Rattle.sg_journal.specs.Changes.{changes}
use Rattle.sg_journal.proofs.PlacingLoops.{changes_next, changes_end, min_over}
use Rattle.sg_journal.proofs.InRange.{both_below, changes_more, changes_all}
use Rattle.sg_journal.proofs.between.change_lines.Goals as goal

pub loop-layout-init : goal.loop-layout-init
loop-layout-init c = record {
  text = ap (λ (text : List ℕ). text ++ lines_text (changes c.as_slice-olds.result.now c.as_slice-news.result.now)) c.new-lines.ensures.items;
  range = λ all. all;
}

pub loop-layout-preserved : goal.loop-layout-preserved
loop-layout-preserved c =
    let olds : Placing = c.as_slice-olds.result.now in
    let news : Placing = c.as_slice-news.result.now in
    let layout : ℕ = c.loop-layout.layout in
    let old : LayoutLinks = c.as_slice-old.result.now in
    let new : LayoutLinks = c.as_slice-new.result.now in
    let inside = both_below (length olds) (length news) layout (omega (arith, c.loop-layout-test.true, c.in_ok-layout-end.ensures, c.min.ensures)) in
    let old_is : old ≡ get_or olds layout old = subst (λ (x : LayoutLinks). x ≡ get_or olds layout x) (sym c.as_slice-old.ensures) c.index-olds-layout.is in
    let new_is : new ≡ get_or news layout new = subst (λ (x : LayoutLinks). x ≡ get_or news layout x) (sym c.as_slice-new.ensures) c.index-news-layout.is in
    record {
      text = changes_next olds news layout old new c.loop-layout.lines.items c.push_frees.new.lines.items c.push_takes.new.lines.items _ inside.0 inside.1 old_is new_is
          c.in_ok-push_frees.ensures.text c.in_ok-push_takes.ensures.text c.loop-layout.invariant.text;
      range = changes_more olds news layout old new inside.0 inside.1 old_is new_is c.in_ok-push_frees.ensures.range c.in_ok-push_takes.ensures.range c.loop-layout.invariant.range;
    }

pub returns-clause-text : goal.returns-clause-text
returns-clause-text c =
    let olds : Placing = c.as_slice-olds.result.now in
    let news : Placing = c.as_slice-news.result.now in
    changes_end olds news c.loop-layout.layout c.loop-layout.lines.items _
    (min_over (length olds) (length news) c.loop-layout.layout (omega (arith, c.loop-layout-test.false, c.in_ok-layout-end.ensures, c.min.ensures)))
    c.loop-layout.invariant.text
    ∙ ap (λ (p : Placing). lines_text (changes p news)) c.as_slice-olds.ensures
    ∙ ap (λ (p : Placing). lines_text (changes c.args.from.now.layouts p)) c.as_slice-news.ensures

pub returns-clause-range : goal.returns-clause-range
returns-clause-range c =
    let olds : Placing = c.as_slice-olds.result.now in
    let news : Placing = c.as_slice-news.result.now in
    subst (λ (p : Placing). All IsInRange (changes c.args.from.now.layouts p)) c.as_slice-news.ensures
    (subst (λ (p : Placing). All IsInRange (changes p news)) c.as_slice-olds.ensures
    (changes_all olds news c.loop-layout.layout
    (min_over (length olds) (length news) c.loop-layout.layout (omega (arith, c.loop-layout-test.false, c.in_ok-layout-end.ensures, c.min.ensures)))
    c.loop-layout.invariant.range))
