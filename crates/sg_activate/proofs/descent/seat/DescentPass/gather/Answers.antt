use Rattle.std.proofs.Common.{length, ap, sym, ◌∙◌}
use Rattle.std.specs.Mem.Slots.{slots_items}
use Rattle.sg_words.specs.Ranges.{range_at}
use Rattle.sg_activate.proofs.DescentClosed.{pass_levels, has_ended, links_small}
use Rattle.sg_activate.proofs.descent.seat.DescentPass.gather.Goals as goal

pub invariant_of-result : goal.invariant_of-result
invariant_of-result c =
    let last = c.close_with-closed.ensures.values.2 in
    let n = length c.args.links in
    let size = c.len.ensures ∙ c.copy_words.ensures.long in
    let end = has_ended c.args.self.table.shared.key c.args.self.start last.0.words last.0.views c.args.seat.seat.id c.args.seat.seat.me.0 c.copy_words.new.words c.copy_words-2.new.words n (length c.args.masks)
    c.args.self.told last.1.0 last.1.1 c.requires.all (c.copy_words.ensures.words ∙ ap (range_at 0 n) (sym last.2)) c.requires.links
    (c.copy_words-2.ensures.words ∙ ap (λ k. range_at k (length c.args.masks) (slots_items c.close_with-closed.result.words)) size ∙ ap (range_at n (length c.args.masks)) (sym last.2)) c.requires.masks in
    record {
      levels_are = pass_levels c.args.self;
      short = c.args.self.short;
      long = c.copy_words.ensures.long ∙ c.requires.links;
      wide = c.copy_words-2.ensures.long ∙ c.requires.masks;
      small = links_small c.args.self.start c.args.seat.seat.me.0 c.copy_words.new.words c.copy_words-2.new.words c.args.self.laid end;
    }

pub returns-clause-ended : goal.returns-clause-ended
returns-clause-ended c =
    let last = c.close_with-closed.ensures.values.2 in
    let n = length c.args.links in
    let size = c.len.ensures ∙ c.copy_words.ensures.long in
    has_ended c.args.self.table.shared.key c.args.self.start last.0.words last.0.views c.args.seat.seat.id c.args.seat.seat.me.0 c.copy_words.new.words c.copy_words-2.new.words n (length c.args.masks)
    c.args.self.told last.1.0 last.1.1 c.requires.all (c.copy_words.ensures.words ∙ ap (range_at 0 n) (sym last.2)) c.requires.links
    (c.copy_words-2.ensures.words ∙ ap (λ k. range_at k (length c.args.masks) (slots_items c.close_with-closed.result.words)) size ∙ ap (range_at n (length c.args.masks)) (sym last.2)) c.requires.masks
