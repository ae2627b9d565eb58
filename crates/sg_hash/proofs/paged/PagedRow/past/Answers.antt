use Rattle.std.proofs.Common.{◌≡◌, ◌/◌, ℕ, List, sym, ap, ◌∙◌}
use Rattle.std.specs.Prelude.{slice_index}
use Rattle.sg_hash.proofs.Paging.{page_none}
use Rattle.sg_hash.proofs.paged.PagedRow.past.Goals as goal

pub returns-then-page_at-eq0-clause-zeros : goal.returns-then-page_at-eq0-clause-zeros
returns-then-page_at-eq0-clause-zeros c = λ other low high.
    let pages : List ℕ = c.self.inside.pages.items in
    let none : slice_index pages (c.args.place / 64) ≡ 0 =
    sym (c.page_at.ensures ∙ ap (λ (ps : List ℕ). slice_index ps (c.args.place / 64)) c.as_slice.ensures.value) ∙ c.if-page_at-eq0.true in
    page_none c.self.inside.words.items pages c.args.self.now c.self.inside.places c.args.place other c.self.invariant.0 c.self.view_is none low high
