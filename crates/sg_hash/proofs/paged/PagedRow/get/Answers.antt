use Rattle.std.proofs.Common.{ℕ, List, ap, ◌∙◌, arith}
use Rattle.sg_hash.specs.steps.Paging.{paged_word}
use Rattle.sg_hash.proofs.Paging.{word_is, word_past}
use Rattle.sg_hash.proofs.paged.PagedRow.get.Goals as goal

pub returns-then-place-self : goal.returns-then-place-self
returns-then-place-self c =
    let words : List ℕ = c.self.inside.words.items in
    let pages : List ℕ = c.self.inside.pages.items in
    word_is words pages c.args.self.now c.self.inside.places c.args.place c.word_at.result c.self.view_is c.if-place-self.true
    (c.word_at.ensures ∙ ap (λ (ws : List ℕ). paged_word ws c.as_slice-then-place-self.result.now c.args.place) c.as_slice.ensures.value
    ∙ ap (λ (ps : List ℕ). paged_word words ps c.args.place) c.as_slice-then-place-self.ensures.value)

pub returns-else-place-self : goal.returns-else-place-self
returns-else-place-self c =
    word_past c.self.inside.words.items c.self.inside.pages.items c.args.self.now c.self.inside.places c.args.place c.self.view_is (omega (arith, c.if-place-self.false))
