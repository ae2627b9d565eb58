use Rattle.std.proofs.Common.{◌≡◌, ◌≢◌, ◌+◌, ◌*◌, ◌/◌, ◌%◌, ℕ, List, sym, ap, ◌∙◌}
use Rattle.std.specs.Prelude.{slice_index, slice_set}
use Rattle.std.specs.Vec.{with_item}
use Rattle.sg_hash.proofs.Paging.{page_room, given_kept, given_row, written, left_zero}
use Rattle.sg_hash.proofs.paged.PagedRow.set.Goals as goal

pub give_page-requires-clause-room : goal.give_page-requires-clause-room
give_page-requires-clause-room c =
    let pages : List ℕ = c.self.inside.pages.items in
    let page : c.page_at-page.result ≡ slice_index pages (c.args.place / 64) = c.page_at-page.ensures ∙ ap (λ (ps : List ℕ). slice_index ps (c.args.place / 64)) c.as_slice.ensures.value in
    let none : slice_index pages (c.args.place / 64) ≡ 0 = sym page ∙ c.if-page-ne0.false in
    (page_room c.self.inside.words.items pages c.args.self.now c.self.inside.places c.args.place _ _ c.self.view_is c.self.invariant none c.requires).0

pub give_page-requires-clause-pages_room : goal.give_page-requires-clause-pages_room
give_page-requires-clause-pages_room c =
    let pages : List ℕ = c.self.inside.pages.items in
    let page : c.page_at-page.result ≡ slice_index pages (c.args.place / 64) = c.page_at-page.ensures ∙ ap (λ (ps : List ℕ). slice_index ps (c.args.place / 64)) c.as_slice.ensures.value in
    let none : slice_index pages (c.args.place / 64) ≡ 0 = sym page ∙ c.if-page-ne0.false in
    (page_room c.self.inside.words.items pages c.args.self.now c.self.inside.places c.args.place _ _ c.self.view_is c.self.invariant none c.requires).1

pub invariant_of-self-then-word-ne0 : goal.invariant_of-self-then-word-ne0
invariant_of-self-then-word-ne0 c =
    let pages : List ℕ = c.self.inside.pages.items in
    let page : c.page_at-page.result ≡ slice_index pages (c.args.place / 64) = c.page_at-page.ensures ∙ ap (λ (ps : List ℕ). slice_index ps (c.args.place / 64)) c.as_slice.ensures.value in
    let none : slice_index pages (c.args.place / 64) ≡ 0 = sym page ∙ c.if-page-ne0.false in
    given_kept c.self.inside.words.items pages c.give_page.new.words.items c.give_page.new.pages.items c.args.self.now c.self.inside.places c.args.place c.args.word _ _ _ _
    c.self.view_is c.self.invariant none c.requires c.give_page.ensures.words c.give_page.ensures.pages c.give_page.ensures.words_stay c.give_page.ensures.pages_stay

pub returns-then-page-ne0 : goal.returns-then-page-ne0
returns-then-page-ne0 c =
    let pages : List ℕ = c.self.inside.pages.items in
    let page : c.page_at-page.result ≡ slice_index pages (c.args.place / 64) = c.page_at-page.ensures ∙ ap (λ (ps : List ℕ). slice_index ps (c.args.place / 64)) c.as_slice.ensures.value in
    let some : slice_index pages (c.args.place / 64) ≢ 0 = λ none. c.if-page-ne0.true (page ∙ none) in
    written c.self.inside.words.items pages (with_item c.self.inside.words (64 * c.page_at-page.result + c.args.place % 64) c.args.word).items c.args.self.now c.self.inside.places c.args.place c.args.word
    c.self.invariant.0 some c.self.view_is (ap (λ (p : ℕ). slice_set c.self.inside.words.items (64 * p + c.args.place % 64) c.args.word) page) c.requires

pub returns-then-word-ne0 : goal.returns-then-word-ne0
returns-then-word-ne0 c =
    let pages : List ℕ = c.self.inside.pages.items in
    let page : c.page_at-page.result ≡ slice_index pages (c.args.place / 64) = c.page_at-page.ensures ∙ ap (λ (ps : List ℕ). slice_index ps (c.args.place / 64)) c.as_slice.ensures.value in
    let none : slice_index pages (c.args.place / 64) ≡ 0 = sym page ∙ c.if-page-ne0.false in
    given_row c.self.inside.words.items pages c.give_page.new.words.items c.give_page.new.pages.items c.args.self.now c.self.inside.places c.args.place c.args.word _ _
    c.self.view_is c.self.invariant none c.requires c.give_page.ensures.words c.give_page.ensures.pages

pub returns-else-word-ne0 : goal.returns-else-word-ne0
returns-else-word-ne0 c =
    let pages : List ℕ = c.self.inside.pages.items in
    let page : c.page_at-page.result ≡ slice_index pages (c.args.place / 64) = c.page_at-page.ensures ∙ ap (λ (ps : List ℕ). slice_index ps (c.args.place / 64)) c.as_slice.ensures.value in
    let none : slice_index pages (c.args.place / 64) ≡ 0 = sym page ∙ c.if-page-ne0.false in
    let stays = left_zero c.self.inside.words.items pages c.args.self.now c.self.inside.places c.args.place c.args.word c.self.invariant.0 none c.if-word-ne0.false c.self.view_is in
    stays
