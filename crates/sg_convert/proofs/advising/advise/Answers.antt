use Rattle.std.proofs.Common.{◌≡◌, ℕ, ◌<◌, ◌≤◌, List, None, Some, length, map, get_or, sym, ap, ◌∙◌, subst, arith}
use Rattle.std.specs.Prelude.{slice_get}
use Rattle.std.specs.List.{All}
use Rattle.std.proofs.lemmas.List.{length-map}
use Rattle.std.proofs.lemmas.Option.{slice_get-get_or}
use Rattle.sg_coord.specs.declared.coord.Coord.{Coord}
use Rattle.sg_layout.specs.declared.shape.Shape.{Shape}
use Rattle.sg_layout.specs.StorageWords.{words_of_shape, most_words}
use Rattle.sg_store.specs.StoreWords.{StoreWords}
use Rattle.sg_convert.specs.declared.advising.Count.{Count}
use Rattle.sg_convert.specs.Alike.{IsAlikeTo}
use Rattle.sg_convert.specs.Advising.{best_of, counts_from}
use Rattle.sg_convert.specs.Advised.{counted}
use Rattle.sg_convert.proofs.AlikeTests.{alike_itself}
use Rattle.sg_convert.proofs.Advises.{IsAt, all_few, is_at, alike_at, best_is_alike, shape_is_at, advice_is, none_is_never}
use Rattle.sg_convert.proofs.advising.advise.Goals.{in-Some, in-None}
use Rattle.sg_convert.proofs.advising.advise.Goals as goal

pub counts_of-requires-clause-few_words : goal.counts_of-requires-clause-few_words
counts_of-requires-clause-few_words c =
    subst (λ (shapes : List Shape). All (λ (shape : Shape). words_of_shape shape ≤ most_words) shapes) (c.requires.same ∙ sym c.as_slice-2.ensures) (all_few c.args.stores.now.list c.well_formed-2.ensures)

pub returns-clause-advice : goal.returns-clause-advice
returns-clause-advice c = λ state stands.
    let stores = c.args.stores.now.list in
    let layouts = c.args.layouts.now.list in
    let of = c.args.of in
    let store = c.index-list-of.result in
    let below : of < length stores = omega (arith, c.requires.there, ap length c.requires.same, length-map stores (λ (s : StoreWords). s.shape)) in
    let here : store ≡ get_or stores of store = c.index-list-of.is ∙ ap (λ (xs : List StoreWords). get_or xs of store) c.as_slice-list.ensures in
    let found : slice_get stores of ≡ Some store = slice_get-get_or stores of store below ∙ ap (λ (s : StoreWords). Some s) (sym here) in
    let at : IsAt layouts state.layouts of store = subst (λ (shapes : List Shape). IsAt shapes state.layouts of store) stands.shapes_are (is_at stores state.layouts of store stands.stand found) in
    let kept = c.in_ok-kept.kept in
    let is = c.in_ok-kept.ensures.kept at.flat at.stands in
    let counts : map counted c.in_ok-counts.counts ≡ counts_from store.shape kept 0 layouts =
    c.in_ok-counts.ensures ∙ ap (λ (s : Shape). counts_from s c.as_slice-3.result.now 0 c.as_slice-2.result.now) c.layout.ensures.layout
    ∙ ap (λ (xs : List Coord). counts_from store.shape xs 0 c.as_slice-2.result.now) c.as_slice-3.ensures ∙ ap (λ (xs : List Shape). counts_from store.shape kept 0 xs) c.as_slice-2.ensures in
    let best = c.best_of.ensures ∙ ap (λ (xs : List Count). best_of None (map counted xs)) c.as_slice-4.ensures in
    elim c.match-best_of.branch [
      | in-Some w ↦ advice_is layouts state.layouts of store at kept is _ counts (sym best ∙ w.in-Some.is ∙ ap Some (sym w.best-is))
      | in-None w ↦ absurd (none_is_never layouts state.layouts of store at (c.need_grows.ensures.grows store.shape) (c.stands_has_room.ensures store) c.layout.ensures.well_formed at.flat at.stands kept is
          (map counted c.in_ok-counts.counts) counts (sym best ∙ w.in-None.is))
    ]

pub returns-clause-alike : goal.returns-clause-alike
returns-clause-alike c =
    let stores = c.args.stores.now.list in
    let layouts = c.args.layouts.now.list in
    let of = c.args.of in
    let store = c.index-list-of.result in
    let below : of < length stores = omega (arith, c.requires.there, ap length c.requires.same, length-map stores (λ (s : StoreWords). s.shape)) in
    let here : store ≡ get_or stores of store = c.index-list-of.is ∙ ap (λ (xs : List StoreWords). get_or xs of store) c.as_slice-list.ensures in
    let found : slice_get stores of ≡ Some store = slice_get-get_or stores of store below ∙ ap (λ (s : StoreWords). Some s) (sym here) in
    let at = shape_is_at stores layouts c.requires.same of store found in
    let kept = c.in_ok-kept.kept in
    let counts : map counted c.in_ok-counts.counts ≡ counts_from store.shape kept 0 layouts =
    c.in_ok-counts.ensures ∙ ap (λ (s : Shape). counts_from s c.as_slice-3.result.now 0 c.as_slice-2.result.now) c.layout.ensures.layout
    ∙ ap (λ (xs : List Coord). counts_from store.shape xs 0 c.as_slice-2.result.now) c.as_slice-3.ensures ∙ ap (λ (xs : List Shape). counts_from store.shape kept 0 xs) c.as_slice-2.ensures in
    let best = c.best_of.ensures ∙ ap (λ (xs : List Count). best_of None (map counted xs)) c.as_slice-4.ensures in
    elim c.match-best_of.branch [
      | in-Some w ↦ best_is_alike layouts of store.shape at kept _ (ap (best_of None) (sym counts) ∙ sym best ∙ w.in-Some.is ∙ ap Some (sym w.best-is))
      | in-None w ↦ subst (λ (b : ℕ × ℕ). IsAlikeTo layouts of b.0) (sym w.best-is) (alike_at layouts of store.shape at of store.shape at (alike_itself store.shape))
    ]
