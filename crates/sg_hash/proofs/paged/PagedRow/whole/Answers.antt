use Rattle.std.proofs.Common.{◌<◌, ◌≤◌, ℕ, List, [], ◌∷◌, ◌++◌, length, take_all, sym, ap, ◌∙◌, arith}
use Rattle.std.specs.Prelude.{slice_index}
use Rattle.std.proofs.lemmas.List.{take_more}
use Rattle.sg_hash.proofs.Paging.{places_are}
use Rattle.sg_hash.proofs.paged.PagedRow.whole.Goals as goal

pub loop-place-preserved : goal.loop-place-preserved
loop-place-preserved c =
    let all = places_are c.self.inside.words.items c.self.inside.pages.items c.args.self.now c.self.inside.places c.self.view_is in
    let there : c.loop-place.place < length c.args.self.now = omega (arith, c.loop-place-test.true, all) in
    c.in_ok-push.ensures.items ∙ ap (λ (w : ℕ). c.loop-place.words.items ++ w ∷ []) c.get.ensures
    ∙ ap (λ (front : List ℕ). front ++ slice_index c.args.self.now c.loop-place.place ∷ []) c.loop-place.invariant
    ∙ sym (take_more c.args.self.now c.loop-place.place 0 there)

pub returns : goal.returns
returns c =
    let all = places_are c.self.inside.words.items c.self.inside.pages.items c.args.self.now c.self.inside.places c.self.view_is in
    let end : length c.args.self.now ≤ c.loop-place.place = omega (arith, c.loop-place-test.false, all) in
    c.loop-place.invariant ∙ take_all c.loop-place.place c.args.self.now end
