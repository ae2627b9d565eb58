use Rattle.std.proofs.Common.{◌≡◌, ◌+◌, refl, sym, ap, ◌∙◌, subst, arith}
use Rattle.sg_layout.specs.Path.{offsets, path}
use Rattle.std.specs.Prelude.{slice_index}
use Rattle.sg_store.specs.StoreWords.{StoreWords}
use Rattle.sg_store.specs.Walks.{place_after}
use Rattle.sg_store.specs.WellFormed.{IsWellFormed}
use Rattle.sg_store.specs.steps.Walking.{step_of_walk}
use Rattle.sg_store.proofs.PathWalks.{place_at, place_next, place_ends}
use Rattle.sg_store.proofs.store.Store.place_of.Goals as goal

pub loop-index-init : goal.loop-index-init
loop-index-init c = refl

pub onward-requires-clause-fits : goal.onward-requires-clause-fits
onward-requires-clause-fits c =
    place_at c.args.self.now (subst IsWellFormed c.self.view_is c.self.invariant) (c.paths_tell.ensures.is_slot c.args.self.now.shape) c.args.bits c.args.at
    c.loop-index.index c.loop-index.place (omega (arith, c.requires.within)) c.loop-index.invariant

pub returns-in_err-place : goal.returns-in_err-place
returns-in_err-place c =
    let same : c.offset.result ≡ slice_index (offsets c.args.self.now.shape.nodes c.args.at) c.loop-index.index =
    c.offset.ensures.value ∙ ap (λ (s : StoreWords). slice_index (offsets s.shape.nodes c.args.at) c.loop-index.index) c.self.view_is in
    c.from_residual.ensures
    ∙ sym (place_ends c.args.self.now c.args.bits c.args.at (c.loop-index.index + 1) c.args.through (omega arith)
    (place_next c.args.self.now (subst IsWellFormed c.self.view_is c.self.invariant) c.args.bits c.args.at c.loop-index.index c.loop-index.place c.offset.result c.onward.result
    (omega (arith, c.requires.within)) same c.onward.ensures c.loop-index.invariant ∙ c.in_err-place.was {u = tt}))

pub loop-index-preserved : goal.loop-index-preserved
loop-index-preserved c =
    let same : c.offset.result ≡ slice_index (offsets c.args.self.now.shape.nodes c.args.at) c.loop-index.index =
    c.offset.ensures.value ∙ ap (λ (s : StoreWords). slice_index (offsets s.shape.nodes c.args.at) c.loop-index.index) c.self.view_is in
    place_next c.args.self.now (subst IsWellFormed c.self.view_is c.self.invariant) c.args.bits c.args.at c.loop-index.index c.loop-index.place c.offset.result c.onward.result
    (omega (arith, c.requires.within)) same c.onward.ensures c.loop-index.invariant ∙ c.in_ok-place.was

pub returns : goal.returns
returns c =
    let whole : c.loop-index.index ≡ c.args.through = omega (arith, c.loop-index.auto.index-end, c.loop-index-test.false) in
    sym (ap (λ n. place_after (step_of_walk c.args.bits) c.args.self.now.shape.nodes c.args.self.now.nodes 0 (path c.args.self.now.shape c.args.at n)) (sym whole) ∙ c.loop-index.invariant)
