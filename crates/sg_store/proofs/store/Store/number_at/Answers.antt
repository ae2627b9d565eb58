use Rattle.std.proofs.Common.{◌≡◌, ◌*◌, ◌<◌, false, Some, None, sym, ap, ◌∙◌, subst, arith}
use Rattle.std.specs.Prelude.{slice_index}
use Rattle.sg_layout.specs.Axes.{sizes_of}
use Rattle.sg_layout.specs.Path.{offsets}
use Rattle.sg_store.specs.StoreWords.{StoreWords}
use Rattle.sg_store.specs.WellFormed.{IsWellFormed}
use Rattle.sg_store.proofs.Stepping.{room}
use Rattle.sg_store.proofs.PathWalks.{place_at, number_next}
use Rattle.sg_store.proofs.store.Store.number_at.Goals as goal

pub returns-in_err-place : goal.returns-in_err-place
returns-in_err-place c =
    let size : c.size-size.result ≡ slice_index (sizes_of c.args.self.now.shape.nodes) c.args.index =
    c.size-size.ensures.value ∙ ap (λ (s : StoreWords). slice_index (sizes_of s.shape.nodes) c.args.index) c.self.view_is in
    let offset : c.offset-offset.result ≡ slice_index (offsets c.args.self.now.shape.nodes c.args.at) c.args.index =
    c.offset-offset.ensures.value ∙ ap (λ (s : StoreWords). slice_index (offsets s.shape.nodes c.args.at) c.args.index) c.self.view_is in
    c.from_residual.ensures
    ∙ sym (number_next c.args.self.now (subst IsWellFormed c.self.view_is c.self.invariant) c.args.at c.args.index None c.offset-offset.result c.size-size.result c.requires.node offset size
    (sym c.place_of.ensures ∙ c.in_err-place.was {u = tt}))

pub overflow_mul-result : goal.overflow_mul-result
overflow_mul-result c =
    let size : c.size-size.result ≡ slice_index (sizes_of c.args.self.now.shape.nodes) c.args.index =
    c.size-size.ensures.value ∙ ap (λ (s : StoreWords). slice_index (sizes_of s.shape.nodes) c.args.index) c.self.view_is in
    let below : c.offset-offset.result < slice_index (sizes_of c.args.self.now.shape.nodes) c.args.index =
    subst (λ (s : StoreWords). c.offset-offset.result < slice_index (sizes_of s.shape.nodes) c.args.index) c.self.view_is c.offset-offset.ensures.below in
    let here = place_at c.args.self.now (subst IsWellFormed c.self.view_is c.self.invariant) (c.paths_tell.ensures.is_slot c.args.self.now.shape) false c.args.at
    c.args.index c.in_ok-place.place c.requires.node (sym c.place_of.ensures ∙ c.in_ok-place.was) in
    omega (arith, room c.args.self.now c.args.index c.in_ok-place.place c.offset-offset.result here below, ap (λ n. c.in_ok-place.place * n) size)

pub overflow_add-result : goal.overflow_add-result
overflow_add-result c =
    let size : c.size-size.result ≡ slice_index (sizes_of c.args.self.now.shape.nodes) c.args.index =
    c.size-size.ensures.value ∙ ap (λ (s : StoreWords). slice_index (sizes_of s.shape.nodes) c.args.index) c.self.view_is in
    let below : c.offset-offset.result < slice_index (sizes_of c.args.self.now.shape.nodes) c.args.index =
    subst (λ (s : StoreWords). c.offset-offset.result < slice_index (sizes_of s.shape.nodes) c.args.index) c.self.view_is c.offset-offset.ensures.below in
    let here = place_at c.args.self.now (subst IsWellFormed c.self.view_is c.self.invariant) (c.paths_tell.ensures.is_slot c.args.self.now.shape) false c.args.at
    c.args.index c.in_ok-place.place c.requires.node (sym c.place_of.ensures ∙ c.in_ok-place.was) in
    omega (arith, room c.args.self.now c.args.index c.in_ok-place.place c.offset-offset.result here below, ap (λ n. c.in_ok-place.place * n) size)

pub returns : goal.returns
returns c =
    let size : c.size-size.result ≡ slice_index (sizes_of c.args.self.now.shape.nodes) c.args.index =
    c.size-size.ensures.value ∙ ap (λ (s : StoreWords). slice_index (sizes_of s.shape.nodes) c.args.index) c.self.view_is in
    let offset : c.offset-offset.result ≡ slice_index (offsets c.args.self.now.shape.nodes c.args.at) c.args.index =
    c.offset-offset.ensures.value ∙ ap (λ (s : StoreWords). slice_index (offsets s.shape.nodes c.args.at) c.args.index) c.self.view_is in
    sym (number_next c.args.self.now (subst IsWellFormed c.self.view_is c.self.invariant) c.args.at c.args.index (Some c.in_ok-place.place) c.offset-offset.result c.size-size.result c.requires.node offset size
    (sym c.place_of.ensures ∙ c.in_ok-place.was))
