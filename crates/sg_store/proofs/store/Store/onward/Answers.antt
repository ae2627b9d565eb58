use Rattle.std.proofs.Common.{◌≡◌, ◌*◌, ◌<◌, length, slice_index, ap, ◌∙◌, subst, arith}
use Rattle.sg_layout.specs.declared.shape.Shape.{Shape}
use Rattle.sg_layout.specs.Axes.{size_of, sizes_of}
use Rattle.sg_store.specs.StoreWords.{StoreWords}
use Rattle.sg_store.specs.WellFormed.{IsWellFormed}
use Rattle.sg_store.proofs.NodeKinds.{read_there}
use Rattle.sg_store.proofs.HashAt.{can_find, find_sized}
use Rattle.sg_store.proofs.Stepping.{room, words_many, size_at, read_as, step_same}
use Rattle.sg_store.proofs.store.Store.onward.Goals as goal

pub bounds-as_slice-index : goal.bounds-as_slice-index
bounds-as_slice-index c =
    omega (arith, c.requires.there, words_many _ _ _ _ c.self.invariant.nodes_fit, ap length c.as_slice.ensures.value, ap (λ (s : StoreWords). length s.shape.nodes) c.self.view_is)

pub onward-requires-clause-sized : goal.onward-requires-clause-sized
onward-requires-clause-sized c =
    let shapes : c.as_slice-nodes.result.now ≡ c.args.self.now.shape.nodes =
    c.as_slice-nodes.ensures ∙ ap (λ (s : Shape). s.nodes) c.shape.ensures.value ∙ ap (λ (s : StoreWords). s.shape.nodes) c.self.view_is in
    let at = read_there c.as_slice-nodes.result.now c.args.self.now.shape.nodes c.args.index c.index-nodes-index.result shapes c.requires.there c.index-nodes-index.is in
    c.size-size.ensures.value ∙ ap (λ (s : StoreWords). slice_index (sizes_of s.shape.nodes) c.args.index) c.self.view_is ∙ size_at c.args.self.now.shape.nodes c.args.index c.index-nodes-index.result at

pub onward-requires-clause-below : goal.onward-requires-clause-below
onward-requires-clause-below c =
    omega (arith, c.requires.below, c.size-size.ensures.value, ap (λ (s : StoreWords). slice_index (sizes_of s.shape.nodes) c.args.index) c.self.view_is)

pub onward-requires-clause-room : goal.onward-requires-clause-room
onward-requires-clause-room c =
    let size : c.size-size.result ≡ slice_index (sizes_of c.args.self.now.shape.nodes) c.args.index =
    c.size-size.ensures.value ∙ ap (λ (s : StoreWords). slice_index (sizes_of s.shape.nodes) c.args.index) c.self.view_is in
    omega (arith, room c.args.self.now c.args.index c.args.place c.args.offset c.requires.fits c.requires.below, ap (λ n. c.args.place * n) size)

pub onward-requires-clause-find : goal.onward-requires-clause-find
onward-requires-clause-find c =
    let shapes : c.as_slice-nodes.result.now ≡ c.args.self.now.shape.nodes =
    c.as_slice-nodes.ensures ∙ ap (λ (s : Shape). s.nodes) c.shape.ensures.value ∙ ap (λ (s : StoreWords). s.shape.nodes) c.self.view_is in
    let words : c.as_slice.result.now ≡ c.args.self.now.nodes = c.as_slice.ensures.value ∙ ap (λ (s : StoreWords). s.nodes) c.self.view_is in
    let well : IsWellFormed c.args.self.now = subst IsWellFormed c.self.view_is c.self.invariant in
    let at = read_there c.as_slice-nodes.result.now c.args.self.now.shape.nodes c.args.index c.index-nodes-index.result shapes c.requires.there c.index-nodes-index.is in
    let has = read_there c.as_slice.result.now c.args.self.now.nodes c.args.index c.index-as_slice-index.result words
    (omega (arith, c.requires.there, words_many _ _ _ _ well.nodes_fit)) c.index-as_slice-index.is in
    let size : c.size-size.result ≡ size_of c.index-nodes-index.result.sizes =
    c.size-size.ensures.value ∙ ap (λ (s : StoreWords). slice_index (sizes_of s.shape.nodes) c.args.index) c.self.view_is ∙ size_at c.args.self.now.shape.nodes c.args.index c.index-nodes-index.result at in
    let below : c.args.offset < size_of c.index-nodes-index.result.sizes = omega (arith, c.requires.below, size_at c.args.self.now.shape.nodes c.args.index c.index-nodes-index.result at) in
    find_sized c.index-nodes-index.result c.index-as_slice-index.result c.args.place c.size-size.result c.args.offset size
    (can_find c.args.self.now c.args.index c.args.place c.args.offset c.index-nodes-index.result c.index-as_slice-index.result well c.requires.fits at has below (omega (arith, size, c.size-size.ensures.most)))

pub returns : goal.returns
returns c = λ node kept at has.
    let shapes : c.as_slice-nodes.result.now ≡ c.args.self.now.shape.nodes =
    c.as_slice-nodes.ensures ∙ ap (λ (s : Shape). s.nodes) c.shape.ensures.value ∙ ap (λ (s : StoreWords). s.shape.nodes) c.self.view_is in
    let words : c.as_slice.result.now ≡ c.args.self.now.nodes = c.as_slice.ensures.value ∙ ap (λ (s : StoreWords). s.nodes) c.self.view_is in
    let size : c.size-size.result ≡ size_of node.sizes =
    c.size-size.ensures.value ∙ ap (λ (s : StoreWords). slice_index (sizes_of s.shape.nodes) c.args.index) c.self.view_is ∙ size_at c.args.self.now.shape.nodes c.args.index node at in
    c.onward.ensures
    ∙ step_same c.args.bits _ node _ kept c.args.place c.size-size.result c.args.offset (read_as _ _ _ _ node shapes c.index-nodes-index.is at)
    (read_as _ _ _ _ kept words c.index-as_slice-index.is has) size
