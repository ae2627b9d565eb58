use Rattle.std.proofs.Common.{◌≡◌, Some, ap, ◌∙◌, subst}
use Rattle.std.specs.Prelude.{slice_get}
use Rattle.sg_layout.specs.declared.shape.Kind.TheVariants.{Bitmasked}
use Rattle.sg_layout.specs.declared.shape.Shape.{Shape}
use Rattle.sg_layout.specs.StorageWords.{ends_segment}
use Rattle.sg_store.specs.StoreWords.{StoreWords}
use Rattle.sg_store.specs.WellFormed.{IsWellFormed}
use Rattle.sg_store.proofs.NodeKinds.{read_there, of_kind, pointer_of, hash_of, dynamic_of, dense_opens, full_node}
use Rattle.sg_store.proofs.store.Store.open_node.Goals as goal

pub open_mask-requires-clause-masked : goal.open_mask-requires-clause-masked
open_mask-requires-clause-masked c =
    let at : slice_get c.args.self.now.shape.nodes c.args.index ≡ Some c.index-as_slice-index.result =
    read_there c.as_slice.result.now c.args.self.now.shape.nodes c.args.index c.index-as_slice-index.result
    (c.as_slice.ensures ∙ ap (λ (s : Shape). s.nodes) c.shape.ensures.value ∙ ap (λ (s : StoreWords). s.shape.nodes) c.self.view_is) c.requires.there c.index-as_slice-index.is in
    of_kind c.args.self.now c.args.index c.index-as_slice-index.result Bitmasked (subst IsWellFormed c.self.view_is c.self.invariant) at c.in-Bitmasked.is

pub open_pointer-requires-clause-pointer : goal.open_pointer-requires-clause-pointer
open_pointer-requires-clause-pointer c =
    let at : slice_get c.args.self.now.shape.nodes c.args.index ≡ Some c.index-as_slice-index.result =
    read_there c.as_slice.result.now c.args.self.now.shape.nodes c.args.index c.index-as_slice-index.result
    (c.as_slice.ensures ∙ ap (λ (s : Shape). s.nodes) c.shape.ensures.value ∙ ap (λ (s : StoreWords). s.shape.nodes) c.self.view_is) c.requires.there c.index-as_slice-index.is in
    pointer_of c.args.self.now c.args.index c.index-as_slice-index.result c.cap_of-cap.result (subst IsWellFormed c.self.view_is c.self.invariant) at c.in-Pointer.is c.cap_of-cap.ensures

pub open_hash-requires-clause-hash : goal.open_hash-requires-clause-hash
open_hash-requires-clause-hash c =
    let at : slice_get c.args.self.now.shape.nodes c.args.index ≡ Some c.index-as_slice-index.result =
    read_there c.as_slice.result.now c.args.self.now.shape.nodes c.args.index c.index-as_slice-index.result
    (c.as_slice.ensures ∙ ap (λ (s : Shape). s.nodes) c.shape.ensures.value ∙ ap (λ (s : StoreWords). s.shape.nodes) c.self.view_is) c.requires.there c.index-as_slice-index.is in
    hash_of c.args.self.now c.args.index c.index-as_slice-index.result c.cap_of-cap-in-Hash.result (subst IsWellFormed c.self.view_is c.self.invariant) at c.in-Hash.is c.cap_of-cap-in-Hash.ensures

pub open_dynamic-requires-clause-dynamic : goal.open_dynamic-requires-clause-dynamic
open_dynamic-requires-clause-dynamic c =
    let at : slice_get c.args.self.now.shape.nodes c.args.index ≡ Some c.index-as_slice-index.result =
    read_there c.as_slice.result.now c.args.self.now.shape.nodes c.args.index c.index-as_slice-index.result
    (c.as_slice.ensures ∙ ap (λ (s : Shape). s.nodes) c.shape.ensures.value ∙ ap (λ (s : StoreWords). s.shape.nodes) c.self.view_is) c.requires.there c.index-as_slice-index.is in
    dynamic_of c.args.self.now c.args.index c.index-as_slice-index.result c.cap_of-cap-in-Dynamic.result c.chunk_of-chunk.result (subst IsWellFormed c.self.view_is c.self.invariant) at c.in-Dynamic.is c.cap_of-cap-in-Dynamic.ensures c.chunk_of-chunk.ensures

pub returns-in-Dense-clause-opened : goal.returns-in-Dense-clause-opened
returns-in-Dense-clause-opened c =
    let at : slice_get c.args.self.now.shape.nodes c.args.index ≡ Some c.index-as_slice-index.result =
    read_there c.as_slice.result.now c.args.self.now.shape.nodes c.args.index c.index-as_slice-index.result
    (c.as_slice.ensures ∙ ap (λ (s : Shape). s.nodes) c.shape.ensures.value ∙ ap (λ (s : StoreWords). s.shape.nodes) c.self.view_is) c.requires.there c.index-as_slice-index.is in
    dense_opens c.args.self.now c.args.index c.index-as_slice-index.result c.args.wanted.now at c.in-Dense.is

pub returns-in_ok-slots-in-Pointer-clause-full : goal.returns-in_ok-slots-in-Pointer-clause-full
returns-in_ok-slots-in-Pointer-clause-full c =
    let at : slice_get c.args.self.now.shape.nodes c.args.index ≡ Some c.index-as_slice-index.result =
    read_there c.as_slice.result.now c.args.self.now.shape.nodes c.args.index c.index-as_slice-index.result
    (c.as_slice.ensures ∙ ap (λ (s : Shape). s.nodes) c.shape.ensures.value ∙ ap (λ (s : StoreWords). s.shape.nodes) c.self.view_is) c.requires.there c.index-as_slice-index.is in
    full_node c.args.self.now c.args.wanted.now c.args.index c.cap_of-cap.result c.index-as_slice-index.result c.open_pointer.result at (ap ends_segment c.in-Pointer.is) c.cap_of-cap.ensures c.open_pointer.ensures.full

pub returns-in_ok-slots-in-Hash-clause-full : goal.returns-in_ok-slots-in-Hash-clause-full
returns-in_ok-slots-in-Hash-clause-full c =
    let at : slice_get c.args.self.now.shape.nodes c.args.index ≡ Some c.index-as_slice-index.result =
    read_there c.as_slice.result.now c.args.self.now.shape.nodes c.args.index c.index-as_slice-index.result
    (c.as_slice.ensures ∙ ap (λ (s : Shape). s.nodes) c.shape.ensures.value ∙ ap (λ (s : StoreWords). s.shape.nodes) c.self.view_is) c.requires.there c.index-as_slice-index.is in
    full_node c.args.self.now c.args.wanted.now c.args.index c.cap_of-cap-in-Hash.result c.index-as_slice-index.result c.open_hash.result at (ap ends_segment c.in-Hash.is) c.cap_of-cap-in-Hash.ensures c.open_hash.ensures.full
