use Rattle.std.proofs.Common.{◌≡◌, ℕ, ◌<◌, ◌-◌, List, length, ap, ◌∙◌, sym, subst}
use Rattle.std.proofs.lemmas.Option.{slice_get_within}
use Rattle.sg_coord.specs.Bounds.{IsBounds}
use Rattle.sg_layout.specs.Axes.{bounds_of_shape}
use Rattle.sg_store.specs.declared.node.NodeWords.{NodeWords}
use Rattle.sg_store.specs.StoreWords.{StoreWords}
use Rattle.sg_store.specs.WellFormed.{IsWellFormed}
use Rattle.sg_store.specs.Opening.{lengths_of}
use Rattle.sg_store.proofs.AtNumber.{lengths_are}
use Rattle.sg_store.proofs.Stepping.{read_as}
use Rattle.sg_store.proofs.SpotPlaces.{narrow_start}
use Rattle.sg_store.proofs.SlotWords.{lengths_some}
use Rattle.sg_store.proofs.LengthsSettled as lemmas
use Rattle.sg_store.proofs.store.Store.length_words.Goals as goal

pub bounds-as_slice-last : goal.bounds-as_slice-last
bounds-as_slice-last c =
    let store : StoreWords = c.args.self.now in
    let last : ℕ = c.nodes-last.result - 1 in
    let many : c.nodes-last.result ≡ length store.shape.nodes = c.nodes-last.ensures.value ∙ ap (λ (s : StoreWords). length s.shape.nodes) c.self.view_is in
    let at = lemmas.at_last store (subst IsWellFormed c.self.view_is c.self.invariant) c.nodes-last.result many c.nodes-last.ensures.some c.requires.dynamic in
    let nodes = c.as_slice.ensures.value ∙ ap (λ (s : StoreWords). s.nodes) c.self.view_is in
    subst (λ (words : List NodeWords). last < length words) (sym nodes) (slice_get_within store.nodes last at.1 at.2.has)

read : (c : goal.After-from_vec) → c.from_vec.result ≡ lengths_of c.args.self.now (length c.args.self.now.shape.nodes)
read c =
    let store : StoreWords = c.args.self.now in
    let last : ℕ = c.nodes-last.result - 1 in
    let many : c.nodes-last.result ≡ length store.shape.nodes = c.nodes-last.ensures.value ∙ ap (λ (s : StoreWords). length s.shape.nodes) c.self.view_is in
    let at = lemmas.at_last store (subst IsWellFormed c.self.view_is c.self.invariant) c.nodes-last.result many c.nodes-last.ensures.some c.requires.dynamic in
    let same : c.index-as_slice-last.result ≡ at.1 =
    read_as c.as_slice.result.now store.nodes last c.index-as_slice-last.result at.1 (c.as_slice.ensures.value ∙ ap (λ (s : StoreWords). s.nodes) c.self.view_is)
    c.index-as_slice-last.is at.2.has in
    c.from_vec.ensures ∙ c.in_ok-whole.ensures ∙ ap (λ (k : NodeWords). k.lengths) same
    ∙ sym (lengths_are store (length store.shape.nodes) last at.0 at.1 at.2)

pub returns-clause-words : goal.returns-clause-words
returns-clause-words c = read c

pub returns-clause-some : goal.returns-clause-some
returns-clause-some c =
    let store : StoreWords = c.args.self.now in
    let last : ℕ = c.nodes-last.result - 1 in
    let many : c.nodes-last.result ≡ length store.shape.nodes = c.nodes-last.ensures.value ∙ ap (λ (s : StoreWords). length s.shape.nodes) c.self.view_is in
    let at = lemmas.at_last store (subst IsWellFormed c.self.view_is c.self.invariant) c.nodes-last.result many c.nodes-last.ensures.some c.requires.dynamic in
    let well : IsWellFormed store = subst IsWellFormed c.self.view_is c.self.invariant in
    let bounds : IsBounds (bounds_of_shape store.shape) = subst (λ (s : StoreWords). IsBounds (bounds_of_shape s.shape)) c.self.view_is c.extents-extents.ensures.bounds in
    let narrow = narrow_start store.shape bounds (c.paths_tell.ensures.fill store.shape well.accepted) in
    subst (λ words. 0 < length words) (sym (read c)) (lengths_some store (length store.shape.nodes) last at.0 at.1 at.2 at.3 narrow.some)
