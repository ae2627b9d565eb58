use Rattle.std.proofs.Common.{◌≡◌, ◌<◌, ◌-◌, List, length, ap, ◌∙◌, sym, subst}
use Rattle.std.proofs.lemmas.Option.{slice_get_within}
use Rattle.sg_coord.specs.Bounds.{IsBounds}
use Rattle.sg_layout.specs.Axes.{bounds_of_shape}
use Rattle.sg_store.specs.declared.node.NodeWords.{NodeWords}
use Rattle.sg_store.specs.StoreWords.{StoreWords}
use Rattle.sg_store.specs.WellFormed.{IsWellFormed}
use Rattle.sg_store.specs.Opening.{masks_of}
use Rattle.sg_store.proofs.AtNumber.{at_number, masks_are}
use Rattle.sg_store.proofs.Stepping.{read_as}
use Rattle.sg_store.proofs.SpotPlaces.{narrow_start}
use Rattle.sg_store.proofs.SlotWords as lemmas
use Rattle.sg_store.proofs.store.Store.mask_words.Goals as goal

pub bounds-as_slice-node : goal.bounds-as_slice-node
bounds-as_slice-node c =
    let store : StoreWords = c.args.self.now in
    let well : IsWellFormed store = subst IsWellFormed c.self.view_is c.self.invariant in
    let at = at_number store well c.args.node c.requires.first (λ dense. cc (sym c.requires.masked ∙ dense)) in
    let nodes = c.as_slice.ensures.value ∙ ap (λ (s : StoreWords). s.nodes) c.self.view_is in
    subst (λ (words : List NodeWords). c.args.node - 1 < length words) (sym nodes) (slice_get_within store.nodes (c.args.node - 1) at.1 at.2.has)

read : (c : goal.After-from_vec) → c.from_vec.result ≡ masks_of c.args.self.now c.args.node
read c =
    let store : StoreWords = c.args.self.now in
    let well : IsWellFormed store = subst IsWellFormed c.self.view_is c.self.invariant in
    let at = at_number store well c.args.node c.requires.first (λ dense. cc (sym c.requires.masked ∙ dense)) in
    let same : c.index-as_slice-node.result ≡ at.1 =
    read_as c.as_slice.result.now store.nodes (c.args.node - 1) c.index-as_slice-node.result at.1 (c.as_slice.ensures.value ∙ ap (λ (s : StoreWords). s.nodes) c.self.view_is)
    c.index-as_slice-node.is at.2.has in
    c.from_vec.ensures ∙ c.in_ok-whole.ensures ∙ ap (λ (k : NodeWords). k.masks) same
    ∙ sym (masks_are store c.args.node (c.args.node - 1) at.0 at.1 at.2)

pub returns-clause-words : goal.returns-clause-words
returns-clause-words c = read c

pub returns-clause-some : goal.returns-clause-some
returns-clause-some c =
    let store : StoreWords = c.args.self.now in
    let well : IsWellFormed store = subst IsWellFormed c.self.view_is c.self.invariant in
    let at = at_number store well c.args.node c.requires.first (λ dense. cc (sym c.requires.masked ∙ dense)) in
    let bounds : IsBounds (bounds_of_shape store.shape) = subst (λ (s : StoreWords). IsBounds (bounds_of_shape s.shape)) c.self.view_is c.extents-extents.ensures.bounds in
    let narrow = narrow_start store.shape bounds (c.paths_tell.ensures.fill store.shape well.accepted) in
    subst (λ words. 0 < length words) (sym (read c)) (lemmas.masks_some store c.args.node (c.args.node - 1) at.0 at.1 at.2 (sym at.3 ∙ c.requires.masked) narrow.some)
