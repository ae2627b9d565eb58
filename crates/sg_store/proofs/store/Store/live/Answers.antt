use Rattle.std.proofs.Common.{◌<◌, ◌-◌, List, length, get_or, ap, ◌∙◌, sym, subst}
use Rattle.std.proofs.lemmas.Option.{same_Some, slice_get-get_or}
use Rattle.sg_pool.specs.Numbers.{live_count}
use Rattle.sg_layout.specs.Live.{kind_or}
use Rattle.sg_store.specs.declared.node.NodeWords.{NodeWords}
use Rattle.sg_store.specs.StoreWords.{StoreWords}
use Rattle.sg_store.specs.WellFormed.{kind_has_cap, IsWellFormed}
use Rattle.sg_store.proofs.CellWords as lemmas
use Rattle.sg_store.proofs.store.Store.live.Goals as goal

pub bounds-as_slice-node : goal.bounds-as_slice-node
bounds-as_slice-node c =
    let store : StoreWords = c.args.self.now in
    let well : IsWellFormed store = subst IsWellFormed c.self.view_is c.self.invariant in
    let nodes = c.as_slice.ensures.value ∙ ap (λ (s : StoreWords). s.nodes) c.self.view_is in
    subst (λ (words : List NodeWords). c.args.node - 1 < length words) (sym nodes) (lemmas.node_within store well c.args.node c.requires.capped)

pub returns-clause-value : goal.returns-clause-value
returns-clause-value c = λ kept has.
    let store : StoreWords = c.args.self.now in
    let well : IsWellFormed store = subst IsWellFormed c.self.view_is c.self.invariant in
    let nodes = c.as_slice.ensures.value ∙ ap (λ (s : StoreWords). s.nodes) c.self.view_is in
    let within = lemmas.node_within store well c.args.node c.requires.capped in
    let read = slice_get-get_or store.nodes (c.args.node - 1) c.index-as_slice-node.result within in
    c.live.ensures ∙ ap (λ (words : List NodeWords). live_count (get_or words (c.args.node - 1) c.index-as_slice-node.result).pool) nodes
    ∙ ap (λ (k : NodeWords). live_count k.pool) (same_Some _ kept (sym read ∙ has))

pub returns-clause-need : goal.returns-clause-need
returns-clause-need c = λ flat stands shape is.
    let store : StoreWords = c.args.self.now in
    let well : IsWellFormed store = subst IsWellFormed c.self.view_is c.self.invariant in
    let nodes = c.as_slice.ensures.value ∙ ap (λ (s : StoreWords). s.nodes) c.self.view_is in
    let within = lemmas.node_within store well c.args.node c.requires.capped in
    let read = slice_get-get_or store.nodes (c.args.node - 1) c.index-as_slice-node.result within in
    let linked = sym (ap (λ o. kind_has_cap (kind_or o)) is.there) ∙ c.requires.capped in
    c.live.ensures ∙ ap (λ (words : List NodeWords). live_count (get_or words (c.args.node - 1) c.index-as_slice-node.result).pool) nodes
    ∙ c.live_is_need.ensures store well flat stands c.args.node shape is linked _ read
