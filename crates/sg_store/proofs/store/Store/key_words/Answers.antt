use Rattle.std.proofs.Common.{◌≡◌, ◌<◌, List, length, ap, ◌∙◌, sym, subst, arith}
use Rattle.std.proofs.lemmas.Option.{slice_get_within}
use Rattle.sg_hash.specs.Tables.{IsTable, AreBeside}
use Rattle.sg_layout.specs.NeedLaws.{IsNumberedNode}
use Rattle.sg_layout.specs.declared.shape.NodeShape.{NodeShape}
use Rattle.sg_layout.specs.Axes.{count_of}
use Rattle.sg_store.specs.declared.node.NodeWords.{NodeWords}
use Rattle.sg_store.specs.StoreWords.{StoreWords}
use Rattle.sg_store.specs.WellFormed.{IsWellFormed}
use Rattle.sg_store.specs.Opening.{keys_of, link_words_of}
use Rattle.sg_store.proofs.AtNumber.{at_number, keys_are}
use Rattle.sg_store.proofs.Stepping.{read_as}
use Rattle.sg_store.proofs.HashSettled as lemmas
use Rattle.sg_store.proofs.store.Store.key_words.Goals as goal

pub bounds-as_slice-0 : goal.bounds-as_slice-0
bounds-as_slice-0 c =
    let store : StoreWords = c.args.self.now in
    let well : IsWellFormed store = subst IsWellFormed c.self.view_is c.self.invariant in
    let at = at_number store well 1 (omega arith) (λ dense. cc (sym c.requires.hash ∙ dense)) in
    let nodes = c.as_slice.ensures.value ∙ ap (λ (s : StoreWords). s.nodes) c.self.view_is in
    subst (λ (words : List NodeWords). 0 < length words) (sym nodes) (slice_get_within store.nodes 0 at.1 at.2.has)

read : (c : goal.After-from_vec) → c.from_vec.result ≡ keys_of c.args.self.now 1
read c =
    let store : StoreWords = c.args.self.now in
    let well : IsWellFormed store = subst IsWellFormed c.self.view_is c.self.invariant in
    let at = at_number store well 1 (omega arith) (λ dense. cc (sym c.requires.hash ∙ dense)) in
    let same : c.index-as_slice-0.result ≡ at.1 =
    read_as c.as_slice.result.now store.nodes 0 c.index-as_slice-0.result at.1 (c.as_slice.ensures.value ∙ ap (λ (s : StoreWords). s.nodes) c.self.view_is)
    c.index-as_slice-0.is at.2.has in
    c.from_vec.ensures ∙ c.in_ok-whole.ensures ∙ ap (λ (k : NodeWords). k.keys) same
    ∙ sym (keys_are store 1 0 at.0 at.1 at.2)

pub returns-clause-words : goal.returns-clause-words
returns-clause-words c = read c

pub returns-clause-table : goal.returns-clause-table
returns-clause-table c =
    let store : StoreWords = c.args.self.now in
    let well : IsWellFormed store = subst IsWellFormed c.self.view_is c.self.invariant in
    let at = at_number store well 1 (omega arith) (λ dense. cc (sym c.requires.hash ∙ dense)) in
    subst IsTable (sym (read c)) (lemmas.keys_table store 0 at.0 at.1 at.2 (sym at.3 ∙ c.requires.hash))

pub returns-clause-beside : goal.returns-clause-beside
returns-clause-beside c =
    let store : StoreWords = c.args.self.now in
    let well : IsWellFormed store = subst IsWellFormed c.self.view_is c.self.invariant in
    let at = at_number store well 1 (omega arith) (λ dense. cc (sym c.requires.hash ∙ dense)) in
    subst (λ keys. AreBeside keys (link_words_of store 1)) (sym (read c)) (lemmas.keys_beside store 0 at.0 at.1 at.2 (sym at.3 ∙ c.requires.hash))

pub returns-clause-more : goal.returns-clause-more
returns-clause-more c =
    let store : StoreWords = c.args.self.now in
    let well : IsWellFormed store = subst IsWellFormed c.self.view_is c.self.invariant in
    let at = at_number store well 1 (omega arith) (λ dense. cc (sym c.requires.hash ∙ dense)) in
    subst (λ keys. (shape : NodeShape) → IsNumberedNode store.shape 1 shape → count_of shape.cap < length keys) (sym (read c))
    (lemmas.keys_more store 0 at.0 at.1 at.2 (c.rules_decide.ensures.accepted store.shape) (sym at.3 ∙ c.requires.hash))
