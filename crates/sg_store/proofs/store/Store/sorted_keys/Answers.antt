use Rattle.std.proofs.Common.{◌≡◌, ◌<◌, ◌≤◌, ◌^◌, List, ℕ, length, ap, ◌∙◌, sym, subst, arith, Result, Ok, Err}
use Rattle.std.specs.Result.{IfOk}
use Rattle.std.specs.List.{All}
use Rattle.std.proofs.lemmas.Option.{slice_get_within}
use Rattle.sg_store.specs.declared.node.NodeWords.{NodeWords}
use Rattle.sg_store.specs.StoreWords.{StoreWords}
use Rattle.sg_store.specs.WellFormed.{IsWellFormed}
use Rattle.sg_store.specs.Spots.{root_offsets}
use Rattle.sg_store.specs.steps.Sorting.{AreSortedKeys}
use Rattle.sg_store.proofs.AtNumber.{at_number}
use Rattle.sg_store.proofs.Stepping.{read_as}
use Rattle.sg_store.proofs.SortedKeys.{keys_small, sorted_offsets}
use Rattle.sg_store.proofs.store.Store.sorted_keys.Goals as goal

pub bounds-as_slice-0 : goal.bounds-as_slice-0
bounds-as_slice-0 c =
    let store : StoreWords = c.args.self.now in
    let well : IsWellFormed store = subst IsWellFormed c.self.view_is c.self.invariant in
    let at = at_number store well 1 (omega arith) (λ dense. cc (sym c.requires.hash ∙ dense)) in
    let nodes = c.as_slice.ensures.value ∙ ap (λ (s : StoreWords). s.nodes) c.self.view_is in
    subst (λ (words : List NodeWords). 0 < length words) (sym nodes) (slice_get_within store.nodes 0 at.1 at.2.has)

pub keys_in_order-requires : goal.keys_in_order-requires
keys_in_order-requires c =
    let store : StoreWords = c.args.self.now in
    let well : IsWellFormed store = subst IsWellFormed c.self.view_is c.self.invariant in
    let at = at_number store well 1 (omega arith) (λ dense. cc (sym c.requires.hash ∙ dense)) in
    let same : c.index-as_slice-0.result ≡ at.1 =
    read_as c.as_slice.result.now store.nodes 0 c.index-as_slice-0.result at.1 (c.as_slice.ensures.value ∙ ap (λ (s : StoreWords). s.nodes) c.self.view_is)
    c.index-as_slice-0.is at.2.has in
    let words = ap (λ (k : NodeWords). k.keys) same in
    subst (λ (list : List ℕ). All (λ word. word ≤ 2 ^ 32) list) (sym words) (keys_small store at.0 at.1 at.2 (sym at.3 ∙ c.requires.hash))

offsets_ok : (store : StoreWords) (words : List ℕ) {E : Type 0} (r : Result (List ℕ) E) → ((keys : List ℕ) → AreSortedKeys words keys → keys ≡ root_offsets store) → IfOk r (AreSortedKeys words) → IfOk r (λ keys. keys ≡ root_offsets store)
offsets_ok store words (Ok keys) follows are = follows keys are
offsets_ok store words (Err e) follows are = tt

pub returns : goal.returns
returns c =
    let store : StoreWords = c.args.self.now in
    let well : IsWellFormed store = subst IsWellFormed c.self.view_is c.self.invariant in
    let at = at_number store well 1 (omega arith) (λ dense. cc (sym c.requires.hash ∙ dense)) in
    let same : c.index-as_slice-0.result ≡ at.1 =
    read_as c.as_slice.result.now store.nodes 0 c.index-as_slice-0.result at.1 (c.as_slice.ensures.value ∙ ap (λ (s : StoreWords). s.nodes) c.self.view_is)
    c.index-as_slice-0.is at.2.has in
    let words = ap (λ (k : NodeWords). k.keys) same in
    offsets_ok c.args.self.now c.index-as_slice-0.result.keys c.keys_in_order.result
    (λ keys are. sorted_offsets store at.0 at.1 keys at.2 (sym at.3 ∙ c.requires.hash) (subst (λ (list : List ℕ). AreSortedKeys list keys) words are))
    c.keys_in_order.ensures
