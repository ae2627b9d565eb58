use Rattle.std.proofs.Common.{◌≡◌, ◌<◌, ◌-◌, List, length, ap, ◌∙◌, sym, subst}
use Rattle.std.specs.Prelude.{IfOk}
use Rattle.std.proofs.lemmas.Option.{slice_get_within}
use Rattle.sg_pool.specs.Numbers.{IsStock}
use Rattle.sg_layout.specs.StorageWords.{ends_segment}
use Rattle.sg_store.specs.declared.node.NodeWords.{NodeWords}
use Rattle.sg_store.specs.StoreWords.{StoreWords}
use Rattle.sg_store.specs.WellFormed.{IsWellFormed}
use Rattle.sg_store.proofs.AtNumber.{at_number, pool_is, if_ok}
use Rattle.sg_store.proofs.Stepping.{read_as}
use Rattle.sg_store.proofs.SlotWords as lemmas
use Rattle.sg_store.proofs.store.Store.stock.Goals as goal

pub bounds-as_slice-node : goal.bounds-as_slice-node
bounds-as_slice-node c =
    let store : StoreWords = c.args.self.now in
    let well : IsWellFormed store = subst IsWellFormed c.self.view_is c.self.invariant in
    let at = at_number store well c.args.node c.requires.first (lemmas.not_dense _ c.requires.linked) in
    let nodes = c.as_slice.ensures.value ∙ ap (λ (s : StoreWords). s.nodes) c.self.view_is in
    subst (λ (words : List NodeWords). c.args.node - 1 < length words) (sym nodes) (slice_get_within store.nodes (c.args.node - 1) at.1 at.2.has)

pub returns-clause-stock : goal.returns-clause-stock
returns-clause-stock c =
    let store : StoreWords = c.args.self.now in
    let well : IsWellFormed store = subst IsWellFormed c.self.view_is c.self.invariant in
    let at = at_number store well c.args.node c.requires.first (lemmas.not_dense _ c.requires.linked) in
    let same : c.index-as_slice-node.result ≡ at.1 =
    read_as c.as_slice.result.now store.nodes (c.args.node - 1) c.index-as_slice-node.result at.1 (c.as_slice.ensures.value ∙ ap (λ (s : StoreWords). s.nodes) c.self.view_is)
    c.index-as_slice-node.is at.2.has in
    let own : IfOk c.stock.result (IsStock at.1.pool) = subst (λ (k : NodeWords). IfOk c.stock.result (λ stock. IsStock k.pool stock)) (sym c.index-as_slice-node.is ∙ same) c.stock.ensures.stock in
    subst (λ pool. IfOk c.stock.result (IsStock pool)) (sym (pool_is store c.args.node (c.args.node - 1) at.0 at.1 at.2)) own

pub returns-clause-unlinked : goal.returns-clause-unlinked
returns-clause-unlinked c =
    let store : StoreWords = c.args.self.now in
    let well : IsWellFormed store = subst IsWellFormed c.self.view_is c.self.invariant in
    let at = at_number store well c.args.node c.requires.first (lemmas.not_dense _ c.requires.linked) in
    let same : c.index-as_slice-node.result ≡ at.1 =
    read_as c.as_slice.result.now store.nodes (c.args.node - 1) c.index-as_slice-node.result at.1 (c.as_slice.ensures.value ∙ ap (λ (s : StoreWords). s.nodes) c.self.view_is)
    c.index-as_slice-node.is at.2.has in
    let own : IfOk c.stock.result (IsStock at.1.pool) = subst (λ (k : NodeWords). IfOk c.stock.result (λ stock. IsStock k.pool stock)) (sym c.index-as_slice-node.is ∙ same) c.stock.ensures.stock in
    if_ok c.stock.result (IsStock at.1.pool) _ (λ stock is. lemmas.stock_unlinked store c.args.node (c.args.node - 1) at.0 at.1 stock at.2 (ap ends_segment (sym at.3) ∙ c.requires.linked) is) own

pub returns-clause-rest : goal.returns-clause-rest
returns-clause-rest c =
    let store : StoreWords = c.args.self.now in
    let well : IsWellFormed store = subst IsWellFormed c.self.view_is c.self.invariant in
    let at = at_number store well c.args.node c.requires.first (lemmas.not_dense _ c.requires.linked) in
    let same : c.index-as_slice-node.result ≡ at.1 =
    read_as c.as_slice.result.now store.nodes (c.args.node - 1) c.index-as_slice-node.result at.1 (c.as_slice.ensures.value ∙ ap (λ (s : StoreWords). s.nodes) c.self.view_is)
    c.index-as_slice-node.is at.2.has in
    let own : IfOk c.stock.result (IsStock at.1.pool) = subst (λ (k : NodeWords). IfOk c.stock.result (λ stock. IsStock k.pool stock)) (sym c.index-as_slice-node.is ∙ same) c.stock.ensures.stock in
    if_ok c.stock.result (IsStock at.1.pool) _ (λ stock is. lemmas.stock_rest store c.args.node (c.args.node - 1) at.0 at.1 stock at.2 (ap ends_segment (sym at.3) ∙ c.requires.linked) is) own
