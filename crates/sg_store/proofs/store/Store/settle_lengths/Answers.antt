use Rattle.std.proofs.Common.{◌≡◌, ℕ, ◌-◌, length, ap, ◌∙◌, sym, subst}
use Rattle.std.specs.Prelude.{OnOk}
use Rattle.std.proofs.lemmas.Option.{slice_get_within}
use Rattle.sg_layout.specs.declared.shape.NodeShape.{NodeShape}
use Rattle.sg_layout.specs.declared.shape.Shape.{Shape}
use Rattle.sg_layout.specs.Axes.{count_of}
use Rattle.sg_dynamic.specs.Chunks.{fit}
use Rattle.sg_pool.specs.Numbers.{place_count}
use Rattle.sg_store.specs.StoreWords.{StoreWords}
use Rattle.sg_store.specs.Changes.{IsRefitted, ChangesNode}
use Rattle.sg_store.specs.steps.AtNode.{AtNodeOf}
use Rattle.sg_store.specs.steps.Raising.{CanLengthen}
use Rattle.sg_store.proofs.Stepping.{read_as}
use Rattle.sg_store.proofs.DynamicLevel.{on_ok_map}
use Rattle.sg_store.proofs.LengthsSettled as lemmas
use Rattle.sg_store.proofs.store.Store.settle_lengths.Goals as goal

pub relength_node-answer-requires-clause-there : goal.relength_node-answer-requires-clause-there
relength_node-answer-requires-clause-there c =
    let store : StoreWords = c.args.self.now in
    let last : ℕ = c.nodes-last.result - 1 in
    let many : c.nodes-last.result ≡ length store.shape.nodes = c.nodes-last.ensures.value ∙ ap (λ (s : StoreWords). length s.shape.nodes) c.self.view_is in
    let at = lemmas.at_last store c.layout.ensures.well_formed c.nodes-last.result many c.nodes-last.ensures.some c.requires.dynamic in
    slice_get_within store.nodes last at.1 at.2.has

pub relength_node-answer-requires-clause-can : goal.relength_node-answer-requires-clause-can
relength_node-answer-requires-clause-can c =
    let store : StoreWords = c.args.self.now in
    let last : ℕ = c.nodes-last.result - 1 in
    let many : c.nodes-last.result ≡ length store.shape.nodes = c.nodes-last.ensures.value ∙ ap (λ (s : StoreWords). length s.shape.nodes) c.self.view_is in
    let at = lemmas.at_last store c.layout.ensures.well_formed c.nodes-last.result many c.nodes-last.ensures.some c.requires.dynamic in
    let node_is : c.index-as_slice-last.result ≡ at.0 =
    read_as c.as_slice.result.now store.shape.nodes last c.index-as_slice-last.result at.0
    (c.as_slice.ensures ∙ ap (λ (s : Shape). s.nodes) c.shape.ensures.value ∙ ap (λ (s : StoreWords). s.shape.nodes) c.self.view_is) c.index-as_slice-last.is at.2.at in
    let chunk : c.chunk_of-chunk.result ≡ count_of at.0.chunk = c.chunk_of-chunk.ensures ∙ ap (λ (n : NodeShape). count_of n.chunk) node_is in
    subst (λ k. AtNodeOf (CanLengthen c.args.lengths.now k) store last) (sym chunk)
    (lemmas.can_lengthen store (length store.shape.nodes) last at.0 at.1 c.args.lengths.now at.2 (c.rules_decide.ensures.accepted store.shape) at.3 c.requires.can)

pub returns-clause-answer : goal.returns-clause-answer
returns-clause-answer c = λ node here.
    let store : StoreWords = c.args.self.now in
    let last : ℕ = c.nodes-last.result - 1 in
    let many : c.nodes-last.result ≡ length store.shape.nodes = c.nodes-last.ensures.value ∙ ap (λ (s : StoreWords). length s.shape.nodes) c.self.view_is in
    let at = lemmas.at_last store c.layout.ensures.well_formed c.nodes-last.result many c.nodes-last.ensures.some c.requires.dynamic in
    let node_is : c.index-as_slice-last.result ≡ at.0 =
    read_as c.as_slice.result.now store.shape.nodes last c.index-as_slice-last.result at.0
    (c.as_slice.ensures ∙ ap (λ (s : Shape). s.nodes) c.shape.ensures.value ∙ ap (λ (s : StoreWords). s.shape.nodes) c.self.view_is) c.index-as_slice-last.is at.2.at in
    let chunk : c.chunk_of-chunk.result ≡ count_of at.0.chunk = c.chunk_of-chunk.ensures ∙ ap (λ (n : NodeShape). count_of n.chunk) node_is in
    let same : at.0 ≡ node = lemmas.node_same store (length store.shape.nodes) last at.0 node at.1 at.2 here in
    c.relength_node-answer.ensures.answer at.1 at.2.has
    ∙ ap (λ k. fit k c.args.lengths.now (place_count at.1.pool)) chunk
    ∙ ap (fit (count_of at.0.chunk) c.args.lengths.now) (lemmas.places_are store (length store.shape.nodes) last at.0 at.1 at.2 at.3)
    ∙ ap (λ (n : NodeShape). fit (count_of n.chunk) c.args.lengths.now (count_of n.cap)) same

pub returns-clause-settled : goal.returns-clause-settled
returns-clause-settled c = λ node here.
    let store : StoreWords = c.args.self.now in
    let last : ℕ = c.nodes-last.result - 1 in
    let many : c.nodes-last.result ≡ length store.shape.nodes = c.nodes-last.ensures.value ∙ ap (λ (s : StoreWords). length s.shape.nodes) c.self.view_is in
    let at = lemmas.at_last store c.layout.ensures.well_formed c.nodes-last.result many c.nodes-last.ensures.some c.requires.dynamic in
    let node_is : c.index-as_slice-last.result ≡ at.0 =
    read_as c.as_slice.result.now store.shape.nodes last c.index-as_slice-last.result at.0
    (c.as_slice.ensures ∙ ap (λ (s : Shape). s.nodes) c.shape.ensures.value ∙ ap (λ (s : StoreWords). s.shape.nodes) c.self.view_is) c.index-as_slice-last.is at.2.at in
    let chunk : c.chunk_of-chunk.result ≡ count_of at.0.chunk = c.chunk_of-chunk.ensures ∙ ap (λ (n : NodeShape). count_of n.chunk) node_is in
    let fitted : OnOk c.relength_node-answer.result (ChangesNode (IsRefitted c.args.lengths.now (count_of at.0.chunk)) store c.relength_node-answer.new.self last) =
    subst (λ k. OnOk c.relength_node-answer.result (ChangesNode (IsRefitted c.args.lengths.now k) store c.relength_node-answer.new.self last)) chunk c.relength_node-answer.ensures.fitted in
    let same : at.0 ≡ node = lemmas.node_same store (length store.shape.nodes) last at.0 node at.1 at.2 here in
    subst (λ k. OnOk c.relength_node-answer.result (ChangesNode (IsRefitted c.args.lengths.now (count_of node.chunk)) store c.relength_node-answer.new.self (k - 1))) many
    (subst (λ (n : NodeShape). OnOk c.relength_node-answer.result (ChangesNode (IsRefitted c.args.lengths.now (count_of n.chunk)) store c.relength_node-answer.new.self last)) same fitted)

pub returns-clause-keeps : goal.returns-clause-keeps
returns-clause-keeps c =
    let store : StoreWords = c.args.self.now in
    let last : ℕ = c.nodes-last.result - 1 in
    let many : c.nodes-last.result ≡ length store.shape.nodes = c.nodes-last.ensures.value ∙ ap (λ (s : StoreWords). length s.shape.nodes) c.self.view_is in
    let at = lemmas.at_last store c.layout.ensures.well_formed c.nodes-last.result many c.nodes-last.ensures.some c.requires.dynamic in
    let node_is : c.index-as_slice-last.result ≡ at.0 =
    read_as c.as_slice.result.now store.shape.nodes last c.index-as_slice-last.result at.0
    (c.as_slice.ensures ∙ ap (λ (s : Shape). s.nodes) c.shape.ensures.value ∙ ap (λ (s : StoreWords). s.shape.nodes) c.self.view_is) c.index-as_slice-last.is at.2.at in
    let chunk : c.chunk_of-chunk.result ≡ count_of at.0.chunk = c.chunk_of-chunk.ensures ∙ ap (λ (n : NodeShape). count_of n.chunk) node_is in
    let fitted : OnOk c.relength_node-answer.result (ChangesNode (IsRefitted c.args.lengths.now (count_of at.0.chunk)) store c.relength_node-answer.new.self last) =
    subst (λ k. OnOk c.relength_node-answer.result (ChangesNode (IsRefitted c.args.lengths.now k) store c.relength_node-answer.new.self last)) chunk c.relength_node-answer.ensures.fitted in
    on_ok_map c.relength_node-answer.result
    (λ changed. lemmas.lengths_keep store c.relength_node-answer.new.self (length store.shape.nodes) last at.0 at.1 c.args.lengths.now at.2 (c.rules_decide.ensures.accepted store.shape) at.3 c.requires.can changed)
    fitted

pub returns-clause-opened : goal.returns-clause-opened
returns-clause-opened c =
    let store : StoreWords = c.args.self.now in
    let last : ℕ = c.nodes-last.result - 1 in
    let many : c.nodes-last.result ≡ length store.shape.nodes = c.nodes-last.ensures.value ∙ ap (λ (s : StoreWords). length s.shape.nodes) c.self.view_is in
    let at = lemmas.at_last store c.layout.ensures.well_formed c.nodes-last.result many c.nodes-last.ensures.some c.requires.dynamic in
    let node_is : c.index-as_slice-last.result ≡ at.0 =
    read_as c.as_slice.result.now store.shape.nodes last c.index-as_slice-last.result at.0
    (c.as_slice.ensures ∙ ap (λ (s : Shape). s.nodes) c.shape.ensures.value ∙ ap (λ (s : StoreWords). s.shape.nodes) c.self.view_is) c.index-as_slice-last.is at.2.at in
    let chunk : c.chunk_of-chunk.result ≡ count_of at.0.chunk = c.chunk_of-chunk.ensures ∙ ap (λ (n : NodeShape). count_of n.chunk) node_is in
    let fitted : OnOk c.relength_node-answer.result (ChangesNode (IsRefitted c.args.lengths.now (count_of at.0.chunk)) store c.relength_node-answer.new.self last) =
    subst (λ k. OnOk c.relength_node-answer.result (ChangesNode (IsRefitted c.args.lengths.now k) store c.relength_node-answer.new.self last)) chunk c.relength_node-answer.ensures.fitted in
    on_ok_map c.relength_node-answer.result
    (λ changed wanted below new. lemmas.lengths_open store c.relength_node-answer.new.self (length store.shape.nodes) last at.0 at.1 c.args.lengths.now wanted at.2
    (c.paths_tell.ensures.is_slot store.shape) (c.rules_decide.ensures.accepted store.shape) at.3 c.requires.can changed below new)
    fitted
