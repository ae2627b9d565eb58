use Rattle.std.proofs.Common.{◌≡◌, ◌-◌, ◌≤◌, ℕ, length, refl, sym, ap, ◌∙◌, subst}
use Rattle.std.proofs.lemmas.Bool.{false≢true}
use Rattle.sg_layout.specs.declared.shape.Kind.TheVariants.{Dynamic}
use Rattle.sg_layout.specs.declared.shape.Shape.{Shape}
use Rattle.sg_layout.specs.Live.{kind_at}
use Rattle.sg_store.specs.Opening.{OpensNode}
use Rattle.sg_activate.specs.steps.Finding.{found_in}
use Rattle.sg_activate.specs.steps.Levels.{open_after, IsFirstFull}
use Rattle.sg_activate.proofs.Active.{refused_then, full_before}
use Rattle.sg_activate.proofs.Looking.{ok_so}
use Rattle.sg_activate.proofs.Through.{tail_dense, above_dynamic}
use Rattle.sg_activate.proofs.activation.open_tail.Goals as goal

pub returns-then-has_kind-clause-opened : goal.returns-then-has_kind-clause-opened
returns-then-has_kind-clause-opened g c =
    let store = c.args.store.now in
    let wanted = found_in c.args.work.now.axes c.args.work.now.found.now in
    let number : c.nodes-nodes.result ≡ length store.shape.nodes = c.nodes-nodes.ensures.value ∙ ap (λ (s : Shape). length s.nodes) c.layout.ensures.layout in
    let dynamic = subst (λ (n : ℕ). kind_at store.shape.nodes n ≡ Dynamic) number (c.has_kind.ensures.0 c.if-has_kind.true) in
    let above = above_dynamic store c.layout.ensures.well_formed (c.opening_by_nodes.ensures.hash_first store) (c.opening_by_nodes.ensures.dynamic_last store) (subst (λ (n : ℕ). 1 ≤ n) number c.nodes-nodes.ensures.some)
    (c.opening_by_nodes.ensures.dense store) dynamic wanted in
    ok_so c.open_lengths.result c.open_lengths.ensures.opened (λ opens old before.
    subst (λ (n : ℕ). OpensNode store c.open_lengths.new.store n wanted) number opens old (above old before))

pub returns-then-has_kind-clause-full : goal.returns-then-has_kind-clause-full
returns-then-has_kind-clause-full g c =
    let store = c.args.store.now in
    let wanted = found_in c.args.work.now.axes c.args.work.now.found.now in
    let number : c.nodes-nodes.result ≡ length store.shape.nodes = c.nodes-nodes.ensures.value ∙ ap (λ (s : Shape). length s.nodes) c.layout.ensures.layout in
    let dynamic = subst (λ (n : ℕ). kind_at store.shape.nodes n ≡ Dynamic) number (c.has_kind.ensures.0 c.if-has_kind.true) in
    let above = above_dynamic store c.layout.ensures.well_formed (c.opening_by_nodes.ensures.hash_first store) (c.opening_by_nodes.ensures.dynamic_last store) (subst (λ (n : ℕ). 1 ≤ n) number c.nodes-nodes.ensures.some)
    (c.opening_by_nodes.ensures.dense store) dynamic wanted in
    refused_then c.open_lengths.result (IsFirstFull store (c.nodes-nodes.result - 1) wanted) (IsFirstFull store (open_after store.shape) wanted) c.open_lengths.ensures.full
    (λ fault full. full_before store store (open_after store.shape) (length store.shape.nodes - 1) wanted fault refl above (subst (λ (n : ℕ). IsFirstFull store (n - 1) wanted fault) number full))

pub returns-clause-opened : goal.returns-clause-opened
returns-clause-opened g c =
    let store = c.args.store.now in
    let number : c.nodes-nodes.result ≡ length store.shape.nodes = c.nodes-nodes.ensures.value ∙ ap (λ (s : Shape). length s.nodes) c.layout.ensures.layout in
    tail_dense store c.layout.ensures.well_formed (c.opening_by_nodes.ensures.hash_first store) (c.opening_by_nodes.ensures.dynamic_last store) (subst (λ (n : ℕ). 1 ≤ n) number c.nodes-nodes.ensures.some)
    (c.opening_by_nodes.ensures.dense store) (λ dynamic. false≢true (sym c.if-has_kind.false ∙ c.has_kind.ensures.1 (subst (λ (n : ℕ). kind_at store.shape.nodes n ≡ Dynamic) (sym number) dynamic)))
    (found_in c.args.work.now.axes c.args.work.now.found.now)
