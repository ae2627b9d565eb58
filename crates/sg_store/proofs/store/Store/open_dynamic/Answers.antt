use Rattle.std.proofs.Common.{◌≡◌, ℕ, suc, ◌+◌, List, length, ap, ◌∙◌, subst, arith}
use Rattle.std.specs.Prelude.{slice_index}
use Rattle.std.proofs.lemmas.Option.{slice_get_within}
use Rattle.sg_layout.specs.Axes.{size_of, sizes_of}
use Rattle.sg_store.specs.declared.node.NodeWords.{NodeWords}
use Rattle.sg_store.specs.StoreWords.{StoreWords}
use Rattle.sg_store.specs.WellFormed.{IsWellFormed}
use Rattle.sg_store.specs.steps.Raising.{RiseByMany}
use Rattle.sg_store.proofs.Stepping.{size_at, read_as}
use Rattle.sg_store.proofs.DynamicLevel.{dynamic_opening, parents_there, can_settle_lengths, dynamic_opened}
use Rattle.sg_store.proofs.DynamicFull.{dynamic_full}
use Rattle.sg_store.proofs.store.Store.open_dynamic.Goals as goal

pub size-size-requires : goal.size-size-requires
size-size-requires c =
    let store : StoreWords = c.args.self.now in
    let o = dynamic_opening store c.args.index c.args.cap c.args.chunk c.args.wanted.now c.args.slots.now (subst IsWellFormed c.self.view_is c.self.invariant)
    (c.paths_tell.ensures.is_slot store.shape) (c.rules_decide.ensures.accepted store.shape) c.requires.dynamic c.requires.numbers in
    omega (arith, o.is.within, ap (λ (s : StoreWords). length s.shape.nodes) c.self.view_is)

pub bounds-as_slice-index : goal.bounds-as_slice-index
bounds-as_slice-index c =
    let store : StoreWords = c.args.self.now in
    let o = dynamic_opening store c.args.index c.args.cap c.args.chunk c.args.wanted.now c.args.slots.now (subst IsWellFormed c.self.view_is c.self.invariant)
    (c.paths_tell.ensures.is_slot store.shape) (c.rules_decide.ensures.accepted store.shape) c.requires.dynamic c.requires.numbers in
    omega (arith, slice_get_within store.nodes c.args.index o.kept o.is.has, ap length c.as_slice.ensures.value, ap (λ (s : StoreWords). length s.nodes) c.self.view_is)

pub raise_all-requires-clause-there : goal.raise_all-requires-clause-there
raise_all-requires-clause-there c =
    let store : StoreWords = c.args.self.now in
    let o = dynamic_opening store c.args.index c.args.cap c.args.chunk c.args.wanted.now c.args.slots.now (subst IsWellFormed c.self.view_is c.self.invariant)
    (c.paths_tell.ensures.is_slot store.shape) (c.rules_decide.ensures.accepted store.shape) c.requires.dynamic c.requires.numbers in
    let sized : c.size-size.result ≡ size_of o.node.sizes =
    c.size-size.ensures.value ∙ ap (λ (s : StoreWords). slice_index (sizes_of s.shape.nodes) c.args.index) c.self.view_is ∙ size_at store.shape.nodes c.args.index o.node o.is.at in
    let kept : c.index-as_slice-index.result ≡ o.kept =
    read_as c.as_slice.result.now store.nodes c.args.index c.index-as_slice-index.result o.kept (c.as_slice.ensures.value ∙ ap (λ (s : StoreWords). s.nodes) c.self.view_is) c.index-as_slice-index.is o.is.has in
    let same : c.in_ok-lengths.lengths ≡ o.kept.lengths = c.in_ok-lengths.ensures ∙ ap (λ (k : NodeWords). k.lengths) kept in
    parents_there store c.args.index c.args.cap c.args.chunk c.args.wanted.now c.args.slots.now c.in_ok-lengths.lengths c.size-size.result o sized c.size-size.ensures.some same

pub relength_node_row-requires-clause-there : goal.relength_node_row-requires-clause-there
relength_node_row-requires-clause-there c =
    let store : StoreWords = c.args.self.now in
    let o = dynamic_opening store c.args.index c.args.cap c.args.chunk c.args.wanted.now c.args.slots.now (subst IsWellFormed c.self.view_is c.self.invariant)
    (c.paths_tell.ensures.is_slot store.shape) (c.rules_decide.ensures.accepted store.shape) c.requires.dynamic c.requires.numbers in
    slice_get_within store.nodes c.args.index o.kept o.is.has

pub relength_node_row-requires-clause-can : goal.relength_node_row-requires-clause-can
relength_node_row-requires-clause-can c =
    let store : StoreWords = c.args.self.now in
    let o = dynamic_opening store c.args.index c.args.cap c.args.chunk c.args.wanted.now c.args.slots.now (subst IsWellFormed c.self.view_is c.self.invariant)
    (c.paths_tell.ensures.is_slot store.shape) (c.rules_decide.ensures.accepted store.shape) c.requires.dynamic c.requires.numbers in
    let sized : c.size-size.result ≡ size_of o.node.sizes =
    c.size-size.ensures.value ∙ ap (λ (s : StoreWords). slice_index (sizes_of s.shape.nodes) c.args.index) c.self.view_is ∙ size_at store.shape.nodes c.args.index o.node o.is.at in
    let kept : c.index-as_slice-index.result ≡ o.kept =
    read_as c.as_slice.result.now store.nodes c.args.index c.index-as_slice-index.result o.kept (c.as_slice.ensures.value ∙ ap (λ (s : StoreWords). s.nodes) c.self.view_is) c.index-as_slice-index.is o.is.has in
    let same : c.in_ok-lengths.lengths ≡ o.kept.lengths = c.in_ok-lengths.ensures ∙ ap (λ (k : NodeWords). k.lengths) kept in
    let raised : RiseByMany o.kept.lengths c.raise_all.new.lengths c.size-size.result c.args.slots.now =
    subst (λ (l : List ℕ). RiseByMany l c.raise_all.new.lengths c.size-size.result c.args.slots.now) same c.raise_all.ensures in
    can_settle_lengths store c.args.index c.args.cap c.args.chunk c.args.wanted.now c.args.slots.now c.raise_all.new.lengths c.size-size.result o sized raised

pub returns-in-Ok-clause-opened : goal.returns-in-Ok-clause-opened
returns-in-Ok-clause-opened c =
    let store : StoreWords = c.args.self.now in
    let o = dynamic_opening store c.args.index c.args.cap c.args.chunk c.args.wanted.now c.args.slots.now (subst IsWellFormed c.self.view_is c.self.invariant)
    (c.paths_tell.ensures.is_slot store.shape) (c.rules_decide.ensures.accepted store.shape) c.requires.dynamic c.requires.numbers in
    let sized : c.size-size.result ≡ size_of o.node.sizes =
    c.size-size.ensures.value ∙ ap (λ (s : StoreWords). slice_index (sizes_of s.shape.nodes) c.args.index) c.self.view_is ∙ size_at store.shape.nodes c.args.index o.node o.is.at in
    let kept : c.index-as_slice-index.result ≡ o.kept =
    read_as c.as_slice.result.now store.nodes c.args.index c.index-as_slice-index.result o.kept (c.as_slice.ensures.value ∙ ap (λ (s : StoreWords). s.nodes) c.self.view_is) c.index-as_slice-index.is o.is.has in
    let same : c.in_ok-lengths.lengths ≡ o.kept.lengths = c.in_ok-lengths.ensures ∙ ap (λ (k : NodeWords). k.lengths) kept in
    let raised : RiseByMany o.kept.lengths c.raise_all.new.lengths c.size-size.result c.args.slots.now =
    subst (λ (l : List ℕ). RiseByMany l c.raise_all.new.lengths c.size-size.result c.args.slots.now) same c.raise_all.ensures in
    (dynamic_opened store c.relength_node_row.new.self c.args.index c.args.cap c.args.chunk c.args.wanted.now c.args.slots.now c.raise_all.new.lengths c.size-size.result o sized raised c.in-Ok.ensures.fitted).0

pub returns-in-Ok-clause-keeps : goal.returns-in-Ok-clause-keeps
returns-in-Ok-clause-keeps c =
    let store : StoreWords = c.args.self.now in
    let o = dynamic_opening store c.args.index c.args.cap c.args.chunk c.args.wanted.now c.args.slots.now (subst IsWellFormed c.self.view_is c.self.invariant)
    (c.paths_tell.ensures.is_slot store.shape) (c.rules_decide.ensures.accepted store.shape) c.requires.dynamic c.requires.numbers in
    let sized : c.size-size.result ≡ size_of o.node.sizes =
    c.size-size.ensures.value ∙ ap (λ (s : StoreWords). slice_index (sizes_of s.shape.nodes) c.args.index) c.self.view_is ∙ size_at store.shape.nodes c.args.index o.node o.is.at in
    let kept : c.index-as_slice-index.result ≡ o.kept =
    read_as c.as_slice.result.now store.nodes c.args.index c.index-as_slice-index.result o.kept (c.as_slice.ensures.value ∙ ap (λ (s : StoreWords). s.nodes) c.self.view_is) c.index-as_slice-index.is o.is.has in
    let same : c.in_ok-lengths.lengths ≡ o.kept.lengths = c.in_ok-lengths.ensures ∙ ap (λ (k : NodeWords). k.lengths) kept in
    let raised : RiseByMany o.kept.lengths c.raise_all.new.lengths c.size-size.result c.args.slots.now =
    subst (λ (l : List ℕ). RiseByMany l c.raise_all.new.lengths c.size-size.result c.args.slots.now) same c.raise_all.ensures in
    (dynamic_opened store c.relength_node_row.new.self c.args.index c.args.cap c.args.chunk c.args.wanted.now c.args.slots.now c.raise_all.new.lengths c.size-size.result o sized raised c.in-Ok.ensures.fitted).1

pub returns-clause-full : goal.returns-clause-full
returns-clause-full c =
    let store : StoreWords = c.args.self.now in
    let o = dynamic_opening store c.args.index c.args.cap c.args.chunk c.args.wanted.now c.args.slots.now (subst IsWellFormed c.self.view_is c.self.invariant)
    (c.paths_tell.ensures.is_slot store.shape) (c.rules_decide.ensures.accepted store.shape) c.requires.dynamic c.requires.numbers in
    let sized : c.size-size.result ≡ size_of o.node.sizes =
    c.size-size.ensures.value ∙ ap (λ (s : StoreWords). slice_index (sizes_of s.shape.nodes) c.args.index) c.self.view_is ∙ size_at store.shape.nodes c.args.index o.node o.is.at in
    let kept : c.index-as_slice-index.result ≡ o.kept =
    read_as c.as_slice.result.now store.nodes c.args.index c.index-as_slice-index.result o.kept (c.as_slice.ensures.value ∙ ap (λ (s : StoreWords). s.nodes) c.self.view_is) c.index-as_slice-index.is o.is.has in
    let same : c.in_ok-lengths.lengths ≡ o.kept.lengths = c.in_ok-lengths.ensures ∙ ap (λ (k : NodeWords). k.lengths) kept in
    let raised : RiseByMany o.kept.lengths c.raise_all.new.lengths c.size-size.result c.args.slots.now =
    subst (λ (l : List ℕ). RiseByMany l c.raise_all.new.lengths c.size-size.result c.args.slots.now) same c.raise_all.ensures in
    let next : c.args.index + 1 ≡ suc c.args.index = omega arith in
    dynamic_full store c.args.index c.args.cap c.args.chunk c.args.wanted.now c.args.slots.now c.raise_all.new.lengths c.size-size.result c.in-Err._full o sized raised
    (record {
      parents = c.need_counts_live.ensures.parents store.shape;
      up_to = c.need_counts_live.ensures.greatest store.shape;
      once = c.need_counts_live.ensures.once store.shape;
    }) c.in-Err.ensures.answer (c.args.index + 1) next
