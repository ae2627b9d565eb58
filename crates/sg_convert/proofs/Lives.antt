-- What is live in a store is what its layout needs, and at most the caps.
use Rattle.std.proofs.Common.{◌≡◌, ℕ, zero, suc, ◌+◌, ◌-◌, ◌<◌, ◌≤◌, true, None, Some, List, [], ◌∷◌, length, get_or, drop, refl, sym, ap, ◌∙◌, subst, arith, inl, inr}
use Rattle.std.specs.Prelude.{slice_get}
use Rattle.std.specs.List.{AllZip}
use Rattle.std.proofs.lemmas.Option.{slice_get-get_or, slice_get_cases}
use Rattle.sg_layout.specs.declared.shape.Kind.{Kind}
use Rattle.sg_layout.specs.declared.shape.Kind.TheVariants.{Dense, Bitmasked, Pointer, Hash, Dynamic}
use Rattle.sg_layout.specs.declared.shape.NodeShape.{NodeShape}
use Rattle.sg_layout.specs.Axes.{count_of}
use Rattle.sg_layout.specs.Rules.{has_good_caps, first_node_fault}
use Rattle.sg_layout.specs.Need.{need_by, need_of}
use Rattle.sg_layout.specs.NeedLaws.{IsNumberedNode}
use Rattle.sg_layout.proofs.Uses.{faultless_head, faultless_tail, no_fault}
use Rattle.sg_flat.specs.declared.state.FlatLayout.{FlatLayout}
use Rattle.sg_pool.specs.Numbers.{live_count}
use Rattle.sg_store.specs.declared.node.NodeWords.{NodeWords}
use Rattle.sg_store.specs.StoreWords.{StoreWords}
use Rattle.sg_store.specs.Opening.{pool_or_none, pool_of}
use Rattle.sg_store.specs.WellFormed.{kind_has_cap, IsWithinCap, IsWellFormed}
use Rattle.sg_store.specs.StandsFor.{StandsFor}
use Rattle.sg_store.specs.StoreLaws.{LiveIsNeed}
use Rattle.sg_store.proofs.Uses.{as_many_nodes}
use Rattle.sg_convert.specs.steps.Counting.{live_by, live_in, counted}
use Rattle.sg_convert.proofs.Tallied.{cap_range, dynamic_cap, IsTally, IsTurn, tally_turn}

-- the words that a store has for a node
words_at : (store : StoreWords) → IsWellFormed store → (index : ℕ) (node : NodeShape) → slice_get store.shape.nodes index ≡ Some node → (kept : NodeWords) × (slice_get store.nodes index ≡ Some kept)
words_at store well index node at =
    elim ((slice_get_cases store.nodes index).1) [
      | inl found ↦ (found.0, found.2)
      | inr past ↦
          elim ((slice_get_cases store.shape.nodes index).1) [
            | inl there ↦ absurd (omega (arith, past.0, there.1, as_many_nodes store well))
            | inr none ↦ absurd (cc (none.1, at))
          ]
    ]

-- ── What a node needs ──

live_need : (kind : Kind) (store : StoreWords) → LiveIsNeed store → IsWellFormed store → (flat : FlatLayout) → StandsFor store flat → (number : ℕ) (node : NodeShape) → IsNumberedNode store.shape number node → node.kind ≡ kind
    → live_by kind (live_count (pool_of store number)) ≡ need_by kind store.shape flat.active number (count_of node.chunk)
live_need Dense store law well flat stands number node numbered is = refl
live_need Bitmasked store law well flat stands number node numbered is = refl
live_need Pointer store law well flat stands number node numbered is =
    let kept = words_at store well (number - 1) node numbered.there in
    ap (λ o. live_count (pool_or_none o)) kept.1 ∙ law well flat stands number node numbered (ap kind_has_cap is) kept.0 kept.1
    ∙ ap (λ k. need_by k store.shape flat.active number (count_of node.chunk)) is
live_need Hash store law well flat stands number node numbered is =
    let kept = words_at store well (number - 1) node numbered.there in
    ap (λ o. live_count (pool_or_none o)) kept.1 ∙ law well flat stands number node numbered (ap kind_has_cap is) kept.0 kept.1
    ∙ ap (λ k. need_by k store.shape flat.active number (count_of node.chunk)) is
live_need Dynamic store law well flat stands number node numbered is =
    let kept = words_at store well (number - 1) node numbered.there in
    ap (λ o. live_count (pool_or_none o)) kept.1 ∙ law well flat stands number node numbered (ap kind_has_cap is) kept.0 kept.1
    ∙ ap (λ k. need_by k store.shape flat.active number (count_of node.chunk)) is

pub live_is_needed : (store : StoreWords) → LiveIsNeed store → IsWellFormed store → (flat : FlatLayout) → StandsFor store flat → (j : ℕ) (node : NodeShape) → slice_get store.shape.nodes j ≡ Some node
    → live_in store (1 + j) node ≡ need_of store.shape flat.active (1 + j) node
live_is_needed store law well flat stands j node at =
    let back : j ≡ 1 + j - 1 = omega arith in
    live_need node.kind store law well flat stands (1 + j) node (record { first = omega arith; there = ap (slice_get store.shape.nodes) (sym back) ∙ at }) refl

-- ── Caps ──

-- the node of a number keeps the rule on caps
pub caps_at : (axes number : ℕ) (nodes : List NodeShape) → first_node_fault axes number nodes ≡ None → (j : ℕ) (node : NodeShape) → slice_get nodes j ≡ Some node → has_good_caps node.kind node ≡ true
caps_at axes number [] none j node at = absurd (cc)
caps_at axes number (first ∷ later) none zero node at =
    let same : first ≡ node = cc in
    subst (λ (n : NodeShape). has_good_caps n.kind n ≡ true) same (faultless_head axes number first later none).caps
caps_at axes number (first ∷ later) none (suc j) node at = caps_at axes (suc number) later (faultless_tail axes number first later none) j node at

within_at : (nodes : List NodeShape) (words : List NodeWords) → AllZip (λ node kept. IsWithinCap node.kind node kept) nodes words → (j : ℕ) (node : NodeShape) (kept : NodeWords) → slice_get nodes j ≡ Some node → slice_get words j ≡ Some kept → IsWithinCap node.kind node kept
within_at [] words all j node kept at kept_at = absurd (cc)
within_at (first ∷ later) [] all j node kept at kept_at = absurd (cc)
within_at (first ∷ later) (own ∷ words) all zero node kept at kept_at =
    let same : first ≡ node = cc in
    let same_kept : own ≡ kept = cc in
    subst (λ (k : NodeWords). IsWithinCap node.kind node k) same_kept (subst (λ (n : NodeShape). IsWithinCap n.kind n own) same all.0)
within_at (first ∷ later) (own ∷ words) all (suc j) node kept at kept_at = within_at later words all.1 j node kept at kept_at

live_few : (kind : Kind) (node : NodeShape) (kept : NodeWords) → has_good_caps kind node ≡ true → IsWithinCap kind node kept → live_by kind (live_count kept.pool) ≤ 65536
live_few Dense node kept good within = omega arith
live_few Bitmasked node kept good within = omega arith
live_few Pointer node kept good within = (let range = cap_range node.cap good in omega (arith, within))
live_few Hash node kept good within = (let range = cap_range node.cap good in omega (arith, within))
live_few Dynamic node kept good within = (let range = dynamic_cap node good in omega (arith, within))

pub live_within : (store : StoreWords) → IsWellFormed store → (j : ℕ) (node : NodeShape) → slice_get store.shape.nodes j ≡ Some node → live_in store (1 + j) node ≤ 65536
live_within store well j node at =
    let kept = words_at store well j node at in
    let back : 1 + j - 1 ≡ j = omega arith in
    let pool : live_count (pool_of store (1 + j)) ≡ live_count kept.0.pool = ap (λ o. live_count (pool_or_none o)) (ap (slice_get store.nodes) back ∙ kept.1) in
    let few = live_few node.kind node kept.0 (caps_at store.shape.axes 1 store.shape.nodes (no_fault store.shape well.accepted) j node at)
    (within_at store.shape.nodes store.nodes well.within_caps j node kept.0 at kept.1) in
    subst (λ (n : ℕ). live_by node.kind n ≤ 65536) (sym pool) few

-- ── What the code reads ──

capped_live : (kind : Kind) → kind_has_cap kind ≡ true → (live : ℕ) → live ≡ live_by kind live
capped_live Dense capped live = absurd (cc)
capped_live Bitmasked capped live = absurd (cc)
capped_live Pointer capped live = refl
capped_live Hash capped live = refl
capped_live Dynamic capped live = refl

pub live_at : (store : StoreWords) → IsWellFormed store → (number : ℕ) (node : NodeShape) → IsNumberedNode store.shape number node → (kind : Kind) → node.kind ≡ kind → kind_has_cap kind ≡ true
    → (live : ℕ) → ((kept : NodeWords) → slice_get store.nodes (number - 1) ≡ Some kept → live ≡ live_count kept.pool) → (live ≡ live_in store number node) × (live ≤ 65536)
live_at store well number node numbered kind is capped live of =
    let kept = words_at store well (number - 1) node numbered.there in
    let pool : live ≡ live_count (pool_of store number) = of kept.0 kept.1 ∙ sym (ap (λ o. live_count (pool_or_none o)) kept.1) in
    let value : live ≡ live_in store number node = pool ∙ capped_live node.kind (ap kind_has_cap is ∙ capped) (live_count (pool_of store number)) in
    let back : 1 + (number - 1) ≡ number = omega (arith, numbered.first) in
    (value, subst (λ n. n ≤ 65536) (sym value) (subst (λ k. live_in store k node ≤ 65536) back (live_within store well (number - 1) node numbered.there)))

-- the node of an index, from 0
node_at : (store : StoreWords) (i : ℕ) (nodes : List NodeShape) (node : NodeShape) → nodes ≡ store.shape.nodes → i < length nodes → node ≡ get_or nodes i node → slice_get store.shape.nodes i ≡ Some node
node_at store i nodes node same below here =
    ap (λ ns. slice_get ns i) (sym same) ∙ slice_get-get_or nodes i node below ∙ ap (λ (n : NodeShape). Some n) (sym here)

pub numbered_at : (store : StoreWords) (i : ℕ) (nodes : List NodeShape) (node : NodeShape) → nodes ≡ store.shape.nodes → i < length nodes → node ≡ get_or nodes i node → IsNumberedNode store.shape (i + 1) node
numbered_at store i nodes node same below here =
    let back : i + 1 - 1 ≡ i = omega arith in
    record { first = omega arith; there = ap (slice_get store.shape.nodes) back ∙ node_at store i nodes node same below here }

pub turn_at : (store : StoreWords) → IsWellFormed store → (i copies before words total : ℕ) (nodes : List NodeShape) (node : NodeShape) → nodes ≡ store.shape.nodes → i < length nodes → node ≡ get_or nodes i node
    → words + counted (live_in store) (length store.shape.fields) copies before (i + 1) (drop i store.shape.nodes) ≡ total → IsTally store.shape.axes (i + 1) (length store.shape.fields) copies before (drop i store.shape.nodes)
    → IsTurn (live_in store) store.shape.axes i (length store.shape.fields) copies before words total store.shape.nodes node
turn_at store well i copies before words total nodes node same below here whole tally =
    let at = node_at store i nodes node same below here in
    let on : 1 + i ≡ i + 1 = omega arith in
    tally_turn (live_in store) store.shape.axes i (length store.shape.fields) copies before words total store.shape.nodes node
    (subst (λ (ns : List NodeShape). i < length ns) same below) (here ∙ ap (λ (ns : List NodeShape). get_or ns i node) same)
    (subst (λ n. live_in store n node ≤ 65536) on (live_within store well i node at)) whole tally
