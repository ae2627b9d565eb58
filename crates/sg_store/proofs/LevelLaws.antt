-- The laws of stores that are opened node by node.
use Rattle.std.proofs.Common.{◌≡◌, ◌≢◌, ℕ, suc, ◌+◌, ◌-◌, ◌<◌, ◌≤◌, ◌++◌, true, List, [], ◌∷◌, drop, refl, length, get_or, sym, ap, ◌∙◌, subst, arith, inl, inr, cond}
use Rattle.std.specs.Prelude.{Some, nat_le}
use Rattle.std.specs.List.{All}
use Rattle.std.proofs.lemmas.Bool.{cases_eq, leb-true, le-leb, eqb-true, false≢true}
use Rattle.std.proofs.lemmas.List.{length-drop}
use Rattle.std.proofs.lemmas.List.Elements.{Contains-get_or}
use Rattle.std.proofs.lemmas.Option.{same_Some, slice_get_within}
use Rattle.sg_coord.specs.Coord.{Inside}
use Rattle.sg_layout.specs.declared.shape.Kind.TheVariants.{Dense, Pointer, Hash, Dynamic}
use Rattle.sg_layout.specs.declared.shape.NodeShape.{NodeShape}
use Rattle.sg_layout.specs.Axes.{count_of, bounds_of_shape}
use Rattle.sg_layout.specs.Closure.{closure}
use Rattle.sg_layout.specs.Live.{kind_or, kind_at, is_live}
use Rattle.sg_flat.specs.declared.state.FlatLayout.{FlatLayout}
use Rattle.sg_layout.specs.RuleLaws.{AcceptedKeepsRules}
use Rattle.sg_layout.specs.Rules.{has_good_order}
use Rattle.sg_dynamic.specs.Chunks.{fit}
use Rattle.sg_pool.specs.Numbers.{live_count}
use Rattle.sg_store.specs.StoreWords.{StoreWords}
use Rattle.sg_store.specs.WellFormed.{IsWellFormed}
use Rattle.sg_store.specs.StandsFor.{StandsFor}
use Rattle.sg_store.specs.Reaching.{KeepsCells, IsOpenThrough}
use Rattle.sg_store.specs.OpeningLaws.{DenseOpens, FullIsFirst, KeysFillFirst, LengthsFillFirst, HashIsFirst, DynamicIsLast, OpenHasRoom, OpenStands}
use Rattle.sg_store.specs.Opening.{filled_count}
use Rattle.sg_store.proofs.SlotPaths.{same_bool}
use Rattle.sg_store.proofs.Reached.{ReachLaws, full_none, open_fits, stands_whole, same_whole}
use Rattle.sg_store.proofs.AtNumber.{at_number, pool_is}
use Rattle.sg_store.proofs.PastCap.{full_first}
use Rattle.sg_store.proofs.KeysFill.{keys_full}
use Rattle.sg_store.proofs.LengthsSettled.{lengths_full}

-- a dense node has no slots of its own to open
pub dense_opens : (store : StoreWords) → DenseOpens store
dense_opens store old all number first dense was_open n slot is =
    elim (cases_eq n number) [
      | inl same ↦ absurd (is.has_activity (ap (kind_at store.shape.nodes) same ∙ dense))
      | inr other ↦
          was_open n slot is
          ∙ ap (λ b. is_live store.shape (cond b all old) n slot)
          (same_bool (nat_le n (number - 1)) (nat_le n number)
          (λ h. let low : n ≤ number - 1 = leb-true n (number - 1) h in le-leb n number (omega (arith, low)))
          (λ h. let low : n ≤ number = leb-true n number h in le-leb n (number - 1) (omega arith)))
    ]

pub full_is_first : (store : StoreWords) → ReachLaws store.shape → FullIsFirst store
full_is_first store laws well old wanted number node here pointer was_open links taken can new past =
    let kind : kind_at store.shape.nodes number ≡ Pointer = ap kind_or here.there ∙ pointer in
    let at = at_number store well number here.first (λ dense. cc (sym kind ∙ dense)) in
    let is = at.2 in
    let same : at.0 ≡ node = same_Some at.0 node (sym is.at ∙ here.there) in
    let own : at.0.kind ≡ Pointer = ap (λ (n : NodeShape). n.kind) same ∙ pointer in
    let more : count_of at.0.cap < live_count at.1.pool + length taken =
    subst (λ (n : NodeShape). count_of n.cap < live_count at.1.pool + length taken) (sym same)
    (subst (λ p. count_of node.cap < live_count p + length taken) (pool_is store number (number - 1) at.0 at.1 is) past) in
    full_first store number (number - 1) at.0 at.1 old wanted links taken laws
    (record { is = is; paths = laws.paths; reached = laws.reached; pointer = own; can = can; new = new; was_open = was_open }) more
    ∙ ap (λ (n : NodeShape). Some (record { node = number; cap = count_of n.cap })) same

pub open_has_room : (store : StoreWords) → ReachLaws store.shape → OpenHasRoom store
open_has_room store laws well old all is_open =
    full_none store.shape all 1 store.shape.nodes
    (λ j node at. open_fits store (length store.shape.nodes) old all laws well is_open j node (slice_get_within store.shape.nodes j node at) at)

pub open_stands : (store now : StoreWords) → ReachLaws store.shape → OpenStands store now
open_stands store now laws well after keeps flat stands wanted inside is_open =
    let same : now ≡ record store { nodes = now.nodes } = same_whole store now keeps in
    let closed : FlatLayout = record flat { active = closure store.shape (flat.active ++ wanted) } in
    let within : All (Inside (bounds_of_shape store.shape)) wanted = λ k d below. inside (get_or wanted k d) (Contains-get_or wanted k d below) in
    subst (λ s. StandsFor s closed) (sym same)
    (stands_whole store now.nodes flat wanted laws well (subst IsWellFormed same after) (subst (λ s. KeepsCells store s) same keeps) within
    (subst (λ s. IsOpenThrough s flat.active (flat.active ++ wanted) (length store.shape.nodes)) same is_open) stands)

pub keys_fill_first : (store : StoreWords) → ReachLaws store.shape → KeysFillFirst store
keys_fill_first store laws well old wanted node here hash was_open keys words table stay new over past =
    let kind : kind_at store.shape.nodes 1 ≡ Hash = ap kind_or here.there ∙ hash in
    let at = at_number store well 1 here.first (λ dense. cc (sym kind ∙ dense)) in
    let same : at.0 ≡ node = same_Some at.0 node (sym at.2.at ∙ here.there) in
    keys_full store 0 at.0 at.1 old wanted keys words
    (record { is = at.2; laws = laws; hash = ap (λ (n : NodeShape). n.kind) same ∙ hash; was_open = was_open; table = table; keys_stay = stay; new = new }) over
    (subst (λ (n : NodeShape). count_of n.cap < filled_count words) (sym same) past)
    ∙ ap (λ (n : NodeShape). Some (record { node = 1; cap = count_of n.cap })) same

pub lengths_fill_first : (store : StoreWords) → ReachLaws store.shape → AcceptedKeepsRules store.shape → LengthsFillFirst store
lengths_fill_first store laws rules well old wanted number node here dynamic was_open lengths can below new full refused =
    let kind : kind_at store.shape.nodes number ≡ Dynamic = ap kind_or here.there ∙ dynamic in
    let at = at_number store well number here.first (λ dense. cc (sym kind ∙ dense)) in
    let same : at.0 ≡ node = same_Some at.0 node (sym at.2.at ∙ here.there) in
    lengths_full store number (number - 1) at.0 at.1 old wanted lengths full laws at.2 rules (ap (λ (n : NodeShape). n.kind) same ∙ dynamic) was_open can below new
    (ap (λ (n : NodeShape). fit (count_of n.chunk) lengths (count_of n.cap)) same ∙ refused)
    ∙ ap (λ (n : NodeShape). Some (record { node = number; cap = count_of n.cap })) same

-- ── Where such nodes stand ──

good_order : (store : StoreWords) → AcceptedKeepsRules store.shape → IsWellFormed store → (number : ℕ) → 1 ≤ number → kind_at store.shape.nodes number ≢ Dense → has_good_order (kind_at store.shape.nodes number) number (drop number store.shape.nodes) ≡ true
good_order store rules well number first sparse =
    let at = at_number store well number first sparse in
    let one : suc (number - 1) ≡ number = omega (arith, first) in
    let kept : has_good_order at.0.kind (suc (number - 1)) (drop (suc (number - 1)) store.shape.nodes) ≡ true = ((rules.0 well.accepted.keeps_rules).0 (number - 1) at.0 at.2.at).order in
    subst (λ k. has_good_order k number (drop number store.shape.nodes) ≡ true) (sym at.3)
    (subst (λ n. has_good_order at.0.kind n (drop n store.shape.nodes) ≡ true) one kept)

pub hash_is_first : (store : StoreWords) → AcceptedKeepsRules store.shape → HashIsFirst store
hash_is_first store rules well number first hash =
    eqb-true number 1 (ap (λ k. has_good_order k number (drop number store.shape.nodes)) (sym hash) ∙ good_order store rules well number first (λ dense. cc (sym hash ∙ dense)))

pub dynamic_is_last : (store : StoreWords) → AcceptedKeepsRules store.shape → DynamicIsLast store
dynamic_is_last store rules well number first dynamic =
    let at = at_number store well number first (λ dense. cc (sym dynamic ∙ dense)) in
    let within : number - 1 < length store.shape.nodes = slice_get_within store.shape.nodes (number - 1) at.0 at.2.at in
    let order = ap (λ k. has_good_order k number (drop number store.shape.nodes)) (sym dynamic) ∙ good_order store rules well number first (λ dense. cc (sym dynamic ∙ dense)) in
    let none : drop number store.shape.nodes ≡ [] = none_after number (drop number store.shape.nodes) order in
    let rest : length (drop number store.shape.nodes) ≡ 0 = ap length none in
    omega (arith, first, within, rest, length-drop number store.shape.nodes)
  where
    none_after : (n : ℕ) (nodes : List NodeShape) → has_good_order Dynamic n nodes ≡ true → nodes ≡ []
    none_after n [] good = refl
    none_after n (node ∷ nodes) good = absurd (false≢true good)
