-- A store that stands for a flat layout has room for what is active.
use Rattle.std.proofs.Common.{◌≡◌, ℕ, suc, ◌+◌, ◌-◌, ◌*◌, ◌≤◌, Bool, true, false, ltb, List, [], ◌∷◌, ◌++◌, length, Some, None, refl, sym, ap, ◌∙◌, subst, arith, append-nil}
use Rattle.std.specs.Prelude.{slice_get}
use Rattle.std.specs.List.{AllZip}
use Rattle.std.proofs.lemmas.Bool.{cond-false}
use Rattle.std.proofs.lemmas.Bool.Decides.{nat_tests}
use Rattle.sg_coord.specs.declared.coord.Coord.{Coord}
use Rattle.sg_layout.specs.declared.shape.Shape.{Shape}
use Rattle.sg_layout.specs.declared.shape.Kind.{Kind}
use Rattle.sg_layout.specs.declared.shape.Kind.TheVariants.{Dense, Bitmasked, Pointer, Hash, Dynamic}
use Rattle.sg_layout.specs.declared.shape.NodeShape.{NodeShape}
use Rattle.sg_layout.specs.Axes.{count_of, size_of}
use Rattle.sg_layout.specs.Closure.{closure}
use Rattle.sg_layout.specs.Need.{need_by, need_of, first_full_from, first_full}
use Rattle.sg_flat.specs.declared.state.FlatLayout.{FlatLayout}
use Rattle.sg_pool.specs.Numbers.{live_count}
use Rattle.sg_store.specs.declared.node.NodeWords.{NodeWords}
use Rattle.sg_store.specs.StoreWords.{StoreWords}
use Rattle.sg_store.specs.StoreLaws.{LiveIsNeed}
use Rattle.sg_store.specs.StandsFor.{StandsFor}
use Rattle.sg_store.specs.WellFormed.{kind_has_cap, IsWithinCap, AreNodes, IsWellFormed, is_root, places_below, live_below, live_slot}
use Rattle.sg_exec.specs.steps.Wants.{reached_layout}

at_most : (need cap : ℕ) → need ≤ cap → ltb cap need ≡ false
at_most need cap low = grind (arith, nat_tests)

no_full : (shape : Shape) (active : List Coord) (number : ℕ) (nodes : List NodeShape) (words : List NodeWords) (places : ℕ) (live : ℕ → Bool) → AreNodes nodes words places live
    → AllZip (λ node kept. IsWithinCap node.kind node kept) nodes words
    → ((j : ℕ) (node : NodeShape) (kept : NodeWords) → slice_get nodes j ≡ Some node → slice_get words j ≡ Some kept → kind_has_cap node.kind ≡ true → live_count kept.pool ≡ need_of shape active (number + j) node)
    → first_full_from shape active number nodes ≡ None
no_full shape active number [] words places live are within each = refl
no_full shape active number (node ∷ nodes) [] places live are within each = absurd are
no_full shape active number (node ∷ nodes) (kept ∷ words) places live are within each =
    cond-false (ltb (count_of node.cap) (need_of shape active number node)) (Some (record { node = number; cap = count_of node.cap })) (first_full_from shape active (suc number) nodes) (by_kind node.kind refl)
    ∙ no_full shape active (suc number) nodes words (places_below node.kind node (places * size_of node.sizes)) (live_below node.kind kept (live_slot node live)) are.2 within.1
    (λ j n k is is_kept linked. let next : number + suc j ≡ suc number + j = omega arith in
    each (suc j) n k is is_kept linked ∙ ap (λ (m : ℕ). need_of shape active m n) next)
  where
    none_needed : (kind : Kind) → node.kind ≡ kind → need_by kind shape active number (count_of node.chunk) ≡ 0 → ltb (count_of node.cap) (need_of shape active number node) ≡ false
    none_needed kind e none =
        let need : need_of shape active number node ≡ 0 = ap (λ (k : Kind). need_by k shape active number (count_of node.chunk)) e ∙ none in
        at_most (need_of shape active number node) (count_of node.cap) (omega arith)

    capped_needed : kind_has_cap node.kind ≡ true → live_count kept.pool ≤ count_of node.cap → ltb (count_of node.cap) (need_of shape active number node) ≡ false
    capped_needed linked low =
        let here : number + 0 ≡ number = omega arith in
        let is_need : live_count kept.pool ≡ need_of shape active number node = each 0 node kept refl refl linked ∙ ap (λ (m : ℕ). need_of shape active m node) here in
        at_most (need_of shape active number node) (count_of node.cap) (omega arith)

    by_kind : (kind : Kind) → node.kind ≡ kind → ltb (count_of node.cap) (need_of shape active number node) ≡ false
    by_kind Dense e = none_needed Dense e refl
    by_kind Bitmasked e = none_needed Bitmasked e refl
    by_kind Pointer e = capped_needed (ap kind_has_cap e) (subst (λ (k : Kind). IsWithinCap k node kept) e within.0)
    by_kind Hash e = capped_needed (ap kind_has_cap e) (subst (λ (k : Kind). IsWithinCap k node kept) e within.0)
    by_kind Dynamic e = capped_needed (ap kind_has_cap e) (subst (λ (k : Kind). IsWithinCap k node kept) e within.0)

pub nothing_wanted : (store : StoreWords) (flat : FlatLayout) → LiveIsNeed store → IsWellFormed store → StandsFor store flat
    → (first_full store.shape (flat.active ++ []) ≡ None) × StandsFor store (reached_layout store.shape flat [])
nothing_wanted store flat law well stands = (
  ap (first_full store.shape) (append-nil flat.active)
      ∙ no_full store.shape flat.active 1 store.shape.nodes store.nodes 1 is_root well.nodes_fit well.within_caps
      (λ j node kept is is_kept linked.
      let less : (1 + j) - 1 ≡ j = omega arith in
      law well flat stands (1 + j) node (record { first = omega arith; there = ap (slice_get store.shape.nodes) less ∙ is }) linked kept (ap (slice_get store.nodes) less ∙ is_kept)),
  subst (λ (l : FlatLayout). StandsFor store l) (same_made flat (closure store.shape (flat.active ++ [])) (stands.is_flat.closed ∙ ap (closure store.shape) (sym (append-nil flat.active)))) stands,
)
  where
    same_made : (given : FlatLayout) (active : List Coord) → given.active ≡ active → given ≡ record { active = active; fields = given.fields }
    same_made given active e = rw (sym e) refl

-- the same where the list of wanted coordinates is empty
pub empty_wanted : (store : StoreWords) (flat : FlatLayout) (wanted : List Coord) → LiveIsNeed store → IsWellFormed store → length wanted ≡ 0 → StandsFor store flat
    → (first_full store.shape (flat.active ++ wanted) ≡ None) × StandsFor store (reached_layout store.shape flat wanted)
empty_wanted store flat wanted law well none stands =
    subst (λ (ws : List Coord). (first_full store.shape (flat.active ++ ws) ≡ None) × StandsFor store (reached_layout store.shape flat ws)) (sym (from_length wanted none)) (nothing_wanted store flat law well stands)
  where
    from_length : (xs : List Coord) → length xs ≡ 0 → xs ≡ []
    from_length [] same = refl
    from_length (x ∷ xs) same = absurd (omega arith)
