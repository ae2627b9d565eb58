-- Nothing stands in stores as they are opened.
use Rattle.std.proofs.Common.{◌≡◌, inl, inr, ℕ, zero, suc, ◌-◌, ◌≤◌, List, [], ◌∷◌, map, Some, refl, sym, ap, ◌∙◌, subst, append-nil, arith}
use Rattle.std.specs.Prelude.{All, slice_get, slice_index_or}
use Rattle.std.specs.List.{AllZip}
use Rattle.std.proofs.lemmas.List.{length-map}
use Rattle.std.proofs.lemmas.List.Elements.{All-head, All-tail}
use Rattle.sg_words.proofs.Uses.{contains_none, contains_cases}
use Rattle.sg_coord.specs.declared.coord.Coord.{Coord}
use Rattle.sg_layout.specs.declared.shape.Kind.{Kind}
use Rattle.sg_layout.specs.declared.shape.Kind.TheVariants.{Dense, Bitmasked, Pointer, Hash, Dynamic}
use Rattle.sg_layout.specs.declared.shape.NodeShape.{NodeShape}
use Rattle.sg_layout.specs.declared.shape.Shape.{Shape}
use Rattle.sg_layout.specs.Axes.{count_of}
use Rattle.sg_layout.specs.Closure.{closure}
use Rattle.sg_layout.specs.Need.{need_by, need_of}
use Rattle.sg_layout.specs.NeedLaws.{NeedAbsorbs}
use Rattle.sg_flat.specs.State.{opening_layout}
use Rattle.sg_pool.specs.Numbers.{live_count}
use Rattle.sg_store.specs.declared.links.LinkAt.{LinkAt}
use Rattle.sg_store.specs.StoreWords.{StoreWords}
use Rattle.sg_store.specs.WellFormed.{IsWellFormed}
use Rattle.sg_store.specs.StandsFor.{StandsFor}
use Rattle.sg_store.specs.StoreLaws.{LiveIsNeed}
use Rattle.sg_store.specs.Links.{IsLink, AreLinks}
use Rattle.sg_store.specs.LinkLaws.{LinksAreSound}
use Rattle.sg_store.specs.Standing.{shapes_of}
use Rattle.sg_journal.specs.Placing.{ArePlaced, nothing_placed}
use Rattle.sg_journal.specs.Needs.{OpeningIsPlaced}
use Rattle.sg_journal.proofs.StoresPlaced.{capped_of, few_live, live_of, from_zero}

-- ---- at the start nothing is needed

no_need_by : (kind : Kind) (shape : Shape) (number chunk : ℕ) → need_by kind shape [] number chunk ≡ 0
no_need_by Dense shape number chunk = refl
no_need_by Bitmasked shape number chunk = refl
no_need_by Pointer shape number chunk = refl
no_need_by Hash shape number chunk = refl
no_need_by Dynamic shape number chunk = refl

no_need : ((shape : Shape) → NeedAbsorbs shape) → (shape : Shape) (index : ℕ) (node : NodeShape) → slice_get shape.nodes index ≡ Some node → need_of shape (closure shape []) (suc index) node ≡ 0
no_need absorbs shape index node there =
    let before : suc index - 1 ≡ index = omega arith in
    ap (λ (active : List Coord). need_of shape active (suc index) node) (sym (append-nil (closure shape [])))
    ∙ absorbs shape [] [] (λ at has. absurd (contains_none at has)) (suc index) node (record { first = omega arith; there = ap (slice_get shape.nodes) before ∙ there })
    ∙ no_need_by node.kind shape (suc index) (count_of node.chunk)

-- ---- so no link is there

none_at : (nodes : List NodeShape) (index : ℕ) → slice_index_or (map (λ (node : NodeShape). let none : List LinkAt = [] in none) nodes) index [] ≡ []
none_at [] index = refl
none_at (node ∷ nodes) zero = refl
none_at (node ∷ nodes) (suc index) = none_at nodes index

module _ (laws : (store : StoreWords) → LinksAreSound store) (needs : (store : StoreWords) → LiveIsNeed store) (absorbs : (shape : Shape) → NeedAbsorbs shape) where
  no_link : (store : StoreWords) (index : ℕ) (link : LinkAt) → IsWellFormed store → StandsFor store (opening_layout store.shape) → IsLink store index link → ⊥
  no_link store index link well stand is =
      let capped = capped_of is.node.kind is.node is.kept is.slot link.number is.holds in
      let sound = laws store well index is.node is.node_there capped in
      let before : suc index - 1 ≡ index = omega arith in
      let live = live_of store index is.kept is.kept_there (link ∷ []) (λ y has. elim (contains_cases y link [] has) [
        | inl same ↦ (sound.live y.number).1 (link, is, ap (λ (l : LinkAt). l.number) same)
        | inr none ↦ absurd (contains_none y none)
      ]) in
      let some : 1 ≤ live_count is.kept.pool = few_live is.kept.pool.live 0 (link ∷ []) (λ i j d before below. absurd (omega (arith, before, below))) (from_zero (link ∷ [])) live in
      let need : live_count is.kept.pool ≡ need_of store.shape (closure store.shape []) (suc index) is.node =
      needs store well (opening_layout store.shape) stand (suc index) is.node (record { first = omega arith; there = ap (slice_get store.shape.nodes) before ∙ is.node_there }) capped is.kept
      (ap (slice_get store.nodes) before ∙ is.kept_there) in
      absurd (omega (arith, some, need, no_need absorbs store.shape index is.node is.node_there))

  no_links : (store : StoreWords) (index : ℕ) → IsWellFormed store → StandsFor store (opening_layout store.shape) → AreLinks store index []
  no_links store index well stand = record {
    members = λ link. ((λ has. absurd (contains_none link has)), (λ is. absurd (no_link store index link well stand is)));
    rising = λ i j d before below. absurd (omega (arith, below));
  }

  all_placed : (stores : List StoreWords) → All IsWellFormed stores → AllZip StandsFor stores (map opening_layout (shapes_of stores)) → ArePlaced stores (nothing_placed (shapes_of stores))
  all_placed [] wells stand = tt
  all_placed (store ∷ stores) wells stand = (
    record {
      as_many = length-map store.shape.nodes (λ (node : NodeShape). let none : List LinkAt = [] in none);
      links = λ index. subst (AreLinks store index) (sym (none_at store.shape.nodes index)) (no_links store index (All-head IsWellFormed store stores wells) stand.0);
    },
    all_placed stores (All-tail IsWellFormed store stores wells) stand.1,
  )

  pub opening_placed : OpeningIsPlaced
  opening_placed shapes stores wells stand =
      subst (λ (ss : List Shape). ArePlaced stores (nothing_placed ss)) stand.shapes_are
      (all_placed stores wells (subst (λ (ss : List Shape). AllZip StandsFor stores (map opening_layout ss)) (sym stand.shapes_are) stand.stand))
