-- Links of stores that stay: where nothing but fields changes, and where copies with more in them take the places of stores.
use Rattle.std.proofs.Common.{◌≡◌, ℕ, suc, ◌+◌, ◌<◌, inl, inr, List, [], ◌∷◌, ◌++◌, length, Option, Some, refl, sym, ap, ◌∙◌, subst, arith}
use Rattle.std.specs.Prelude.{slice_get, unwrap_or}
use Rattle.std.specs.List.{AllZip}
use Rattle.std.proofs.lemmas.Bool.{cases_lt}
use Rattle.std.proofs.lemmas.Option.{same_Some, slice_get_within}
use Rattle.std.proofs.lemmas.List.{length-append}
use Rattle.sg_store.specs.StoreWords.{StoreWords}
use Rattle.sg_store.specs.Links.{GrowsLinks}
use Rattle.sg_exec.specs.steps.Landing.{current, HasTree}
use Rattle.sg_exec.specs.steps.Made.{HaveTrees}
use Rattle.sg_exec.proofs.Reaching.{before_push, at_push}

-- ---- if nothing but fields changes

links_with : (store : StoreWords) (fields : List (List ℕ)) → GrowsLinks store (record store { fields = fields })
links_with store fields index link is = record {
  node = is.node;
  kept = is.kept;
  node_there = is.node_there;
  kept_there = is.kept_there;
  slot = is.slot;
  holds = is.holds;
  is = is.is;
}

pub tree_links : (store copy : StoreWords) → HasTree store copy → GrowsLinks store copy
tree_links store copy tree = subst (λ (s : StoreWords). GrowsLinks store s) (sym tree) (links_with store copy.fields)

pub links_over : (olds nows : List StoreWords) → HaveTrees olds nows → AllZip GrowsLinks olds nows
links_over [] [] trees = tt
links_over [] (now ∷ nows) trees = absurd trees
links_over (old ∷ olds) [] trees = absurd trees
links_over (old ∷ olds) (now ∷ nows) trees = (tree_links old now trees.0, links_over olds nows trees.1)

-- ---- from stores to stores

pub links_itself : (stores : List StoreWords) → AllZip GrowsLinks stores stores
links_itself [] = tt
links_itself (store ∷ stores) = (λ index link is. is, links_itself stores)

pub links_then : (olds mids news : List StoreWords) → AllZip GrowsLinks olds mids → AllZip GrowsLinks mids news → AllZip GrowsLinks olds news
links_then [] [] [] first second = tt
links_then [] [] (new ∷ news) first second = absurd second
links_then [] (mid ∷ mids) news first second = absurd first
links_then (old ∷ olds) [] news first second = absurd first
links_then (old ∷ olds) (mid ∷ mids) [] first second = absurd second
links_then (old ∷ olds) (mid ∷ mids) (new ∷ news) first second = (λ index link is. second.0 index link (first.0 index link is), links_then olds mids news first.1 second.1)

-- ---- copies in the places of stores

pub links_current : (copies : List (Option StoreWords)) (stores : List StoreWords) → length copies ≡ length stores
    → ((j : ℕ) (store : StoreWords) (copy : Option StoreWords) → slice_get stores j ≡ Some store → slice_get copies j ≡ Some copy → GrowsLinks store (unwrap_or copy store))
    → AllZip GrowsLinks stores (current copies stores)
links_current [] stores same each = links_itself stores
links_current (copy ∷ copies) [] same each = tt
links_current (copy ∷ copies) (head ∷ stores) same each =
    (each 0 head copy refl refl, links_current copies stores (omega (arith, same)) (λ j s c is is_c. each (suc j) s c is is_c))

-- one copy more
pub links_more : (stores : List StoreWords) (copies : List (Option StoreWords)) (i : ℕ) (store : StoreWords) (copy : Option StoreWords)
    → ((j : ℕ) (s : StoreWords) (c : Option StoreWords) → slice_get stores j ≡ Some s → slice_get copies j ≡ Some c → GrowsLinks s (unwrap_or c s))
    → length copies ≡ i → slice_get stores i ≡ Some store → GrowsLinks store (unwrap_or copy store)
    → (j : ℕ) (s : StoreWords) (c : Option StoreWords) → slice_get stores j ≡ Some s → slice_get (copies ++ copy ∷ []) j ≡ Some c → GrowsLinks s (unwrap_or c s)
links_more stores copies i store copy all count is here j s c is_s is_c = elim (cases_lt j i) [
  | inl low ↦ all j s c is_s (sym (before_push copies copy j (omega (arith, low, count))) ∙ is_c)
  | inr high ↦ (
      let long : j < length (copies ++ copy ∷ []) = slice_get_within (copies ++ copy ∷ []) j c is_c in
      let same : j ≡ i = omega (arith, length-append copies (copy ∷ [])) in
      let same_store : store ≡ s = same_Some _ _ (sym is ∙ ap (slice_get stores) (sym same) ∙ is_s) in
      let same_copy : copy ≡ c = same_Some _ _ (sym (at_push copies copy) ∙ ap (slice_get (copies ++ copy ∷ [])) (count ∙ sym same) ∙ is_c) in
      subst (λ (x : Option StoreWords). GrowsLinks s (unwrap_or x s)) same_copy (subst (λ (x : StoreWords). GrowsLinks x (unwrap_or copy x)) same_store here)
      )
]
