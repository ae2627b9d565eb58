-- Stores that are made one after the other.
use Rattle.std.proofs.Common.{◌≡◌, ℕ, ◌+◌, ◌<◌, List, [], ◌∷◌, ◌++◌, map, length, take, get_or, refl, sym, ap, ◌∙◌, subst}
use Rattle.std.specs.List.{AllZip}
use Rattle.std.proofs.lemmas.List.{take_more}
use Rattle.indexmap.proofs.SetLemmas.{AllZip-push}
use Rattle.sg_layout.specs.declared.shape.Shape.{Shape}
use Rattle.sg_flat.specs.declared.state.FlatLayout.{FlatLayout}
use Rattle.sg_flat.specs.State.{opening, opening_layout}
use Rattle.sg_store.specs.StoreWords.{StoreWords}
use Rattle.sg_store.specs.StandsFor.{StandsFor}
use Rattle.sg_exec.specs.Standing.{StandForState}

map_push : {X Y : Type 0} (f : X → Y) (xs : List X) (x : X) → map f (xs ++ x ∷ []) ≡ map f xs ++ f x ∷ []
map_push f [] x = refl
map_push {Y = Y} f (y ∷ xs) x = ap (λ (zs : List Y). f y ∷ zs) (map_push f xs x)

pub opened_more : (layouts : List Shape) (stores : List StoreWords) (layout : Shape) (store : StoreWords)
    → StandForState layouts stores (opening layouts) → store.shape ≡ layout → StandsFor store (opening_layout layout)
    → StandForState (layouts ++ layout ∷ []) (stores ++ store ∷ []) (opening (layouts ++ layout ∷ []))
opened_more layouts stores layout store stand shape stands = record {
  shapes_are = map_push (λ (s : StoreWords). s.shape) stores store ∙ ap (λ (s : Shape). map (λ (s : StoreWords). s.shape) stores ++ s ∷ []) shape
      ∙ ap (λ (ls : List Shape). ls ++ layout ∷ []) stand.shapes_are;
  stand = subst (λ (flats : List FlatLayout). AllZip StandsFor (stores ++ store ∷ []) flats) (sym (map_push opening_layout layouts layout))
      (AllZip-push StandsFor stores (map opening_layout layouts) store (opening_layout layout) stand.stand stands);
}

-- one more store, of the next layout
pub opened_next : (layouts : List Shape) (i : ℕ) (layout : Shape) (stores more : List StoreWords) (store : StoreWords)
    → i < length layouts → layout ≡ get_or layouts i layout → more ≡ stores ++ store ∷ [] → StandForState (take i layouts) stores (opening (take i layouts))
    → store.shape ≡ layout → StandsFor store (opening_layout layout) → StandForState (take (i + 1) layouts) more (opening (take (i + 1) layouts))
opened_next layouts i layout stores more store below is made stand shape stands =
    let front : take (i + 1) layouts ≡ take i layouts ++ layout ∷ [] = take_more layouts i layout below ∙ ap (λ (x : Shape). take i layouts ++ x ∷ []) (sym is) in
    subst (λ (ls : List Shape). StandForState ls more (opening ls)) (sym front)
    (subst (λ (ss : List StoreWords). StandForState (take i layouts ++ layout ∷ []) ss (opening (take i layouts ++ layout ∷ []))) (sym made)
    (opened_more (take i layouts) stores layout store stand shape stands))
