-- Lists of what is there, made from the front.
use Rattle.std.proofs.Common.{◌≡◌, ℕ, ◌+◌, ◌<◌, ◌≤◌, ◌++◌, List, [], ◌∷◌, map, length, drop, get_or, Option, Some, None, option_map, refl, ap, sym, ◌∙◌, append_assoc, append-nil}
use Rattle.std.proofs.lemmas.List.{at_drop_more, at_drop_all}
use Rattle.std.specs.Option.{option_and_then}
use Rattle.sg_types.specs.Expressions.{all_some}

-- some are there already, before others
abbrev pub with_front : {A : Type 0} → List A → Option (List A) → Option (List A)
with_front done more = option_map (λ rest. done ++ rest) more

pub with_front-none : {A : Type 0} (more : Option (List A)) → with_front [] more ≡ more
with_front-none None = refl
with_front-none (Some rest) = refl

with_front-step : {A : Type 0} (done : List A) (x : A) (more : Option (List A))
    → with_front done (option_map (λ rest. x ∷ rest) more) ≡ with_front (done ++ x ∷ []) more
with_front-step done x None = refl
with_front-step done x (Some rest) = ap Some (sym (append_assoc done (x ∷ []) rest))

module _ {X A : Type 0} (f : X → Option A) (xs : List X) (i : ℕ) (x : X) (within : i < length xs) (is : x ≡ get_or xs i x) where
  step : {r : Option A} → f x ≡ r → all_some (map f (drop i xs)) ≡ option_and_then (λ a. option_map (λ more. a ∷ more) (all_some (map f (drop (i + 1) xs)))) r
  step {r} e =
      at_drop_more (λ rest. all_some (map f rest)) xs i x within
      ∙ ap (λ first. option_and_then (λ a. option_map (λ more. a ∷ more) (all_some (map f (drop (i + 1) xs)))) first) (ap f (sym is) ∙ e)

  -- one more is there
  pub all_some-more : (done : List A) (a : A) → f x ≡ Some a → with_front (done ++ a ∷ []) (all_some (map f (drop (i + 1) xs))) ≡ with_front done (all_some (map f (drop i xs)))
  all_some-more done a e = sym (with_front-step done a (all_some (map f (drop (i + 1) xs)))) ∙ ap (with_front done) (sym (step e))

  -- one is not there
  pub all_some-none : (done : List A) → f x ≡ None → with_front done (all_some (map f (drop i xs))) ≡ None
  all_some-none done e = ap (with_front done) (step e)

pub all_some-end : {X A : Type 0} (f : X → Option A) (xs : List X) (i : ℕ) (done : List A) → length xs ≤ i → with_front done (all_some (map f (drop i xs))) ≡ Some done
all_some-end f xs i done h = ap (with_front done) (at_drop_all (λ rest. all_some (map f rest)) xs i h) ∙ ap Some (append-nil done)
