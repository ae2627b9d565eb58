-- What stands at a place of a list.
use Rattle.std.proofs.Common.{◌≡◌, ℕ, zero, suc, ◌<◌, Bool, true, false, List, [], ◌∷◌, map, length, get_or, Option, Some, None, refl, ap, ◌∙◌, subst}
use Rattle.std.specs.Prelude.{◌&&◌, slice_get, option_map, option_and_then}
use Rattle.std.proofs.lemmas.Option.{slice_get_read}
use Rattle.std.specs.List.{AllByRecursion, list_all, remove}

-- what holds of each item holds of that at a place
pub all_at : {X : Type 0} (P : X → Type 0) (xs : List X) (k : ℕ) (x : X) → slice_get xs k ≡ Some x → AllByRecursion P xs → P x
all_at P [] k x e h = absurd (cc)
all_at P (y ∷ xs) zero x e h = let same : y ≡ x = cc in subst P same h.0
all_at P (y ∷ xs) (suc k) x e h = all_at P xs k x e h.1

first_holds : (a b : Bool) → (a && b) ≡ true → a ≡ true
first_holds true b e = refl
first_holds false b e = absurd (cc)

second_holds : (a b : Bool) → (a && b) ≡ true → b ≡ true
second_holds true b e = e
second_holds false b e = absurd (cc)

-- a test of each item is one of that at a place
pub true_at : {X : Type 0} (p : X → Bool) (xs : List X) (k : ℕ) (x : X) → slice_get xs k ≡ Some x → list_all p xs ≡ true → p x ≡ true
true_at p [] k x e h = absurd (cc)
true_at p (y ∷ xs) zero x e h = let same : y ≡ x = cc in subst (λ z. p z ≡ true) same (first_holds (p y) (list_all p xs) h)
true_at p (y ∷ xs) (suc k) x e h = true_at p xs k x e (second_holds (p y) (list_all p xs) h)

-- what an option of a function has comes from what the option has
pub option_some : {X Y : Type 0} (f : X → Y) (o : Option X) (y : Y) → option_map f o ≡ Some y → (x : X) × (o ≡ Some x)
option_some f None y e = absurd (cc)
option_some f (Some x) y e = (x, refl)

-- what was read at a place is what stands there
pub at_place : {X : Type 0} (xs ys : List X) (k : ℕ) (x : X) → ys ≡ xs → k < length xs → x ≡ get_or ys k x → slice_get xs k ≡ Some x
at_place xs ys k x same below is = slice_get_read xs (length xs) k x refl below (is ∙ ap (λ zs. get_or zs k x) same)

-- if a function of an option gives something, the option has something
pub then_some : {X Y : Type 0} (f : X → Option Y) (o : Option X) (y : Y) → option_and_then f o ≡ Some y → (x : X) × (o ≡ Some x)
then_some f None y e = absurd (cc)
then_some f (Some x) y e = (x, refl)

pub count_map : {X Y : Type 0} (f : X → Y) (xs : List X) → length (map f xs) ≡ length xs
count_map f [] = refl
count_map f (x ∷ xs) = ap suc (count_map f xs)

-- what is taken from the front is the first item
pub taken_first : {X : Type 0} (xs rest : List X) (x : X) → slice_get xs 0 ≡ Some x → rest ≡ remove xs 0 → xs ≡ x ∷ rest
taken_first [] rest x e r = absurd (cc)
taken_first (y ∷ xs) rest x e r = cc
