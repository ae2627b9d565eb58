-- Items that aren't there, and lists from their ends.
use Rattle.std.proofs.Common.{◌≡◌, ℕ, zero, suc, ◌+◌, ◌-◌, ◌<◌, ◌≤◌, List, [], ◌∷◌, ◌++◌, length, take, drop, map, get_or, None, refl, sym, ap, ◌∙◌, arith}
use Rattle.std.proofs.lemmas.List.{take_all}
use Rattle.std.specs.Prelude.{slice_get}
use Rattle.sg_ir.specs.Blocks.{Block, Link, chained}

pub get-none : {A : Type 0} (xs : List A) (i : ℕ) (other : A) → None ≡ slice_get xs i → other ≡ get_or xs i other
get-none [] i other none = refl
get-none (x ∷ xs) zero other none = cc
get-none (x ∷ xs) (suc i) other none = get-none xs i other none

pub get-none-of : {A B : Type 0} (f : A → B) (xs : List A) (i : ℕ) (other : B) → None ≡ slice_get xs i → other ≡ get_or (map f xs) i other
get-none-of f [] i other none = refl
get-none-of f (x ∷ xs) zero other none = cc
get-none-of f (x ∷ xs) (suc i) other none = get-none-of f xs i other none

pub append-none : {A : Type 0} (xs : List A) → xs ≡ xs ++ []
append-none [] = refl
append-none (x ∷ xs) = ap (λ ys. x ∷ ys) (append-none xs)

pub chained-append : (before behind : List Link) (rest : Block) → chained (before ++ behind) rest ≡ chained before (chained behind rest)
chained-append [] behind rest = refl
chained-append (first ∷ before) behind rest = ap first (chained-append before behind rest)

pub map-append : {A B : Type 0} (f : A → B) (xs ys : List A) → map f (xs ++ ys) ≡ map f xs ++ map f ys
map-append f [] ys = refl
map-append f (x ∷ xs) ys = ap (λ zs. f x ∷ zs) (map-append f xs ys)

pub take-front : {A : Type 0} (xs ys : List A) → take (length xs) (xs ++ ys) ≡ xs
take-front [] [] = refl
take-front [] (y ∷ ys) = refl
take-front (x ∷ xs) ys = ap (λ zs. x ∷ zs) (take-front xs ys)

-- the first item and the others
pub rest-whole : {A : Type 0} (xs : List A) → take (length xs - 1) (drop 1 xs) ≡ drop 1 xs
rest-whole [] = refl
rest-whole (x ∷ xs) = take_all (length (x ∷ xs) - 1) xs (omega arith)

pub rest-shorter : {A : Type 0} (xs : List A) → 1 ≤ length xs → length (drop 1 xs) + 1 ≡ length xs
rest-shorter [] some = absurd (omega arith)
rest-shorter (x ∷ xs) some = omega arith

pub empty-from : {A : Type 0} (xs : List A) → length xs < 1 → xs ≡ []
empty-from [] none = refl
empty-from (x ∷ xs) none = absurd (omega arith)

pub first-rest : (xs : List ℕ) → 1 ≤ length xs → xs ≡ get_or xs 0 0 ∷ take (length xs - 1) (drop 1 xs)
first-rest [] some = absurd (omega arith)
first-rest (x ∷ xs) some = ap (λ ys. x ∷ ys) (sym (rest-whole (x ∷ xs)))

pub split-first : {A : Type 0} (xs : List A) (x : A) → 1 ≤ length xs → x ≡ get_or xs 0 x → xs ≡ x ∷ take (length xs - 1) (drop 1 xs)
split-first [] x some here = absurd (omega arith)
split-first (y ∷ ys) x some here = ap (λ z. z ∷ ys) (sym here) ∙ ap (λ zs. x ∷ zs) (sym (rest-whole (y ∷ ys)))

pub drop-none : {A : Type 0} (xs : List A) (i : ℕ) → length xs ≤ i → drop i xs ≡ []
drop-none [] zero below = refl
drop-none [] (suc i) below = refl
drop-none (x ∷ xs) zero below = absurd (omega arith)
drop-none (x ∷ xs) (suc i) below = drop-none xs i (omega arith)
