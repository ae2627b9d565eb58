-- Lists of lists end to end: what they contain, that no two of their elements are the same; and lists that match element by element.
use Rattle.std.proofs.Common.{◌≡◌, ◌≢◌, inl, inr, ℕ, zero, suc, ◌<◌, Bool, true, false, cond, List, [], ◌∷◌, ◌++◌, length, map, get_or, refl, sym, ap, ◌∙◌, subst, arith}
use Rattle.std.specs.List.{Contains, All, AllPairs, AllZip, flat_map, filter}
use Rattle.std.proofs.lemmas.List.{length-map, get_or-map}
use Rattle.std.proofs.lemmas.List.Elements.{All-append, All-get_or, All-contains_itself, Contains-append_left, Contains-append_right, Contains-append_cases}
use Rattle.std.proofs.lemmas.List.Kept.{AllPairs-cons}
use Rattle.sg_words.proofs.Uses.{contains_none, contains_head, contains_rest, contains_cases}

-- ---- what lists end to end contain
pub from_flat_map : {X Y : Type 0} (f : X → List Y) (xs : List X) (y : Y) → Contains (flat_map f xs) y → (x : X) × Contains xs x × Contains (f x) y
from_flat_map f [] y has = absurd (contains_none y has)
from_flat_map f (x ∷ xs) y has = elim (Contains-append_cases (f x) (flat_map f xs) y has) [
  | inl here ↦ (x, contains_head x x xs refl, here)
  | inr later ↦ (let found = from_flat_map f xs y later in (found.0, contains_rest found.0 x xs found.1, found.2))
]

pub into_flat_map : {X Y : Type 0} (f : X → List Y) (xs : List X) (x : X) (y : Y) → Contains xs x → Contains (f x) y → Contains (flat_map f xs) y
into_flat_map f [] x y has here = absurd (contains_none x has)
into_flat_map {X} {Y} f (z ∷ xs) x y has here = elim (contains_cases x z xs has) [
  | inl same ↦ Contains-append_left (f z) (flat_map f xs) y (let P : X → Type 0 = λ w. Contains (f w) y in subst P (sym same) here)
  | inr later ↦ Contains-append_right (f z) (flat_map f xs) y (into_flat_map f xs x y later here)
]

-- ---- no two elements are the same
abbrev pub AreApart : {X : Type 0} → List X → Type 0
AreApart xs = AllPairs (λ x y. x ≢ y) xs

pub apart_none : {X : Type 0} → AreApart {X = X} []
apart_none i j d less below = absurd (omega arith)

pub apart_head : {X : Type 0} (x : X) (xs : List X) → AreApart (x ∷ xs) → All (λ y. x ≢ y) xs
apart_head x xs apart k d below = apart 0 (suc k) d (omega arith) (omega arith)

pub apart_tail : {X : Type 0} (x : X) (xs : List X) → AreApart (x ∷ xs) → AreApart xs
apart_tail x xs apart i j d less below = apart (suc i) (suc j) d (omega arith) (omega arith)

pub apart_append : {X : Type 0} (xs ys : List X) → AreApart xs → AreApart ys → ((x y : X) → Contains xs x → Contains ys y → x ≢ y) → AreApart (xs ++ ys)
apart_append [] ys front back both = back
apart_append {X} (x ∷ xs) ys front back both =
    AllPairs-cons (λ (a b : X). a ≢ b) x (xs ++ ys)
    (All-append (λ (y : X). x ≢ y) xs ys (apart_head x xs front) (λ k d below. both x (get_or ys k d) (contains_head x x xs refl) (All-get_or (Contains ys) ys k d below (All-contains_itself ys))))
    (apart_append xs ys (apart_tail x xs front) back (λ a b has other. both a b (contains_rest a x xs has) other))

-- lists end to end, where those of different elements share nothing
pub apart_flat_map : {X Y : Type 0} (f : X → List Y) (xs : List X) → AreApart xs → ((x : X) → AreApart (f x)) → ((x y : X) (z : Y) → Contains xs x → Contains xs y → Contains (f x) z → Contains (f y) z → x ≡ y) → AreApart (flat_map f xs)
apart_flat_map f [] apart each share = apart_none
apart_flat_map {X} {Y} f (x ∷ xs) apart each share =
    apart_append (f x) (flat_map f xs) (each x)
    (apart_flat_map f xs (apart_tail x xs apart) each (λ a b z p q. share a b z (contains_rest a x xs p) (contains_rest b x xs q)))
    (λ y z here later same.
    let found = from_flat_map f xs z later in
    let once : x ≡ found.0 = share x found.0 z (contains_head x x xs refl) (contains_rest found.0 x xs found.1) (let P : Y → Type 0 = λ w. Contains (f x) w in subst P same here) found.2 in
    All-contains_at x xs (apart_head x xs apart) found.0 found.1 once)
  where
    All-contains_at : (x : X) (xs : List X) → All (λ (y : X). x ≢ y) xs → (y : X) → Contains xs y → x ≡ y → ⊥
    All-contains_at x xs all y has same = all has.0 y has.1 (same ∙ sym has.2)

pub apart_map : {X Y : Type 0} (f : X → Y) (xs : List X) → ((x y : X) → Contains xs x → Contains xs y → f x ≡ f y → x ≡ y) → AreApart xs → AreApart (map f xs)
apart_map f [] once apart = apart_none
apart_map {X} {Y} f (x ∷ xs) once apart =
    AllPairs-cons (λ (a b : Y). a ≢ b) (f x) (map f xs)
    (λ k d below same.
    let there : k < length xs = omega (arith, length-map xs f) in
    apart_head x xs apart k x there (once x (get_or xs k x) (contains_head x x xs refl) (contains_rest (get_or xs k x) x xs (All-get_or (Contains xs) xs k x there (All-contains_itself xs))) (same ∙ get_or-map f xs k x d there)))
    (apart_map f xs (λ a b p q. once a b (contains_rest a x xs p) (contains_rest b x xs q)) (apart_tail x xs apart))

-- ---- lists that match element by element
pub zip_append : {A B : Type 0} (R : A → B → Type 0) (xs us : List A) (ys vs : List B) → AllZip R xs ys → AllZip R us vs → AllZip R (xs ++ us) (ys ++ vs)
zip_append R [] us [] vs p q = q
zip_append R [] us (y ∷ ys) vs p q = absurd p
zip_append R (x ∷ xs) us [] vs p q = absurd p
zip_append R (x ∷ xs) us (y ∷ ys) vs p q = (p.0, zip_append R xs us ys vs p.1 q)

pub zip_length : {A B : Type 0} (R : A → B → Type 0) (xs : List A) (ys : List B) → AllZip R xs ys → length xs ≡ length ys
zip_length R [] [] p = refl
zip_length R [] (y ∷ ys) p = absurd p
zip_length R (x ∷ xs) [] p = absurd p
zip_length R (x ∷ xs) (y ∷ ys) p = ap suc (zip_length R xs ys p.1)

pub zip_at : {A B : Type 0} (R : A → B → Type 0) (xs : List A) (ys : List B) (i : ℕ) (d : A) (e : B) → AllZip R xs ys → i < length xs → R (get_or xs i d) (get_or ys i e)
zip_at R [] ys i d e p below = absurd (omega arith)
zip_at R (x ∷ xs) [] i d e p below = absurd p
zip_at R (x ∷ xs) (y ∷ ys) zero d e p below = p.0
zip_at R (x ∷ xs) (y ∷ ys) (suc i) d e p below = zip_at R xs ys i d e p.1 (omega arith)

-- ---- a filter of images
pub filter-map : {X Y : Type 0} (f : X → Y) (test : Y → Bool) (xs : List X) → filter test (map f xs) ≡ map f (filter (λ x. test (f x)) xs)
filter-map f test [] = refl
filter-map {X} {Y} f test (x ∷ xs) =
    let rest = filter-map f test xs in
    elim (test (f x)) as (λ (b : Bool). cond b (f x ∷ filter test (map f xs)) (filter test (map f xs)) ≡ map f (cond b (x ∷ filter (λ y. test (f y)) xs) (filter (λ y. test (f y)) xs))) [
      | true ↦ ap (λ (ys : List Y). f x ∷ ys) rest
      | false ↦ rest
    ]
