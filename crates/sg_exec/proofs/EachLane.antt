-- Rows of 32 words, lane by lane, and operators on them.
use Rattle.std.proofs.Common.{◌≡◌, ℕ, zero, suc, ◌+◌, ◌-◌, ◌*◌, ◌%◌, ◌^◌, ◌<◌, ◌≤◌, Bool, true, false, cond, ltb, List, [], ◌∷◌, length, get_or, map, inl, inr, refl, sym, ap, ap₂, ◌∙◌, subst, arith, Fits, w32}
use Rattle.std.specs.Prelude.{not, ◌==◌, nat_lt, replicate, slice_set, int_lt, int_le}
use Rattle.std.proofs.lemmas.Bool.{cases_eq}
use Rattle.std.proofs.lemmas.List.{get_or-set_same, get_or-set_other, length-set}
use Rattle.std.proofs.lemmas.Simd.{length-zip2, get_or-zip2}
use Rattle.std.proofs.lemmas.Bool.Decides.{nat_tests}
use Rattle.std.proofs.lemmas.Int.{ints}
use lib.Lanes.{zip2, sel_l, Each1, Each2}
use Rattle.std.specs.Prelude.{bit_and, bit_or, ◌&&◌, ◌||◌}
use Rattle.std.proofs.lemmas.Nat.{and_mask}
use Rattle.sg_words.specs.declared.operators.Ty.{Ty}
use Rattle.sg_words.specs.declared.operators.Ty.TheVariants as ty
use Rattle.sg_words.specs.declared.operators.BinOp.TheVariants as bin
use Rattle.sg_words.specs.declared.operators.UnOp.TheVariants as un
use Rattle.sg_words.specs.Words.{applied, applied_un, rank_of, flag, number}

-- a function of words may be said otherwise
pub zip_so : (f g : ℕ → ℕ → ℕ) → ((a b : ℕ) → a < 2 ^ 32 → b < 2 ^ 32 → f a b ≡ g a b) → (xs ys : List ℕ) → Each1 (Fits w32) xs → Each1 (Fits w32) ys → zip2 f xs ys ≡ zip2 g xs ys
zip_so f g same [] ys fx fy = refl
zip_so f g same (x ∷ xs) [] fx fy = refl
zip_so f g same (x ∷ xs) (y ∷ ys) fx fy = ap₂ (λ (z : ℕ) (zs : List ℕ). z ∷ zs) (same x y fx.0.fits fy.0.fits) (zip_so f g same xs ys fx.1 fy.1)

pub map_so : (f g : ℕ → ℕ) → ((a : ℕ) → a < 2 ^ 32 → f a ≡ g a) → (xs : List ℕ) → Each1 (Fits w32) xs → map f xs ≡ map g xs
map_so f g same [] fx = refl
map_so f g same (x ∷ xs) fx = ap₂ (λ (z : ℕ) (zs : List ℕ). z ∷ zs) (same x fx.0.fits) (map_so f g same xs fx.1)

-- one of two words by a test of lanes
pub chosen : (t : ℕ → ℕ → Bool) (x y n : ℕ) (xs ys : List ℕ) → length xs ≡ n → length ys ≡ n → sel_l (zip2 t xs ys) (replicate n x) (replicate n y) ≡ zip2 (λ a b. cond (t a b) x y) xs ys
chosen t x y n [] ys long same = refl
chosen t x y n (a ∷ xs) [] long same = refl
chosen t x y zero (a ∷ xs) (b ∷ ys) long same = absurd (omega (arith, long))
chosen t x y (suc n) (a ∷ xs) (b ∷ ys) long same = ap (λ (zs : List ℕ). cond (t a b) x y ∷ zs) (chosen t x y n xs ys (omega (arith, long)) (omega (arith, same)))

-- one of the two lanes
pub picked : (t : ℕ → ℕ → Bool) (xs ys : List ℕ) → length xs ≡ length ys → sel_l (zip2 t xs ys) xs ys ≡ zip2 (λ a b. cond (t a b) a b) xs ys
picked t [] ys long = refl
picked t (a ∷ xs) [] long = refl
picked t (a ∷ xs) (b ∷ ys) long = ap (λ (zs : List ℕ). cond (t a b) a b ∷ zs) (picked t xs ys (omega (arith, long)))

pub picked_back : (t : ℕ → ℕ → Bool) (xs ys : List ℕ) → length xs ≡ length ys → sel_l (zip2 t ys xs) ys xs ≡ zip2 (λ a b. cond (t b a) b a) xs ys
picked_back t [] [] long = refl
picked_back t [] (b ∷ ys) long = absurd (omega (arith, long))
picked_back t (a ∷ xs) [] long = absurd (omega (arith, long))
picked_back t (a ∷ xs) (b ∷ ys) long = ap (λ (zs : List ℕ). cond (t b a) b a ∷ zs) (picked_back t xs ys (omega (arith, long)))

pub picked_other : (t : ℕ → ℕ → Bool) (xs ys : List ℕ) → length xs ≡ length ys → sel_l (zip2 t ys xs) xs ys ≡ zip2 (λ a b. cond (t b a) a b) xs ys
picked_other t [] [] long = refl
picked_other t [] (b ∷ ys) long = absurd (omega (arith, long))
picked_other t (a ∷ xs) [] long = absurd (omega (arith, long))
picked_other t (a ∷ xs) (b ∷ ys) long = ap (λ (zs : List ℕ). cond (t b a) a b ∷ zs) (picked_other t xs ys (omega (arith, long)))

pub zip_maps : {Z : Type 0} (f : ℕ → ℕ → Z) (g : ℕ → ℕ) (xs ys : List ℕ) → zip2 f (map g xs) (map g ys) ≡ zip2 (λ a b. f (g a) (g b)) xs ys
zip_maps f g [] ys = refl
zip_maps f g (x ∷ xs) [] = refl
zip_maps {Z} f g (x ∷ xs) (y ∷ ys) = ap (λ (zs : List Z). f (g x) (g y) ∷ zs) (zip_maps f g xs ys)

-- ranks are in the order of the numbers
pub less_is : (t : Ty) (a b : ℕ) → a < 2 ^ 32 → b < 2 ^ 32 → ltb (rank_of t a) (rank_of t b) ≡ int_lt (number t a) (number t b)
less_is ty.I32 a b p q = grind (arith, ints)
less_is ty.U32 a b p q = refl
less_is ty.Bool a b p q = refl

pub at_most_is : (t : Ty) (a b : ℕ) → a < 2 ^ 32 → b < 2 ^ 32 → not (ltb (rank_of t b) (rank_of t a)) ≡ int_le (number t a) (number t b)
at_most_is ty.I32 a b p q = grind (arith, ints)
at_most_is ty.U32 a b p q = grind (arith, ints)
at_most_is ty.Bool a b p q = grind (arith, ints)

pub min_is : (t : Ty) (a b : ℕ) → a < 2 ^ 32 → b < 2 ^ 32 → cond (ltb (rank_of t b) (rank_of t a)) b a ≡ applied bin.Min t a b
min_is ty.I32 a b p q = grind (arith, ints)
min_is ty.U32 a b p q = grind (arith, ints)
min_is ty.Bool a b p q = grind (arith, ints)

pub max_is : (t : Ty) (a b : ℕ) → a < 2 ^ 32 → b < 2 ^ 32 → cond (ltb (rank_of t b) (rank_of t a)) a b ≡ applied bin.Max t a b
max_is ty.I32 a b p q = grind (arith, ints)
max_is ty.U32 a b p q = grind (arith, ints)
max_is ty.Bool a b p q = grind (arith, ints)

pub masked_below : (xs ys : List ℕ) (n : ℕ) → length ys ≡ n → Each2 (λ (a b : ℕ). b < 32) xs (zip2 bit_and ys (replicate n 31))
masked_below [] ys n long = tt
masked_below (x ∷ xs) [] n long = tt
masked_below (x ∷ xs) (y ∷ ys) zero long = absurd (omega (arith, long))
masked_below (x ∷ xs) (y ∷ ys) (suc n) long = (omega (arith, and_mask y 5), masked_below xs ys n (omega (arith, long)))

pub shifted : (t : Ty) (xs ys : List ℕ) (n : ℕ) → length ys ≡ n → zip2 (λ x y. (x * 2 ^ y) % 2 ^ 32) xs (zip2 bit_and ys (replicate n 31)) ≡ zip2 (applied bin.Shl t) xs ys
shifted t [] ys n long = refl
shifted t (x ∷ xs) [] n long = refl
shifted t (x ∷ xs) (y ∷ ys) zero long = absurd (omega (arith, long))
shifted t (x ∷ xs) (y ∷ ys) (suc n) long = ap₂ (λ (z : ℕ) (zs : List ℕ). z ∷ zs) (ap (λ (k : ℕ). (x * 2 ^ k) % 2 ^ 32) (and_mask y 5)) (shifted t xs ys n (omega (arith, long)))

ne_from : (t : Bool) → cond t 0 1 ≡ flag (not t)
ne_from true = refl
ne_from false = refl

pub ne_is : (t : Ty) (a b : ℕ) → cond (a == b) 0 1 ≡ applied bin.Ne t a b
ne_is t a b = ne_from (a == b)

-- the same with the lanes of the test exchanged
pub chosen_back : (t : ℕ → ℕ → Bool) (x y n : ℕ) (xs ys : List ℕ) → length xs ≡ n → length ys ≡ n → sel_l (zip2 t ys xs) (replicate n x) (replicate n y) ≡ zip2 (λ a b. cond (t b a) x y) xs ys
chosen_back t x y n [] [] long same = refl
chosen_back t x y n [] (b ∷ ys) long same = absurd (omega (arith, long, same))
chosen_back t x y n (a ∷ xs) [] long same = absurd (omega (arith, long, same))
chosen_back t x y zero (a ∷ xs) (b ∷ ys) long same = absurd (omega (arith, long))
chosen_back t x y (suc n) (a ∷ xs) (b ∷ ys) long same = ap (λ (zs : List ℕ). cond (t b a) x y ∷ zs) (chosen_back t x y n xs ys (omega (arith, long)) (omega (arith, same)))

pub gt_is : (t : Ty) (a b : ℕ) → a < 2 ^ 32 → b < 2 ^ 32 → cond (ltb (rank_of t b) (rank_of t a)) 1 0 ≡ applied bin.Gt t a b
gt_is t a b p q = ap flag (less_is t b a q p)

pub le_is : (t : Ty) (a b : ℕ) → a < 2 ^ 32 → b < 2 ^ 32 → cond (ltb (rank_of t b) (rank_of t a)) 0 1 ≡ applied bin.Le t a b
le_is t a b p q = ne_from (ltb (rank_of t b) (rank_of t a)) ∙ ap flag (at_most_is t a b p q)

pub ge_is : (t : Ty) (a b : ℕ) → a < 2 ^ 32 → b < 2 ^ 32 → cond (ltb (rank_of t a) (rank_of t b)) 0 1 ≡ applied bin.Ge t a b
ge_is t a b p q = ne_from (ltb (rank_of t a) (rank_of t b)) ∙ ap flag (at_most_is t b a q p)

pub neg_is : (a : ℕ) → a < 2 ^ 32 → (0 + (2 ^ 32 - a)) % 2 ^ 32 ≡ applied_un un.Neg a
neg_is a p = omega (arith, p)

pub not_is : (a : ℕ) → a < 2 ^ 32 → (4294967295 + (2 ^ 32 - a)) % 2 ^ 32 ≡ applied_un un.Not a
not_is a p = omega (arith, p)

land_from : (p q : Bool) → bit_and (cond p 0 1) (cond q 0 1) ≡ flag (not p && not q)
land_from true true = refl
land_from true false = refl
land_from false true = refl
land_from false false = refl

lor_from : (p q : Bool) → bit_or (cond p 0 1) (cond q 0 1) ≡ flag (not p || not q)
lor_from true true = refl
lor_from true false = refl
lor_from false true = refl
lor_from false false = refl

pub land_is : (t : Ty) (xs ys : List ℕ) → zip2 bit_and (map (λ x. cond (x == 0) 0 1) xs) (map (λ x. cond (x == 0) 0 1) ys) ≡ zip2 (applied bin.LAnd t) xs ys
land_is t [] ys = refl
land_is t (x ∷ xs) [] = refl
land_is t (x ∷ xs) (y ∷ ys) = ap₂ (λ (z : ℕ) (zs : List ℕ). z ∷ zs) (land_from (x == 0) (y == 0)) (land_is t xs ys)

pub lor_is : (t : Ty) (xs ys : List ℕ) → zip2 bit_or (map (λ x. cond (x == 0) 0 1) xs) (map (λ x. cond (x == 0) 0 1) ys) ≡ zip2 (applied bin.LOr t) xs ys
lor_is t [] ys = refl
lor_is t (x ∷ xs) [] = refl
lor_is t (x ∷ xs) (y ∷ ys) = ap₂ (λ (z : ℕ) (zs : List ℕ). z ∷ zs) (lor_from (x == 0) (y == 0)) (lor_is t xs ys)

-- ---- lanes made one after the other

-- of the lanes before a number something holds
pub record AreBefore (Holds : ℕ → ℕ → Type 0) (at : ℕ) (lanes : List ℕ) : Type 0 where
  pub long : length lanes ≡ 32
  pub each : (k : ℕ) → k < at → Holds k (get_or lanes k 0)

pub are_none : (Holds : ℕ → ℕ → Type 0) (lanes : List ℕ) → length lanes ≡ 32 → AreBefore Holds 0 lanes
are_none Holds lanes long = record { long = long; each = λ k below. absurd (omega (arith, below)) }

pub are_more : (Holds : ℕ → ℕ → Type 0) (at : ℕ) (lanes : List ℕ) (word : ℕ) → at < 32 → AreBefore Holds at lanes → Holds at word → AreBefore Holds (at + 1) (slice_set lanes at word)
are_more Holds at lanes word small so is = record {
  long = length-set lanes at word ∙ so.long;
  each = λ k below. elim (cases_eq k at) [
    | inl same ↦
        subst (Holds k) (sym (ap (λ (n : ℕ). get_or (slice_set lanes at word) n 0) same ∙ get_or-set_same lanes at word 0 (omega (arith, small, so.long))))
        (subst (λ (n : ℕ). Holds n word) (sym same) is)
    | inr other ↦ subst (Holds k) (sym (get_or-set_other lanes at k word 0 other)) (so.each k (omega (arith, below, other)))
  ];
}

-- the lanes before a number are as a function says
abbrev pub EachBefore : (ℕ → ℕ) → ℕ → List ℕ → Type 0
EachBefore f = AreBefore (λ k word. word ≡ f k)

-- lists of the same length with the same items
pub same_lanes : (xs ys : List ℕ) → length xs ≡ length ys → ((k : ℕ) → k < length xs → get_or xs k 0 ≡ get_or ys k 0) → xs ≡ ys
same_lanes [] [] long same = refl
same_lanes [] (y ∷ ys) long same = absurd (omega (arith, long))
same_lanes (x ∷ xs) [] long same = absurd (omega (arith, long))
same_lanes (x ∷ xs) (y ∷ ys) long same = ap₂ (λ (z : ℕ) (zs : List ℕ). z ∷ zs) (same 0 (omega arith)) (same_lanes xs ys (omega (arith, long)) (λ k below. same (suc k) (omega (arith, below))))

pub each_of_two : (f : ℕ → ℕ → ℕ) (xs ys lanes : List ℕ) (at : ℕ) → length xs ≡ 32 → length ys ≡ 32 → 32 ≤ at → EachBefore (λ k. f (get_or xs k 0) (get_or ys k 0)) at lanes → lanes ≡ zip2 f xs ys
each_of_two f xs ys lanes at long same whole so =
    let zipped : length (zip2 f xs ys) ≡ length xs = length-zip2 f xs ys (omega (arith, long, same)) in
    same_lanes lanes (zip2 f xs ys) (omega (arith, so.long, zipped, long))
    (λ k below. so.each k (omega (arith, below, so.long, whole)) ∙ sym (get_or-zip2 f xs ys k 0 0 0 (omega (arith, below, so.long, long)) (omega (arith, below, so.long, same))))
