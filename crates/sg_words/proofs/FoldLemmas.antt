-- A fold whose steps can be exchanged gives the same on a list in any order.
use Rattle.std.specs.Prelude.{◌≡◌, ℕ, zero, suc, ◌<◌, List, [], ◌∷◌, length, slice_set, slice_index_or, fold, swap, IsPermutation}
use Rattle.std.proofs.Common.{arith, refl, ap, ◌∙◌}
use Rattle.std.proofs.lemmas.List.Sorted.{IsPermutation-keeps}

module _ {A B : Type 0} (f : B → A → B) (exchanged : (b : B) (x y : A) → f (f b x) y ≡ f (f b y) x) where
  -- the first element trades places with a later one
  traded : (xs : List A) (i : ℕ) (b : B) (x d : A) → i < length xs → fold f (f b (slice_index_or xs i d)) (slice_set xs i x) ≡ fold f (f b x) xs
  traded [] i b x d h = absurd (omega arith)
  traded (y ∷ ys) zero b x d h = ap (λ (c : B). fold f c ys) (exchanged b y x)
  traded (y ∷ ys) (suc i) b x d h =
      ap (λ (c : B). fold f c (slice_set ys i x)) (exchanged b (slice_index_or ys i d) y)
      ∙ traded ys i (f b y) x d (omega arith)
      ∙ ap (λ (c : B). fold f c ys) (exchanged b y x)

  swapped : (xs : List A) (i j : ℕ) (b : B) (d : A) → i < length xs → j < length xs → fold f b (slice_set (slice_set xs i (slice_index_or xs j d)) j (slice_index_or xs i d)) ≡ fold f b xs
  swapped [] i j b d p q = absurd (omega arith)
  swapped (x ∷ xs) zero zero b d p q = refl
  swapped (x ∷ xs) zero (suc j) b d p q = traded xs j b x d (omega arith)
  swapped (x ∷ xs) (suc i) zero b d p q = traded xs i b x d (omega arith)
  swapped (x ∷ xs) (suc i) (suc j) b d p q = swapped xs i j (f b x) d (omega arith) (omega arith)

  swap_alike : (xs : List A) (i j : ℕ) (b : B) → i < length xs → j < length xs → fold f b (swap xs i j) ≡ fold f b xs
  swap_alike [] i j b p q = refl
  swap_alike (x ∷ xs) i j b p q = swapped (x ∷ xs) i j b x p q

  pub fold-IsPermutation : (b : B) (xs ys : List A) → IsPermutation xs ys → fold f b ys ≡ fold f b xs
  fold-IsPermutation b xs ys = IsPermutation-keeps xs (λ l. fold f b l ≡ fold f b xs) refl (λ l i j p q h. swap_alike l i j b p q ∙ h) ys
