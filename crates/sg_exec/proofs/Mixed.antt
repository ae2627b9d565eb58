-- Lists that have some members of one list and the others of another, by their numbers.
use Rattle.std.proofs.Common.{◌≡◌, ℕ, zero, suc, ◌+◌, Bool, true, false, cond, inl, inr, ◌⊎◌, List, [], ◌∷◌, length, Some, refl, sym, ap, ◌∙◌, subst, arith}
use Rattle.std.specs.Prelude.{slice_get, filter, Contains}
use Rattle.std.specs.List.{AllZip}
use Rattle.std.proofs.lemmas.Bool.{cases_Bool, cond-true, cond-false, and_left, both_ways, ne_eqb}
use Rattle.std.proofs.lemmas.Option.{same_Some}
use Rattle.sg_words.proofs.Uses.{contains_head, contains_rest}
use Rattle.sg_layout.specs.declared.shape.Shape.{Shape}
use Rattle.sg_layout.specs.Axes.{bounds_of_shape}
use Rattle.sg_coord.specs.Bounds.{Bounds}
use Rattle.sg_flat.specs.declared.effects.Write.{Write}
use Rattle.sg_flat.specs.declared.state.FlatLayout.{FlatLayout}
use Rattle.sg_flat.specs.Effects.{is_to}
use Rattle.sg_flat.specs.State.{AreFlatLayouts}
use Rattle.sg_store.specs.StoreWords.{StoreWords}
use Rattle.sg_store.specs.StandsFor.{StandsFor}
use Rattle.sg_exec.specs.Standing.{shapes_of}
use Rattle.sg_exec.specs.steps.Landing.{landed_layout, landed_layouts, Lands}
use Rattle.sg_exec.proofs.FieldsLanded.{layout_kept}
use Rattle.sg_exec.proofs.Walked.{all_flat}

-- the members of the first list whose numbers, counted from the given one, pass a test, and the others of the second
abbrev pub mixed : {A : Type 0} → (ℕ → Bool) → ℕ → List A → List A → List A
mixed test k [] ys = []
mixed test k (x ∷ xs) [] = []
mixed test k (x ∷ xs) (y ∷ ys) = cond (test k) x y ∷ mixed test (suc k) xs ys

number_here : (k : ℕ) → k + 0 ≡ k
number_here k = omega arith

number_next : (k i : ℕ) → k + suc i ≡ suc k + i
number_next k i = omega arith

here : (test : ℕ → Bool) (k : ℕ) (b : Bool) → test (k + 0) ≡ b → test k ≡ b
here test k b is = ap test (sym (number_here k)) ∙ is

next : (test : ℕ → Bool) (k i : ℕ) (b : Bool) → test (k + suc i) ≡ b → test (suc k + i) ≡ b
next test k i b is = ap test (sym (number_next k i)) ∙ is

-- a member, by the test of its number
pub mixed_first : {A : Type 0} (test : ℕ → Bool) (k i : ℕ) (xs ys : List A) (z : A) → slice_get (mixed test k xs ys) i ≡ Some z → test (k + i) ≡ true → slice_get xs i ≡ Some z
mixed_first test k i [] ys z is passes = absurd (cc)
mixed_first test k i (x ∷ xs) [] z is passes = absurd (cc)
mixed_first test k zero (x ∷ xs) (y ∷ ys) z is passes = ap Some (sym (cond-true (test k) x y (here test k true passes))) ∙ is
mixed_first test k (suc i) (x ∷ xs) (y ∷ ys) z is passes = mixed_first test (suc k) i xs ys z is (next test k i true passes)

pub mixed_true : {A : Type 0} (test : ℕ → Bool) (k i : ℕ) (xs ys : List A) → length xs ≡ length ys → test (k + i) ≡ true → slice_get (mixed test k xs ys) i ≡ slice_get xs i
mixed_true test k i [] ys same passes = refl
mixed_true test k i (x ∷ xs) [] same passes = absurd (omega (arith, same))
mixed_true test k zero (x ∷ xs) (y ∷ ys) same passes = ap Some (cond-true (test k) x y (here test k true passes))
mixed_true test k (suc i) (x ∷ xs) (y ∷ ys) same passes = mixed_true test (suc k) i xs ys (omega (arith, same)) (next test k i true passes)

pub mixed_false : {A : Type 0} (test : ℕ → Bool) (k i : ℕ) (xs ys : List A) → length xs ≡ length ys → test (k + i) ≡ false → slice_get (mixed test k xs ys) i ≡ slice_get ys i
mixed_false test k i [] [] same fails = refl
mixed_false test k i [] (y ∷ ys) same fails = absurd (omega (arith, same))
mixed_false test k i (x ∷ xs) [] same fails = absurd (omega (arith, same))
mixed_false test k zero (x ∷ xs) (y ∷ ys) same fails = ap Some (cond-false (test k) x y (here test k false fails))
mixed_false test k (suc i) (x ∷ xs) (y ∷ ys) same fails = mixed_false test (suc k) i xs ys (omega (arith, same)) (next test k i false fails)

pub mixed_long : {A : Type 0} (test : ℕ → Bool) (k : ℕ) (xs ys : List A) → length xs ≡ length ys → length (mixed test k xs ys) ≡ length ys
mixed_long test k [] [] same = refl
mixed_long test k [] (y ∷ ys) same = absurd (omega (arith, same))
mixed_long test k (x ∷ xs) [] same = absurd (omega (arith, same))
mixed_long test k (x ∷ xs) (y ∷ ys) same = ap suc (mixed_long test (suc k) xs ys (omega (arith, same)))

-- a list with these members is the mixed one
pub mixed_is : {A : Type 0} (test : ℕ → Bool) (k : ℕ) (xs ys zs : List A) → length zs ≡ length xs → length zs ≡ length ys
    → ((i : ℕ) → test (k + i) ≡ true → slice_get zs i ≡ slice_get xs i) → ((i : ℕ) → test (k + i) ≡ false → slice_get zs i ≡ slice_get ys i) → zs ≡ mixed test k xs ys
mixed_is test k [] ys [] long long' first second = refl
mixed_is test k (x ∷ xs) ys [] long long' first second = absurd (omega (arith, long))
mixed_is test k [] ys (z ∷ zs) long long' first second = absurd (omega (arith, long))
mixed_is test k (x ∷ xs) [] (z ∷ zs) long long' first second = absurd (omega (arith, long'))
mixed_is {A} test k (x ∷ xs) (y ∷ ys) (z ∷ zs) long long' first second =
    ap (λ (v : A). v ∷ zs) (head (cases_Bool (test k)))
    ∙ ap (λ (vs : List A). cond (test k) x y ∷ vs)
    (mixed_is test (suc k) xs ys zs (omega (arith, long)) (omega (arith, long'))
    (λ i passes. first (suc i) (ap test (number_next k i) ∙ passes)) (λ i fails. second (suc i) (ap test (number_next k i) ∙ fails)))
  where
    head : (test k ≡ true) ⊎ (test k ≡ false) → z ≡ cond (test k) x y
    head (inl passes) = same_Some z x (first 0 (ap test (number_here k) ∙ passes)) ∙ sym (cond-true (test k) x y passes)
    head (inr fails) = same_Some z y (second 0 (ap test (number_here k) ∙ fails)) ∙ sym (cond-false (test k) x y fails)

-- ---- stores and what they stand for

pub mixed_shapes : (test : ℕ → Bool) (k : ℕ) (xs ys : List StoreWords) → shapes_of xs ≡ shapes_of ys → shapes_of (mixed test k xs ys) ≡ shapes_of ys
mixed_shapes test k [] [] same = refl
mixed_shapes test k [] (y ∷ ys) same = absurd (cc)
mixed_shapes test k (x ∷ xs) [] same = absurd (cc)
mixed_shapes test k (x ∷ xs) (y ∷ ys) same =
    ap (λ (s : Shape). s ∷ shapes_of (mixed test (suc k) xs ys)) (by (test k))
    ∙ ap (λ (ss : List Shape). y.shape ∷ ss) (mixed_shapes test (suc k) xs ys (ap tail same))
  where
    tail : List Shape → List Shape
    tail [] = []
    tail (s ∷ ss) = ss

    by : (b : Bool) → (cond b x y).shape ≡ y.shape
    by true = same_Some x.shape y.shape (ap (λ (ss : List Shape). slice_get ss 0) same)
    by false = refl

pub mixed_stand : (test : ℕ → Bool) (k : ℕ) (olds news : List StoreWords) (flats others : List FlatLayout) → AllZip StandsFor olds flats → AllZip StandsFor news others
    → AllZip StandsFor (mixed test k olds news) (mixed test k flats others)
mixed_stand test k [] news [] others stand stand' = tt
mixed_stand test k [] news (flat ∷ flats) others stand stand' = absurd stand
mixed_stand test k (old ∷ olds) news [] others stand stand' = absurd stand
mixed_stand test k (old ∷ olds) [] (flat ∷ flats) [] stand stand' = tt
mixed_stand test k (old ∷ olds) [] (flat ∷ flats) (other ∷ others) stand stand' = absurd stand'
mixed_stand test k (old ∷ olds) (new ∷ news) (flat ∷ flats) [] stand stand' = absurd stand'
mixed_stand test k (old ∷ olds) (new ∷ news) (flat ∷ flats) (other ∷ others) stand stand' =
    (by (test k), mixed_stand test (suc k) olds news flats others stand.1 stand'.1)
  where
    by : (b : Bool) → StandsFor (cond b old new) (cond b flat other)
    by true = stand.0
    by false = stand'.0

pub stand_long : (stores : List StoreWords) (flats : List FlatLayout) → AllZip StandsFor stores flats → length stores ≡ length flats
stand_long [] [] stand = refl
stand_long [] (flat ∷ flats) stand = absurd stand
stand_long (store ∷ stores) [] stand = absurd stand
stand_long (store ∷ stores) (flat ∷ flats) stand = ap suc (stand_long stores flats stand.1)

pub shapes_long : (xs ys : List StoreWords) → shapes_of xs ≡ shapes_of ys → length xs ≡ length ys
shapes_long [] [] same = refl
shapes_long [] (y ∷ ys) same = absurd (cc)
shapes_long (x ∷ xs) [] same = absurd (cc)
shapes_long (x ∷ xs) (y ∷ ys) same = ap suc (shapes_long xs ys (ap tail same))
  where
    tail : List Shape → List Shape
    tail [] = []
    tail (s ∷ ss) = ss

-- ---- writes into layouts of the first list

-- each write is into a layout whose number passes a test
abbrev pub Into : (ℕ → Bool) → List Write → Type 0
Into test writes = (write : Write) → Contains writes write → test write.layout ≡ true

none_into : (test : ℕ → Bool) (bounds : Bounds) (k place row : ℕ) (writes : List Write) → Into test writes → test k ≡ false → filter (is_to bounds k place row) writes ≡ []
none_into test bounds k place row [] into fails = refl
none_into test bounds k place row (write ∷ writes) into fails =
    cond-false (is_to bounds k place row write) (write ∷ filter (is_to bounds k place row) writes) (filter (is_to bounds k place row) writes)
    (and_left _ _ (ne_eqb write.layout k (λ same. both_ways (test k) fails (ap test (sym same) ∙ into write (contains_head write write writes refl)))))
    ∙ none_into test bounds k place row writes (λ one has. into one (contains_rest one write writes has)) fails

mixed_landed : (test : ℕ → Bool) (k : ℕ) (shapes : List Shape) (flats others : List FlatLayout) (writes : List Write) → AreFlatLayouts shapes flats → length others ≡ length flats → Into test writes
    → mixed test k (landed_layouts k shapes (mixed test k flats others) writes) flats ≡ landed_layouts k shapes flats writes
mixed_landed test k [] flats others writes are same into = refl
mixed_landed test k (shape ∷ shapes) [] others writes are same into = refl
mixed_landed test k (shape ∷ shapes) (flat ∷ flats) [] writes are same into = absurd (omega (arith, same))
mixed_landed test k (shape ∷ shapes) (flat ∷ flats) (other ∷ others) writes are same into =
    ap (λ (l : FlatLayout). l ∷ mixed test (suc k) (landed_layouts (suc k) shapes (mixed test (suc k) flats others) writes) flats) (by (cases_Bool (test k)))
    ∙ ap (λ (ls : List FlatLayout). landed_layout k shape flat writes ∷ ls) (mixed_landed test (suc k) shapes flats others writes are.1 (omega (arith, same)) into)
  where
    by : (test k ≡ true) ⊎ (test k ≡ false) → cond (test k) (landed_layout k shape (cond (test k) flat other) writes) flat ≡ landed_layout k shape flat writes
    by (inl passes) = ap (λ (b : Bool). cond b (landed_layout k shape (cond b flat other) writes) flat) passes
    by (inr fails) = ap (λ (b : Bool). cond b (landed_layout k shape (cond b flat other) writes) flat) fails
        ∙ sym (layout_kept k shape flat writes are.0 (λ place row. none_into test (bounds_of_shape shape) k place row writes into fails))

-- What lands in stores lands as well in others that are the same wherever it lands.
pub lands_beside : (test : ℕ → Bool) (olds twins nows rest : List StoreWords) (others : List FlatLayout) (writes : List Write) → twins ≡ mixed test 0 olds rest
    → AllZip StandsFor rest others → shapes_of rest ≡ shapes_of olds → Into test writes → Lands twins nows writes → Lands olds (mixed test 0 nows olds) writes
lands_beside test olds twins nows rest others writes is standing shapes into lands = record {
  same_shapes = mixed_shapes test 0 nows olds (lands.same_shapes ∙ twin_shapes);
  stand = λ flats stand active.
      let long : length others ≡ length flats = sym (stand_long rest others standing) ∙ shapes_long rest olds shapes ∙ stand_long olds flats stand in
      let landed = lands.stand (mixed test 0 flats others) (subst (λ (ss : List StoreWords). AllZip StandsFor ss (mixed test 0 flats others)) (sym is) (mixed_stand test 0 olds rest flats others stand standing))
      (λ number flat write at has same.
      active number flat write (mixed_first test 0 number flats others flat at (ap test (zero_plus number ∙ sym same) ∙ into write has)) has same) in
      subst (λ (ls : List FlatLayout). AllZip StandsFor (mixed test 0 nows olds) ls)
      (ap (λ (ss : List Shape). mixed test 0 (landed_layouts 0 ss (mixed test 0 flats others) writes) flats) twin_shapes
      ∙ mixed_landed test 0 (shapes_of olds) flats others writes (all_flat olds flats stand) long into)
      (mixed_stand test 0 nows olds (landed_layouts 0 (shapes_of twins) (mixed test 0 flats others) writes) flats landed stand);
}
  where
    zero_plus : (n : ℕ) → 0 + n ≡ n
    zero_plus n = omega arith

    twin_shapes : shapes_of twins ≡ shapes_of olds
    twin_shapes = ap shapes_of is ∙ mixed_shapes test 0 olds rest (sym shapes) ∙ shapes
