-- The test of being alike tells it.
use Rattle.std.proofs.Common.{◌≡◌, ℕ, suc, ◌+◌, ◌<◌, Bool, true, false, ◌&&◌, ◌==◌, List, [], ◌∷◌, length, get_or, drop, refl, ap, ◌∙◌, subst}
use Rattle.std.proofs.lemmas.Bool.{and_parts, eqb-true, eq-eqb}
use Rattle.std.proofs.lemmas.List.{drop_more}
use Rattle.sg_words.specs.declared.operators.Ty.{Ty}
use Rattle.sg_words.specs.declared.operators.Ty.TheVariants.{I32, U32, Bool as Truth}
use Rattle.sg_coord.specs.Bounds.{Bounds}
use Rattle.sg_layout.specs.declared.shape.Shape.{Shape}
use Rattle.sg_layout.specs.Axes.{bounds_of_shape}
use Rattle.sg_convert.specs.Alike.{AreAlike, same_bounds, same_type, same_types, are_alike}

-- ── From the test ──

bounds_are : (one other : Bounds) → same_bounds one other ≡ true → one ≡ other
bounds_are one other same =
    let first = and_parts (one.n == other.n) ((one.a == other.a) && ((one.b == other.b) && (one.c == other.c))) same in
    let second = and_parts (one.a == other.a) ((one.b == other.b) && (one.c == other.c)) first.1 in
    let third = and_parts (one.b == other.b) (one.c == other.c) second.1 in
    let make : ℕ → ℕ → ℕ → ℕ → Bounds = λ n a b c. record { n = n; a = a; b = b; c = c } in
    ap (λ n. make n one.a one.b one.c) (eqb-true one.n other.n first.0)
    ∙ ap (λ a. make other.n a one.b one.c) (eqb-true one.a other.a second.0)
    ∙ ap (λ b. make other.n other.a b one.c) (eqb-true one.b other.b third.0)
    ∙ ap (λ c. make other.n other.a other.b c) (eqb-true one.c other.c third.1)

type_is : (one other : Ty) → same_type one other ≡ true → one ≡ other
type_is I32 I32 same = refl
type_is U32 U32 same = refl
type_is Truth Truth same = refl
type_is I32 U32 same = absurd (cc)
type_is I32 Truth same = absurd (cc)
type_is U32 I32 same = absurd (cc)
type_is U32 Truth same = absurd (cc)
type_is Truth I32 same = absurd (cc)
type_is Truth U32 same = absurd (cc)

types_are : (one other : List Ty) → same_types one other ≡ true → one ≡ other
types_are [] [] same = refl
types_are [] (y ∷ ys) same = absurd (cc)
types_are (x ∷ xs) [] same = absurd (cc)
types_are (x ∷ xs) (y ∷ ys) same =
    let parts = and_parts (same_type x y) (same_types xs ys) same in
    ap (λ (t : Ty). t ∷ xs) (type_is x y parts.0) ∙ ap (λ (ts : List Ty). y ∷ ts) (types_are xs ys parts.1)

-- ── To the test ──

type_itself : (ty : Ty) → same_type ty ty ≡ true
type_itself I32 = refl
type_itself U32 = refl
type_itself Truth = refl

types_itself : (types : List Ty) → same_types types types ≡ true
types_itself [] = refl
types_itself (ty ∷ types) = ap (λ (b : Bool). b && same_types types types) (type_itself ty) ∙ types_itself types

bounds_itself : (bounds : Bounds) → same_bounds bounds bounds ≡ true
bounds_itself bounds =
    ap (λ (b : Bool). b && ((bounds.a == bounds.a) && ((bounds.b == bounds.b) && (bounds.c == bounds.c)))) (eq-eqb bounds.n bounds.n refl)
    ∙ ap (λ (b : Bool). b && ((bounds.b == bounds.b) && (bounds.c == bounds.c))) (eq-eqb bounds.a bounds.a refl)
    ∙ ap (λ (b : Bool). b && (bounds.c == bounds.c)) (eq-eqb bounds.b bounds.b refl)
    ∙ eq-eqb bounds.c bounds.c refl

pub alike_itself : (shape : Shape) → are_alike shape shape ≡ true
alike_itself shape =
    ap (λ (b : Bool). b && same_types shape.fields shape.fields) (bounds_itself (bounds_of_shape shape)) ∙ types_itself shape.fields

pub alike_tells : (one other : Shape) → (are_alike one other ≡ true → AreAlike one other) × (AreAlike one other → are_alike one other ≡ true)
alike_tells one other = (
  (λ same.
      let parts = and_parts (same_bounds (bounds_of_shape one) (bounds_of_shape other)) (same_types one.fields other.fields) same in
      record { bounds = bounds_are (bounds_of_shape one) (bounds_of_shape other) parts.0; fields = types_are one.fields other.fields parts.1 }),
  (λ alike.
      subst (λ (b : Bounds). same_bounds (bounds_of_shape one) b && same_types one.fields other.fields ≡ true) alike.bounds
      (subst (λ (types : List Ty). same_bounds (bounds_of_shape one) (bounds_of_shape one) && same_types one.fields types ≡ true) alike.fields (alike_itself one))),
)

-- ── The types from a place on ──

pub types_more : (one other : List Ty) (i : ℕ) (x y : Ty) → i < length one → i < length other → get_or one i x ≡ x → get_or other i y ≡ y
    → same_types (drop i one) (drop i other) ≡ (same_type x y && same_types (drop (i + 1) one) (drop (i + 1) other))
types_more one other i x y below own is same =
    ap (λ (xs : List Ty). same_types xs (drop i other)) (drop_more one i x below)
    ∙ ap (λ (ys : List Ty). same_types (get_or one i x ∷ drop (i + 1) one) ys) (drop_more other i y own)
    ∙ ap (λ (t : Ty). same_type t (get_or other i y) && same_types (drop (i + 1) one) (drop (i + 1) other)) is
    ∙ ap (λ (t : Ty). same_type x t && same_types (drop (i + 1) one) (drop (i + 1) other)) same

pub types_differ : (one other : List Ty) → (length one ≡ length other → ⊥) → same_types one other ≡ false
types_differ [] [] many = absurd (many refl)
types_differ [] (y ∷ ys) many = refl
types_differ (x ∷ xs) [] many = refl
types_differ (x ∷ xs) (y ∷ ys) many =
    ap (λ (b : Bool). same_type x y && b) (types_differ xs ys (λ same. many (ap suc same))) ∙ never (same_type x y) where
      never : (b : Bool) → (b && false) ≡ false
      never true = refl
      never false = refl
