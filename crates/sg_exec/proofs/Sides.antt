-- Rows side by side along the last axis: their coordinates, and the offsets at the last node that lead to them.
use Rattle.std.proofs.Common.{◌≡◌, ℕ, suc, ◌+◌, ◌*◌, ◌/◌, ◌%◌, ◌<◌, ◌≤◌, Bool, true, false, nat_le, if◌then◌else◌, List, [], ◌∷◌, ◌++◌, length, Some, ℤ, pos, negsuc, ◌+ℤ◌, inl, inr, refl, sym, ap, ◌∙◌, subst, arith}
use Rattle.std.specs.Prelude.{slice_get}
use Rattle.std.proofs.lemmas.Bool.{cases_Bool, cond-true, cond-false, le-leb, lt-leb}
use Rattle.std.proofs.lemmas.Int.{ints}
use Rattle.std.proofs.lemmas.Nat.{div-mul-add, mod-mul-add, div-add-mod'}
use Rattle.std.proofs.lemmas.Option.{same_Some}
use native.Mathlib.Nat as nat
use Rattle.sg_coord.specs.declared.coord.Coord.{Coord}
use Rattle.sg_coord.specs.Coord.{count_of, point_at}
use Rattle.sg_coord.proofs.Uses.{same_parts}
use Rattle.sg_layout.specs.declared.shape.NodeShape.{NodeShape}
use Rattle.sg_layout.specs.declared.shape.Shape.{Shape}
use Rattle.sg_layout.specs.Axes.{extent_in}
use Rattle.sg_layout.specs.Slots.{node_bounds, share_on, number_on, coordinate_of}
use Rattle.sg_exec.specs.Runs.{along}
use Rattle.sg_exec.specs.steps.Blocks.{more_a, more_b, more_c, SpansAlong, IsSpan}

-- ---- so far along the last axis

abbrev made : ℕ → ℤ → ℤ → ℤ → Coord
made n a b c = record { n = n; a = a; b = b; c = c }

further : (z : ℤ) (j k : ℕ) → (z +ℤ pos j) +ℤ pos k ≡ z +ℤ pos (j + k)
further (pos z) j k = ap pos (let same : z + j + k ≡ z + (j + k) = omega arith in same)
further (negsuc z) j k = omega (arith, ints)

no_further : (z : ℤ) → z +ℤ pos 0 ≡ z
no_further (pos k) = ap pos (let same : k + 0 ≡ k = omega arith in same)
no_further (negsuc k) = omega (arith, ints)

along_three : (k : ℕ) (at : Coord) → nat_le 3 at.n ≡ true → along k at ≡ made at.n at.a at.b (at.c +ℤ pos k)
along_three k at three =
    cond-true (nat_le 3 at.n) (made at.n at.a at.b (at.c +ℤ pos k))
    (if nat_le 2 at.n then made at.n at.a (at.b +ℤ pos k) at.c else made at.n (at.a +ℤ pos k) at.b at.c) three

along_two : (k : ℕ) (at : Coord) → nat_le 3 at.n ≡ false → nat_le 2 at.n ≡ true → along k at ≡ made at.n at.a (at.b +ℤ pos k) at.c
along_two k at less two =
    cond-false (nat_le 3 at.n) (made at.n at.a at.b (at.c +ℤ pos k))
    (if nat_le 2 at.n then made at.n at.a (at.b +ℤ pos k) at.c else made at.n (at.a +ℤ pos k) at.b at.c) less
    ∙ cond-true (nat_le 2 at.n) (made at.n at.a (at.b +ℤ pos k) at.c) (made at.n (at.a +ℤ pos k) at.b at.c) two

along_one : (k : ℕ) (at : Coord) → nat_le 3 at.n ≡ false → nat_le 2 at.n ≡ false → along k at ≡ made at.n (at.a +ℤ pos k) at.b at.c
along_one k at less one =
    cond-false (nat_le 3 at.n) (made at.n at.a at.b (at.c +ℤ pos k))
    (if nat_le 2 at.n then made at.n at.a (at.b +ℤ pos k) at.c else made at.n (at.a +ℤ pos k) at.b at.c) less
    ∙ cond-false (nat_le 2 at.n) (made at.n at.a (at.b +ℤ pos k) at.c) (made at.n (at.a +ℤ pos k) at.b at.c) one

-- first so far, and then so far
pub along_on : (j k : ℕ) (at : Coord) → along k (along j at) ≡ along (j + k) at
along_on j k at = elim (cases_Bool (nat_le 3 at.n)) [
  | inl three ↦ ap (along k) (along_three j at three) ∙ along_three k (made at.n at.a at.b (at.c +ℤ pos j)) three
      ∙ ap (λ (z : ℤ). made at.n at.a at.b z) (further at.c j k) ∙ sym (along_three (j + k) at three)
  | inr less ↦ elim (cases_Bool (nat_le 2 at.n)) [
    | inl two ↦ ap (along k) (along_two j at less two) ∙ along_two k (made at.n at.a (at.b +ℤ pos j) at.c) less two
        ∙ ap (λ (z : ℤ). made at.n at.a z at.c) (further at.b j k) ∙ sym (along_two (j + k) at less two)
    | inr one ↦ ap (along k) (along_one j at less one) ∙ along_one k (made at.n (at.a +ℤ pos j) at.b at.c) less one
        ∙ ap (λ (z : ℤ). made at.n z at.b at.c) (further at.a j k) ∙ sym (along_one (j + k) at less one)
  ]
]

-- the same, of parts that are at least 0
along_parts : (n x y z k : ℕ) → along k (made n (pos x) (pos y) (pos z))
    ≡ made n (pos (x + more_a (nat_le 3 n) (nat_le 2 n) k)) (pos (y + more_b (nat_le 3 n) (nat_le 2 n) k)) (pos (z + more_c (nat_le 3 n) (nat_le 2 n) k))
along_parts n x y z k = by_axes (nat_le 3 n) (nat_le 2 n)
  where
    same : (m : ℕ) → pos m ≡ pos (m + 0)
    same m = ap pos (let more : m ≡ m + 0 = omega arith in more)

    by_axes : (three two : Bool) → (if three then made n (pos x) (pos y) (pos z +ℤ pos k)
        else (if two then made n (pos x) (pos y +ℤ pos k) (pos z) else made n (pos x +ℤ pos k) (pos y) (pos z)))
        ≡ made n (pos (x + more_a three two k)) (pos (y + more_b three two k)) (pos (z + more_c three two k))
    by_axes true two = same_parts (made n (pos x) (pos y) (pos z +ℤ pos k)) (made n (pos (x + 0)) (pos (y + 0)) (pos (z + k))) refl (same x) (same y) refl
    by_axes false true = same_parts (made n (pos x) (pos y +ℤ pos k) (pos z)) (made n (pos (x + 0)) (pos (y + k)) (pos (z + 0))) refl (same x) refl (same z)
    by_axes false false = same_parts (made n (pos x +ℤ pos k) (pos y) (pos z)) (made n (pos (x + k)) (pos (y + 0)) (pos (z + 0))) refl refl (same y) (same z)

-- ---- quotients and remainders up to the next multiple

same_block : (p k d : ℕ) → p % d + k < d → (p + k) / d ≡ p / d
same_block p k d low =
    ap (λ (x : ℕ). x / d) (let is : p + k ≡ p / d * d + (p % d + k) = omega (arith, div-add-mod' p d) in is) ∙ div-mul-add (p / d) d (p % d + k) low

further_in_block : (p k d : ℕ) → p % d + k < d → (p + k) % d ≡ p % d + k
further_in_block p k d low =
    ap (λ (x : ℕ). x % d) (let is : p + k ≡ p / d * d + (p % d + k) = omega (arith, div-add-mod' p d) in is) ∙ mod-mul-add (p / d) d (p % d + k) low

same_over : (p k q d : ℕ) → p % d + k < d → (p + k) / (q * d) ≡ p / (q * d)
same_over p k q d low =
    let turned : q * d ≡ d * q = omega arith in
    ap (λ (n : ℕ). (p + k) / n) turned ∙ sym (nat.div-div-eq-div-mul (p + k) d q) ∙ ap (λ (x : ℕ). x / q) (same_block p k d low)
    ∙ nat.div-div-eq-div-mul p d q ∙ ap (λ (n : ℕ). p / n) (sym turned)

more_none : (x y : ℕ) → x ≡ y → x ≡ y + 0
more_none x y same = omega (arith, same)

both_none : (x y : ℕ) → x ≡ 0 → y ≡ 0 → x ≡ y + 0
both_none x y left right = omega (arith, left, right)

mod_one : (x c : ℕ) → c ≡ 1 → x % c ≡ 0
mod_one x c one = ap (λ (n : ℕ). x % n) one ∙ nat.mod-one x

div_one : (x c : ℕ) → c ≡ 1 → x / c ≡ x
div_one x c one = ap (λ (n : ℕ). x / n) one ∙ nat.div-one x

-- ---- the span of a node, by its extents

pub spans_three : (node : NodeShape) (two : Bool) → SpansAlong node true two (extent_in node.sizes 3)
spans_three node two =
    let b = extent_in node.sizes 2 in
    let c = extent_in node.sizes 3 in
    record {
      a = λ offset k low. more_none ((offset + k) / (b * c)) (offset / (b * c)) (same_over offset k b c low);
      b = λ offset k low. more_none ((offset + k) / c % b) (offset / c % b) (ap (λ (x : ℕ). x % b) (same_block offset k c low));
      c = λ offset k low. further_in_block offset k c low;
    }

pub spans_two : (node : NodeShape) → extent_in node.sizes 3 ≡ 1 → SpansAlong node false true (extent_in node.sizes 2)
spans_two node one =
    let b = extent_in node.sizes 2 in
    let c = extent_in node.sizes 3 in
    let whole : b * c ≡ b = ap (λ (x : ℕ). b * x) one ∙ (let same : b * 1 ≡ b = omega arith in same) in
    record {
      a = λ offset k low. more_none ((offset + k) / (b * c)) (offset / (b * c))
          (ap (λ (n : ℕ). (offset + k) / n) whole ∙ same_block offset k b low ∙ ap (λ (n : ℕ). offset / n) (sym whole));
      b = λ offset k low.
          ap (λ (x : ℕ). x % b) (div_one (offset + k) c one) ∙ further_in_block offset k b low
          ∙ ap (λ (x : ℕ). x % b + k) (sym (div_one offset c one));
      c = λ offset k low. both_none ((offset + k) % c) (offset % c) (mod_one (offset + k) c one) (mod_one offset c one);
    }

pub spans_one : (node : NodeShape) (span : ℕ) → extent_in node.sizes 2 ≡ 1 → extent_in node.sizes 3 ≡ 1 → SpansAlong node false false span
spans_one node span one_b one_c =
    let b = extent_in node.sizes 2 in
    let c = extent_in node.sizes 3 in
    let whole : b * c ≡ 1 = ap (λ (x : ℕ). x * c) one_b ∙ ap (λ (x : ℕ). 1 * x) one_c in
    record {
      a = λ offset k low. div_one (offset + k) (b * c) whole ∙ ap (λ (x : ℕ). x + k) (sym (div_one offset (b * c) whole));
      b = λ offset k low. both_none ((offset + k) / c % b) (offset / c % b) (mod_one ((offset + k) / c) b one_b) (mod_one (offset / c) b one_b);
      c = λ offset k low. both_none ((offset + k) % c) (offset % c) (mod_one (offset + k) c one_c) (mod_one offset c one_c);
    }

-- a span of 1 is one of every node
pub spans_none : (node : NodeShape) (three two : Bool) → SpansAlong node three two 1
spans_none node three two = record {
  a = λ offset k low. stays (λ (o : ℕ). count_of (point_at (node_bounds node) o).a) (more_a three two) offset k (none_a three two) (nought offset k low);
  b = λ offset k low. stays (λ (o : ℕ). count_of (point_at (node_bounds node) o).b) (more_b three two) offset k (none_b three two) (nought offset k low);
  c = λ offset k low. stays (λ (o : ℕ). count_of (point_at (node_bounds node) o).c) (more_c three two) offset k (none_c three) (nought offset k low);
}
  where
    nought : (o k : ℕ) → o % 1 + k < 1 → k ≡ 0
    nought o k low = omega (arith, low)

    none_a : (x y : Bool) → more_a x y 0 ≡ 0
    none_a true y = refl
    none_a false true = refl
    none_a false false = refl

    none_b : (x y : Bool) → more_b x y 0 ≡ 0
    none_b true y = refl
    none_b false true = refl
    none_b false false = refl

    none_c : (x : Bool) → more_c x two 0 ≡ 0
    none_c true = refl
    none_c false = refl

    stays : (f more : ℕ → ℕ) (o k : ℕ) → more 0 ≡ 0 → k ≡ 0 → f (o + k) ≡ f o + more k
    stays f more o k none zero_k =
        ap (λ (x : ℕ). f (o + x)) zero_k ∙ ap f (let same : o + 0 ≡ o = omega arith in same)
        ∙ more_none (f o) (f o) refl ∙ ap (λ (x : ℕ). f o + x) (sym none) ∙ ap (λ (x : ℕ). f o + more x) (sym zero_k)

-- the same, of so many axes
pub span_at_three : (node : NodeShape) (axes span : ℕ) → 3 ≤ axes → span ≡ extent_in node.sizes 3 → IsSpan node axes span
span_at_three node axes span three is =
    subst (λ (s : ℕ). SpansAlong node (nat_le 3 axes) (nat_le 2 axes) s) (sym is)
    (subst (λ (b : Bool). SpansAlong node b (nat_le 2 axes) (extent_in node.sizes 3)) (sym (le-leb 3 axes three)) (spans_three node (nat_le 2 axes)))

pub span_at_two : (node : NodeShape) (axes span : ℕ) → axes < 3 → 2 ≤ axes → extent_in node.sizes 3 ≡ 1 → span ≡ extent_in node.sizes 2 → IsSpan node axes span
span_at_two node axes span less two one is =
    subst (λ (s : ℕ). SpansAlong node (nat_le 3 axes) (nat_le 2 axes) s) (sym is)
    (subst (λ (b : Bool). SpansAlong node b (nat_le 2 axes) (extent_in node.sizes 2)) (sym (lt-leb 3 axes less))
    (subst (λ (b : Bool). SpansAlong node false b (extent_in node.sizes 2)) (sym (le-leb 2 axes two)) (spans_two node one)))

pub span_at_one : (node : NodeShape) (axes span : ℕ) → axes < 2 → extent_in node.sizes 2 ≡ 1 → extent_in node.sizes 3 ≡ 1 → IsSpan node axes span
span_at_one node axes span less one_b one_c =
    subst (λ (b : Bool). SpansAlong node b (nat_le 2 axes) span) (sym (lt-leb 3 axes (omega (arith, less))))
    (subst (λ (b : Bool). SpansAlong node false b span) (sym (lt-leb 2 axes less)) (spans_one node span one_b one_c))

-- ---- the coordinate of a path whose last offset is so much greater

number_last : (part : Coord → ℤ) (axis : ℕ) (nodes : List NodeShape) (front : List ℕ) (last : NodeShape) (offset next more : ℕ)
    → slice_get nodes (length front) ≡ Some last → length nodes ≡ suc (length front)
    → count_of (part (point_at (node_bounds last) next)) ≡ count_of (part (point_at (node_bounds last) offset)) + more
    → number_on part axis nodes (front ++ next ∷ []) ≡ number_on part axis nodes (front ++ offset ∷ []) + more
number_last part axis [] front last offset next more is long step = absurd (omega (arith, long))
number_last part axis (node ∷ []) [] last offset next more is long step =
    by_share (count_of (part (point_at (node_bounds node) next))) (count_of (part (point_at (node_bounds node) offset))) more
    (subst (λ (n : NodeShape). count_of (part (point_at (node_bounds n) next)) ≡ count_of (part (point_at (node_bounds n) offset)) + more) (sym (same_Some _ _ is)) step)
  where
    by_share : (x y m : ℕ) → x ≡ y + m → x * 1 + 0 ≡ y * 1 + 0 + m
    by_share x y m same = omega (arith, same)
number_last part axis (node ∷ (other ∷ later)) [] last offset next more is long step = absurd (omega (arith, long))
number_last part axis (node ∷ nodes) (first ∷ front) last offset next more is long step =
    by_rest (share_on part axis node nodes first) (number_on part axis nodes (front ++ next ∷ [])) (number_on part axis nodes (front ++ offset ∷ []))
    (number_last part axis nodes front last offset next more is (omega (arith, long)) step)
  where
    by_rest : (s x y : ℕ) → x ≡ y + more → s + x ≡ s + y + more
    by_rest s x y same = omega (arith, same)

pub further_path : (shape : Shape) (front : List ℕ) (last : NodeShape) (span offset k : ℕ)
    → slice_get shape.nodes (length front) ≡ Some last → length shape.nodes ≡ suc (length front) → IsSpan last shape.axes span → offset % span + k < span
    → coordinate_of shape (front ++ (offset + k) ∷ []) ≡ along k (coordinate_of shape (front ++ offset ∷ []))
further_path shape front last span offset k is long spans low =
    let three = nat_le 3 shape.axes in
    let two = nat_le 2 shape.axes in
    let a = number_on (λ (at : Coord). at.a) 1 shape.nodes (front ++ offset ∷ []) in
    let b = number_on (λ (at : Coord). at.b) 2 shape.nodes (front ++ offset ∷ []) in
    let c = number_on (λ (at : Coord). at.c) 3 shape.nodes (front ++ offset ∷ []) in
    same_parts (coordinate_of shape (front ++ (offset + k) ∷ []))
    (made shape.axes (pos (a + more_a three two k)) (pos (b + more_b three two k)) (pos (c + more_c three two k))) refl
    (ap pos (number_last (λ (at : Coord). at.a) 1 shape.nodes front last offset (offset + k) (more_a three two k) is long (spans.a offset k low)))
    (ap pos (number_last (λ (at : Coord). at.b) 2 shape.nodes front last offset (offset + k) (more_b three two k) is long (spans.b offset k low)))
    (ap pos (number_last (λ (at : Coord). at.c) 3 shape.nodes front last offset (offset + k) (more_c three two k) is long (spans.c offset k low)))
    ∙ sym (along_parts shape.axes a b c k)
