-- Products of whole numbers lie between the products of the ends.
use Rattle.std.specs.Prelude.{◌≡◌, refl, ℕ, zero, suc, ℤ, pos, negsuc, ◌+ℤ◌, ◌-ℤ◌, ◌*ℤ◌, ◌≤ℤ◌}
use Rattle.std.proofs.Common.{arith}
use Rattle.std.proofs.lemmas.Int.{ints}
use Rattle.std.proofs.Math.IntN.{*ℤ_comm, zero-*ℤ, suc_ℤ-*ℤ, pred_ℤ-*ℤ}
use Rattle.sg_ir.specs.Span.{lesser_of, greater_of}

more : (p q p_more q_more a b : ℤ) → p_more ≡ p +ℤ a → q_more ≡ q +ℤ b → p ≤ℤ q → a ≤ℤ b → p_more ≤ℤ q_more
more p q p_more q_more a b e f h k = omega (arith, ints)

less : (p q p_less q_less a b : ℤ) → p_less ≡ p -ℤ b → q_less ≡ q -ℤ a → p ≤ℤ q → a ≤ℤ b → p_less ≤ℤ q_less
less p q p_less q_less a b e f h k = omega (arith, ints)

same_le : (p q : ℤ) → p ≡ q → p ≤ℤ q
same_le p q e = omega (arith, ints)

rises : (n : ℕ) (a b : ℤ) → a ≤ℤ b → (pos n *ℤ a) ≤ℤ (pos n *ℤ b)
rises zero a b h = let e : pos zero *ℤ a ≡ pos zero = zero-*ℤ a in let f : pos zero *ℤ b ≡ pos zero = zero-*ℤ b in rw (e, f) (same_le (pos 0) (pos 0) refl)
rises (suc n) a b h =
    let e : pos (suc n) *ℤ a ≡ (pos n *ℤ a) +ℤ a = suc_ℤ-*ℤ (pos n) a in
    let f : pos (suc n) *ℤ b ≡ (pos n *ℤ b) +ℤ b = suc_ℤ-*ℤ (pos n) b in
    more (pos n *ℤ a) (pos n *ℤ b) (pos (suc n) *ℤ a) (pos (suc n) *ℤ b) a b e f (rises n a b h) h

falls : (n : ℕ) (a b : ℤ) → a ≤ℤ b → (negsuc n *ℤ b) ≤ℤ (negsuc n *ℤ a)
falls zero a b h =
    let e : negsuc zero *ℤ a ≡ (pos zero *ℤ a) -ℤ a = pred_ℤ-*ℤ (pos zero) a in
    let f : negsuc zero *ℤ b ≡ (pos zero *ℤ b) -ℤ b = pred_ℤ-*ℤ (pos zero) b in
    less (pos zero *ℤ b) (pos zero *ℤ a) (negsuc zero *ℤ b) (negsuc zero *ℤ a) a b f e (rw (zero-*ℤ a, zero-*ℤ b) (same_le (pos 0) (pos 0) refl)) h
falls (suc n) a b h =
    let e : negsuc (suc n) *ℤ a ≡ (negsuc n *ℤ a) -ℤ a = pred_ℤ-*ℤ (negsuc n) a in
    let f : negsuc (suc n) *ℤ b ≡ (negsuc n *ℤ b) -ℤ b = pred_ℤ-*ℤ (negsuc n) b in
    less (negsuc n *ℤ b) (negsuc n *ℤ a) (negsuc (suc n) *ℤ b) (negsuc (suc n) *ℤ a) a b f e (falls n a b h) h

-- z lies between two numbers, whichever is the least
pub record Between (p q z : ℤ) : Type 0 where
  pub low : lesser_of p q ≤ℤ z
  pub high : z ≤ℤ greater_of p q

rising : (p q z : ℤ) → p ≤ℤ z → z ≤ℤ q → Between p q z
rising p q z h k = record { low = grind (arith, ints); high = grind (arith, ints) }

falling : (p q z : ℤ) → q ≤ℤ z → z ≤ℤ p → Between p q z
falling p q z h k = record { low = grind (arith, ints); high = grind (arith, ints) }

between_right : (x lo hi z : ℤ) → lo ≤ℤ z → z ≤ℤ hi → Between (x *ℤ lo) (x *ℤ hi) (x *ℤ z)
between_right (pos n) lo hi z h k = rising (pos n *ℤ lo) (pos n *ℤ hi) (pos n *ℤ z) (rises n lo z h) (rises n z hi k)
between_right (negsuc n) lo hi z h k = falling (negsuc n *ℤ lo) (negsuc n *ℤ hi) (negsuc n *ℤ z) (falls n z hi k) (falls n lo z h)

between_left : (x lo hi z : ℤ) → lo ≤ℤ z → z ≤ℤ hi → Between (lo *ℤ x) (hi *ℤ x) (z *ℤ x)
between_left x lo hi z h k = rw (*ℤ_comm lo x, *ℤ_comm hi x, *ℤ_comm z x) (between_right x lo hi z h k)

low_trans : (p q r : ℤ) → p ≤ℤ q → q ≤ℤ r → p ≤ℤ r
low_trans p q r h k = omega (arith, ints)

least_both : (p q x y : ℤ) → p ≤ℤ x → q ≤ℤ y → lesser_of p q ≤ℤ lesser_of x y
least_both p q x y h k = grind (arith, ints)

greatest_both : (x y p q : ℤ) → x ≤ℤ p → y ≤ℤ q → greater_of x y ≤ℤ greater_of p q
greatest_both x y p q h k = grind (arith, ints)

joined : (p q r s x y z : ℤ) → Between p q x → Between r s y → Between x y z →
    (lesser_of (lesser_of p q) (lesser_of r s) ≤ℤ z) × (z ≤ℤ greater_of (greater_of p q) (greater_of r s))
joined p q r s x y z f g h = (
  low_trans (lesser_of (lesser_of p q) (lesser_of r s)) (lesser_of x y) z (least_both (lesser_of p q) (lesser_of r s) x y f.low g.low) h.low,
  low_trans z (greater_of x y) (greater_of (greater_of p q) (greater_of r s)) h.high (greatest_both x y (greater_of p q) (greater_of r s) f.high g.high),
)

-- products of numbers in two ranges lie between the least and the greatest of the four products of their ends
pub products_lie : (a_lo a_hi b_lo b_hi a b : ℤ) → a_lo ≤ℤ a → a ≤ℤ a_hi → b_lo ≤ℤ b → b ≤ℤ b_hi →
    (lesser_of (lesser_of (a_lo *ℤ b_lo) (a_lo *ℤ b_hi)) (lesser_of (a_hi *ℤ b_lo) (a_hi *ℤ b_hi)) ≤ℤ (a *ℤ b))
    × ((a *ℤ b) ≤ℤ greater_of (greater_of (a_lo *ℤ b_lo) (a_lo *ℤ b_hi)) (greater_of (a_hi *ℤ b_lo) (a_hi *ℤ b_hi)))
products_lie a_lo a_hi b_lo b_hi a b al ah bl bh =
    let low : Between (a_lo *ℤ b_lo) (a_lo *ℤ b_hi) (a_lo *ℤ b) = between_right a_lo b_lo b_hi b bl bh in
    let high : Between (a_hi *ℤ b_lo) (a_hi *ℤ b_hi) (a_hi *ℤ b) = between_right a_hi b_lo b_hi b bl bh in
    let all : Between (a_lo *ℤ b) (a_hi *ℤ b) (a *ℤ b) = between_left b a_lo a_hi a al ah in
    joined _ _ _ _ _ _ _ low high all
