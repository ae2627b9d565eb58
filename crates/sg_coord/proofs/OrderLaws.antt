-- Row order is a strict order, and total among coordinates with as many axes.
use Rattle.std.proofs.Common.{◌≡◌, inl, inr, ℤ, ◌<ℤ◌, arith}
use Rattle.std.proofs.lemmas.Int.{ints, by_lt_z}
use Rattle.sg_coord.specs.Laws.{OrderCarriesOver, OrderIsStrict, OrderIsTotal}
use Rattle.sg_coord.proofs.Uses.{same_parts}

by_order : {P : Type 0} (x y : ℤ) → (x <ℤ y → P) → (x ≡ y → P) → (y <ℤ x → P) → P
by_order x y less same more =
    by_lt_z x y less (λ h. by_lt_z y x more (λ k. same (omega (arith, ints))))

pub order_is_strict : OrderIsStrict
order_is_strict x before = elim before [
  | inl first ↦ omega (arith, ints)
  | inr (_, inl second) ↦ omega (arith, ints)
  | inr (_, inr (_, third)) ↦ omega (arith, ints)
]

pub order_carries_over : OrderCarriesOver
order_carries_over x y z p q = elim p [
  | inl a ↦ elim q [
    | inl d ↦ inl (omega (arith, ints))
    | inr (d, _) ↦ inl (omega (arith, ints))
  ]
  | inr (a, inl b) ↦ elim q [
    | inl d ↦ inl (omega (arith, ints))
    | inr (d, inl e) ↦ inr (omega (arith, ints), inl (omega (arith, ints)))
    | inr (d, inr (e, _)) ↦ inr (omega (arith, ints), inl (omega (arith, ints)))
  ]
  | inr (a, inr (b, c)) ↦ elim q [
    | inl d ↦ inl (omega (arith, ints))
    | inr (d, inl e) ↦ inr (omega (arith, ints), inl (omega (arith, ints)))
    | inr (d, inr (e, f)) ↦ inr (omega (arith, ints), inr (omega (arith, ints), omega (arith, ints)))
  ]
]

pub order_is_total : OrderIsTotal
order_is_total x y n =
    by_order x.a y.a (λ less. inr (inl (inl less)))
    (λ a. by_order x.b y.b (λ less. inr (inl (inr (a, inl less))))
    (λ b. by_order x.c y.c (λ less. inr (inl (inr (a, inr (b, less)))))
    (λ c. inl (same_parts x y n a b c))
    (λ more. inr (inr (inr (omega (arith, ints), inr (omega (arith, ints), more))))))
    (λ more. inr (inr (inr (omega (arith, ints), inl more)))))
    (λ more. inr (inr (inl more)))
