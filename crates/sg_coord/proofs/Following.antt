-- The point after another in row order.
use Rattle.std.proofs.Common.{◌≡◌, ℕ, ◌+◌, ◌*◌, ◌/◌, ◌%◌, ◌<◌, ℤ, pos, refl, sym, ap, ◌∙◌, arith}
use Rattle.std.proofs.lemmas.Nat.{div-mul-add, mod-mul-add, div-add-mod', div_below}
use Rattle.std.proofs.Math.Nat.{div-div-eq-div-mul, mul_comm}
use Rattle.sg_coord.specs.declared.coord.Coord.{Coord}
use Rattle.sg_coord.specs.Bounds.{Bounds, IsBounds}
use Rattle.sg_coord.specs.Coord.{point_at}
use Rattle.sg_coord.proofs.Uses.{same_parts}

-- the next number, within a row or at the start of the next one
on_div : (k n : ℕ) → k % n + 1 < n → (k + 1) / n ≡ k / n
on_div k n low = ap (λ (x : ℕ). x / n) (let same : k + 1 ≡ k / n * n + (k % n + 1) = omega (arith, div-add-mod' k n) in same) ∙ div-mul-add (k / n) n (k % n + 1) low

on_mod : (k n : ℕ) → k % n + 1 < n → (k + 1) % n ≡ k % n + 1
on_mod k n low = ap (λ (x : ℕ). x % n) (let same : k + 1 ≡ k / n * n + (k % n + 1) = omega (arith, div-add-mod' k n) in same) ∙ mod-mul-add (k / n) n (k % n + 1) low

over_div : (k n : ℕ) → 0 < n → k % n + 1 ≡ n → (k + 1) / n ≡ k / n + 1
over_div k n some full = ap (λ (x : ℕ). x / n) (let same : k + 1 ≡ (k / n + 1) * n + 0 = omega (arith, div-add-mod' k n, full) in same) ∙ div-mul-add (k / n + 1) n 0 some

over_mod : (k n : ℕ) → 0 < n → k % n + 1 ≡ n → (k + 1) % n ≡ 0
over_mod k n some full = ap (λ (x : ℕ). x % n) (let same : k + 1 ≡ (k / n + 1) * n + 0 = omega (arith, div-add-mod' k n, full) in same) ∙ mod-mul-add (k / n + 1) n 0 some

-- the first part goes by lines
first_by_lines : (b c k : ℕ) → k / (b * c) ≡ k / c / b
first_by_lines b c k = ap (λ (n : ℕ). k / n) (mul_comm b c) ∙ sym (div-div-eq-div-mul k c b)

-- the first point
none_over : (n : ℕ) → 0 < n → 0 / n ≡ 0
none_over n some = omega (arith, div_below 0 n 1 some (omega arith))

none_left : (n : ℕ) → 0 % n ≡ 0
none_left n = omega (arith, div-add-mod' 0 n)

pub first_point : (e : Bounds) → IsBounds e → record { n = e.n; a = pos 0; b = pos 0; c = pos 0 } ≡ point_at e 0
first_point e bounds =
    let none : 0 / e.c ≡ 0 = none_over e.c bounds.c_some in
    same_parts _ (point_at e 0) refl
    (ap pos (sym (first_by_lines e.b e.c 0 ∙ ap (λ (x : ℕ). x / e.b) none ∙ none_over e.b bounds.b_some)))
    (ap pos (sym (ap (λ (x : ℕ). x % e.b) none ∙ none_left e.b)))
    (ap pos (sym (none_left e.c)))

module _ (e : Bounds) (k : ℕ) (next : Coord) (n_is : next.n ≡ e.n) where
  -- within a line
  pub in_line : next.a ≡ pos (k / (e.b * e.c)) → next.b ≡ pos (k / e.c % e.b) → next.c ≡ pos (k % e.c + 1) → k % e.c + 1 < e.c → next ≡ point_at e (k + 1)
  in_line a b c low =
      let same : (k + 1) / e.c ≡ k / e.c = on_div k e.c low in
      same_parts next (point_at e (k + 1)) n_is
      (a ∙ ap pos (first_by_lines e.b e.c k ∙ sym (ap (λ (x : ℕ). x / e.b) same) ∙ sym (first_by_lines e.b e.c (k + 1))))
      (b ∙ ap pos (sym (ap (λ (x : ℕ). x % e.b) same)))
      (c ∙ ap pos (sym (on_mod k e.c low)))

  -- at the start of the next line
  pub next_line : next.a ≡ pos (k / (e.b * e.c)) → next.b ≡ pos (k / e.c % e.b + 1) → next.c ≡ pos 0 → 0 < e.c → k % e.c + 1 ≡ e.c → k / e.c % e.b + 1 < e.b → next ≡ point_at e (k + 1)
  next_line a b c some full low =
      let over : (k + 1) / e.c ≡ k / e.c + 1 = over_div k e.c some full in
      same_parts next (point_at e (k + 1)) n_is
      (a ∙ ap pos (first_by_lines e.b e.c k ∙ sym (ap (λ (x : ℕ). x / e.b) over ∙ on_div (k / e.c) e.b low) ∙ sym (first_by_lines e.b e.c (k + 1))))
      (b ∙ ap pos (sym (ap (λ (x : ℕ). x % e.b) over ∙ on_mod (k / e.c) e.b low)))
      (c ∙ ap pos (sym (over_mod k e.c some full)))

  -- at the start of the next plane
  pub next_plane : next.a ≡ pos (k / (e.b * e.c) + 1) → next.b ≡ pos 0 → next.c ≡ pos 0 → 0 < e.c → 0 < e.b → k % e.c + 1 ≡ e.c → k / e.c % e.b + 1 ≡ e.b → next ≡ point_at e (k + 1)
  next_plane a b c some more full last =
      let over : (k + 1) / e.c ≡ k / e.c + 1 = over_div k e.c some full in
      same_parts next (point_at e (k + 1)) n_is
      (a ∙ ap pos (ap (λ (x : ℕ). x + 1) (first_by_lines e.b e.c k) ∙ sym (ap (λ (x : ℕ). x / e.b) over ∙ over_div (k / e.c) e.b more last) ∙ sym (first_by_lines e.b e.c (k + 1))))
      (b ∙ ap pos (sym (ap (λ (x : ℕ). x % e.b) over ∙ over_mod (k / e.c) e.b more last)))
      (c ∙ ap pos (sym (over_mod k e.c some full)))
