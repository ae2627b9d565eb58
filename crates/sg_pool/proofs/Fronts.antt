-- The first numbers of a stock: of the free list, and then from the mark on.
use Rattle.std.proofs.Common.{◌≡◌, ℕ, zero, suc, ◌+◌, ◌-◌, ◌<◌, ◌≤◌, nat_lt, true, false, cond, List, [], ◌∷◌, ◌++◌, ◌⊎◌, length, take, map, refl, sym, ap, ◌∙◌, subst, arith, inl, inr}
use Rattle.std.specs.Prelude.{Result, Ok, Err, IfOk}
use Rattle.std.specs.List.{range_with_len}
use Rattle.std.proofs.lemmas.Bool.{cases_lt}
use Rattle.std.proofs.lemmas.Bool.Decides.{nat_tests}
use Rattle.std.proofs.lemmas.List.{append-nil, take-append-le, take_all, length-take-le}
use Rattle.std.proofs.lemmas.List.FromFn.{take-map-range_with_len, length-range_with_len}
use Rattle.sg_pool.specs.Numbers.{PoolNumbers, place_count, live_count, IsParted, CanSettle, stock_in_order}
use Rattle.sg_pool.proofs.Uses.{front_can_settle, stock_is_rest}
use Rattle.sg_pool.proofs.Parts.{stock_is_stock}

-- the lesser of two numbers
abbrev pub lesser : ℕ → ℕ → ℕ
lesser a b = cond (nat_lt a b) a b

lesser_first : (a b : ℕ) → a < b → lesser a b ≡ a
lesser_first a b below = let on : nat_lt a b ≡ true = grind (arith, nat_tests) in ap (λ t. cond t a b) on

lesser_second : (a b : ℕ) → b ≤ a → lesser a b ≡ b
lesser_second a b past = let off : nat_lt a b ≡ false = grind (arith, nat_tests) in ap (λ t. cond t a b) off

map_same : (xs : List ℕ) → map (λ (i : ℕ). i) xs ≡ xs
map_same [] = refl
map_same (x ∷ xs) = ap (λ ys. x ∷ ys) (map_same xs)

-- of a range, and of two lists
take_range : (from many k : ℕ) → k ≤ many → take k (range_with_len from many) ≡ range_with_len from k
take_range from many k few =
    ap (take k) (sym (map_same (range_with_len from many))) ∙ take-map-range_with_len (λ (i : ℕ). i) from many k few ∙ map_same (range_with_len from k)

take_past : (xs ys : List ℕ) (n : ℕ) → length xs ≤ n → take n (xs ++ ys) ≡ xs ++ take (n - length xs) ys
take_past [] ys n long = let all : n ≡ n - 0 = omega arith in ap (λ k. take k ys) all
take_past (x ∷ xs) ys zero long = absurd (omega (arith, long))
take_past (x ∷ xs) ys (suc n) long =
    let left : n - length xs ≡ suc n - suc (length xs) = omega arith in
    ap (λ l. x ∷ l) (take_past xs ys n (omega (arith, long)) ∙ ap (λ k. xs ++ take k ys) left)

-- so many numbers of the free list, and so many from the mark on
pub front_is : (free : List ℕ) (mark many most listed unused : ℕ) → listed ≡ lesser most (length free) → unused ≡ lesser (most - listed) many → take listed free ++ range_with_len mark unused ≡ take most (free ++ range_with_len mark many)
front_is free mark many most listed unused listed_is unused_is = elim (cases_lt most (length free)) [
  | inl below ↦
      let all : listed ≡ most = listed_is ∙ lesser_first most (length free) below in
      let none : unused ≡ 0 = elim (cases_lt (most - listed) many) [
        | inl less ↦ unused_is ∙ lesser_first (most - listed) many less ∙ (let e : most - listed ≡ 0 = omega (arith, all) in e)
        | inr past ↦ unused_is ∙ lesser_second (most - listed) many past ∙ (let e : many ≡ 0 = omega (arith, all, past) in e)
      ] in
      ap (λ k. take k free ++ range_with_len mark unused) all ∙ ap (λ k. take most free ++ range_with_len mark k) none ∙ append-nil (take most free)
      ∙ sym (take-append-le most free (range_with_len mark many) (omega (arith, below)))
  | inr past ↦
      let all : listed ≡ length free = listed_is ∙ lesser_second most (length free) past in
      let whole : take listed free ≡ free = take_all listed free (omega (arith, all)) in
      let left : most - listed ≡ most - length free = ap (λ k. most - k) all in
      let later : range_with_len mark unused ≡ take (most - length free) (range_with_len mark many) = elim (cases_lt (most - listed) many) [
        | inl less ↦
            ap (range_with_len mark) (unused_is ∙ lesser_first (most - listed) many less ∙ left)
            ∙ sym (take_range mark many (most - length free) (omega (arith, less, left)))
        | inr over ↦
            ap (range_with_len mark) (unused_is ∙ lesser_second (most - listed) many over)
            ∙ sym (take_all (most - length free) (range_with_len mark many) (omega (arith, over, left, length-range_with_len mark many)))
      ] in
      ap (λ l. l ++ range_with_len mark unused) whole ∙ ap (λ l. free ++ l) later ∙ sym (take_past free (range_with_len mark many) most past)
]

-- numbers of the stock, each once
pub front_can : (pool : PoolNumbers) (most : ℕ) (stock : List ℕ) → IsParted pool → stock ≡ take most (stock_in_order pool) → CanSettle pool stock
front_can pool most stock parted is =
    subst (λ s. CanSettle pool s) (sym is) (front_can_settle pool (stock_in_order pool) most (stock_is_stock pool parted))

-- so many, or all
pub front_enough : (pool : PoolNumbers) (most : ℕ) (stock : List ℕ) → IsParted pool → stock ≡ take most (stock_in_order pool) → (most ≤ length stock) ⊎ (length stock + live_count pool ≡ place_count pool)
front_enough pool most stock parted is =
    let rest = stock_is_rest pool (stock_in_order pool) (stock_is_stock pool parted) in
    elim (cases_lt most (length (stock_in_order pool))) [
      | inl below ↦ inl (omega (arith, ap length is, length-take-le most (stock_in_order pool) (omega (arith, below))))
      | inr past ↦ inr (omega (arith, ap length is, ap length (take_all most (stock_in_order pool) past), rest))
    ]

-- all, where so many are as many as there are numbers
pub front_all : (pool : PoolNumbers) (stock : List ℕ) → IsParted pool → stock ≡ take (place_count pool) (stock_in_order pool) → stock ≡ stock_in_order pool
front_all pool stock parted is =
    let rest = stock_is_rest pool (stock_in_order pool) (stock_is_stock pool parted) in
    is ∙ take_all (place_count pool) (stock_in_order pool) (omega (arith, rest))

pub if_ok : {A E : Type 0} → (r : Result A E) (Was Says : A → Type 0) → ((x : A) → Was x → Says x) → IfOk r Was → IfOk r Says
if_ok (Ok x) Was Says h was = h x was
if_ok (Err e) Was Says h was = tt
