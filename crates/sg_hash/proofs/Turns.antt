-- The turns of a key: each place is one of them, and different turns are different places.
use Rattle.std.proofs.Common.{◌≡◌, ℕ, ◌+◌, ◌-◌, ◌*◌, ◌/◌, ◌%◌, ◌^◌, ◌<◌, ◌≤◌, ap, ◌∙◌, arith, inl, inr}
use Rattle.std.proofs.lemmas.Bool.{cases_lt}
use Rattle.std.proofs.lemmas.Nat.{mod-mul-add, mod_below}
use Rattle.sg_words.specs.RaceMachine.{home}
use Rattle.sg_hash.specs.Tables.{place}

-- the first place is one of the places
pub home_below : (n key : ℕ) → 0 < n → home n key < n
unfolding home
home_below n key some = high_part_below (key * 2654435769 % 2 ^ 32) (2 ^ 32) n some (mod_below (key * 2654435769) (2 ^ 32) (omega arith))
  where
    high_part_below : (x m n : ℕ) → 0 < n → x < m → x * n / m < n
    high_part_below x m n some below = grind arith

pub place_below : (n key turn : ℕ) → 0 < n → place n key turn < n
place_below n key turn some = mod_below (home n key + turn) n some

pub place_low : (n key turn : ℕ) → home n key + turn < n → place n key turn ≡ home n key + turn
place_low n key turn low = let whole : home n key + turn ≡ 0 * n + (home n key + turn) = omega arith in ap (λ k. k % n) whole ∙ mod-mul-add 0 n (home n key + turn) low

pub place_high : (n key turn : ℕ) → turn < n → n ≤ home n key + turn → place n key turn + n ≡ home n key + turn
place_high n key turn below high =
    let small : home n key < n = home_below n key (omega arith) in
    let rest : ℕ = home n key + turn - n in
    let low : rest < n = omega arith in
    let unit : 1 * n ≡ n = omega arith in
    let whole : home n key + turn ≡ 1 * n + rest = omega arith in
    let at : place n key turn ≡ rest = ap (λ k. k % n) whole ∙ mod-mul-add 1 n rest low in
    omega arith

pub place_once : (n key turn other : ℕ) → turn < n → other < n → place n key turn ≡ place n key other → turn ≡ other
place_once n key turn other below there same = elim (cases_lt (home n key + turn) n) [
  | inl low ↦ elim (cases_lt (home n key + other) n) [
    | inl also ↦ omega (arith, place_low n key turn low, place_low n key other also)
    | inr high ↦ absurd (omega (arith, home_below n key (omega arith), place_low n key turn low, place_high n key other there high))
  ]
  | inr high ↦ elim (cases_lt (home n key + other) n) [
    | inl low ↦ absurd (omega (arith, home_below n key (omega arith), place_high n key turn below high, place_low n key other low))
    | inr also ↦ omega (arith, place_high n key turn below high, place_high n key other there also)
  ]
]

pub place_comes : (n key p : ℕ) → p < n → (turn : ℕ) × (turn < n) × (place n key turn ≡ p)
place_comes n key p below =
    let small : home n key < n = home_below n key (omega arith) in
    elim (cases_lt p (home n key)) [
      | inl before ↦
          let turn : ℕ = p + n - home n key in
          let short : turn < n = omega arith in
          let high : n ≤ home n key + turn = omega arith in
          let at : place n key turn + n ≡ home n key + turn = place_high n key turn short high in
          (turn, short, omega arith)
      | inr behind ↦
          let turn : ℕ = p - home n key in
          let low : home n key + turn < n = omega arith in
          let at : place n key turn ≡ home n key + turn = place_low n key turn low in
          (turn, omega arith, omega arith)
    ]

pub place_first : (n key : ℕ) → 0 < n → home n key ≡ place n key 0
place_first n key some = let small = home_below n key some in let at = place_low n key 0 (omega arith) in omega arith

pub place_next : (n key turn : ℕ) → turn + 1 < n → (place n key turn + 1) % n ≡ place n key (turn + 1)
place_next n key turn below =
    let small : home n key < n = home_below n key (omega arith) in
    let within : place n key (turn + 1) < n = place_below n key (turn + 1) (omega arith) in
    let here : place n key turn < n = place_below n key turn (omega arith) in
    elim (cases_lt (home n key + turn) n) [
      | inl low ↦ elim (cases_lt (home n key + (turn + 1)) n) [
        | inl also ↦
            let one = place_low n key turn low in
            let two = place_low n key (turn + 1) also in
            let whole : place n key turn + 1 ≡ 0 * n + place n key (turn + 1) = omega arith in
            ap (λ k. k % n) whole ∙ mod-mul-add 0 n (place n key (turn + 1)) within
        | inr high ↦
            let one = place_low n key turn low in
            let two = place_high n key (turn + 1) below high in
            let unit : 1 * n ≡ n = omega arith in
            let whole : place n key turn + 1 ≡ 1 * n + place n key (turn + 1) = omega arith in
            ap (λ k. k % n) whole ∙ mod-mul-add 1 n (place n key (turn + 1)) within
      ]
      | inr high ↦
          let one = place_high n key turn (omega arith) high in
          let two = place_high n key (turn + 1) below (omega arith) in
          let whole : place n key turn + 1 ≡ 0 * n + place n key (turn + 1) = omega arith in
          ap (λ k. k % n) whole ∙ mod-mul-add 0 n (place n key (turn + 1)) within
    ]
