-- The low bits of a shifted product, which are the same whether its sign is shifted in or not.
use Rattle.std.proofs.Common.{◌≡◌, ℕ, suc, ◌+◌, ◌-◌, ◌*◌, ◌/◌, ◌%◌, ◌^◌, ◌<◌, sym, ap, subst, ◌∙◌, refl, arith, w64, of_z, ℤ, pos, negsuc, mod-lt, add-mul, suc-mul, pow_pos, pow-add, div-add-mod'}
use Rattle.std.proofs.lemmas.Nat.{div-mul-add, mod-mul-add, div_below}
use mir.Val.{SFits}
use Rattle.sg_words.specs.Words.{word_of, floor_over}

line : (whole first part rest n r m : ℕ) → part + r ≡ n → r < m → whole ≡ part + m + rest → whole - suc n ≡ rest + (m - suc r)
line whole first part rest n r m is low so = omega (arith, is, low, so)

spread : (q d m : ℕ) → (suc q + d) * m ≡ q * m + m + d * m
spread q d m = add-mul (suc q) d m ∙ ap (λ (x : ℕ). x + d * m) (suc-mul q m)

-- counted down from k times m, the quotient is counted down from k, and the rest from m
turned : (m k n : ℕ) → 0 < m → n < k * m → k * m - suc n ≡ (k - suc (n / m)) * m + (m - suc (n % m))
turned m k n some below =
    let under : n / m < k = div_below n m k some below in
    let split : k ≡ suc (n / m) + (k - suc (n / m)) = omega (arith, under) in
    line (k * m) 0 (n / m * m) ((k - suc (n / m)) * m) n (n % m) m (div-add-mod' n m) (mod-lt n some) (ap (λ (x : ℕ). x * m) split ∙ spread (n / m) (k - suc (n / m)) m)

turned_div : (m k n : ℕ) → 0 < m → n < k * m → (k * m - suc n) / m ≡ k - suc (n / m)
turned_div m k n some below =
    ap (λ (x : ℕ). x / m) (turned m k n some below) ∙ div-mul-add (k - suc (n / m)) m (m - suc (n % m)) (omega (arith, some))

turned_mod : (m k n : ℕ) → 0 < m → n < k * m → (k * m - suc n) % m ≡ m - suc (n % m)
turned_mod m k n some below =
    ap (λ (x : ℕ). x % m) (turned m k n some below) ∙ mod-mul-add (k - suc (n / m)) m (m - suc (n % m)) (omega (arith, some))

last : (r : ℕ) → 2 ^ 32 - suc r ≡ 2 ^ 32 - 1 - r
last r = omega arith

low_turned : (s n : ℕ) → s < 32 → n < 2 ^ 64 → (2 ^ 64 - suc n) / 2 ^ s % 2 ^ 32 ≡ 2 ^ 32 - 1 - n / 2 ^ s % 2 ^ 32
low_turned s n few below =
    let sum : 64 - s + s ≡ 64 = omega (arith, few) in
    let part : 32 - s + 32 ≡ 64 - s = omega (arith, few) in
    let all : 2 ^ (64 - s) * 2 ^ s ≡ 2 ^ 64 = sym (pow-add 2 (64 - s) s) ∙ ap (λ (x : ℕ). 2 ^ x) sum in
    let upper : 2 ^ (32 - s) * 2 ^ 32 ≡ 2 ^ (64 - s) = sym (pow-add 2 (32 - s) 32) ∙ ap (λ (x : ℕ). 2 ^ x) part in
    let within : n < 2 ^ (64 - s) * 2 ^ s = subst (λ (x : ℕ). n < x) (sym all) below in
    let quotient : n / 2 ^ s < 2 ^ (32 - s) * 2 ^ 32 = subst (λ (x : ℕ). n / 2 ^ s < x) (sym upper) (div_below n (2 ^ s) (2 ^ (64 - s)) (pow_pos s) within) in
    ap (λ (x : ℕ). (x - suc n) / 2 ^ s % 2 ^ 32) (sym all)
    ∙ ap (λ (x : ℕ). x % 2 ^ 32) (turned_div (2 ^ s) (2 ^ (64 - s)) n (pow_pos s) within)
    ∙ ap (λ (x : ℕ). (x - suc (n / 2 ^ s)) % 2 ^ 32) (sym upper)
    ∙ turned_mod (2 ^ 32) (2 ^ (32 - s)) (n / 2 ^ s) (pow_pos 32) quotient
    ∙ last (n / 2 ^ s % 2 ^ 32)

-- the low word of a number's 64 bits, shifted down by less than 32, is that of the number shifted down
pub low_bits : (z : ℤ) (s : ℕ) → SFits w64 z → s < 32 → of_z w64 z / 2 ^ s % 2 ^ 32 ≡ word_of (floor_over z (2 ^ s))
low_bits (pos n) s fits few = refl
low_bits (negsuc n) s fits few = low_turned s n few (omega (arith, fits.sfits))
