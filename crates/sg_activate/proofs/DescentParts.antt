-- Parts of a list of places.
use Rattle.std.proofs.Common.{◌≡◌, ℕ, zero, suc, ◌+◌, ◌-◌, ◌<◌, ◌≤◌, true, false, cond, nat_lt, List, [], ◌∷◌, length, ap, ◌∙◌, arith}
use Rattle.std.specs.Prelude.{slice_index}
use Rattle.std.proofs.lemmas.Bool.Decides.{nat_tests}
use Rattle.sg_activate.specs.TableParts.{places_in, first_of, part_of, place_in_part}

-- a place of part l, of its number q there
pub part-is : (sizes : List ℕ) (l q : ℕ) → l < length sizes → q < slice_index sizes l
    → (part_of sizes (first_of sizes l + q) ≡ l) × (place_in_part sizes (first_of sizes l + q) ≡ q)
part-is [] l q there below = absurd (omega arith)
part-is (n ∷ ns) zero q there below =
    let h : nat_lt q n ≡ true = grind (arith, nat_tests) in
    let e : 0 + q ≡ q = omega arith in
    (ap (part_of (n ∷ ns)) e ∙ ap (λ b. cond b 0 (suc (part_of ns (q - n)))) h, ap (place_in_part (n ∷ ns)) e ∙ ap (λ b. cond b q (place_in_part ns (q - n))) h)
part-is (n ∷ ns) (suc l) q there below =
    let r = part-is ns l q (omega arith) below in
    let i = n + first_of ns l + q in
    let h : nat_lt i n ≡ false = grind (arith, nat_tests) in
    let e : i - n ≡ first_of ns l + q = omega arith in (
      ap (λ b. cond b 0 (suc (part_of ns (i - n)))) h ∙ ap (λ j. suc (part_of ns j)) e ∙ ap suc r.0,
      ap (λ b. cond b i (place_in_part ns (i - n))) h ∙ ap (place_in_part ns) e ∙ r.1,
    )

-- and it is one of all
pub part-within : (sizes : List ℕ) (l q : ℕ) → l < length sizes → q < slice_index sizes l → first_of sizes l + q < places_in sizes
part-within [] l q there below = absurd (omega arith)
part-within (n ∷ ns) zero q there below = omega arith
part-within (n ∷ ns) (suc l) q there below = let r = part-within ns l q (omega arith) below in omega arith

-- a part and those before it are among all
pub part-fits : (sizes : List ℕ) (l : ℕ) → l < length sizes → first_of sizes l + slice_index sizes l ≤ places_in sizes
part-fits [] l below = absurd (omega arith)
part-fits (n ∷ ns) zero below = omega arith
part-fits (n ∷ ns) (suc l) below = let r = part-fits ns l (omega arith) in omega arith
