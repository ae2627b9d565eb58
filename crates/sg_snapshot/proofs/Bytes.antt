-- Numbers come back from their bytes.
use Rattle.std.proofs.Common.{◌≡◌, ℕ, ◌+◌, ◌*◌, ◌/◌, ◌%◌, ◌^◌, ◌<◌, List, [], ◌∷◌, Option, Some, refl, ap, ◌∙◌, arith}
use Rattle.std.specs.Prelude.{option_map}
use Rattle.std.proofs.lemmas.List.Elements.{All-head, All-tail}
use Rattle.sg_snapshot.specs.FormLaws.{BytesOfNumbers}

four_bytes : (n : ℕ) → n < 2 ^ 32 → n % 256 + 256 * (n / 256 % 256) + 65536 * (n / 65536 % 256) + 16777216 * (n / 16777216 % 256) ≡ n
four_bytes n small = omega arith

pub bytes_come_back : BytesOfNumbers
bytes_come_back [] small = refl
bytes_come_back (n ∷ numbers) small =
    ap (λ (o : Option (List ℕ)). option_map (λ (more : List ℕ). (n % 256 + 256 * (n / 256 % 256) + 65536 * (n / 65536 % 256) + 16777216 * (n / 16777216 % 256)) ∷ more) o)
    (bytes_come_back numbers (All-tail (λ (number : ℕ). number < 2 ^ 32) n numbers small))
    ∙ ap (λ (m : ℕ). let out : Option (List ℕ) = Some (m ∷ numbers) in out) (four_bytes n (All-head (λ (number : ℕ). number < 2 ^ 32) n numbers small))
