-- The generated program is no longer than a file may be.
use Rattle.std.proofs.Common.{◌≡◌, ℕ, ◌+◌, ◌≤◌, ◌<◌, ◌^◌, List, ◌++◌, length, decimal, codes, refl, ap, ◌∙◌, arith}
use Rattle.std.proofs.lemmas.List.{length-append}
use Rattle.std.proofs.lemmas.Fmt.{length-decimal-le}
use Rattle.sg_lexer.specs.Limits.{most_file_bytes}
use Rattle.sparsegrid.specs.Generated.{behind_number, generated_text}

behind_length : length behind_number ≡ 648
unfolding behind_number
behind_length = refl

pub short : (number : ℕ) (text : List ℕ) → number < 2 ^ 32 → text ≡ generated_text number → length text ≤ most_file_bytes
short number text fits is =
    let digits : length (decimal number) ≤ 10 = length-decimal-le 10 number (omega arith) (omega arith) (omega arith) in
    let whole : length text ≡ length (codes "const S = ") + (length (decimal number) + length behind_number) =
    ap length is ∙ length-append (codes "const S = ") (decimal number ++ behind_number) ∙ ap (λ (n : ℕ). length (codes "const S = ") + n) (length-append (decimal number) behind_number) in
    omega (arith, whole, digits, behind_length)
