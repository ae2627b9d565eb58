-- A remainder by a power of two.
use Rattle.std.proofs.Common.{◌≡◌, ℕ, ◌-◌, ◌*◌, ◌/◌, ◌%◌, ◌^◌, ◌<◌, bit_and, sym, ◌∙◌, subst}
use Rattle.std.proofs.lemmas.Nat.{and_mask, one_shl}

pub masked : (bits word size k : ℕ) → k < bits → (1 * 2 ^ k) % 2 ^ bits ≡ size → bit_and word (size - 1) ≡ word % size
masked bits word size k low is = subst (λ (s : ℕ). bit_and word (s - 1) ≡ word % s) (sym (one_shl k bits low) ∙ is) (and_mask word k)

-- and a digit by two of them
pub digit_masked : (div size k l : ℕ) → k < 32 → l < 32 → (1 * 2 ^ k) % 2 ^ 32 ≡ div → (1 * 2 ^ l) % 2 ^ 32 ≡ size → (word : ℕ) → bit_and (word / 2 ^ k) (size - 1) ≡ word / div % size
digit_masked div size k l k_low l_low div_is size_is word =
    subst (λ (d : ℕ). bit_and (word / 2 ^ k) (size - 1) ≡ word / d % size) (sym (one_shl k 32 k_low) ∙ div_is) (masked 32 (word / 2 ^ k) size l l_low size_is)
