-- How often variables are set, as far as it matters: never, once, or more than once.
use Rattle.std.specs.Prelude.{◌≡◌, ℕ, zero, suc, Bool, true, false, nat_eq, List, Option, None, Some}
use Rattle.std.specs.Map.{lookup}
use Rattle.sg_ir.specs.Blocks.{Block}
use Rattle.sg_ir.specs.Span.{sets}

-- how often a variable is set, as a table has it: no entry for never, false for once, true for more often
abbrev pub tally : ℕ → Option Bool
tally zero = None
tally (suc zero) = Some false
tally (suc (suc n)) = Some true

-- a table tells how often each variable is set
abbrev pub TellsCounts : (ℕ → ℕ) → List (ℕ × Bool) → Type 0
TellsCounts count entries = (var : ℕ) → lookup (nat_eq var) entries ≡ tally (count var)

-- a table tells of each variable whether a block sets it never, once or more often
abbrev pub TellsSets : Block → List (ℕ × Bool) → Type 0
TellsSets block entries = TellsCounts (λ var. sets var block) entries
