-- Words that are copied from one place of a table on.
use Rattle.std.proofs.Common.{◌≡◌, ℕ, zero, suc, ◌+◌, ◌<◌, List, [], ◌∷◌, length, set, take, drop, refl, ap, ◌∙◌, arith}
use mathlib.Core.Option.{some}
use lib.ListN.{get_elem?}
use Rattle.sg_words.specs.Ranges.{range_at}
use Rattle.sg_words.proofs.Uses.{copied}

-- a word more is copied
get_elem?-drop : (n : ℕ) (xs : List ℕ) (i : ℕ) → get_elem? (drop n xs) i ≡ get_elem? xs (n + i)
get_elem?-drop zero xs i = let e : i ≡ 0 + i = omega arith in ap (get_elem? xs) e
get_elem?-drop (suc n) [] i = refl
get_elem?-drop (suc n) (x ∷ xs) i = let e : suc (n + i) ≡ suc n + i = omega arith in get_elem?-drop n xs i ∙ ap (get_elem? (x ∷ xs)) e

pub copied_from : (links words : List ℕ) (first i x : ℕ) → i < length links → take i links ≡ range_at first i words → get_elem? words (first + i) ≡ some x → take (i + 1) (set links i x) ≡ range_at first (i + 1) words
copied_from links words first i x below e at = copied links (drop first words) i x below e (get_elem?-drop first words i ∙ at)
