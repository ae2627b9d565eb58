-- Ranges of the words of a larger table, and what is left of them when a word was written.
use Rattle.std.proofs.Common.{◌≡◌, ℕ, zero, suc, ◌+◌, ◌-◌, ◌<◌, ◌≤◌, List, [], ◌∷◌, length, set, take, drop, refl, sym, ap, ◌∙◌, arith}
use Rattle.std.specs.Prelude.{slice_index}
use Rattle.std.proofs.lemmas.List.{get_or-take, get_or-drop, take-set-le, drop-set-lt, drop-set-add, length-take, length-drop}
use Rattle.std.proofs.Math.Seq.{take-set-lt}
use Rattle.sg_words.specs.Ranges.{range_at}

pub range-get : (from many : ℕ) (words : List ℕ) (i : ℕ) → i < many → slice_index (range_at from many words) i ≡ slice_index words (from + i)
range-get from many words i below = get_or-take many (drop from words) i 0 below ∙ get_or-drop from words i 0

pub range-long : (from many : ℕ) (words : List ℕ) → from + many ≤ length words → length (range_at from many words) ≡ many
range-long from many words fits = let e = length-take many (drop from words) in let d = length-drop from words in omega arith

-- a word of the range
pub range-in : (from many : ℕ) (words : List ℕ) (i x : ℕ) → i < many → range_at from many (set words (from + i) x) ≡ set (range_at from many words) i x
range-in from many words i x below = ap (take many) (drop-set-add from words i x) ∙ take-set-lt many (drop from words) i x below

-- a race's words that are a range: one of them, and all after it was written
pub word-there : (part words : List ℕ) (from i : ℕ) → part ≡ range_at from (length part) words → i < length part → slice_index part i ≡ slice_index words (from + i)
word-there part words from i is below = ap (λ l. slice_index l i) is ∙ range-get from (length part) words i below

pub written : (part words : List ℕ) (from i x : ℕ) → part ≡ range_at from (length part) words → i < length part → set part i x ≡ range_at from (length part) (set words (from + i) x)
written part words from i x is below = ap (λ l. set l i x) is ∙ sym (range-in from (length part) words i x below)

-- one before it, and one behind it
pub range-before : (from many : ℕ) (words : List ℕ) (i x : ℕ) → i < from → range_at from many (set words i x) ≡ range_at from many words
range-before from many words i x below = ap (take many) (drop-set-lt from words i x below)

pub range-behind : (from many : ℕ) (words : List ℕ) (i x : ℕ) → from + many ≤ i → range_at from many (set words i x) ≡ range_at from many words
range-behind from many words i x past =
    let there : from + (i - from) ≡ i = omega arith in
    ap (λ j. range_at from many (set words j x)) (sym there) ∙ ap (take many) (drop-set-add from words (i - from) x) ∙ take-set-le many (drop from words) (i - from) x (omega arith)

-- all words from a place on are a range
pub take-all : (xs : List ℕ) (n : ℕ) → length xs ≤ n → take n xs ≡ xs
take-all [] zero h = refl
take-all [] (suc n) h = refl
take-all (x ∷ xs) zero h = absurd (omega arith)
take-all (x ∷ xs) (suc n) h = ap (λ l. x ∷ l) (take-all xs n (omega arith))

pub rest-is_range : (from many : ℕ) (words : List ℕ) → length words ≡ from + many → drop from words ≡ range_at from many words
rest-is_range from many words long = sym (take-all (drop from words) many (let d = length-drop from words in omega arith))
