use Rattle.std.specs.Prelude.{ℕ, ◌^◌, Bool, not, List, [], ◌∷◌, map, filter, if◌then◌else◌, ◌==◌, nat_lt}
use Rattle.std.specs.List.{list_all, range_with_len}

-- The words of a field are seen as a list of rows with their words, in rising order of the rows, if no word is 0.

-- no row in the list has the word 0
abbrev pub has_no_zero : List (ℕ × ℕ) → Bool
has_no_zero words = list_all (λ entry. not (entry.1 == 0)) words

-- each is a word, a number below 2 ^ 32
abbrev pub are_words : List (ℕ × ℕ) → Bool
are_words words = list_all (λ entry. nat_lt entry.1 (2 ^ 32)) words

-- the word of a row, and 0 if the row isn't there
abbrev pub word_at : List (ℕ × ℕ) → ℕ → ℕ
word_at [] row = 0
word_at (entry ∷ entries) row = if entry.0 == row then entry.1 else word_at entries row

-- the words that a function gives the rows below a number
abbrev pub words_of : ℕ → (ℕ → ℕ) → List (ℕ × ℕ)
words_of size f = filter (λ entry. not (entry.1 == 0)) (map (λ row. (row, f row)) (range_with_len 0 size))
