-- The words of a field below a number of rows, and writes that stay inside.
use Rattle.std.specs.Prelude.{◌≡◌, ℕ, Bool, not, ◌||◌, List, if◌then◌else◌, ◌==◌}
use Rattle.std.specs.List.{list_all}
use Rattle.sg_coord.specs.Bounds.{Bounds}
use Rattle.sg_coord.specs.Coord.{is_inside}
use Rattle.sg_flat.specs.declared.effects.Write.{Write}
use Rattle.sg_flat.specs.Words.{word_at, words_of}

-- the words are what they themselves give the rows below a number: their rows rise below it, and no word is 0
abbrev pub AreWordsBelow : ℕ → List (ℕ × ℕ) → Type 0
AreWordsBelow size words = words ≡ words_of size (word_at words)

-- the word of each row once one row has been given a word
abbrev pub put_word : List (ℕ × ℕ) → ℕ → ℕ → ℕ → ℕ
put_word words row word other = if row == other then word else word_at words other

-- the writes to a layout are inside these bounds
abbrev pub stay_inside : Bounds → ℕ → List Write → Bool
stay_inside bounds layout writes = list_all (λ write. not (write.layout == layout) || is_inside bounds write.at) writes
