-- Which of the layouts that are alike needs the fewest words.
use Rattle.std.specs.Prelude.{ℕ, suc, nat_lt, List, [], ◌∷◌, Option, Some, None, if◌then◌else◌}
use Rattle.sg_coord.specs.declared.coord.Coord.{Coord}
use Rattle.sg_layout.specs.declared.shape.Shape.{Shape}
use Rattle.sg_layout.specs.Need.{FullNode, first_full}
use Rattle.sg_convert.specs.Alike.{are_alike}
use Rattle.sg_convert.specs.Used.{used_words}

-- a layout by its number, and the words that coordinates use of it; none where they don't fit
pub record Counted : Type 0 where
  pub layout : ℕ
  pub words : Option ℕ

abbrev pub used_unless : Shape → List Coord → Option FullNode → Option ℕ
used_unless shape kept None = Some (used_words shape kept)
used_unless shape kept (Some full) = None

-- the words that coordinates use of a layout, where they fit: no node's need passes its cap
abbrev pub words_for : List Coord → Shape → Option ℕ
words_for kept shape = used_unless shape kept (first_full shape kept)

-- the counts of those of the layouts, from this number on, that are alike to a layout
abbrev pub counts_from : Shape → List Coord → ℕ → List Shape → List Counted
counts_from shape kept number [] = []
counts_from shape kept number (other ∷ others) =
    if are_alike shape other then record { layout = number; words = words_for kept other } ∷ counts_from shape kept (suc number) others
    else counts_from shape kept (suc number) others

-- of a best count so far, and the words of a layout: the earlier, unless the layout has fewer words
abbrev pub by_words : Option (ℕ × ℕ) → Option ℕ → ℕ → Option (ℕ × ℕ)
by_words best None layout = best
by_words None (Some words) layout = Some (layout, words)
by_words (Some best) (Some words) layout = if nat_lt words best.1 then Some (layout, words) else Some best

-- the first count that is least, as a layout's number and its words
abbrev pub best_of : Option (ℕ × ℕ) → List Counted → Option (ℕ × ℕ)
best_of best [] = best
best_of best (count ∷ counts) = best_of (by_words best count.words count.layout) counts
