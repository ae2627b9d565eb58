-- The best count is the least, and the first of those.
use Rattle.std.specs.Prelude.{◌≡◌, ℕ, ◌<◌, ◌≤◌, List, ◌∷◌, ◌++◌, Some, None, IfSome}
use Rattle.std.specs.List.{AllByRecursion}
use Rattle.sg_convert.specs.Advising.{Counted, best_of}

-- a count of more words, or of none, since they don't fit
abbrev pub HasMore : ℕ → Counted → Type 0
HasMore words count = IfSome count.words (λ other. words < other)

-- a count of as many words or more, or of none
abbrev pub HasNoFewer : ℕ → Counted → Type 0
HasNoFewer words count = IfSome count.words (λ other. words ≤ other)

-- a layout has this count among these: each one before it has more words, and none after it has fewer
pub record IsFirstLeast (counts : List Counted) (layout words : ℕ) : Type 0 where
  pub before : List Counted
  pub after : List Counted
  pub there : counts ≡ before ++ record { layout = layout; words = Some words } ∷ after
  pub earlier : AllByRecursion (HasMore words) before
  pub later : AllByRecursion (HasNoFewer words) after

-- what is best of counts is the first that is least
abbrev pub BestIsLeast : Type 0
BestIsLeast = (counts : List Counted) (layout words : ℕ) → best_of None counts ≡ Some (layout, words) → IsFirstLeast counts layout words
