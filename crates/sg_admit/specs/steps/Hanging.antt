-- What the code collects of the variables that depend on others.
use Rattle.std.specs.Prelude.{◌≡◌, ℕ, ◌+◌, Bool, true, false, not, ◌&&◌, ◌||◌, List, [], ◌∷◌, length}
use Rattle.std.specs.List.{list_all, list_any}
use Rattle.sg_types.specs.declared.typed.TypedExpr.{TypedExpr}
use Rattle.sg_admit.specs.declared.ways.FieldWay.{FieldWay}
use Rattle.sg_admit.specs.declared.text.Text.{Text}
use Rattle.sg_admit.specs.declared.hangs.Links.{Links}
use Rattle.sg_admit.specs.declared.hangs.Hangs.{Hangs}
use Rattle.sg_admit.specs.Lines.{Around, Line}
use Rattle.sg_admit.specs.Clean.{Unclean, is_clean, Giving, givings, is_clean_giving}
use Rattle.sg_admit.specs.Rules.{is_of_field}
use Rattle.sg_admit.specs.steps.Noting.{tests_in}
use Rattle.sg_words.specs.Spread.{has_spread, bears_mark}

-- a set of variables, and one of places
abbrev pub Vars : Type 0
Vars = ℕ → Bool

-- a set of places: each `if` has one and each variable has one
abbrev pub PlaceSet : Type 0
PlaceSet = ℕ → Bool

-- a test of sets of places
abbrev pub Test : Type 0
Test = PlaceSet → Bool

-- a field is written by one of the writes, in whatever way
abbrev pub is_noted_in : List FieldWay → ℕ → ℕ → Bool
is_noted_in ways layout place = list_any (is_of_field layout place) ways

-- what isn't clean beside the given fields and variables
abbrev pub unclean_beside : (ℕ → ℕ → Bool) → Vars → Unclean
unclean_beside fields vars = record { fields = fields; vars = vars }

-- the variables whose places are in a set: they stand after those of the `if`s
abbrev pub vars_in : Text → PlaceSet → Vars
vars_in text places var = places (text.ifs + var)

-- an expression, or each of a list, is clean where the variables whose places are in the set aren't
abbrev pub is_clean_by : Text → PlaceSet → TypedExpr → Bool
is_clean_by text places expr = is_clean (unclean_beside (is_noted_in text.writes) (vars_in text places)) expr

-- each of these expressions is clean where the written fields, and the variables whose places are in the set, aren't
abbrev pub are_clean_by : Text → PlaceSet → List TypedExpr → Bool
are_clean_by text places exprs = list_all (is_clean (unclean_beside (is_noted_in text.writes) (vars_in text places))) exprs

-- a place is in the set where an expression isn't clean or the place of the `if` round it is in the set
abbrev pub is_in_set : Text → PlaceSet → ℕ → ℕ → TypedExpr → Bool
is_in_set text places round to expr = (is_clean_by text places expr || places to) && (not (places round) || places to)

-- sets have spread along the links where they had and the test holds
abbrev pub SpreadWhereTested : Test → Links → Links → Type 0
SpreadWhereTested test before after = (places : PlaceSet) → has_spread places after.links after.start ≡ (has_spread places before.links before.start && test places)

-- the set has each place that is marked by itself, and each where a link from one of it leads
abbrev pub IsSpread : Links → PlaceSet → Type 0
IsSpread links places = has_spread places links.links links.start ≡ true

-- the variables have each one that gets a word from what isn't clean beside them
abbrev pub has_givings : (ℕ → ℕ → Bool) → List Giving → Vars → Bool
has_givings fields all vars = list_all (λ giving. is_clean_giving (unclean_beside fields vars) giving || vars giving.var) all

-- the set has the place of each variable that the lines give a word from what isn't clean by the set
abbrev pub has_given : Text → PlaceSet → List Line → Bool
has_given text places lines = has_givings (is_noted_in text.writes) (givings lines) (vars_in text places)

-- from the given place on, an `if` after the other is in the set exactly when its condition or one round it isn't clean
abbrev pub AreSettled : Text → PlaceSet → ℕ → List (List TypedExpr) → Type 0
AreSettled text places at [] = Unit {0}
AreSettled text places at (conditions ∷ more) = (places at ≡ not (are_clean_by text places conditions)) × AreSettled text places (at + 1) more

-- The links of lines in an `if` with the given place are added: a set that has spread along them has each variable that the lines give
-- a word from what isn't clean; and a set that has these, and exactly the `if`s that aren't clean, has spread along them.
pub record AddsLinks (text : Text) (round : ℕ) (lines : Around → List Line) (before after : Hangs) : Type 0 where
  pub ifs : (around : Around) → after.ifs ≡ before.ifs + length (tests_in (lines around))
  pub keeps : (places : PlaceSet) → IsSpread after.links places → IsSpread before.links places
  pub sound : (places : PlaceSet) (around : Around) → (places round ≡ false → are_clean_by text places around.conditions ≡ true)
      → IsSpread after.links places → has_given text places (lines around) ≡ true
  pub complete : (places : PlaceSet) (around : Around) → places round ≡ not (are_clean_by text places around.conditions)
      → AreSettled text places before.ifs (tests_in (lines around)) → IsSpread before.links places → has_given text places (lines around) ≡ true
      → IsSpread after.links places

-- the least set of variables that has each one which the lines give a word from what isn't clean beside it
pub record IsLeastGiven (ways : List FieldWay) (lines : List Line) (dirty : List Bool) : Type 0 where
  pub given : has_givings (is_noted_in ways) (givings lines) (bears_mark dirty) ≡ true
  pub least : (vars : Vars) → has_givings (is_noted_in ways) (givings lines) vars ≡ true → (var : ℕ) → bears_mark dirty var ≡ true → vars var ≡ true
