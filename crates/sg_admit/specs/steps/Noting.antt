-- What the code notes of a kernel's text before all else.
use Rattle.std.specs.Prelude.{◌≡◌, ℕ, ◌+◌, Bool, if◌then◌else◌, List, [], ◌∷◌, ◌++◌, length}
use Rattle.std.specs.List.{flat_map}
use Rattle.sg_types.specs.declared.typed.TypedExpr.{TypedExpr}
use Rattle.sg_types.specs.Values.{is_own}
use Rattle.sg_admit.specs.declared.ways.FieldWay.{FieldWay}
use Rattle.sg_admit.specs.declared.text.Text.{Text}
use Rattle.sg_admit.specs.Lines.{Deed, Sets, Writes, Tests, Turns, Opens, Around, Line}
use Rattle.sg_admit.specs.Rules.{first_way, has_own, has_acc, ways_in}

-- two lists of writes tell the same of each field
pub record AreAlike (xs ys : List FieldWay) : Type 0 where
  pub first : (layout place : ℕ) → first_way xs layout place ≡ first_way ys layout place
  pub own : (layout place : ℕ) → has_own xs layout place ≡ has_own ys layout place
  pub acc : (layout place : ℕ) → has_acc xs layout place ≡ has_acc ys layout place

-- a write of the same field of the same kind, own or accumulated, is there
abbrev pub has_noted : List FieldWay → FieldWay → Bool
has_noted ways it = if is_own it.way then has_own ways it.layout it.place else has_acc ways it.layout it.place

-- the variable of a statement that is an inner loop; none for another statement
abbrev pub deed_loops : Deed → List ℕ
deed_loops (Sets var value) = []
deed_loops (Writes layout place index way value) = []
deed_loops (Tests condition) = []
deed_loops (Turns var range) = var ∷ []
deed_loops (Opens ranges) = []

-- the variables of the inner loops of lines
abbrev pub loops_in : List Line → List ℕ
loops_in lines = flat_map (λ line. deed_loops line.deed) lines

-- the condition of a statement that is an `if`, before those round it; none for another statement
abbrev pub deed_tests : Around → Deed → List (List TypedExpr)
deed_tests around (Sets var value) = []
deed_tests around (Writes layout place index way value) = []
deed_tests around (Tests condition) = (condition ∷ around.conditions) ∷ []
deed_tests around (Turns var range) = []
deed_tests around (Opens ranges) = []

-- for each `if` among lines its condition and those round it
abbrev pub tests_in : List Line → List (List TypedExpr)
tests_in lines = flat_map (λ line. deed_tests line.around line.deed) lines

-- what the lines write, their loops and their `if`s are added
pub record IsNoted (lines : List Line) (before after : Text) : Type 0 where
  pub writes : AreAlike after.writes (before.writes ++ ways_in lines)
  pub loops : after.loops ≡ before.loops ++ loops_in lines
  pub ifs : after.ifs ≡ before.ifs + length (tests_in lines)

-- the same, wherever the statements stand
abbrev pub AreNoted : (Around → List Line) → Text → Text → Type 0
AreNoted lines before after = (around : Around) → IsNoted (lines around) before after
