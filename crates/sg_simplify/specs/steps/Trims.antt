-- What the pass knows of spans and of the checks on the way to places is what the walk over its output knows.
use Rattle.std.specs.Prelude.{◌≡◌, refl, ℕ, suc, ◌==◌, Bool, true, false, ◌&&◌, List, [], ◌∷◌, ◌++◌}
use Rattle.std.specs.List.{list_all}
use Rattle.sg_layout.specs.declared.shape.Shape.{Shape}
use Rattle.sg_ir.specs.declared.op.Op.{Op}
use Rattle.sg_ir.specs.declared.op.Op.TheVariants as op
use Rattle.sg_ir.specs.declared.op.Step.{Step}
use Rattle.sg_ir.specs.declared.op.Step.TheVariants as step
use Rattle.sg_ir.specs.Blocks.{Block, End, Word, Spot, Cell, Do, Branch, Loop, Act, SetVar, WriteOwn, Contribute, Wish, Sight, Value, Activity}
use Rattle.sg_ir.specs.Span.{whole_i32, Spans, reg_span, var_span, op_span, with_span, in_loop}
use Rattle.sg_ir.specs.Trimmed.{is_within, AxisCheck, Way, Ways, way_of, way_behind, and_check, are_checks, is_trim, is_trim_in, listed}
use Rattle.sg_ir.specs.InScope.{InScope, step_places, AreSet}
use Rattle.sg_simplify.specs.steps.Pass.{Given, Pass, Next, Making, span_in, vars_of, sight_layout}
use Rattle.sg_simplify.specs.steps.Serves.{EachByRecursion}
use Rattle.sg_simplify.specs.steps.Sets.{Wider, Sets}

-- the way to a known place is that after its step
pub record StepTrims (scope : InScope) (ways : Ways) (entry : Step × ℕ) : Type 0 where
  pub named : scope.places entry.1 ≡ true
  pub places : AreSet scope.places (step_places entry.0)
  pub way : way_of ways entry.1 ≡ way_behind ways entry.1 entry.0

-- at this point the walk over the output has the pass's spans, and its way to a known step's place is that after the step
pub record Trims (given : Given) (scope : InScope) (known : Pass) (next : Next) (spans : Spans) (ways : Ways) : Type 0 where
  pub sets : Sets scope known next
  pub regs : (r : ℕ) → scope.regs r ≡ true → reg_span spans r ≡ span_in next r
  pub vars : (v : ℕ) → var_span spans v ≡ var_span (vars_of given known) v
  pub steps : EachByRecursion (StepTrims scope ways) known.steps

-- more was put out
pub record Onward (scope : InScope) (next : Next) (ways : Ways) (wide : InScope) (further : Next) (beyond : Ways) : Type 0 where
  pub wider : Wider scope wide
  pub names : further.names ≡ next.names
  pub spans : (r : ℕ) → scope.regs r ≡ true → span_in further r ≡ span_in next r
  pub kept : (p : ℕ) → scope.places p ≡ true → way_of beyond p ≡ way_of ways p

-- the axes, from this one on, and the index registers that need a check, by the spans of new registers
abbrev pub asked : Next → ℕ → List ℕ → List ℕ → List (ℕ × ℕ)
asked next axis [] index = []
asked next axis (extent ∷ extents) [] = []
asked next axis (extent ∷ extents) (r ∷ index) = and_check (is_within extent (span_in next r)) axis r (asked next (suc axis) extents index)

-- ---- accesses that are trim, where questions are put to good layouts only
-- what is seen at a place is trim, and the layout that is asked is a good one
abbrev pub sight_is_good : (ℕ → Bool) → List Shape → Spans → Ways → ℕ → Sight → List ℕ → Bool
sight_is_good good shapes spans ways place (Value layout field) index = is_trim shapes spans ways layout place index
sight_is_good good shapes spans ways place Activity index =
    is_trim_in shapes spans ways (way_of ways place).root place index && list_all good (listed (way_of ways place).root)

-- each access of a block is trim, and each layout that is asked is a good one
abbrev pub answers : (ℕ → Bool) → List Shape → Spans → Ways → Block → Bool
answers good shapes spans ways End = true
answers good shapes spans ways (Word to how rest) = answers good shapes (with_span to (op_span spans how) spans) ways rest
answers good shapes spans ways (Spot to how rest) = answers good shapes spans ((to, way_behind ways to how) ∷ ways) rest
answers good shapes spans ways (Cell to place sight index rest) = sight_is_good good shapes spans ways place sight index && answers good shapes (with_span to whole_i32 spans) ways rest
answers good shapes spans ways (Do what rest) = act_answers what && answers good shapes spans ways rest
  where
    act_answers : Act → Bool
    act_answers (SetVar var from) = true
    act_answers (WriteOwn layout field from stmt) = true
    act_answers (Contribute how layout field place from index stmt) = is_trim shapes spans ways layout place index
    act_answers (Wish layout index stmt) = true
answers good shapes spans ways (Branch cond block otherwise rest) = answers good shapes spans ways block && (answers good shapes spans ways otherwise && answers good shapes spans ways rest)
answers good shapes spans ways (Loop var lo hi body rest) = answers good shapes (in_loop var lo hi spans) ways body && answers good shapes spans ways rest

-- of given code: the layout known at a place that is asked is a good one
abbrev pub SightIsGood : (ℕ → Bool) → List (ℕ × ℕ) → ℕ → Sight → Type 0
SightIsGood good roots place (Value layout field) = Unit {0}
SightIsGood good roots place Activity = good (sight_layout roots place Activity) ≡ true

abbrev pub AsksGood : (ℕ → Bool) → List (ℕ × ℕ) → Block → Type 0
AsksGood good roots End = Unit {0}
AsksGood good roots (Word to how rest) = AsksGood good roots rest
AsksGood good roots (Spot to how rest) = AsksGood good roots rest
AsksGood good roots (Cell to place sight index rest) = SightIsGood good roots place sight × AsksGood good roots rest
AsksGood good roots (Do what rest) = AsksGood good roots rest
AsksGood good roots (Branch cond block otherwise rest) = AsksGood good roots block × AsksGood good roots otherwise × AsksGood good roots rest
AsksGood good roots (Loop var lo hi body rest) = AsksGood good roots body × AsksGood good roots rest

-- worked equations: a good layout is asked, and one that isn't
abbrev asks_layout : ℕ → Block
asks_layout layout = Spot 0 (step.Root layout) (Cell 5 0 Activity [] End)

asks_good : answers (λ l. l == 1) [] (record { regs = []; loops = []; others = λ v. whole_i32 }) [] (asks_layout 1) ≡ true
asks_good = refl

asks_other : answers (λ l. l == 1) [] (record { regs = []; loops = []; others = λ v. whole_i32 }) [] (asks_layout 2) ≡ false
asks_other = refl

-- what follows has trim accesses, given a register, or a place with such a way
abbrev pub GoesTrim : (ℕ → Bool) → Given → InScope → Next → Ways → (ℕ → Making) → Type 0
GoesTrim good given scope next ways go = (t : ℕ) (known : Pass) (further : Next) (wide : InScope) (spans : Spans) (beyond : Ways) → Onward scope next ways wide further beyond → Trims given wide known further spans beyond → wide.regs t ≡ true
    → answers good given.shapes spans beyond (go t known further).0 ≡ true

-- what follows has trim accesses, given a place in scope with such a way
abbrev pub GoesTrimAt : (ℕ → Bool) → Given → InScope → Next → Ways → (Way → Type 0) → (ℕ → Making) → Type 0
GoesTrimAt good given scope next ways is_way go = (t : ℕ) (known : Pass) (further : Next) (wide : InScope) (spans : Spans) (beyond : Ways) → Onward scope next ways wide further beyond → Trims given wide known further spans beyond → wide.places t ≡ true
    → is_way (way_of beyond t) → answers good given.shapes spans beyond (go t known further).0 ≡ true

-- a way that goes on by these checks and no others
pub record GoesOnBy (way : Way) (checks : List (ℕ × ℕ)) (whole : Way) : Type 0 where
  pub more : List AxisCheck
  pub is : whole ≡ record { root = way.root; checks = way.checks ++ more }
  pub pass : are_checks checks more ≡ true

-- what sees something at a place is trim
abbrev pub OpIsTrim : (ℕ → Bool) → Given → Spans → Ways → Op → List ℕ → Type 0
OpIsTrim good given spans ways (op.Read place layout field) index = sight_is_good good given.shapes spans ways place (Value layout field) index ≡ true
OpIsTrim good given spans ways (op.Active place) index = sight_is_good good given.shapes spans ways place Activity index ≡ true
OpIsTrim good given spans ways how index = Unit {0}
