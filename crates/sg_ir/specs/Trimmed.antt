-- Trimmed code: an access is checked on exactly those axes where the span of its index doesn't show that it is inside.
use Rattle.std.specs.Prelude.{◌≡◌, refl, ℕ, suc, Bool, true, false, ◌&&◌, ◌==◌, List, [], ◌∷◌, ◌++◌, slice_get, Option, Some, None, pos, int_le, int_lt, if◌then◌else◌}
use Rattle.std.specs.List.{list_all, list_any}
use Rattle.sg_layout.specs.declared.shape.Shape.{Shape}
use Rattle.sg_layout.specs.Axes.{bounds_of_shape}
use Rattle.sg_flat.specs.declared.effects.Domain.{Domain}
use Rattle.sg_ir.specs.declared.op.Step.{Step}
use Rattle.sg_ir.specs.declared.op.Step.TheVariants as step
use Rattle.sg_ir.specs.declared.op.Descent.TheVariants as by
use Rattle.sg_ir.specs.declared.code.Inst.{Inst}
use Rattle.sg_ir.specs.Places.{extents_in}
use Rattle.sg_ir.specs.Blocks.{block_of, Sight, Value, Activity, Block, End, Word, Spot, Cell, Do, Branch, Loop, Act, SetVar, WriteOwn, Contribute, Wish}
use Rattle.sg_ir.specs.declared.span.Span.{Span}
use Rattle.sg_ir.specs.Span.{whole_i32, Spans, reg_span, op_span, with_span, in_loop, first_spans}

-- every number of the span is from 0 to below the extent
abbrev pub is_within : ℕ → Span → Bool
is_within extent span = int_le (pos 0) span.lo && int_lt span.hi (pos extent)

-- a check of an axis on an index register, with the place that it sets
pub record AxisCheck : Type 0 where
  pub axis : ℕ
  pub index : ℕ
  pub place : ℕ

-- the way to a place: the layout from whose root it comes, and the checks that it has passed, in order
pub record Way : Type 0 where
  pub root : Option ℕ
  pub checks : List AxisCheck

-- the ways to places
abbrev pub Ways : Type 0
Ways = List (ℕ × Way)

-- the way to a place; one of which nothing is known comes from no root
abbrev pub way_of : Ways → ℕ → Way
way_of [] place = record { root = None; checks = [] }
way_of (way ∷ ways) place = if way.0 == place then way.1 else way_of ways place

-- the checks that a place has passed, in order; none for a place of which nothing is known
abbrev pub way_to : Ways → ℕ → List AxisCheck
way_to ways place = (way_of ways place).checks

-- the way to a place that a step sets
abbrev pub way_behind : Ways → ℕ → Step → Way
way_behind ways to (step.Root layout) = record { root = Some layout; checks = [] }
way_behind ways to (step.Check place axis extent index) =
    record { root = (way_of ways place).root; checks = way_to ways place ++ record { axis = axis; index = index; place = to } ∷ [] }
way_behind ways to (step.Down descent place node offset) = way_of ways place

-- the layout at a place of which something is seen: that of the field, or that from whose root the place comes
abbrev pub seen_layout : Ways → ℕ → Sight → Option ℕ
seen_layout ways place (Value layout field) = Some layout
seen_layout ways place Activity = (way_of ways place).root

-- one check more if it is needed
abbrev pub and_check : Bool → ℕ → ℕ → List (ℕ × ℕ) → List (ℕ × ℕ)
and_check true axis r checks = checks
and_check false axis r checks = (axis, r) ∷ checks

-- the axes, from this one on, and the index registers that need a check, for axes of these extents
abbrev pub needed : Spans → ℕ → List ℕ → List ℕ → List (ℕ × ℕ)
needed spans axis [] index = []
needed spans axis (extent ∷ extents) [] = []
needed spans axis (extent ∷ extents) (r ∷ index) = and_check (is_within extent (reg_span spans r)) axis r (needed spans (suc axis) extents index)

-- the same, for a layout that may be there
abbrev pub needed_in : Spans → Option Shape → List ℕ → List (ℕ × ℕ)
needed_in spans None index = []
needed_in spans (Some shape) index = needed spans 0 (extents_in (bounds_of_shape shape)) index

-- these checks, in this order, and no others
abbrev pub are_checks : List (ℕ × ℕ) → List AxisCheck → Bool
are_checks [] [] = true
are_checks [] (passed ∷ way) = false
are_checks (check ∷ checks) [] = false
are_checks (check ∷ checks) (passed ∷ way) = (check.0 == passed.axis) && (check.1 == passed.index) && are_checks checks way

-- an access by index registers at a place of a layout has passed the checks that it needs
abbrev pub is_trim : List Shape → Spans → Ways → ℕ → ℕ → List ℕ → Bool
is_trim shapes spans ways layout place index = are_checks (needed_in spans (slice_get shapes layout) index) (way_to ways place)

-- the same, in a layout that may be known; what is seen of a place without one isn't trimmed
abbrev pub is_trim_in : List Shape → Spans → Ways → Option ℕ → ℕ → List ℕ → Bool
is_trim_in shapes spans ways None place index = false
is_trim_in shapes spans ways (Some layout) place index = is_trim shapes spans ways layout place index

-- each access of a block has passed the checks that it needs
abbrev pub accesses_are_trim : List Shape → Spans → Ways → Block → Bool
accesses_are_trim shapes spans ways End = true
accesses_are_trim shapes spans ways (Word to how rest) = accesses_are_trim shapes (with_span to (op_span spans how) spans) ways rest
accesses_are_trim shapes spans ways (Spot to how rest) = accesses_are_trim shapes spans ((to, way_behind ways to how) ∷ ways) rest
accesses_are_trim shapes spans ways (Cell to place sight index rest) =
    is_trim_in shapes spans ways (seen_layout ways place sight) place index && accesses_are_trim shapes (with_span to whole_i32 spans) ways rest
accesses_are_trim shapes spans ways (Do what rest) = act_is_trim what && accesses_are_trim shapes spans ways rest
  where
    act_is_trim : Act → Bool
    act_is_trim (SetVar var from) = true
    act_is_trim (WriteOwn layout field from stmt) = true
    act_is_trim (Contribute how layout field place from index stmt) = is_trim shapes spans ways layout place index
    act_is_trim (Wish layout index stmt) = true
accesses_are_trim shapes spans ways (Branch cond block otherwise rest) =
    accesses_are_trim shapes spans ways block && (accesses_are_trim shapes spans ways otherwise && accesses_are_trim shapes spans ways rest)
accesses_are_trim shapes spans ways (Loop var lo hi body rest) =
    accesses_are_trim shapes (in_loop var lo hi spans) ways body && accesses_are_trim shapes spans ways rest

-- the places that checks of a block set
abbrev pub checks_of : Block → List ℕ
checks_of End = []
checks_of (Word to how rest) = checks_of rest
checks_of (Spot to how rest) = check_place how ++ checks_of rest
  where
    check_place : Step → List ℕ
    check_place (step.Root layout) = []
    check_place (step.Check place axis extent index) = to ∷ []
    check_place (step.Down descent place node offset) = []
checks_of (Cell to place sight index rest) = checks_of rest
checks_of (Do what rest) = checks_of rest
checks_of (Branch cond block otherwise rest) = checks_of block ++ (checks_of otherwise ++ checks_of rest)
checks_of (Loop var lo hi body rest) = checks_of body ++ checks_of rest

-- the checks that accesses of a block have passed
abbrev pub passed_in : Ways → Block → List AxisCheck
passed_in ways End = []
passed_in ways (Word to how rest) = passed_in ways rest
passed_in ways (Spot to how rest) = passed_in ((to, way_behind ways to how) ∷ ways) rest
passed_in ways (Cell to place sight index rest) = way_to ways place ++ passed_in ways rest
passed_in ways (Do what rest) = act_passed what ++ passed_in ways rest
  where
    act_passed : Act → List AxisCheck
    act_passed (SetVar var from) = []
    act_passed (WriteOwn layout field from stmt) = []
    act_passed (Contribute how layout field place from index stmt) = way_to ways place
    act_passed (Wish layout index stmt) = []
passed_in ways (Branch cond block otherwise rest) = passed_in ways block ++ (passed_in ways otherwise ++ passed_in ways rest)
passed_in ways (Loop var lo hi body rest) = passed_in ways body ++ passed_in ways rest

-- a whole block is trimmed over a domain: its accesses are, and each check serves one
abbrev pub is_trimmed : List Shape → Domain → Block → Bool
is_trimmed shapes domain block =
    accesses_are_trim shapes (first_spans shapes domain block) [] block
    && list_all (λ place. list_any (λ (passed : AxisCheck). passed.place == place) (passed_in [] block)) (checks_of block)

-- ---- which layouts are asked

-- a list of the one, or of none
abbrev pub listed : Option ℕ → List ℕ
listed None = []
listed (Some layout) = layout ∷ []

-- the layouts that a block asks by `active`, in order of the text; `ways` tell from which root each place comes
abbrev pub asked : Ways → Block → List ℕ
asked ways End = []
asked ways (Word to how rest) = asked ways rest
asked ways (Spot to how rest) = asked ((to, way_behind ways to how) ∷ ways) rest
asked ways (Cell to place sight index rest) = here sight ++ asked ways rest
  where
    here : Sight → List ℕ
    here (Value layout field) = []
    here Activity = listed (way_of ways place).root
asked ways (Do what rest) = asked ways rest
asked ways (Branch cond block otherwise rest) = asked ways block ++ (asked ways otherwise ++ asked ways rest)
asked ways (Loop var lo hi body rest) = asked ways body ++ asked ways rest

-- the layouts that a list of instructions asks
abbrev pub asked_in : List Inst → List ℕ
asked_in insts = asked [] (block_of [] insts)

-- worked equations: a way of which nothing is known, a place below a root, and one in a branch
abbrev asks_one : Block
asks_one = Spot 0 (step.Root 1) (Spot 1 (step.Check 0 0 16 2) (Spot 2 (step.Down by.Child 1 1 3) (Cell 5 2 Activity (2 ∷ []) End)))

asked_one : asked [] asks_one ≡ 1 ∷ []
asked_one = refl

asked_in_branches : asked [] (Branch 0 asks_one (Cell 6 7 Activity (2 ∷ []) End) asks_one) ≡ 1 ∷ 1 ∷ []
asked_in_branches = refl

read_asks_nothing : asked [] (Spot 0 (step.Root 1) (Cell 5 0 (Value 1 0) (2 ∷ []) End)) ≡ []
read_asks_nothing = refl
