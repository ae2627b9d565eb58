-- What the walk over a kernel's statements looks at.
use Rattle.std.specs.Prelude.{◌≡◌, ℕ, ◌+◌, ◌*◌, Bool, not, ◌&&◌, List, if◌then◌else◌, nat_le, length, Option, Some, None}
use Rattle.std.specs.List.{list_all}
use Rattle.sg_types.specs.declared.typed.TypedRange.{TypedRange}
use Rattle.sg_admit.specs.declared.faults.Reading.{Reading}
use Rattle.sg_admit.specs.declared.faults.Reading.TheVariants as reading
use Rattle.sg_admit.specs.declared.marks.Marks.{Marks}
use Rattle.sg_admit.specs.Limits.{most_loops, most_loop_turns}
use Rattle.sg_admit.specs.Lines.{Around}
use Rattle.sg_admit.specs.Clean.{is_clean}
use Rattle.sg_admit.specs.Bounds.{is_constant_range, turns_of, turns_over}
use Rattle.sg_admit.specs.Rules.{Facts, is_own_read, is_unaccumulated, writes_layout, has_good_reads, has_good_asks}
use Rattle.sg_admit.specs.declared.ways.FieldWay.{FieldWay}
use Rattle.sg_admit.specs.steps.Marked.{unclean_of}

-- whether a read is good by the rule that looks at reads so
abbrev pub good_by : Facts → Reading → ℕ → ℕ → Bool → Bool
good_by facts reading.Own = is_own_read facts
good_by facts reading.Accumulated = is_unaccumulated facts

-- the turns of a range whose bounds are constant
abbrev pub turns_if_constant : TypedRange → Option ℕ
turns_if_constant range = if is_constant_range range then Some (turns_of range) else None

-- the turns that an inner loop makes with those round it, if there are few of both
abbrev pub turns_if_few : ℕ → ℕ → Option ℕ → Option ℕ
turns_if_few depth turns None = None
turns_if_few depth turns (Some own) = if nat_le (depth + 1) most_loops && nat_le (own * turns) most_loop_turns then Some (own * turns) else None

-- what stands round a statement: whether all conditions are clean, how many loops there are, and how many turns they make
pub record IsRound (marks : Marks) (clean : Bool) (depth turns : ℕ) (around : Around) : Type 0 where
  pub conditions : list_all (is_clean (unclean_of marks)) around.conditions ≡ clean
  pub loops : length around.ranges ≡ depth
  pub product : turns_over around.ranges ≡ turns

-- each read in the bounds of a range is good
abbrev pub is_good_range : ℕ → (ℕ → ℕ → Bool → Bool) → TypedRange → Bool
is_good_range vars good range = has_good_reads vars good range.lo && has_good_reads vars good range.hi

-- a layout may be asked, if any may, unless it is written in one of these ways
abbrev pub may_ask : Bool → List FieldWay → ℕ → Bool
may_ask any ways layout = any && not (writes_layout ways layout)

-- each `active` in the bounds of a range asks a layout that may be asked
abbrev pub is_askable_range : (ℕ → Bool) → TypedRange → Bool
is_askable_range good range = has_good_asks good range.lo && has_good_asks good range.hi
