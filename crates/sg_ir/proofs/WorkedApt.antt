-- Worked kernel code: apt, named and well typed, and code that isn't.
use Rattle.std.proofs.Common.{◌≡◌, ℕ, zero, suc, All, Option, true, false, List, [], ◌∷◌, filter, Some, None, refl, sym, ap, ◌∙◌, subst, lit<, arith, inl, inr}
use Rattle.std.specs.Prelude.{Contains, slice_get, option_map}
use Rattle.std.specs.List.{AllZip, AllByRecursion}
use Rattle.sg_words.proofs.Uses.{contains_none, contains_cases}
use Rattle.sg_words.specs.declared.operators.Ty.{Ty}
use Rattle.sg_words.specs.declared.operators.Ty.TheVariants as ty
use Rattle.sg_words.specs.declared.operators.BinOp.TheVariants as b
use Rattle.sg_coord.specs.declared.coord.Coord.{Coord}
use Rattle.sg_layout.specs.declared.shape.Shape.{Shape}
use Rattle.sg_layout.specs.Examples.{at1, line_of_four}
use Rattle.sg_flat.specs.declared.effects.Way.{Way}
use Rattle.sg_flat.specs.declared.effects.Way.TheVariants.{Own, Acc}
use Rattle.sg_flat.specs.declared.effects.Domain.TheVariants.{Walk, Range}
use Rattle.sg_flat.specs.declared.state.FlatState.{FlatState}
use Rattle.sg_flat.specs.State.{IsFlat, IsFlatField, opening, opening_layout}
use Rattle.sg_ir.specs.declared.code.Inst.{Inst}
use Rattle.sg_ir.specs.declared.code.Inst.TheVariants as v
use Rattle.sg_ir.specs.declared.code.Code.{Code}
use Rattle.sg_ir.specs.declared.code.KernelCode.{KernelCode}
use Rattle.sg_ir.specs.Runs.{Seen, Moved, Place, Access, CodeWrite, CodeWant, iteration}
use Rattle.sg_ir.specs.Places.{place_at}
use Rattle.sg_ir.specs.Named.{AreNamed, IsNamed}
use Rattle.sg_ir.specs.Apt.{Use, Writes, Reads, ReadsOwn, IsWantOf, KeepsItsWays, IsApt, WantsItsWrites, may_activate, uses_in, uses_step}
use Rattle.sg_ir.specs.Touches.{layouts_written, layouts_touched, wanted_step, rooted_step}
use Rattle.sg_ir.specs.WellTyped.{Frame, frame_of, sets_step, is_well_typed}
use Rattle.sg_ir.specs.Trimmed.{asked_in}
use Rattle.sg_ir.specs.Trails.{asked_by}
use Rattle.sg_ir.proofs.Judging.{judges-Const, judges-Bin, judges-OwnRead, judges-OwnWrite}
use Rattle.sg_flat.specs.Domain.{domain_points}
use Rattle.sg_ir.proofs.Equations.{does-Const, does-Bin, does-Root, does-ReadCell, does-OwnRead, does-OwnWrite, does-Want}
use Rattle.sg_ir.proofs.Trailing.{trail-OwnRead, trail-Const, trail-Bin, trail-OwnWrite, asked-row}
use Rattle.sg_ir.proofs.Folds.{fold-Const, fold-Bin, fold-Root, fold-IsActive, fold-OwnRead, fold-OwnWrite, fold-Want}

-- one layout of four points with one field
abbrev shapes : List Shape
shapes = line_of_four ∷ []

abbrev seen_in : FlatState → Coord → Seen
seen_in state at = record { shapes = shapes; state = state; at = at }

-- `x[i] = x[i] + 1;`, and nothing that is wanted
abbrev adds_one : List Inst
adds_one = v.OwnRead 0 0 0 ∷ v.Const 1 1 ∷ v.Bin 2 b.Add ty.I32 0 1 ∷ v.OwnWrite 0 0 2 1 ∷ []

abbrev code_of : List Ty → List Inst → Code
code_of regs body = record { regs = regs; places = 0; vars = ty.I32 ∷ []; body = body }

abbrev three : List Ty
three = ty.I32 ∷ ty.I32 ∷ ty.I32 ∷ []

abbrev increments : KernelCode
increments = record { slice = code_of [] []; code = code_of three adds_one; domain = Walk 0 }

-- what a run tells, as words that stay
accessed : Moved → List Access
accessed now = now.accesses

accessed-is : (now : Moved) → accessed now ≡ now.accesses
unfolding accessed
accessed-is now = refl

activating : Moved → List CodeWrite
activating now = filter (may_activate (Walk 0)) now.writes

activating-is : (now : Moved) → activating now ≡ filter (may_activate (Walk 0)) now.writes
unfolding activating
activating-is now = refl

accesses_none : (seen : Seen) → accessed (iteration seen adds_one) ≡ []
accesses_none seen = simp (does-Const seen, does-Bin seen, does-OwnRead seen, does-OwnWrite seen) (accessed-is _)

activates_none : (seen : Seen) → activating (iteration seen adds_one) ≡ []
activates_none seen = simp (does-Const seen, does-Bin seen, does-OwnRead seen, does-OwnWrite seen) (activating-is _)

uses_are : uses_in adds_one ≡ ReadsOwn 0 0 ∷ Writes 0 0 Own ∷ []
uses_are = simp (fold-Const uses_step, fold-Bin uses_step, fold-OwnRead uses_step, fold-OwnWrite uses_step)

-- what each use of it is
abbrev IsUse : Use → Type 0
IsUse (Writes layout field way) = (layout ≡ 0) × (way ≡ Own)
IsUse (Reads layout field) = ⊥
IsUse (ReadsOwn layout field) = Unit {0}

of_all : (uses : List Use) → AllByRecursion IsUse uses → (it : Use) → Contains uses it → IsUse it
of_all [] all it has = absurd (contains_none it has)
of_all (first ∷ uses) all it has = elim (contains_cases it first uses has) [
  | inl same ↦ subst IsUse same all.0
  | inr later ↦ of_all uses all.1 it later
]

each_use : (it : Use) → Contains (uses_in adds_one) it → IsUse it
each_use it has = of_all (ReadsOwn 0 0 ∷ Writes 0 0 Own ∷ []) (tt, ((refl, refl), tt)) it (subst (λ (uses : List Use). Contains uses it) uses_are has)

abbrev IsAcc : Way → Type 0
IsAcc Own = ⊥
IsAcc (Acc op) = Unit {0}

ways : KeepsItsWays shapes (Walk 0) (uses_in adds_one)
ways = record {
  one_way = λ layout field way other has also. (each_use (Writes layout field way) has).1 ∙ sym (each_use (Writes layout field other) also).1;
  unread = λ layout field way has reads. each_use (Reads layout field) reads;
  no_own_read = λ layout field op has reads. subst IsAcc (each_use (Writes layout field (Acc op)) has).1 tt;
  own_axes = λ layout field has. ap (λ (n : ℕ). option_map (λ (shape : Shape). shape.axes) (slice_get shapes n)) (each_use (Writes layout field Own) has).0;
}

-- it asks nothing
asks_none : asked_in adds_one ≡ []
asks_none =
    let along : asked_by adds_one [] ≡ [] = simp (trail-OwnRead, trail-Const, trail-Bin, trail-OwnWrite) in
    asked-row adds_one ∙ along

none_named : AreNamed shapes []
none_named k d below = absurd (omega (arith, below))

-- apt
pub increments_is_apt : IsApt shapes increments
increments_is_apt = record {
  domain = lit< tt;
  slice_named = λ state fine at has. none_named;
  code_named = λ state fine at has. subst (AreNamed shapes) (sym (sym (accessed-is _) ∙ accesses_none (seen_in state at))) none_named;
  wants = λ state fine at has. subst (λ (writes : List CodeWrite). AllZip (IsWantOf shapes) [] writes) (sym (sym (activating-is _) ∙ activates_none (seen_in state at))) tt;
  ways = ways;
  asks = λ layout field way has asked. let there = subst (λ (layouts : List ℕ). Contains layouts layout) asks_none asked in absurd (omega (arith, there.1));
}

-- well typed; and where the sum is of a register that nothing sets it isn't
abbrev frame : List Inst → Frame
frame body = frame_of shapes (code_of three body)

increments_is_well_typed : is_well_typed shapes increments.code ≡ true
increments_is_well_typed =
    simp (judges-Const (frame adds_one), judges-Bin (frame adds_one), judges-OwnRead (frame adds_one), judges-OwnWrite (frame adds_one), fold-Const sets_step, fold-Bin sets_step, fold-OwnRead sets_step, fold-OwnWrite sets_step)

abbrev without_read : List Inst
without_read = v.Const 1 1 ∷ v.Bin 2 b.Add ty.I32 0 1 ∷ v.OwnWrite 0 0 2 1 ∷ []

unset_register_is_not : is_well_typed shapes (code_of three without_read) ≡ false
unset_register_is_not =
    simp (judges-Const (frame without_read), judges-Bin (frame without_read), fold-Const sets_step, fold-Bin sets_step, fold-OwnWrite sets_step)

-- ---- what isn't named, and what isn't apt, by the run at the point 0 of the opening state

abbrev opened : FlatState
opened = opening shapes

abbrev seen_first : Seen
seen_first = seen_in opened (at1 0)

opened_fits : All (IsFlatField line_of_four (opening_layout line_of_four).active) (opening_layout line_of_four).fields
opened_fits zero d below = record { canonical = refl; in_range = refl; active_rows = λ k e under. absurd (omega (arith, under)) }
opened_fits (suc k) d below = absurd (omega (arith, below))

opened_is_flat : IsFlat shapes opened
opened_is_flat = (record { closed = refl; field_count = refl; fields_fit = opened_fits }, tt)

there : Contains (domain_points opened (Walk 0)) (at1 0)
there = (0, lit< tt, refl)

-- a read at the root, which has no path: that isn't the place of the coordinate that its register names
abbrev reads_root : List Inst
reads_root = v.Root 0 0 ∷ v.Const 0 0 ∷ v.ReadCell 1 0 0 0 (0 ∷ []) ∷ []

root_accessed : accessed (iteration seen_first reads_root) ≡ record { asks = false; layout = 0; place = Some (record { layout = 0; path = [] }); at = at1 0 } ∷ []
root_accessed = simp (does-Root seen_first, does-Const seen_first, does-ReadCell seen_first) (accessed-is _)

abbrev HasNoPath : Option Place → Type 0
HasNoPath None = ⊥
HasNoPath (Some place) = place.path ≡ []

abbrev IsEmpty : List ℕ → Type 0
IsEmpty [] = Unit {0}
IsEmpty (x ∷ xs) = ⊥

root_is_not_named : IsNamed shapes (Walk 0) reads_root → ⊥
root_is_not_named named =
    let accesses = subst (AreNamed shapes) (sym (accessed-is _) ∙ root_accessed) (named opened opened_is_flat (at1 0) there) in
    let place : HasNoPath (place_at shapes 0 (at1 0)) = subst HasNoPath (accesses 0 (record { asks = false; layout = 0; place = None; at = at1 0 }) (lit< tt)) refl in
    subst IsEmpty (sym place) tt

-- a want that no write has
abbrev wants_first : List Inst
wants_first = v.Const 0 0 ∷ v.Want 0 (0 ∷ []) 1 ∷ []

wanted : Moved → List CodeWant
wanted now = now.wants

wanted-is : (now : Moved) → wanted now ≡ now.wants
unfolding wanted
wanted-is now = refl

first_wanted : wanted (iteration seen_first wants_first) ≡ record { layout = 0; stmt = 1; at = at1 0 } ∷ []
first_wanted = simp (does-Const seen_first, does-Want seen_first) (wanted-is _)

want_without_write_is_not_apt : WantsItsWrites shapes (Walk 0) wants_first adds_one → ⊥
want_without_write_is_not_apt wants =
    let pairs = wants opened opened_is_flat (at1 0) there in
    let with_want = subst (λ (ws : List CodeWant). AllZip (IsWantOf shapes) ws (filter (may_activate (Walk 0)) (iteration seen_first adds_one).writes)) (sym (wanted-is _) ∙ first_wanted) pairs in
    subst (λ (writes : List CodeWrite). AllZip (IsWantOf shapes) (record { layout = 0; stmt = 1; at = at1 0 } ∷ []) writes) (sym (activating-is _) ∙ activates_none seen_first) with_want

-- ---- what it writes and touches: the layout twice in the text, and once by its walk

increments_write : layouts_written increments ≡ 0 ∷ []
increments_write =
    simp (fold-Const wanted_step, fold-Bin wanted_step, fold-OwnRead wanted_step, fold-OwnWrite wanted_step, fold-Const uses_step, fold-Bin uses_step, fold-OwnRead uses_step, fold-OwnWrite uses_step)

increments_touch : layouts_touched increments ≡ 0 ∷ 0 ∷ 0 ∷ []
increments_touch =
    simp (fold-Const rooted_step, fold-Bin rooted_step, fold-OwnRead rooted_step, fold-OwnWrite rooted_step, fold-Const wanted_step, fold-Bin wanted_step, fold-OwnRead wanted_step, fold-OwnWrite wanted_step, fold-Const uses_step, fold-Bin uses_step, fold-OwnRead uses_step, fold-OwnWrite uses_step)

-- a slice that wants a coordinate writes its layout
wanting : KernelCode
wanting = record { slice = code_of (ty.I32 ∷ []) (v.Const 0 0 ∷ v.Want 3 (0 ∷ []) 1 ∷ []); code = code_of [] []; domain = Range (at1 0) (at1 4) }

wanting_writes : layouts_written wanting ≡ 3 ∷ []
unfolding wanting
wanting_writes = simp (fold-Const wanted_step, fold-Want wanted_step, fold-Const uses_step, fold-Want uses_step)

-- a kernel that asks touches the layout of the place
asking : KernelCode
asking = record { slice = code_of [] []; code = code_of (ty.I32 ∷ ty.Bool ∷ []) (v.Const 0 4 ∷ v.Root 0 2 ∷ v.IsActive 1 0 (0 ∷ []) ∷ []); domain = Range (at1 0) (at1 4) }

asking_touches : layouts_touched asking ≡ 2 ∷ []
unfolding asking
asking_touches =
    simp (fold-Const rooted_step, fold-Root rooted_step, fold-IsActive rooted_step, fold-Const wanted_step, fold-Root wanted_step, fold-IsActive wanted_step, fold-Const uses_step, fold-Root uses_step, fold-IsActive uses_step)

asking_writes : layouts_written asking ≡ []
unfolding asking
asking_writes = simp (fold-Const wanted_step, fold-Root wanted_step, fold-IsActive wanted_step, fold-Const uses_step, fold-Root uses_step, fold-IsActive uses_step)
