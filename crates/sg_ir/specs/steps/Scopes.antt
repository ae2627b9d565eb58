-- What may be used at a point of code, by what stands before it.
use Rattle.std.specs.Prelude.{◌≡◌, ℕ, suc, ◌+◌, ◌<◌, Bool, true, false, ◌||◌, List, length, drop, slice_get, Option, Some, None}
use Rattle.std.specs.List.{list_any, fold}
use Rattle.sg_ir.specs.declared.code.Inst.{Inst, fold-Inst}
use Rattle.sg_ir.specs.declared.code.Inst.TheOpen as i
use Rattle.sg_ir.specs.declared.code.Inst.TheOpen.{Inst-F}
use Rattle.sg_ir.specs.declared.settings.Target.{Target}
use Rattle.sg_ir.specs.declared.settings.Target.TheVariants as t
use Rattle.sg_ir.specs.declared.before.Before.{Before, fold-Before}
use Rattle.sg_ir.specs.declared.before.Before.TheOpen as b
use Rattle.sg_ir.specs.declared.before.Before.TheOpen.{Before-F}
use Rattle.sg_ir.specs.declared.before.Passed.{Passed}
use Rattle.sg_ir.specs.declared.before.Origin.{Origin}
use Rattle.sg_ir.specs.declared.before.Origin.TheVariants as o
use Rattle.sg_ir.specs.Runs.{put}
use Rattle.sg_ir.specs.WellTyped.{holds_of, KnownPlace, Scope}
use Rattle.sg_ir.specs.steps.Targets.{is_setting, set_name_of, left, leaves}

-- the last instruction after which this is set
pub record IsLast (what : Target) (done : List Inst) (at : ℕ) : Type 0 where
  pub within : at < length done
  pub there : holds_of (leaves what) (slice_get done at) ≡ true
  pub behind : list_any (leaves what) (drop (suc at) done) ≡ false

-- whether this was set before
abbrev pub set_step : Target → Before-F Bool → Bool
set_step what b.Start = false
set_step what (b.Block done outer) = list_any (leaves what) done.now || outer.now
set_step what (b.Loop var outer) = is_setting what (set_name_of (t.Var var)) || outer.now

-- whether this is set before a point of code, in its block or one round it, or is the variable of a loop round it
abbrev pub set_before : Target → Before → Bool
set_before what = fold-Before Bool (set_step what)

-- where the place comes from that an instruction sets
abbrev pub origin_step : {A : Type 0} → Inst-F A → Option Origin
origin_step (i.Const to word) = None
origin_step (i.Var to var) = None
origin_step (i.Set var from) = None
origin_step (i.Bin to op given a b) = None
origin_step (i.Un to op given a) = None
origin_step (i.Mulq to a b s) = None
origin_step (i.Root to layout) = Some (o.Root layout)
origin_step (i.Check to place axis extent index) = Some (o.Place place 0)
origin_step (i.Extract to div size from) = None
origin_step (i.Offset to high size low) = None
origin_step (i.Child to place node offset) = Some (o.Place place node)
origin_step (i.HashChild to place node offset) = Some (o.Place place node)
origin_step (i.MaskBit to place node offset) = Some (o.Place place node)
origin_step (i.DynCell to place node offset) = Some (o.Place place node)
origin_step (i.ReadCell to place layout field index) = None
origin_step (i.IsActive to place index) = None
origin_step (i.OwnRead to layout field) = None
origin_step (i.OwnWrite layout field from stmt) = None
origin_step (i.Acc op layout field place from index stmt) = None
origin_step (i.Want layout index stmt) = None
origin_step (i.If cond block otherwise) = None
origin_step (i.For var lo hi body) = None

-- where the place comes from that an instruction sets; none if it sets no place
abbrev pub origin : Inst → Option Origin
origin = fold-Inst (Option Origin) origin_step

-- what is known of the places
abbrev pub KnownPlaces : Type 0
KnownPlaces = ℕ → Option Passed

-- what is known of a place on from one of which this is known: its layout, and so many nodes passed; nothing if that is none
abbrev pub passed_on : ℕ → Option Passed → Option Passed
passed_on passed None = None
passed_on passed (Some known) = Some (record { layout = known.layout; passed = passed })

-- what is known of a place that comes from there
abbrev pub known_from : KnownPlaces → Option Origin → Option Passed
known_from places None = None
known_from places (Some (o.Root layout)) = Some (record { layout = layout; passed = 0 })
known_from places (Some (o.Place from passed)) = passed_on passed (places from)

-- a place that is set, where something is known of it
abbrev pub settled : ℕ → Option Passed → KnownPlaces → KnownPlaces
settled to None places = places
settled to (Some known) places = put to (Some known) places

-- what is known of the places after a setting: this of a place that it sets, if it isn't none; else what was known before
abbrev pub places_then : Option Target → Option Passed → KnownPlaces → KnownPlaces
places_then None known places = places
places_then (Some (t.Reg r)) known places = places
places_then (Some (t.Place p)) known places = settled p known places
places_then (Some (t.Var v)) known places = places

-- what is known of the places after an instruction, and after these
abbrev pub place_step : KnownPlaces → Inst → KnownPlaces
place_step places inst = places_then (left inst) (known_from places (origin inst)) places

-- what is known of the places after instructions, given what is known before them
abbrev pub places_after : KnownPlaces → List Inst → KnownPlaces
places_after places done = fold place_step places done

-- what is known of the places before a point of code
abbrev pub before_step : Before-F KnownPlaces → KnownPlaces
before_step b.Start = λ p. None
before_step (b.Block done outer) = places_after outer.now done.now
before_step (b.Loop var outer) = outer.now

-- what is known of each place at a point of code; nothing of a place that isn't set before it
abbrev pub places_before : Before → KnownPlaces
places_before = fold-Before KnownPlaces before_step

-- how much there is to look through
abbrev pub weight_step : Before-F ℕ → ℕ
weight_step b.Start = 0
weight_step (b.Block done outer) = length done.now + outer.now + 2
weight_step (b.Loop var outer) = outer.now + 2

-- how much there is to look through before a point: 1 for each instruction right in a block round it, 2 for each such block and loop
abbrev pub size_of_before : Before → ℕ
size_of_before = fold-Before ℕ weight_step

-- a scope with these registers, places and variables
abbrev pub known_by_check : Option Passed → Option KnownPlace
known_by_check None = None
known_by_check (Some known) = Some (record { layout = known.layout; passed = known.passed })

-- the scope where these registers are set, this is known of the places, and these variables may be read
abbrev pub scope_with : (ℕ → Bool) → KnownPlaces → (ℕ → Bool) → Scope
scope_with regs places vars = record { regs = regs; places = λ p. known_by_check (places p); vars = vars }

-- the scope at a point of code, where these variables may be used from the start
abbrev pub scope_at : (ℕ → Bool) → Before → Scope
scope_at free before = scope_with (λ r. set_before (t.Reg r) before) (places_before before) (λ v. free v || set_before (t.Var v) before)
