-- What emitting does: runs of the whole block before and after, from every start, over layouts of these shapes.
use Rattle.std.specs.Prelude.{◌≡◌, ℕ, ◌<◌, ◌≤◌, ◌+◌, ◌^◌, ◌++◌, [], ◌∷◌, List, length, All, Option, Some}
use Rattle.sg_words.specs.declared.operators.Ty.{Ty}
use Rattle.sg_layout.specs.declared.shape.Shape.{Shape}
use Rattle.sg_ir.specs.declared.code.Inst.{Inst}
use Rattle.sg_ir.specs.declared.names.Names.{Names}
use Rattle.sg_ir.specs.Runs.{Seen, Place, Access, Moved, runs}
use Rattle.sg_ir.specs.Trimmed.{Ways, way_of}
use Rattle.sg_ir.specs.Trails.{ways_after}

-- what has a name before has it unchanged, and nothing is written or wanted, and no variable is set
pub record Keeps (r_end p_end : ℕ) (before after : Moved) : Type 0 where
  pub regs : (r : ℕ) → r < r_end → after.regs r ≡ before.regs r
  pub places : (p : ℕ) → p < p_end → after.places p ≡ before.places p
  pub roots : (p : ℕ) → p < p_end → after.roots p ≡ before.roots p
  pub vars : after.vars ≡ before.vars
  pub writes : after.writes ≡ before.writes
  pub wants : after.wants ≡ before.wants

-- names are only added
pub record NamesGrow (old new : Names) : Type 0 where
  pub regs : length old.regs ≤ length new.regs
  pub places : old.places ≤ new.places

-- a new register of a type, with the next number
pub record AddsReg (ty : Ty) (to : ℕ) (old new : Names) : Type 0 where
  pub number : to ≡ length old.regs
  pub regs : new.regs ≡ old.regs ++ ty ∷ []
  pub places : new.places ≡ old.places

-- a new place, with the next number
pub record AddsPlace (to : ℕ) (old new : Names) : Type 0 where
  pub number : to ≡ old.places
  pub regs : new.regs ≡ old.regs
  pub places : new.places ≡ old.places + 1

-- What was there stands in front, whether or not memory ran out: the types of the registers, and the instructions of the block. There are no
-- fewer places.
pub record StandInFront (old new : Names) (before after : List Inst) : Type 0 where
  pub types : List Ty
  pub regs : new.regs ≡ old.regs ++ types
  pub places : old.places ≤ new.places
  pub insts : List Inst
  pub block : after ≡ before ++ insts

-- the block after keeps what the block before made, and the ways to places that have a name before it
pub record Extends (shapes : List Shape) (old new : Names) (before after : List Inst) : Type 0 where
  pub grows : NamesGrow old new
  pub ways : (ways : Ways) (p : ℕ) → p < old.places → way_of (ways_after after ways) p ≡ way_of (ways_after before ways) p
  pub keeps : (seen : Seen) → seen.shapes ≡ shapes → (start : Moved) → Keeps (length old.regs) old.places (runs seen before start) (runs seen after start)

-- the block after accesses nothing that the block before doesn't
abbrev pub IsQuiet : List Shape → List Inst → List Inst → Type 0
IsQuiet shapes before after = (seen : Seen) → seen.shapes ≡ shapes → (start : Moved) → (runs seen after start).accesses ≡ (runs seen before start).accesses

-- a new register holds a word that depends on what was there before
pub record Computes (shapes : List Shape) (word : Seen → Moved → ℕ) (to : ℕ) (old new : Names) (before after : List Inst) : Type 0 where
  pub extends : Extends shapes old new before after
  pub quiet : IsQuiet shapes before after
  pub named : to < length new.regs
  pub value : (seen : Seen) → seen.shapes ≡ shapes → (start : Moved) → (runs seen after start).regs to ≡ word seen (runs seen before start)

-- from where a new place comes: the root of a layout, or another place
pub data From : Type 0 where
  AtRoot : (layout : ℕ) → From
  AtPlace : (place : ℕ) → From

-- the layout of the root of a place that comes from there, in a run and by the ways to places
abbrev pub root_in : From → Moved → ℕ
root_in (AtRoot layout) now = layout
root_in (AtPlace place) now = now.roots place

abbrev pub root_along : From → Ways → Option ℕ
root_along (AtRoot layout) ways = Some layout
root_along (AtPlace place) ways = (way_of ways place).root

-- a new place, which comes from there, depends on what was there before
pub record Reaches (shapes : List Shape) (place : Seen → Moved → Option Place) (from : From) (to : ℕ) (old new : Names) (before after : List Inst) : Type 0 where
  pub extends : Extends shapes old new before after
  pub quiet : IsQuiet shapes before after
  pub named : to < new.places
  pub value : (seen : Seen) → seen.shapes ≡ shapes → (start : Moved) → (runs seen after start).places to ≡ place seen (runs seen before start)
  pub rooted : (seen : Seen) → seen.shapes ≡ shapes → (start : Moved) → (runs seen after start).roots to ≡ root_in from (runs seen before start)
  pub comes : (ways : Ways) → (way_of (ways_after after ways) to).root ≡ root_along from (ways_after before ways)

-- a new place, which comes from the root of a layout, depends on what was there before, in each run where the index registers then held
-- words, below 2^32
pub record LeadsToPlace (shapes : List Shape) (index : List ℕ) (place : Seen → Moved → Option Place) (layout : ℕ) (to : ℕ) (old new : Names) (before after : List Inst) : Type 0 where
  pub extends : Extends shapes old new before after
  pub quiet : IsQuiet shapes before after
  pub named : to < new.places
  pub value : (seen : Seen) → seen.shapes ≡ shapes → (start : Moved) → All (λ r. (runs seen before start).regs r < 2 ^ 32) index
      → (runs seen after start).places to ≡ place seen (runs seen before start)
  pub rooted : (seen : Seen) → seen.shapes ≡ shapes → (start : Moved) → (runs seen after start).roots to ≡ layout
  pub comes : (ways : Ways) → (way_of (ways_after after ways) to).root ≡ Some layout

-- a new register holds a word, by one access
pub record Fetches (shapes : List Shape) (word : Seen → Moved → ℕ) (access : Moved → Access) (to : ℕ) (old new : Names) (before after : List Inst) : Type 0 where
  pub extends : Extends shapes old new before after
  pub accessed : (seen : Seen) → seen.shapes ≡ shapes → (start : Moved) → (runs seen after start).accesses ≡ (runs seen before start).accesses ++ access (runs seen before start) ∷ []
  pub named : to < length new.regs
  pub value : (seen : Seen) → seen.shapes ≡ shapes → (start : Moved) → (runs seen after start).regs to ≡ word seen (runs seen before start)

-- one instruction that sets a new register of a type
pub record PutsReg (ty : Ty) (inst : ℕ → Inst) (to : ℕ) (old new : Names) (before after : List Inst) : Type 0 where
  pub names : AddsReg ty to old new
  pub block : after ≡ before ++ inst to ∷ []

-- one instruction that sets a new place
pub record PutsPlace (inst : ℕ → Inst) (to : ℕ) (old new : Names) (before after : List Inst) : Type 0 where
  pub names : AddsPlace to old new
  pub block : after ≡ before ++ inst to ∷ []
