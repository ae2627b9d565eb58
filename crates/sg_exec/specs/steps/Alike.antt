-- Blocks that want the same at all points.
use Rattle.std.specs.Prelude.{◌≡◌, ℕ, ◌≤◌, nat_lt, Bool, true, false, List}
use Rattle.sg_coord.specs.declared.coord.Coord.{Coord}
use Rattle.sg_layout.specs.declared.shape.Shape.{Shape}
use Rattle.sg_flat.specs.declared.state.FlatState.{FlatState}
use Rattle.sg_ir.specs.declared.code.Inst.{Inst, fold-Inst}
use Rattle.sg_ir.specs.declared.code.Inst.TheOpen as i
use Rattle.sg_ir.specs.declared.code.Inst.TheOpen.{Inst-F}
use Rattle.sg_ir.specs.Runs.{Moved, does, runs}
use Rattle.sg_exec.specs.Running.{seen_at}

-- two runs are alike but for the variables of their points, and for what they wrote
pub record AreAlike (one other : Moved) : Type 0 where
  pub regs : (reg : ℕ) → one.regs reg ≡ other.regs reg
  pub vars : (var : ℕ) → 3 ≤ var → one.vars var ≡ other.vars var
  pub places : (place : ℕ) → one.places place ≡ other.places place
  pub wants : one.wants ≡ other.wants

-- an instruction leaves them alike, at any two points
abbrev pub InstIsAlike : Inst → Type 0
InstIsAlike inst = (shapes : List Shape) (state : FlatState) (at there : Coord) (one other : Moved) →
    AreAlike one other → AreAlike (does (seen_at shapes state at) inst one) (does (seen_at shapes state there) inst other)

-- and so does a block
abbrev pub BlockIsAlike : List Inst → Type 0
BlockIsAlike block = (shapes : List Shape) (state : FlatState) (at there : Coord) (one other : Moved) →
    AreAlike one other → AreAlike (runs (seen_at shapes state at) block one) (runs (seen_at shapes state there) block other)

-- One layer: an instruction reads a variable of the point, or its own cell, or has a block that may
abbrev pub reads_step : Inst-F Bool → Bool
reads_step (i.Var to var) = nat_lt var 3
reads_step (i.OwnRead to layout field) = true
reads_step (i.If cond block otherwise) = true
reads_step (i.For var lo hi body) = true
reads_step _ = false

-- so it is for an instruction
abbrev pub reads_point : Inst → Bool
reads_point = fold-Inst Bool reads_step
