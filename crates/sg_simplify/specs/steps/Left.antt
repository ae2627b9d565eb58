-- Code from which the pass's output is made, and what is left of that.
use Rattle.std.specs.Prelude.{◌≡◌, ℕ, Bool, true, List, [], ◌∷◌, Contains}
use Rattle.sg_layout.specs.declared.shape.Shape.{Shape}
use Rattle.sg_flat.specs.declared.effects.Domain.{Domain}
use Rattle.sg_ir.specs.declared.code.Code.{Code}
use Rattle.sg_ir.specs.declared.code.Inst.{Inst, fold-Inst}
use Rattle.sg_ir.specs.declared.code.Inst.TheOpen as i
use Rattle.sg_ir.specs.declared.code.Inst.TheOpen.{Inst-F}
use Rattle.sg_ir.specs.Named.{IsNamed}
use Rattle.sg_ir.specs.WellTyped.{is_well_typed}
use Rattle.sg_ir.specs.Apt.{Use, uses_in}
use Rattle.sg_ir.specs.Blocks.{block_in}
use Rattle.sg_ir.specs.Shared.{is_shared}
use Rattle.sg_ir.specs.Trimmed.{asked_in, is_trimmed}
use Rattle.sg_simplify.specs.Kept.{Keep, kept_part}
use Rattle.sg_simplify.specs.Simplified.{AlwaysTellsTheSame}
use Rattle.sg_words.specs.Spread.{IsLeastSpread, bears_mark}
use Rattle.sg_simplify.specs.steps.Needed.{outermost, needs_of, kept_by}

-- what the pass makes of code: all that simplified code is, but that something may be left out
pub record IsSimple (shapes : List Shape) (domain : Domain) (given made : Code) : Type 0 where
  pub same : AlwaysTellsTheSame shapes domain given.body made.body
  pub typed : is_well_typed shapes made ≡ true
  pub named : IsNamed shapes domain made.body
  pub shared : is_shared (block_in made) ≡ true
  pub trimmed : is_trimmed shapes domain (block_in made) ≡ true
  pub only : (it : Use) → Contains (uses_in made.body) it → Contains (uses_in given.body) it
  pub asks : (layout : ℕ) → Contains (asked_in made.body) layout → Contains (asked_in given.body) layout

-- what is left of code where the least set of nodes that has each need is kept
pub record IsLeft (code left : Code) : Type 0 where
  pub marks : List Bool
  pub spread : IsLeastSpread (needs_of outermost 1 (block_in code)) (outermost ∷ []) marks
  pub block : block_in left ≡ kept_part (kept_by (bears_mark marks)) (block_in code)
  pub regs : left.regs ≡ code.regs
  pub places : left.places ≡ code.places
  pub vars : left.vars ≡ code.vars

-- One layer: what sets a register, a place or a variable stays if that is kept; of what has blocks this says nothing.
abbrev pub stays_step : Keep → Inst-F Bool → Bool
stays_step keep (i.Const to word) = keep.regs to
stays_step keep (i.Var to var) = keep.regs to
stays_step keep (i.Set var from) = keep.vars var
stays_step keep (i.Bin to how kind a b) = keep.regs to
stays_step keep (i.Un to how kind a) = keep.regs to
stays_step keep (i.Mulq to a b s) = keep.regs to
stays_step keep (i.Root to layout) = keep.places to
stays_step keep (i.Check to place axis extent index) = keep.places to
stays_step keep (i.Extract to div size from) = keep.regs to
stays_step keep (i.Offset to high size low) = keep.regs to
stays_step keep (i.Child to place node offset) = keep.places to
stays_step keep (i.HashChild to place node offset) = keep.places to
stays_step keep (i.MaskBit to place node offset) = keep.places to
stays_step keep (i.DynCell to place node offset) = keep.places to
stays_step keep (i.ReadCell to place layout field index) = keep.regs to
stays_step keep (i.IsActive to place index) = keep.regs to
stays_step keep (i.OwnRead to layout field) = keep.regs to
stays_step keep (i.OwnWrite layout field from stmt) = true
stays_step keep (i.Acc how layout field place from index stmt) = true
stays_step keep (i.Want layout index stmt) = true
stays_step keep (i.If cond block otherwise) = true
stays_step keep (i.For var lo hi body) = true

-- an instruction without blocks stays
abbrev pub stays : Keep → Inst → Bool
stays keep = fold-Inst Bool (stays_step keep)
