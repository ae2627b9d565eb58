-- A run in two halves: what is prepared over stores, and lands in them later, when other kernels may have changed what this one doesn't touch.
-- What was made is seen by three words: it can land (CanLandIn), it goes where its kernel writes (IsMadeFor), and it has landed (HasLandedIn). What
-- they say of its parts serves proofs: `prepare` and `land` promise them, and Prepared says what follows.
use Rattle.std.specs.Prelude.{◌≡◌, ℕ, List, All, Contains, Some, Result, Ok, Err, slice_get}
use Rattle.std.specs.Result.{IsOkAnd}
use Rattle.sg_words.specs.declared.memory.Stop.{Stop}
use Rattle.sg_words.specs.declared.memory.Stop.TheVariants as stop
use Rattle.sg_layout.specs.declared.shape.Shape.{Shape}
use Rattle.sg_flat.specs.declared.effects.RunFault.{RunFault}
use Rattle.sg_flat.specs.declared.state.FlatState.{FlatState}
use Rattle.sg_store.specs.StoreWords.{StoreWords}
use Rattle.sg_store.specs.WellFormed.{IsWellFormed}
use Rattle.sg_ir.specs.declared.code.KernelCode.{KernelCode}
use Rattle.sg_ir.specs.Touches.{layouts_written, layouts_touched}
use Rattle.sg_exec.specs.declared.lanes.cell_write.CellWrite.{CellWrite}
use Rattle.sg_exec.specs.declared.results.made.Made.{Made}
use Rattle.sg_exec.specs.declared.results.sums.Sum.{Sum}
use Rattle.sg_exec.specs.Standing.{shapes_of, StandForState}
use Rattle.sg_exec.specs.Running.{run_meaning}
use Rattle.sg_exec.specs.steps.Landing.{current}
use Rattle.sg_exec.specs.steps.Made.{CanLand, HasPut}
use Rattle.sg_exec.specs.steps.Puts.{kept_writes}

-- the layouts that a kernel touches have the same stores
abbrev pub AreSameWhereTouched : KernelCode → List StoreWords → List StoreWords → Type 0
AreSameWhereTouched kernel olds news = (layout : ℕ) → Contains (layouts_touched kernel) layout → slice_get news layout ≡ slice_get olds layout

-- the layouts that a kernel doesn't write have the same stores
abbrev pub KeepsUnwritten : KernelCode → List StoreWords → List StoreWords → Type 0
KeepsUnwritten kernel olds news = (layout : ℕ) → (Contains (layouts_written kernel) layout → ⊥) → slice_get news layout ≡ slice_get olds layout

-- what was made can land in the stores
abbrev pub CanLandIn : List StoreWords → Made → Type 0
CanLandIn stores made = CanLand stores made

-- it can, and it goes into layouts that the kernel writes, and no others
pub record IsMadeFor (kernel : KernelCode) (stores : List StoreWords) (made : Made) : Type 0 where
  pub lands : CanLandIn stores made
  pub shapes : shapes_of (current made.copies.items stores) ≡ shapes_of stores
  pub copies : (layout : ℕ) (copy : StoreWords) → slice_get made.copies.items layout ≡ Some (Some copy) → Contains (layouts_written kernel) layout
  pub sums : (sum : Sum) → Contains made.ended.sums.items sum → Contains (layouts_written kernel) sum.layout
  pub puts : (write : CellWrite) → Contains (kept_writes made.ended.puts) write → Contains (layouts_written kernel) write.layout

-- What was made has landed in the stores, and they have become others.
abbrev pub HasLandedIn : List StoreWords → Made → List StoreWords → Type 0
HasLandedIn stores made news = HasPut (current made.copies.items stores) made.ended news

-- What was prepared over stores holds in any others that are the same wherever the kernel touches them: at each state that these stand for a
-- refusal is that of the run, and what was made lands as the run does. Want of memory is free.
abbrev pub Prepared : List Shape → KernelCode → List StoreWords → Result Made (Stop RunFault) → Type 0
Prepared shapes kernel stores (Ok made) =
    (others : List StoreWords) (other : FlatState) → All IsWellFormed others → StandForState shapes others other → AreSameWhereTouched kernel stores others →
    (news : List StoreWords) → HasLandedIn others made news → IsOkAnd (run_meaning shapes other kernel) (StandForState shapes news)
Prepared shapes kernel stores (Err stop.Memory) = Unit {0}
Prepared shapes kernel stores (Err (stop.Refused fault)) =
    (others : List StoreWords) (other : FlatState) → All IsWellFormed others → StandForState shapes others other → AreSameWhereTouched kernel stores others →
    run_meaning shapes other kernel ≡ Err fault
