-- A store of which more nodes have been opened, or were found too full.
use Rattle.std.specs.Prelude.{◌≡◌, ℕ, nat_lt, if◌then◌else◌, List, ◌++◌, Result, Ok, Err}
use Rattle.sg_words.specs.declared.memory.Stop.{Stop}
use Rattle.sg_words.specs.declared.memory.Stop.TheVariants as stop
use Rattle.sg_coord.specs.declared.coord.Coord.{Coord}
use Rattle.sg_layout.specs.declared.shape.Shape.{Shape}
use Rattle.sg_layout.specs.Need.{first_full}
use Rattle.sg_store.specs.StoreWords.{StoreWords}
use Rattle.sg_store.specs.Reaching.{IsOpenThrough}
use Rattle.sg_activate.specs.declared.fault.ActFault.{ActFault}
use Rattle.sg_activate.specs.Activating.{unless_full}
use Rattle.sg_activate.specs.Descending.{open_before, last_fused}

-- how many nodes are open after a descent, if there is one
abbrev pub open_after : Shape → ℕ
open_after shape = if nat_lt (last_fused shape) 1 then open_before shape else last_fused shape

-- whatever was active before: a store that was open through so many nodes has become one that is open through so many
abbrev pub OpensTo : StoreWords → StoreWords → ℕ → ℕ → List Coord → Type 0
OpensTo store now from to wanted =
    (old : List Coord) → IsOpenThrough store old (old ++ wanted) from → IsOpenThrough now old (old ++ wanted) to

-- the fault names the first node that is too full, whatever was active before, where so many nodes were open
abbrev pub IsFirstFull : StoreWords → ℕ → List Coord → ActFault → Type 0
IsFirstFull store from wanted fault =
    (old : List Coord) → IsOpenThrough store old (old ++ wanted) from →
    unless_full (first_full store.shape (old ++ wanted)) ≡ Err fault

-- a fact of the refusal, and nothing if memory ran out
abbrev pub IfActRefused : {A : Type 0} → Result A (Stop ActFault) → (ActFault → Type 0) → Type 0
IfActRefused (Ok x) Says = Unit {0}
IfActRefused (Err stop.Memory) Says = Unit {0}
IfActRefused (Err (stop.Refused fault)) Says = Says fault
