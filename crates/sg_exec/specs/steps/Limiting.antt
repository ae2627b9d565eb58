-- What a slice wants, as far as its text tells it: by the greatest words that its registers and variables may have.
use Rattle.std.specs.Prelude.{◌≡◌, ℕ, ◌^◌, ◌<◌, ◌≤◌, nat_lt, Bool, true, false, List, get_or, map, slice_get, All, Some, IsSome}
use Rattle.sg_coord.specs.declared.coord.Coord.{Coord}
use Rattle.sg_coord.specs.Bounds.{Bounds}
use Rattle.sg_coord.specs.Coord.{is_inside}
use Rattle.sg_layout.specs.Axes.{bounds_of_shape}
use Rattle.sg_flat.specs.declared.state.FlatLayout.{FlatLayout}
use Rattle.sg_store.specs.StoreWords.{StoreWords}
use Rattle.sg_store.specs.StandsFor.{StandsFor}
use Rattle.sg_store.specs.Walks.{cell_in}
use Rattle.sg_ir.specs.declared.code.Inst.{Inst, fold-Inst}
use Rattle.sg_ir.specs.declared.code.Inst.TheOpen as i
use Rattle.sg_ir.specs.declared.code.Inst.TheOpen.{Inst-F}
use Rattle.sg_ir.specs.Runs.{Seen, Moved, CodeWant, coord_of, does, runs}
use Rattle.sg_exec.specs.declared.activation.limits.Limits.{Limits}
use Rattle.sg_exec.specs.declared.workers.points.Most.{Most}

-- the limit with a number: any word past the end
abbrev pub most_of : List ℕ → ℕ → ℕ
most_of limits number = get_or limits number 4294967295

-- a limit that says something: the words up to it are no numbers below 0
abbrev pub binds : ℕ → Bool
binds most = nat_lt most (2 ^ 31)

-- a word keeps to a limit that says something
abbrev pub IsUpTo : ℕ → ℕ → Type 0
IsUpTo most word = most < 2 ^ 31 → word ≤ most

-- a coordinate has a cell in whatever the store stands for
abbrev pub HasCell : StoreWords → Coord → Type 0
HasCell store at = (flat : FlatLayout) → StandsFor store flat → IsSome (cell_in store at)

-- so has each coordinate inside
abbrev pub StayDense : StoreWords → Type 0
StayDense store = (at : Coord) → is_inside (bounds_of_shape store.shape) at ≡ true → HasCell store at

-- a want inside its layout, at a coordinate that is always active
pub record IsIdleWant (stores : List StoreWords) (want : CodeWant) : Type 0 where
  pub store : StoreWords
  pub there : slice_get stores want.layout ≡ Some store
  pub inside : is_inside (bounds_of_shape store.shape) want.at ≡ true
  pub active : HasCell store want.at

-- all words of a run keep to limits, and it wanted nothing but such
pub record AreLimited (stores : List StoreWords) (limits : Limits) (now : Moved) : Type 0 where
  pub regs : (reg : ℕ) → IsUpTo (most_of limits.regs.items reg) (now.regs reg)
  pub vars : (var : ℕ) → IsUpTo (most_of limits.vars.items var) (now.vars var)
  pub wants : All (IsIdleWant stores) now.wants

-- an instruction leaves it so
abbrev pub InstIsLimited : List StoreWords → Limits → Inst → Type 0
InstIsLimited stores limits inst = (seen : Seen) (now : Moved) → AreLimited stores limits now → AreLimited stores limits (does seen inst now)

-- and so does a block
abbrev pub BlockIsLimited : List StoreWords → Limits → List Inst → Type 0
BlockIsLimited stores limits block = (seen : Seen) (now : Moved) → AreLimited stores limits now → AreLimited stores limits (runs seen block now)

-- One layer: an instruction may set a register or a variable to a word past its limit, or wants, or has a block that may
abbrev pub past_step : Limits → Inst-F Bool → Bool
past_step limits (i.Const to word) = nat_lt (most_of limits.regs.items to) word
past_step limits (i.Var to var) = nat_lt (most_of limits.regs.items to) (most_of limits.vars.items var)
past_step limits (i.Set var from) = nat_lt (most_of limits.vars.items var) (most_of limits.regs.items from)
past_step limits (i.Bin to op given a b) = binds (most_of limits.regs.items to)
past_step limits (i.Un to op given a) = binds (most_of limits.regs.items to)
past_step limits (i.Mulq to a b s) = binds (most_of limits.regs.items to)
past_step limits (i.Extract to div size from) = binds (most_of limits.regs.items to)
past_step limits (i.Offset to high size low) = binds (most_of limits.regs.items to)
past_step limits (i.ReadCell to place layout field index) = binds (most_of limits.regs.items to)
past_step limits (i.IsActive to place index) = binds (most_of limits.regs.items to)
past_step limits (i.OwnRead to layout field) = binds (most_of limits.regs.items to)
past_step limits (i.Want layout index stmt) = true
past_step limits (i.If cond block otherwise) = true
past_step limits (i.For var lo hi body) = true
past_step limits _ = false

-- so it is for an instruction
abbrev pub sets_past : Limits → Inst → Bool
sets_past limits = fold-Inst Bool (past_step limits)

-- the coordinate that index registers name is inside while their words keep to limits
abbrev pub StayInside : Bounds → Limits → List ℕ → Type 0
StayInside bounds limits index = (words : ℕ → ℕ) → ((reg : ℕ) → IsUpTo (most_of limits.regs.items reg) (words reg)) → is_inside bounds (coord_of (map words index)) ≡ true

-- what is wanted of a layout at such a coordinate is idle
abbrev pub WantsIdle : List StoreWords → Limits → ℕ → List ℕ → Type 0
WantsIdle stores limits layout index = (stmt : ℕ) (now : Moved) → AreLimited stores limits now →
    IsIdleWant stores (record { layout = layout; stmt = stmt; at = coord_of (map now.regs index) })

-- parts of points up to these keep to the limits of the first variables
pub record StartsLimited (limits : Limits) (most : Most) : Type 0 where
  pub a : most.a ≤ most_of limits.vars.items 0
  pub b : most.b ≤ most_of limits.vars.items 1
  pub c : most.c ≤ most_of limits.vars.items 2
