-- Blocks whose registers and places are read only in scope, and are never set again there.
use Rattle.std.specs.Prelude.{◌≡◌, ℕ, Bool, true, false, List, [], ◌∷◌}
use Rattle.sg_ir.specs.declared.op.Op.{Op}
use Rattle.sg_ir.specs.declared.op.Op.TheVariants as op
use Rattle.sg_ir.specs.declared.op.Step.{Step}
use Rattle.sg_ir.specs.declared.op.Step.TheVariants as step
use Rattle.sg_ir.specs.Runs.{Moved, put}
use Rattle.sg_ir.specs.Blocks.{Block, End, Word, Spot, Cell, Do, Branch, Loop, Act, SetVar, WriteOwn, Contribute, Wish}
use Rattle.sg_ir.specs.Scoped.{Room, RunMoment}

-- which registers and places are set in scope
pub record InScope : Type 0 where
  pub regs : ℕ → Bool
  pub places : ℕ → Bool

-- the scope where this register is set too
abbrev pub and_reg : ℕ → InScope → InScope
and_reg to scope = record { regs = put to true scope.regs; places = scope.places }

-- the scope where this place is set too
abbrev pub and_place : ℕ → InScope → InScope
and_place to scope = record { regs = scope.regs; places = put to true scope.places }

-- the scope if no register and no place is set
abbrev pub nothing : InScope
nothing = record { regs = λ r. false; places = λ p. false }

-- the registers and places that an operation, a step and an act read
abbrev pub op_regs : Op → List ℕ
op_regs (op.Const word truth) = []
op_regs (op.Var var) = []
op_regs (op.Bin how given a b) = a ∷ b ∷ []
op_regs (op.Un how given a) = a ∷ []
op_regs (op.Mulq a b s) = a ∷ b ∷ s ∷ []
op_regs (op.Extract div size from) = from ∷ []
op_regs (op.Offset high size low) = high ∷ low ∷ []
op_regs (op.Read place layout field) = []
op_regs (op.Active place) = []
op_regs (op.OwnRead layout field) = []

-- the place that an operation reads: that of which something is seen; no other operation reads one
abbrev pub op_places : Op → List ℕ
op_places (op.Read place layout field) = place ∷ []
op_places (op.Active place) = place ∷ []
op_places _ = []

-- the register that a step reads: the index of a check, or the offset of a step down; none for a root
abbrev pub step_regs : Step → List ℕ
step_regs (step.Root layout) = []
step_regs (step.Check place axis extent index) = index ∷ []
step_regs (step.Down descent place node offset) = offset ∷ []

-- the place that a step goes on from; none for a root
abbrev pub step_places : Step → List ℕ
step_places (step.Root layout) = []
step_places (step.Check place axis extent index) = place ∷ []
step_places (step.Down descent place node offset) = place ∷ []

-- the registers that an act reads: the one that has its value, and its index registers, so far as it has them
abbrev pub act_regs : Act → List ℕ
act_regs (SetVar var from) = from ∷ []
act_regs (WriteOwn layout field from stmt) = from ∷ []
act_regs (Contribute how layout field place from index stmt) = from ∷ index
act_regs (Wish layout index stmt) = index

-- the place that an act reads: that of a contribution; no other act reads one
abbrev pub act_places : Act → List ℕ
act_places (SetVar var from) = []
act_places (WriteOwn layout field from stmt) = []
act_places (Contribute how layout field place from index stmt) = place ∷ []
act_places (Wish layout index stmt) = []

-- all of these are set
abbrev pub AreSet : (ℕ → Bool) → List ℕ → Type 0
AreSet set [] = Unit {0}
AreSet set (r ∷ rs) = (set r ≡ true) × AreSet set rs

-- a block in a scope
abbrev pub IsScoped : InScope → Block → Type 0
IsScoped scope End = Unit {0}
IsScoped scope (Word to how rest) = AreSet scope.regs (op_regs how) × AreSet scope.places (op_places how) × (scope.regs to ≡ false) × IsScoped (and_reg to scope) rest
IsScoped scope (Spot to how rest) = AreSet scope.regs (step_regs how) × AreSet scope.places (step_places how) × (scope.places to ≡ false) × IsScoped (and_place to scope) rest
IsScoped scope (Cell to place sight index rest) = AreSet scope.places (place ∷ []) × (scope.regs to ≡ false) × IsScoped (and_reg to scope) rest × AreSet scope.regs index
IsScoped scope (Do what rest) = AreSet scope.regs (act_regs what) × AreSet scope.places (act_places what) × IsScoped scope rest
IsScoped scope (Branch cond block otherwise rest) = (scope.regs cond ≡ true) × IsScoped scope block × IsScoped scope otherwise × IsScoped scope rest
IsScoped scope (Loop var lo hi body rest) = IsScoped scope body × IsScoped scope rest

-- a run over one file of registers has made the same, so far as it is in scope
pub record AgreesInScope (scope : InScope) (room : Room) (moment : RunMoment) (moved : Moved) : Type 0 where
  pub regs : (r : ℕ) → scope.regs r ≡ true → moved.regs r ≡ room.regs r
  pub places : (p : ℕ) → scope.places p ≡ true → moved.places p ≡ room.places p
  pub roots : (p : ℕ) → scope.places p ≡ true → moved.roots p ≡ room.roots p
  pub vars : (var : ℕ) → moved.vars var ≡ moment.vars var
  pub writes : moved.writes ≡ moment.writes
  pub wants : moved.wants ≡ moment.wants
