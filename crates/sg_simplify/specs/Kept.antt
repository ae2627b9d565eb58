-- Code from which parts are left out, and code from which none can be.
use Rattle.std.specs.Prelude.{◌≡◌, ℕ, Bool, true, false, not, ◌&&◌, ◌||◌, List, [], ◌∷◌}
use Rattle.sg_ir.specs.declared.op.Op.{Op}
use Rattle.sg_ir.specs.declared.op.Op.TheVariants as op
use Rattle.sg_ir.specs.Blocks.{Block, End, Word, Spot, Cell, Do, Branch, Loop, Act, SetVar, WriteOwn, Contribute, Wish}
use Rattle.sg_ir.specs.InScope.{AreSet, op_regs, op_places, step_regs, step_places, act_regs, act_places}

-- which registers, places and variables are kept
pub record Keep : Type 0 where
  pub regs : ℕ → Bool
  pub places : ℕ → Bool
  pub vars : ℕ → Bool

-- a block after an instruction, which stands only where a test holds
abbrev pub behind_where : Bool → (Block → Block) → Block → Block
behind_where true inst rest = inst rest
behind_where false inst rest = rest

-- a block without instructions
abbrev pub is_end : Block → Bool
is_end End = true
is_end (Word to how rest) = false
is_end (Spot to how rest) = false
is_end (Cell to place sight index rest) = false
is_end (Do what rest) = false
is_end (Branch cond block otherwise rest) = false
is_end (Loop var lo hi body rest) = false

-- writes, contributions and wants stay, and what sets a variable that is kept
abbrev pub keeps_act : Keep → Act → Bool
keeps_act keep (SetVar var from) = keep.vars var
keeps_act keep (WriteOwn layout field from stmt) = true
keeps_act keep (Contribute how layout field place from index stmt) = true
keeps_act keep (Wish layout index stmt) = true

-- A block without what isn't kept: what sets a register, a place or a variable that isn't, a branch with nothing left on either side, and
-- a loop with nothing left in it whose variable isn't kept.
abbrev pub kept_part : Keep → Block → Block
kept_part keep End = End
kept_part keep (Word to how rest) = behind_where (keep.regs to) (Word to how) (kept_part keep rest)
kept_part keep (Spot to how rest) = behind_where (keep.places to) (Spot to how) (kept_part keep rest)
kept_part keep (Cell to place sight index rest) = behind_where (keep.regs to) (Cell to place sight index) (kept_part keep rest)
kept_part keep (Do what rest) = behind_where (keeps_act keep what) (Do what) (kept_part keep rest)
kept_part keep (Branch cond block otherwise rest) =
    behind_where (not (is_end (kept_part keep block) && is_end (kept_part keep otherwise))) (Branch cond (kept_part keep block) (kept_part keep otherwise)) (kept_part keep rest)
kept_part keep (Loop var lo hi body rest) = behind_where (keep.vars var || not (is_end (kept_part keep body))) (Loop var lo hi (kept_part keep body)) (kept_part keep rest)

-- the variable that an operation reads
abbrev pub op_vars : Op → List ℕ
op_vars (op.Const word truth) = []
op_vars (op.Var var) = var ∷ []
op_vars (op.Bin how kind a b) = []
op_vars (op.Un how kind a) = []
op_vars (op.Mulq a b s) = []
op_vars (op.Extract div size from) = []
op_vars (op.Offset high size low) = []
op_vars (op.Read place layout field) = []
op_vars (op.Active place) = []
op_vars (op.OwnRead layout field) = []

-- whatever a block reads is kept, and the variable of each loop is
abbrev pub ReadsKept : Keep → Block → Type 0
ReadsKept keep End = Unit {0}
ReadsKept keep (Word to how rest) = AreSet keep.regs (op_regs how) × AreSet keep.places (op_places how) × AreSet keep.vars (op_vars how) × ReadsKept keep rest
ReadsKept keep (Spot to how rest) = AreSet keep.regs (step_regs how) × AreSet keep.places (step_places how) × ReadsKept keep rest
ReadsKept keep (Cell to place sight index rest) = AreSet keep.regs index × (keep.places place ≡ true) × ReadsKept keep rest
ReadsKept keep (Do what rest) = AreSet keep.regs (act_regs what) × AreSet keep.places (act_places what) × ReadsKept keep rest
ReadsKept keep (Branch cond block otherwise rest) = (keep.regs cond ≡ true) × ReadsKept keep block × ReadsKept keep otherwise × ReadsKept keep rest
ReadsKept keep (Loop var lo hi body rest) = (keep.vars var ≡ true) × ReadsKept keep body × ReadsKept keep rest

-- Code without a part that can be left out: whatever is kept, if what is left then reads only what is kept, all is left. So each register
-- is used by a write, a want, a contribution or a test, or leads to one through others and through variables.
abbrev pub IsLean : Block → Type 0
IsLean block = (keep : Keep) → ReadsKept keep (kept_part keep block) → kept_part keep block ≡ block
