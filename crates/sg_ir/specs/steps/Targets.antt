-- What instructions set, one by one: how often something is set, and whether numbers go up.
use Rattle.std.specs.Prelude.{ℕ, ◌+◌, Bool, true, false, ◌==◌, nat_lt, if◌then◌else◌, List, [], ◌∷◌, Option, Some, None, option_and_then, count_by, min}
use Rattle.std.specs.List.{list_all, list_any}
use Rattle.sg_ir.specs.declared.code.Inst.{Inst, fold-Inst}
use Rattle.sg_ir.specs.declared.code.Inst.TheOpen as i
use Rattle.sg_ir.specs.declared.code.Inst.TheOpen.{Inst-F}
use Rattle.sg_ir.specs.declared.settings.Target.{Target}
use Rattle.sg_ir.specs.declared.settings.Target.TheVariants as t
use Rattle.sg_ir.specs.declared.settings.Next.{Next}
use Rattle.sg_ir.specs.WellTyped.{SetName, SetsReg, SetsPlace, SetsVar, sets_step}

-- whether a setting is of this register, place or variable
abbrev pub is_setting : Target → SetName → Bool
is_setting (t.Reg r) (SetsReg n) = n == r
is_setting (t.Reg r) (SetsPlace n) = false
is_setting (t.Reg r) (SetsVar n) = false
is_setting (t.Place p) (SetsReg n) = false
is_setting (t.Place p) (SetsPlace n) = n == p
is_setting (t.Place p) (SetsVar n) = false
is_setting (t.Var v) (SetsReg n) = false
is_setting (t.Var v) (SetsPlace n) = false
is_setting (t.Var v) (SetsVar n) = n == v

-- what is set after an instruction: nothing after a block of its own
abbrev pub left_step : {A : Type 0} → Inst-F A → Option Target
left_step (i.Const to word) = Some (t.Reg to)
left_step (i.Var to var) = Some (t.Reg to)
left_step (i.Set var from) = Some (t.Var var)
left_step (i.Bin to op given a b) = Some (t.Reg to)
left_step (i.Un to op given a) = Some (t.Reg to)
left_step (i.Mulq to a b s) = Some (t.Reg to)
left_step (i.Root to layout) = Some (t.Place to)
left_step (i.Check to place axis extent index) = Some (t.Place to)
left_step (i.Extract to div size from) = Some (t.Reg to)
left_step (i.Offset to high size low) = Some (t.Reg to)
left_step (i.Child to place node offset) = Some (t.Place to)
left_step (i.HashChild to place node offset) = Some (t.Place to)
left_step (i.MaskBit to place node offset) = Some (t.Place to)
left_step (i.DynCell to place node offset) = Some (t.Place to)
left_step (i.ReadCell to place layout field index) = Some (t.Reg to)
left_step (i.IsActive to place index) = Some (t.Reg to)
left_step (i.OwnRead to layout field) = Some (t.Reg to)
left_step (i.OwnWrite layout field from stmt) = None
left_step (i.Acc op layout field place from index stmt) = None
left_step (i.Want layout index stmt) = None
left_step (i.If cond block otherwise) = None
left_step (i.For var lo hi body) = None

-- the register, place or variable that is set after an instruction; none after an `if` or a `for`, and where it sets none
abbrev pub left : Inst → Option Target
left = fold-Inst (Option Target) left_step

-- as settings
abbrev pub set_name_of : Target → SetName
set_name_of (t.Reg r) = SetsReg r
set_name_of (t.Place p) = SetsPlace p
set_name_of (t.Var v) = SetsVar v

-- a register, place or variable that may be there, as a list of settings; empty if there is none
abbrev pub settings_of : Option Target → List SetName
settings_of None = []
settings_of (Some target) = set_name_of target ∷ []

-- what an instruction and those in it set
abbrev pub inst_settings : Inst → List SetName
inst_settings = fold-Inst (List SetName) sets_step

-- how often something is set: once, not at all, or 2 for more
abbrev pub set_times : Target → List SetName → ℕ
set_times target set = min 2 (count_by (is_setting target) set)

-- the number after this one, if it isn't below the next
abbrev pub past : ℕ → ℕ → Option ℕ
past number next = if nat_lt number next then None else Some (number + 1)

-- the next numbers, where that of a register is now this one; none if there isn't one
abbrev pub with_next_reg : Next → Option ℕ → Option Next
with_next_reg from None = None
with_next_reg from (Some reg) = Some (record { reg = reg; place = from.place })

-- the next numbers, where that of a place is now this one; none if there isn't one
abbrev pub with_next_place : Next → Option ℕ → Option Next
with_next_place from None = None
with_next_place from (Some place) = Some (record { reg = from.reg; place = place })

-- the next numbers after a setting; none if its register's or place's number is below the next; a variable changes nothing
abbrev pub passes : SetName → Next → Option Next
passes (SetsReg r) from = with_next_reg from (past r from.reg)
passes (SetsPlace p) from = with_next_place from (past p from.place)
passes (SetsVar v) from = Some from

-- the numbers after settings that go up
abbrev pub ascends : Next → List SetName → Option Next
ascends from [] = Some from
ascends from (one ∷ more) = option_and_then (λ next. ascends next more) (passes one from)

-- no setting of a register or a place is there twice
abbrev pub once_in : List SetName → SetName → Bool
once_in all (SetsReg r) = nat_lt (set_times (t.Reg r) all) 2
once_in all (SetsPlace p) = nat_lt (set_times (t.Place p) all) 2
once_in all (SetsVar v) = true

-- no register or place that is set in an instruction is set twice among all these settings
abbrev pub inst_once : List SetName → Inst → Bool
inst_once all inst = list_all (once_in all) (inst_settings inst)

-- whether this is set after an instruction
abbrev pub leaves : Target → Inst → Bool
leaves what inst = list_any (is_setting what) (settings_of (left inst))
