use Rattle.std.proofs.Common.{◌≡◌, ◌<◌, true, take, length, All}
use Rattle.std.specs.List.{list_all}
use Rattle.sg_ir.specs.Emits.{NamesGrow}
use Rattle.sg_lower.specs.steps.Basis.{basis_of}
use Rattle.sg_lower.specs.steps.Fitting.{can_be_lowered}
use Rattle.sg_lower.specs.steps.Agreeing.{AllValues}
use Rattle.sg_lower.specs.steps.Using.{all_uses, Uses}
use Rattle.sg_lower.specs.steps.Asking.{AsksExprs}
use Rattle.sg_lower.specs.steps.Typing.{AddsIndex}
use Rattle.sg_ir.specs.WellTyped.{set_vars}
use Rattle.sg_lower.proofs.lowering.Lowering.+expressions.Given as goal

-- the registers of the parts so far
abbrev pub invariant-indices-loop-part : goal.invariant-indices-loop-part
invariant-indices-loop-part l = record {
  grows : NamesGrow l.fn.names l.names;
  named : All (λ r. r < length l.names.regs) l.regs;
  count : length l.regs ≡ l.part-index;
  values : list_all (can_be_lowered (basis_of l.layouts l.self)) l.index ≡ true → AllValues (basis_of l.layouts l.self) (take l.part-index l.index) l.regs l.fn.names l.names l.fn.block l.block;
  uses : Uses (all_uses l.self.owned (take l.part-index l.index)) l.fn.block l.block;
  asks : AsksExprs (take l.part-index l.index) l.fn.block l.block;
  typed : AddsIndex l.layouts.list (take l.part-index l.index) l.regs l.fn.names l.names l.fn.block l.block;
  vars : set_vars l.block ≡ set_vars l.fn.block;
}
