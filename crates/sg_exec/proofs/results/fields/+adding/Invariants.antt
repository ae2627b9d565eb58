use Rattle.std.proofs.Common.{take}
use Rattle.sg_ir.specs.Apt.{uses_in}
use Rattle.sg_exec.specs.steps.Landing.{current}
use Rattle.sg_exec.specs.steps.Passes.{AddsUses}
use Rattle.sg_exec.proofs.results.fields.+adding.Given as goal

abbrev pub invariant-add_all-loop-inst : goal.invariant-add_all-loop-inst
invariant-add_all-loop-inst g l = AddsUses (current l.reached l.stores.list) (uses_in (take l.inst-index l.code)) l.fn.fields l.fields
