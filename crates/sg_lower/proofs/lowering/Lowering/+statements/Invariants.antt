use Rattle.std.proofs.Common.{◌≡◌, true, take, map}
use Rattle.std.specs.List.{list_all}
use Rattle.sg_types.specs.Iterations.{run_all, action_of}
use Rattle.sg_lower.specs.steps.Basis.{basis_of}
use Rattle.sg_lower.specs.steps.Fitting.{stmt_fits}
use Rattle.sg_lower.specs.steps.Agreeing.{Steps}
use Rattle.sg_lower.specs.steps.Using.{UsesBlock}
use Rattle.sg_lower.specs.steps.Asking.{AsksBlock}
use Rattle.sg_lower.specs.steps.Typing.{AddsBlock, SetsBlock}
use Rattle.sg_lower.proofs.lowering.Lowering.+statements.Given as goal

-- the statements so far are done
abbrev pub invariant-stmts-loop-stmt : goal.invariant-stmts-loop-stmt
invariant-stmts-loop-stmt l = record {
  steps : list_all (stmt_fits (basis_of l.layouts l.self)) l.stmts ≡ true
      → Steps (basis_of l.layouts l.self) (λ world now. run_all (map (action_of world) (take l.stmt-index l.stmts)) now) l.fn.block l.block;
  uses : UsesBlock (basis_of l.layouts l.self) (take l.stmt-index l.stmts) l.fn.block l.block;
  asks : AsksBlock (take l.stmt-index l.stmts) l.fn.block l.block;
  typed : AddsBlock l.layouts.list (take l.stmt-index l.stmts) l.fn.names l.names l.fn.block l.block;
  sets : SetsBlock (take l.stmt-index l.stmts) l.fn.block l.block;
}
