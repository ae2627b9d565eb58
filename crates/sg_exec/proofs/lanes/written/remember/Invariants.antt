use Rattle.std.proofs.Common.{◌≡◌, ◌++◌, take, drop}
use Rattle.sg_exec.specs.steps.Written.{replaced}
use Rattle.sg_exec.proofs.lanes.written.remember.Given as goal

abbrev pub invariant-loop-place : goal.invariant-loop-place
invariant-loop-place l = record {
  same : l.own.items ≡ l.fn.own.items;
  rest : take l.place l.own.items ++ replaced l.write (drop l.place l.own.items) ≡ replaced l.write l.own.items;
}
