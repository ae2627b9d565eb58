use Rattle.std.proofs.Common.{◌≡◌, ◌++◌, take}
use Rattle.std.specs.Prelude.{string_bytes}
use Rattle.sg_ir.specs.Texts as spec
use Rattle.sg_ir.proofs.lines.push_index.Given as goal

abbrev pub invariant-loop-reg : goal.invariant-loop-reg
invariant-loop-reg l = string_bytes l.text ≡ string_bytes l.fn.text ++ spec.index_text (take l.reg-index l.index)
