use Rattle.std.proofs.Common.{◌≡◌, ◌++◌, take}
use Rattle.std.specs.Prelude.{string_bytes}
use Rattle.sg_ir.specs.Texts as spec
use Rattle.sg_ir.proofs.lines.+lines.Given as goal

abbrev pub invariant-push_block-loop-inst : goal.invariant-push_block-loop-inst
invariant-push_block-loop-inst l = string_bytes l.text ≡ string_bytes l.fn.text ++ spec.block_text (take l.inst-index l.block) l.indent
