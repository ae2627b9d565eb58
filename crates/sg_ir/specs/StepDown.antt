-- The instruction for one step down a node.
use Rattle.std.specs.Prelude.{ℕ}
use Rattle.sg_layout.specs.declared.shape.Kind.{Kind}
use Rattle.sg_layout.specs.declared.shape.Kind.TheVariants.{Dense, Bitmasked, Pointer, Hash, Dynamic}
use Rattle.sg_ir.specs.declared.code.Inst.{Inst}
use Rattle.sg_ir.specs.declared.code.Inst.TheVariants as v

-- the instruction for a node of a kind
abbrev pub child_inst : Kind → ℕ → ℕ → ℕ → ℕ → Inst
child_inst Dense to place node offset = v.Child to place node offset
child_inst Pointer to place node offset = v.Child to place node offset
child_inst Hash to place node offset = v.HashChild to place node offset
child_inst Bitmasked to place node offset = v.MaskBit to place node offset
child_inst Dynamic to place node offset = v.DynCell to place node offset
