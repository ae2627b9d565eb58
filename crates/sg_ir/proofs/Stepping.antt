-- One step down, whatever the node's kind.
use Rattle.std.proofs.Common.{◌≡◌, ℕ}
use Rattle.sg_layout.specs.declared.shape.Kind.{Kind}
use Rattle.sg_layout.specs.declared.shape.Kind.TheVariants.{Dense, Bitmasked, Pointer, Hash, Dynamic}
use Rattle.sg_ir.specs.Runs.{Seen, Moved, set_place, down, does}
use Rattle.sg_ir.specs.StepDown.{child_inst}
use Rattle.sg_ir.proofs.Equations.{does-Child, does-HashChild, does-MaskBit, does-DynCell}

pub does-step : (seen : Seen) (kind : Kind) (to place node offset : ℕ) (now : Moved) → does seen (child_inst kind to place node offset) now ≡ set_place to (now.roots place) (down seen.shapes node (now.regs offset) (now.places place)) now
does-step seen Dense to place node offset now = does-Child seen to place node offset now
does-step seen Pointer to place node offset now = does-Child seen to place node offset now
does-step seen Hash to place node offset now = does-HashChild seen to place node offset now
does-step seen Bitmasked to place node offset now = does-MaskBit seen to place node offset now
does-step seen Dynamic to place node offset now = does-DynCell seen to place node offset now
