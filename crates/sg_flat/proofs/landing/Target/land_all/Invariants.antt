use Rattle.std.proofs.Common.{◌≡◌, take}
use Rattle.sg_coord.specs.Bounds.{bounds_of}
use Rattle.sg_flat.specs.Kernel.{field_after}
use Rattle.sg_flat.proofs.landing.Target.land_all.Given as goal

abbrev pub invariant-loop-write : goal.invariant-loop-write
invariant-loop-write l =
    l.field ≡ field_after (bounds_of l.self.extents) l.self.layout l.self.place l.self.ty l.fn.field (take l.write-index l.write-items)
