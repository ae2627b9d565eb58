use Rattle.std.proofs.Common.{◌≡◌, take}
use Rattle.sg_coord.specs.Bounds.{bounds_of}
use Rattle.sg_flat.specs.Kernel.{field_after}
use Rattle.sg_flat.specs.Effects.{writes_of}
use Rattle.sg_flat.proofs.landing.Target.after_turns.Given as goal

abbrev pub invariant-loop-turn : goal.invariant-loop-turn
invariant-loop-turn l =
    l.next ≡ field_after (bounds_of l.self.extents) l.self.layout l.self.place l.self.ty l.field (writes_of (take l.turn-index l.turns))
