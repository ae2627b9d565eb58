use Rattle.std.proofs.Common.{◌≡◌, drop, length}
use Rattle.sg_flat.specs.Kernel.{first_full_layout}
use Rattle.sg_flat.proofs.kernel.first_full_layout.Given as goal

abbrev pub invariant-loop-number : goal.invariant-loop-number
invariant-loop-number l =
    first_full_layout (length l.yielded) (drop (length l.yielded) l.layouts.list) (drop (length l.yielded) l.state.layouts) l.effects.turns
    ≡ first_full_layout 0 l.layouts.list l.state.layouts l.effects.turns
