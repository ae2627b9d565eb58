use Rattle.std.proofs.Common.{◌≡◌, ◌++◌, drop, take, length}
use Rattle.sg_flat.specs.State.{AreFlatLayouts}
use Rattle.sg_flat.specs.Kernel.{layouts_after}
use Rattle.sg_flat.proofs.kernel.next_state.Given as goal

abbrev pub invariant-loop-number : goal.invariant-loop-number
invariant-loop-number l = record {
  meaning : l.flats ++ layouts_after (length l.yielded) (drop (length l.yielded) l.layouts.list) (drop (length l.yielded) l.state.layouts) l.effects.turns
      ≡ layouts_after 0 l.layouts.list l.state.layouts l.effects.turns;
  flat : AreFlatLayouts (take (length l.yielded) l.layouts.list) l.flats;
}
