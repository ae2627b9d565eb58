use Rattle.std.proofs.Common.{◌≡◌, map, take}
use Rattle.sg_flat.specs.State.{AreFlatLayouts, opening_layout}
use Rattle.sg_flat.proofs.state.FlatState.open.Given as goal

abbrev pub invariant-loop-layout : goal.invariant-loop-layout
invariant-loop-layout l = record {
  opening : l.flats ≡ map opening_layout (take l.layout-index l.layouts.list);
  flat : AreFlatLayouts (take l.layout-index l.layouts.list) l.flats;
}
