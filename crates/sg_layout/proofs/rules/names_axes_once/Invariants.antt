use Rattle.std.proofs.Common.{◌≡◌, drop}
use Rattle.sg_layout.specs.Rules.{names_axes_once}
use Rattle.sg_layout.proofs.rules.names_axes_once.Given as goal

abbrev pub invariant-loop-index : goal.invariant-loop-index
invariant-loop-index l = names_axes_once l.axes (drop l.index l.sizes) ≡ names_axes_once l.axes l.sizes
