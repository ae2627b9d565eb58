use Rattle.std.proofs.Common.{◌≡◌, ◌*◌, ◌≤◌, ◌^◌, true, drop}
use Rattle.std.specs.List.{list_all}
use Rattle.sg_layout.specs.Axes.{size_of}
use Rattle.sg_layout.specs.Rules.{is_extent}
use Rattle.sg_layout.proofs.words.size_of.Given as goal

abbrev pub invariant-loop-size : goal.invariant-loop-size
invariant-loop-size l =
    (l.product * size_of (drop l.size-index l.sizes) ≡ size_of l.sizes)
    × (list_all (λ size. is_extent size.extent) (drop l.size-index l.sizes) ≡ true) × (size_of l.sizes ≤ 2 ^ 30)
