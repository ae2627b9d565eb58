use Rattle.std.proofs.Common.{◌≡◌, drop, map}
use Rattle.sg_types.specs.Expressions.{all_some}
use Rattle.sg_types.specs.Statements.{typed_range}
use Rattle.sg_types.specs.steps.Views.{known_view}
use Rattle.sg_types.proofs.AllSome.{with_front}
use Rattle.sg_types.proofs.known.Known.typed_ranges.Given as goal

-- the typed ranges so far, and those of what is left, are those of the whole
abbrev pub invariant-loop-range : goal.invariant-loop-range
invariant-loop-range l =
    with_front l.typed (all_some (map (typed_range (known_view l.self) l.scope) (drop l.range-index l.ranges)))
    ≡ all_some (map (typed_range (known_view l.self) l.scope) l.ranges)
