use Rattle.std.proofs.Common.{◌≡◌, map, drop}
use Rattle.sg_names.specs.Names.{has_repeat}
use Rattle.sg_names.proofs.NameLists.{repeats_left}
use Rattle.sg_names.proofs.repeats.has_repeat.Given as goal

abbrev pub invariant-loop-thing : goal.invariant-loop-thing
invariant-loop-thing g l =
    repeats_left (λ key. key.now) l.seen.keys (map g.T.Named.name_of (drop l.thing-index l.things)) ≡ has_repeat (map g.T.Named.name_of l.things)
