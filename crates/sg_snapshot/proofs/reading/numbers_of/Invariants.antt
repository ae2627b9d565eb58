use Rattle.std.proofs.Common.{◌≡◌, ◌*◌, ◌++◌}
use Rattle.std.specs.Prelude.{drop, option_map}
use Rattle.sg_snapshot.specs.Numbers.{numbers_of}
use Rattle.sg_snapshot.proofs.reading.numbers_of.Given as goal

abbrev pub invariant-loop-i : goal.invariant-loop-i
invariant-loop-i l = option_map (λ more. l.numbers.items ++ more) (numbers_of (drop (4 * l.i) l.bytes)) ≡ numbers_of l.bytes
