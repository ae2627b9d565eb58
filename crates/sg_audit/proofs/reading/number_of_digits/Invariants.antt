use Rattle.std.proofs.Common.{◌≡◌, ◌^◌, min, take}
use Rattle.sg_audit.specs.Reading.{number_of_digits}
use Rattle.sg_audit.proofs.reading.number_of_digits.Given as goal

abbrev pub invariant-loop-digit : goal.invariant-loop-digit
invariant-loop-digit l = l.value ≡ min (number_of_digits (take l.digit-index l.digits)) (2 ^ 32)
