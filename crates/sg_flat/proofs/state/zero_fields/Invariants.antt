use Rattle.std.proofs.Common.{◌≡◌, [], map, take}
use Rattle.sg_flat.proofs.state.zero_fields.Given as goal

abbrev pub invariant-loop : goal.invariant-loop
invariant-loop l = l.fields ≡ map (λ _. []) (take l.index l.types)
