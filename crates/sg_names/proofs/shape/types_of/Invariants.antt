use Rattle.std.proofs.Common.{◌≡◌, map, take}
use Rattle.sg_names.proofs.shape.types_of.Given as goal

abbrev pub invariant-loop-field : goal.invariant-loop-field
invariant-loop-field l = l.types ≡ map (λ field. field.ty) (take l.field-index l.fields)
