use Rattle.std.proofs.Common.{◌≡◌, ◌++◌, eqb, map, take}
use Rattle.std.specs.Prelude.{filter}
use Rattle.sg_flat.specs.declared.effects.Write.{Write}
use Rattle.sg_flat.proofs.effects.Turn.add_written.Given as goal

abbrev pub invariant-loop-write : goal.invariant-loop-write
invariant-loop-write l =
    l.coords ≡ l.fn.coords ++ map (λ (write : Write). write.at) (filter (λ (write : Write). eqb write.layout l.number) (take l.write-index l.write-items))
