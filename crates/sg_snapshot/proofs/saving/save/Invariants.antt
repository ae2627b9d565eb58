use Rattle.std.proofs.Common.{◌≡◌, ◌++◌, ◌∷◌, List, length, codes}
use Rattle.std.specs.List.{AllZip}
use Rattle.sg_flat.specs.declared.state.FlatLayout.{FlatLayout}
use Rattle.sg_store.specs.StandsFor.{StandsFor}
use Rattle.sg_store.specs.Standing.{shapes_of}
use Rattle.sg_snapshot.specs.Numbers.{bytes_of}
use Rattle.sg_snapshot.specs.Parts.{parts_numbers}
use Rattle.sg_snapshot.specs.Image.{parts_of}
use Rattle.sg_snapshot.proofs.Writings.{behind}
use Rattle.sg_snapshot.proofs.saving.save.Given as goal

abbrev pub invariant-loop-store : goal.invariant-loop-store
invariant-loop-store l =
    (flats : List FlatLayout) → AllZip StandsFor l.list flats → l.bytes.items ++ behind l.list flats l.store-index ≡ codes "SGS1" ++ bytes_of (length l.list ∷ parts_numbers (parts_of (shapes_of l.list) flats))
