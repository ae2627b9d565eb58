-- What counts of a store say: of each flat layout that it stands for.
use Rattle.std.specs.Prelude.{◌≡◌, ℕ, length}
use Rattle.sg_flat.specs.declared.state.FlatLayout.{FlatLayout}
use Rattle.sg_store.specs.StoreWords.{StoreWords}
use Rattle.sg_store.specs.StandsFor.{StandsFor}

-- so many coordinates are active
abbrev pub CountsActive : StoreWords → ℕ → Type 0
CountsActive store count = (flat : FlatLayout) → StandsFor store flat → count ≡ length flat.active
