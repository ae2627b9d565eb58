use Rattle.std.proofs.Common.{◌≡◌, ℕ, true, sym, ◌∙◌, subst}
use Rattle.std.specs.Prelude.{List, length}
use Rattle.std.proofs.lemmas.Option.{same_Some}
use Rattle.sg_store.specs.Spots.{LeadsAlong}
use Rattle.sg_store.specs.StoreWords.{StoreWords}
use Rattle.sg_store.specs.WellFormed.{IsWellFormed}
use Rattle.sg_exec.proofs.PlacesHeld as held
use Rattle.sg_exec.proofs.lanes.spots.is_cell_held.Goals as goal

pub is_cell-requires : goal.is_cell-requires
is_cell-requires c = record { leads = held.spot_of c.args.view.now c.args.held c.in-Some.store.now c.requires.held (sym c.in-Some.ensures) }

pub returns-in-Some : goal.returns-in-Some
returns-in-Some c = λ store there.
    subst (λ (s : StoreWords). (path : List ℕ) → LeadsAlong s c.args.held.spot path → length path ≡ length s.shape.nodes → (c.is_cell.result ≡ true) × IsWellFormed s)
    (same_Some c.in-Some.store.now store (c.in-Some.ensures ∙ there)) c.is_cell.ensures

pub returns-in-None : goal.returns-in-None
returns-in-None c = λ store there path leads whole. absurd (held.not_held c.args.view.now c.args.held c.requires.held c.in-None.ensures)
