use Rattle.std.proofs.Common.{◌≡◌, ℕ, ap, sym, ◌∙◌, subst}
use Rattle.std.specs.Prelude.{List, slice_get, length}
use Rattle.std.proofs.lemmas.Option.{same_Some}
use Rattle.sg_layout.specs.Slots.{coordinate_of}
use Rattle.sg_store.specs.Spots.{LeadsAlong}
use Rattle.sg_store.specs.StoreWords.{StoreWords}
use Rattle.sg_store.specs.Walks.{cell_in}
use Rattle.sg_exec.proofs.PlacesHeld as held
use Rattle.sg_exec.proofs.Reading.{reached_of}
use Rattle.sg_exec.proofs.lanes.spots.cell_held.Goals as goal

pub cell_under-requires : goal.cell_under-requires
cell_under-requires c = record { leads = held.spot_of c.args.view.now c.args.held c.in-Some.store.now c.requires.held (sym c.in-Some.ensures) }

pub returns-in-Some-clause-reached : goal.returns-in-Some-clause-reached
returns-in-Some-clause-reached c =
    reached_of c.args.view.now c.args.layout c.in-Some.store.now c.cell_under.result
    (ap (slice_get c.args.view.now) (sym c.if-held-layout.false) ∙ sym c.in-Some.ensures) c.cell_under.ensures.reached

pub returns-in-Some-clause-cell : goal.returns-in-Some-clause-cell
returns-in-Some-clause-cell c = λ same store there.
    subst (λ (s : StoreWords). (path : List ℕ) → LeadsAlong s c.args.held.spot path → length path ≡ length s.shape.nodes → cell_in s (coordinate_of s.shape path) ≡ c.cell_under.result)
    (same_Some c.in-Some.store.now store (c.in-Some.ensures ∙ ap (slice_get c.args.view.now) same ∙ there)) c.cell_under.ensures.cell

pub returns-in-None-clause-cell : goal.returns-in-None-clause-cell
returns-in-None-clause-cell c = λ same store there path leads whole. absurd (held.not_held c.args.view.now c.args.held c.requires.held c.in-None.ensures)
