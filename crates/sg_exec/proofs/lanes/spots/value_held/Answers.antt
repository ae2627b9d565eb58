use Rattle.std.proofs.Common.{◌≡◌, ℕ, sym, ◌∙◌, subst}
use Rattle.std.specs.Prelude.{List, length}
use Rattle.std.proofs.lemmas.Option.{same_Some}
use Rattle.sg_layout.specs.Slots.{coordinate_of}
use Rattle.sg_flat.specs.declared.state.FlatLayout.{FlatLayout}
use Rattle.sg_flat.specs.State.{value_at}
use Rattle.sg_store.specs.StandsFor.{StandsFor}
use Rattle.sg_store.specs.Spots.{LeadsAlong}
use Rattle.sg_store.specs.StoreWords.{StoreWords}
use Rattle.sg_exec.proofs.PlacesHeld as held
use Rattle.sg_exec.proofs.lanes.spots.value_held.Goals as goal

pub value_in-requires : goal.value_in-requires
value_in-requires c = record { leads = held.spot_of c.args.view.now c.args.held c.in-Some.store.now c.requires.held (sym c.in-Some.ensures) }

pub returns-in-Some : goal.returns-in-Some
returns-in-Some c = λ store there.
    subst (λ (s : StoreWords). (flat : FlatLayout) → StandsFor s flat → (path : List ℕ) → LeadsAlong s c.args.held.spot path → length path ≡ length s.shape.nodes → c.value_in.result ≡ value_at s.shape flat c.args.field (coordinate_of s.shape path))
    (same_Some c.in-Some.store.now store (c.in-Some.ensures ∙ there)) c.value_in.ensures

pub returns-in-None : goal.returns-in-None
returns-in-None c = λ store there flat stands path leads whole. absurd (held.not_held c.args.view.now c.args.held c.requires.held c.in-None.ensures)
