-- No node of a store that stands for a flat layout is too full.
use Rattle.std.proofs.Common.{◌≡◌, Bool, true, false, List, [], ◌++◌, length, cond, refl, ap, ◌∙◌, arith}
use Rattle.std.specs.Prelude.{None, nat_le}
use Rattle.std.proofs.lemmas.Option.{slice_get_within}
use Rattle.sg_coord.specs.declared.coord.Coord.{Coord}
use Rattle.sg_layout.specs.declared.shape.Shape.{Shape}
use Rattle.sg_layout.specs.Live.{is_live}
use Rattle.sg_layout.specs.Closure.{closure}
use Rattle.sg_layout.specs.ClosureLaws.{ClosureAbsorbs}
use Rattle.sg_layout.specs.Need.{first_full}
use Rattle.sg_layout.specs.NeedLaws.{FullAbsorbs}
use Rattle.sg_flat.specs.declared.state.FlatLayout.{FlatLayout}
use Rattle.sg_store.specs.StoreWords.{StoreWords}
use Rattle.sg_store.specs.WellFormed.{IsWellFormed}
use Rattle.sg_store.specs.StandsFor.{StandsFor}
use Rattle.sg_store.specs.Reaching.{IsOpenThrough}
use Rattle.sg_store.proofs.NodeNeed.{NeedLaws}
use Rattle.sg_store.proofs.Reached.{needs_fit, full_none}

both : (b : Bool) (coords : List Coord) → coords ≡ cond b coords coords
both true coords = refl
both false coords = refl

-- it is open through all its nodes
open_through : (store : StoreWords) (flat : FlatLayout) → StandsFor store flat → IsOpenThrough store flat.active flat.active (length store.shape.nodes)
open_through store flat stands number slot is =
    stands.live_slots number slot is ∙ ap (λ (coords : List Coord). is_live store.shape coords number slot) (both (nat_le number (length store.shape.nodes)) flat.active)

pub stands_has_room : (store : StoreWords) → NeedLaws store.shape → IsWellFormed store → (flat : FlatLayout) → StandsFor store flat → first_full store.shape flat.active ≡ None
stands_has_room store laws well flat stands =
    full_none store.shape flat.active 1 store.shape.nodes (λ j node at.
    needs_fit store (length store.shape.nodes) flat.active flat.active laws well (open_through store flat stands) j node (slice_get_within store.shape.nodes j node at) at)

-- ── From a store as it opens ──

-- what is active at the opening adds nothing to the closure of a list
pub opening_closes : (shape : Shape) → ClosureAbsorbs shape → (wanted : List Coord) → closure shape (closure shape [] ++ wanted) ≡ closure shape wanted
opening_closes shape absorbs wanted = absorbs [] wanted

-- nor to which node is too full for it
pub opening_fills : (shape : Shape) → FullAbsorbs shape → (wanted : List Coord) → first_full shape (closure shape [] ++ wanted) ≡ first_full shape wanted
opening_fills shape absorbs wanted = absorbs [] wanted (λ at none. absurd (omega (arith, none.1)))
