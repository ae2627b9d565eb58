use Rattle.std.proofs.Common.{◌≡◌, ◌≤◌, ◌++◌, ◌∷◌, [], List, ℕ, ◌⊎◌}
use Rattle.std.specs.Prelude.{None, slice_index}
use Rattle.sg_layout.specs.Axes.{sizes_of}
use Rattle.sg_store.specs.declared.spot.Spot.{Spot}
use Rattle.sg_store.specs.StoreWords.{StoreWords}
use Rattle.sg_store.specs.Walks.{cell_along}
use Rattle.sg_store.specs.Spots.{LeadsAlong}
use Rattle.sg_store.proofs.AtNumber.{some_from, none_from}
use Rattle.sg_store.proofs.store.Store.down.Goals as goal

pub under-requires-clause-leads : goal.under-requires-clause-leads
under-requires-clause-leads g c = (g.path, c.requires.0)

pub returns-clause-below : goal.returns-clause-below
returns-clause-below g c =
    let store : StoreWords = c.args.self.now in
    some_from c.under.result (λ (below : Spot). (path : List ℕ) → LeadsAlong store c.args.spot path → LeadsAlong store below (path ++ c.args.offset ∷ []))
    (λ below. LeadsAlong store below (g.path ++ c.args.offset ∷ [])) (λ below all. all g.path c.requires.0) c.under.ensures.below

pub returns-clause-none : goal.returns-clause-none
returns-clause-none g c =
    let store : StoreWords = c.args.self.now in
    none_from c.under.result
    ((path : List ℕ) → LeadsAlong store c.args.spot path → (slice_index (sizes_of store.shape.nodes) c.args.spot.node ≤ c.args.offset) ⊎ (cell_along store (path ++ c.args.offset ∷ []) ≡ None))
    ((slice_index (sizes_of store.shape.nodes) c.args.spot.node ≤ c.args.offset) ⊎ (cell_along store (g.path ++ c.args.offset ∷ []) ≡ None))
    (λ all. all g.path c.requires.0) c.under.ensures.none

pub returns-clause-live : goal.returns-clause-live
returns-clause-live g c = λ flat stands. c.under.ensures.live flat stands g.path c.requires.0
