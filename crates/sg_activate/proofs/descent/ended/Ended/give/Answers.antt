use Rattle.std.proofs.Common.{◌≡◌, ℕ, List, length, refl, ap, sym, ◌∙◌, subst}
use Rattle.sg_activate.specs.Descending.{open_before}
use Rattle.sg_activate.specs.steps.DescentEnds.{HasGot, IsEnding, IsFirstOverFull, AreTaken}
use Rattle.sg_activate.proofs.DescentGiven.{refused_full, refused_link, accepted, open_through}
use Rattle.sg_activate.proofs.DescentGone.{refused_then, answers_of, taken_fit}
use Rattle.sg_activate.proofs.DescentGot.{got_first}
use Rattle.sg_activate.proofs.descent.ended.Ended.give.Goals as goal

pub taken-requires : goal.taken-requires
taken-requires c = record { same = c.requires.same.same_shape }

pub settle-requires-clause-go : goal.settle-requires-clause-go
settle-requires-clause-go c =
    let e = c.args.self.now in
    let store = c.args.store.now in
    let based : e.base ≡ open_before store.shape = e.levels_are.based ∙ ap open_before c.requires.same.same_shape in
    let v = c.requires.gathered.0 in
    let g = c.requires.gathered.1 in
    record {
      v = v;
      store = store;
      ending = (record {
        levels_are = e.levels_are;
        inside = g.inside;
        ended = g.ended;
        given = c.requires.same;
        well_formed = c.layout.ensures.well_formed;
        paths = c.paths_tell.ensures.is_slot store.shape;
        hash_first = c.opening_by_nodes.ensures.hash_first store;
        dense = c.opening_by_nodes.ensures.dense;
      });
      got = got_first e.start e.base v e.links e.masks store based c.layout.ensures.well_formed;
      fit = taken_fit e.start e.base e.levels e.links c.in-Ok.taken (length e.levels) c.in-Ok.ensures.taken.0 c.in-Ok.ensures.taken.1;
    }

pub settle-requires-clause-many : goal.settle-requires-clause-many
settle-requires-clause-many c = ap length c.as_slice.ensures ∙ c.in-Ok.ensures.taken.0

pub settle-requires-clause-taken : goal.settle-requires-clause-taken
settle-requires-clause-taken c =
    let e = c.args.self.now in
    subst (AreTaken e.start e.base e.levels e.links) (sym c.as_slice.ensures) c.in-Ok.ensures.taken.1

pub returns-in-Ok-clause-answer : goal.returns-in-Ok-clause-answer
returns-in-Ok-clause-answer c = λ v g before wanted fits was_open.
    let e = c.args.self.now in
    let store = c.args.store.now in
    let based : e.base ≡ open_before store.shape = e.levels_are.based ∙ ap open_before c.requires.same.same_shape in
    let ending : IsEnding e.start e.base e.levels v e.links e.masks store = (record {
      levels_are = e.levels_are;
      inside = g.inside;
      ended = g.ended;
      given = c.requires.same;
      well_formed = c.layout.ensures.well_formed;
      paths = c.paths_tell.ensures.is_slot store.shape;
      hash_first = c.opening_by_nodes.ensures.hash_first store;
      dense = c.opening_by_nodes.ensures.dense;
    }) in
    let now = c.settle.new.store in
    let got = c.settle.ensures v store ending (got_first e.start e.base v e.links e.masks store based c.layout.ensures.well_formed) in
    accepted e.start e.base e.levels v e.links e.masks store ending now got
    (record { is_slot = c.paths_tell.ensures.is_slot now.shape; reached = c.need_counts_live.ensures.live now.shape; once = c.need_counts_live.ensures.once now.shape; parents = c.need_counts_live.ensures.parents now.shape; up_to = c.need_counts_live.ensures.greatest now.shape })
    before wanted fits was_open

pub returns-in-Ok-clause-opened : goal.returns-in-Ok-clause-opened
returns-in-Ok-clause-opened c = λ v g before wanted fits was_open.
    let e = c.args.self.now in
    let store = c.args.store.now in
    let based : e.base ≡ open_before store.shape = e.levels_are.based ∙ ap open_before c.requires.same.same_shape in
    let ending : IsEnding e.start e.base e.levels v e.links e.masks store = (record {
      levels_are = e.levels_are;
      inside = g.inside;
      ended = g.ended;
      given = c.requires.same;
      well_formed = c.layout.ensures.well_formed;
      paths = c.paths_tell.ensures.is_slot store.shape;
      hash_first = c.opening_by_nodes.ensures.hash_first store;
      dense = c.opening_by_nodes.ensures.dense;
    }) in
    let got = c.settle.ensures v store ending (got_first e.start e.base v e.links e.masks store based c.layout.ensures.well_formed) in
    open_through e.start e.base e.levels v e.links e.masks store ending c.settle.new.store got before wanted fits was_open

pub returns-in-Ok-clause-keeps : goal.returns-in-Ok-clause-keeps
returns-in-Ok-clause-keeps c =
    let e = c.args.self.now in
    let store = c.args.store.now in
    let based : e.base ≡ open_before store.shape = e.levels_are.based ∙ ap open_before c.requires.same.same_shape in
    let v = c.requires.gathered.0 in
    let g = c.requires.gathered.1 in
    let ending : IsEnding e.start e.base e.levels v e.links e.masks store = (record {
      levels_are = e.levels_are;
      inside = g.inside;
      ended = g.ended;
      given = c.requires.same;
      well_formed = c.layout.ensures.well_formed;
      paths = c.paths_tell.ensures.is_slot store.shape;
      hash_first = c.opening_by_nodes.ensures.hash_first store;
      dense = c.opening_by_nodes.ensures.dense;
    }) in
    let got : HasGot e.start e.base v e.links e.masks store c.settle.new.store (length e.levels) = c.settle.ensures v store ending (got_first e.start e.base v e.links e.masks store based c.layout.ensures.well_formed) in
    got.keeps

pub returns-in-Ok-clause-stays_at : goal.returns-in-Ok-clause-stays_at
returns-in-Ok-clause-stays_at c =
    let e = c.args.self.now in
    let store = c.args.store.now in
    let based : e.base ≡ open_before store.shape = e.levels_are.based ∙ ap open_before c.requires.same.same_shape in
    let v = c.requires.gathered.0 in
    let g = c.requires.gathered.1 in
    let ending : IsEnding e.start e.base e.levels v e.links e.masks store = (record {
      levels_are = e.levels_are;
      inside = g.inside;
      ended = g.ended;
      given = c.requires.same;
      well_formed = c.layout.ensures.well_formed;
      paths = c.paths_tell.ensures.is_slot store.shape;
      hash_first = c.opening_by_nodes.ensures.hash_first store;
      dense = c.opening_by_nodes.ensures.dense;
    }) in
    let got : HasGot e.start e.base v e.links e.masks store c.settle.new.store (length e.levels) = c.settle.ensures v store ending (got_first e.start e.base v e.links e.masks store based c.layout.ensures.well_formed) in
    got.stays

pub returns-in-Err-clause-answer : goal.returns-in-Err-clause-answer
returns-in-Err-clause-answer c = λ v g before wanted fits was_open.
    let e = c.args.self.now in
    let store = c.args.store.now in
    let ending : IsEnding e.start e.base e.levels v e.links e.masks store = (record {
      levels_are = e.levels_are;
      inside = g.inside;
      ended = g.ended;
      given = c.requires.same;
      well_formed = c.layout.ensures.well_formed;
      paths = c.paths_tell.ensures.is_slot store.shape;
      hash_first = c.opening_by_nodes.ensures.hash_first store;
      dense = c.opening_by_nodes.ensures.dense;
    }) in
    answers_of (List (List ℕ)) c.in-Err.stop _
    (refused_then (List (List ℕ)) (List (List ℕ)) c.in-Err.stop (IsFirstOverFull e.start e.base e.levels e.links) _
    (λ fault over. refused_link e.start e.base e.levels v e.links e.masks store ending c.opening_by_nodes.ensures.full fault over before wanted fits was_open) c.in-Err.ensures.full)

pub returns-in-Err-clause-full : goal.returns-in-Err-clause-full
returns-in-Err-clause-full c =
    let e = c.args.self.now in
    let store = c.args.store.now in
    refused_then (List (List ℕ)) (Unit {0}) c.in-Err.stop (IsFirstOverFull e.start e.base e.levels e.links) _
    (λ fault over v g before wanted fits was_open.
    let ending : IsEnding e.start e.base e.levels v e.links e.masks store = (record {
      levels_are = e.levels_are;
      inside = g.inside;
      ended = g.ended;
      given = c.requires.same;
      well_formed = c.layout.ensures.well_formed;
      paths = c.paths_tell.ensures.is_slot store.shape;
      hash_first = c.opening_by_nodes.ensures.hash_first store;
      dense = c.opening_by_nodes.ensures.dense;
    }) in
    refused_full e.start e.base e.levels v e.links e.masks store ending c.opening_by_nodes.ensures.full fault over before wanted fits was_open) c.in-Err.ensures.full

pub returns-in-Err-clause-stays : goal.returns-in-Err-clause-stays
returns-in-Err-clause-stays c = refl
