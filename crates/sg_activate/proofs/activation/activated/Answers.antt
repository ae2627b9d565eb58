use Rattle.std.proofs.Common.{◌≡◌, ℕ, ◌++◌, [], length, refl, sym, ap, ◌∙◌, subst}
use Rattle.std.specs.Prelude.{Option, Ok, Err}
use Rattle.std.specs.List.{Contains}
use Rattle.sg_coord.specs.declared.coord.Coord.{Coord}
use Rattle.sg_coord.specs.Bounds.{Bounds}
use Rattle.sg_coord.specs.Coord.{Inside}
use Rattle.sg_layout.specs.Axes.{bounds_of_shape}
use Rattle.sg_layout.specs.declared.shape.Shape.{Shape}
use Rattle.sg_layout.specs.Need.{first_full}
use Rattle.sg_store.specs.StoreWords.{StoreWords}
use Rattle.sg_store.specs.Walks.{cell_in}
use Rattle.sg_store.specs.StandsFor.{StandsFor}
use Rattle.sg_store.specs.Reaching.{KeepsCells}
use Rattle.sg_activate.specs.Activating.{wanted_below, unless_full}
use Rattle.sg_activate.specs.steps.Finding.{found_in}
use Rattle.sg_activate.specs.steps.Looked.{IsKnown}
use Rattle.sg_activate.specs.steps.Levels.{IfActRefused, IsFirstFull}
use Rattle.sg_activate.proofs.Active.{keeps_same, all_active, only_active, found_inactive, known_active, wanted_inside, no_node_full, found_members, opened_wanted, refused_wanted, refused_answers, all_of}
use Rattle.sg_activate.proofs.FewOpened.{few_answer, few_stands, as_err}
use Rattle.sg_activate.proofs.activation.activated.Goals as goal

-- ---- all is active
pub returns-then-is_nothing-clause-answer : goal.returns-then-is_nothing-clause-answer
returns-then-is_nothing-clause-answer g c = λ list means flat stands.
    let store = c.args.store.now in
    let wanted = wanted_below list (g.W.Wanted.count c.args.want.now) in
    let none : found_in (bounds_of_shape store.shape).n c.in_ok-found.found ≡ [] = ap (found_in (bounds_of_shape store.shape).n) (sym c.as_slice-list.ensures) ∙ c.is_nothing.ensures.none c.if-is_nothing.true (bounds_of_shape store.shape).n in
    let active : (at : Coord) → Contains wanted at → Contains flat.active at = λ at is. only_active (Contains flat.active at) (found_in (bounds_of_shape store.shape).n c.in_ok-found.found) at none
    (known_active store (c.cells_are_active.ensures.active store) c.layout.ensures.well_formed flat stands (found_in (bounds_of_shape store.shape).n c.in_ok-found.found) at (c.in_ok-found.ensures.known list means at is)) in
    no_node_full store store (c.opening_by_nodes.ensures.room store) c.layout.ensures.well_formed refl flat.active (flat.active ++ wanted)
    (all_active store (c.live_grows.ensures.of_members store.shape) flat stands wanted active (length store.shape.nodes))

pub returns-then-is_nothing-clause-activated : goal.returns-then-is_nothing-clause-activated
returns-then-is_nothing-clause-activated g c = λ list means flat stands.
    let store = c.args.store.now in
    let wanted = wanted_below list (g.W.Wanted.count c.args.want.now) in
    let none : found_in (bounds_of_shape store.shape).n c.in_ok-found.found ≡ [] = ap (found_in (bounds_of_shape store.shape).n) (sym c.as_slice-list.ensures) ∙ c.is_nothing.ensures.none c.if-is_nothing.true (bounds_of_shape store.shape).n in
    let active : (at : Coord) → Contains wanted at → Contains flat.active at = λ at is. only_active (Contains flat.active at) (found_in (bounds_of_shape store.shape).n c.in_ok-found.found) at none
    (known_active store (c.cells_are_active.ensures.active store) c.layout.ensures.well_formed flat stands (found_in (bounds_of_shape store.shape).n c.in_ok-found.found) at (c.in_ok-found.ensures.known list means at is)) in
    c.opening_by_nodes.ensures.ends store store c.layout.ensures.well_formed c.layout.ensures.well_formed (keeps_same store) flat stands wanted
    (wanted_inside store.shape (g.W.Wanted.bounds c.args.want.now) list (g.W.Wanted.count c.args.want.now) c.requires.inside (c.requires.within list means))
    (all_active store (c.live_grows.ensures.of_members store.shape) flat stands wanted active (length store.shape.nodes))

pub returns-then-is_nothing-clause-new : goal.returns-then-is_nothing-clause-new
returns-then-is_nothing-clause-new g c = λ list means flat stands active. refl

pub returns-then-is_nothing-clause-links : goal.returns-then-is_nothing-clause-links
returns-then-is_nothing-clause-links g c = λ index link is. is

-- ---- what was found was opened
pub returns-clause-answer : goal.returns-clause-answer
returns-clause-answer g c = λ list means flat stands.
    let store = c.args.store.now in
    let next = c.open_all.new.store in
    let wanted = wanted_below list (g.W.Wanted.count c.args.want.now) in
    let found = found_in c.extents.result.n c.as_slice-list.result.now in
    let axes : c.extents.result.n ≡ store.shape.axes = ap (λ (b : Bounds). b.n) c.extents.ensures.value ∙ ap (λ (s : Shape). s.axes) c.layout-2.ensures.layout in
    let same : found ≡ found_in store.shape.axes c.in_ok-found.found = ap (λ (n : ℕ). found_in n c.as_slice-list.result.now) axes ∙ ap (found_in store.shape.axes) c.as_slice-list.ensures in
    let members = found_members flat.active wanted found (λ at has. (c.in_ok-found.ensures.found.says at (subst (λ l. Contains l at) same has)).1 list means)
    (λ at is. known_active store (c.cells_are_active.ensures.active store) c.layout.ensures.well_formed flat stands found at (subst (λ l. IsKnown store l at) (sym same) (c.in_ok-found.ensures.known list means at is))) in
    let opens = opened_wanted store c.in_ok-next.next next c.in_ok-next.ensures (c.live_grows.ensures.of_members next.shape) flat.active found wanted members c.in-Ok-open_all.ensures.opened (c.opening_by_nodes.ensures.begins store flat stands found) in
    let keeps = subst (λ (s : StoreWords). KeepsCells s next) c.in_ok-next.ensures c.in-Ok-open_all.ensures.keeps in
    no_node_full store next (c.opening_by_nodes.ensures.room next) c.layout-3.ensures.well_formed keeps.same_shape flat.active (flat.active ++ wanted) opens

pub returns-clause-activated : goal.returns-clause-activated
returns-clause-activated g c = λ list means flat stands.
    let store = c.args.store.now in
    let next = c.open_all.new.store in
    let wanted = wanted_below list (g.W.Wanted.count c.args.want.now) in
    let found = found_in c.extents.result.n c.as_slice-list.result.now in
    let axes : c.extents.result.n ≡ store.shape.axes = ap (λ (b : Bounds). b.n) c.extents.ensures.value ∙ ap (λ (s : Shape). s.axes) c.layout-2.ensures.layout in
    let same : found ≡ found_in store.shape.axes c.in_ok-found.found = ap (λ (n : ℕ). found_in n c.as_slice-list.result.now) axes ∙ ap (found_in store.shape.axes) c.as_slice-list.ensures in
    let members = found_members flat.active wanted found (λ at has. (c.in_ok-found.ensures.found.says at (subst (λ l. Contains l at) same has)).1 list means)
    (λ at is. known_active store (c.cells_are_active.ensures.active store) c.layout.ensures.well_formed flat stands found at (subst (λ l. IsKnown store l at) (sym same) (c.in_ok-found.ensures.known list means at is))) in
    let opens = opened_wanted store c.in_ok-next.next next c.in_ok-next.ensures (c.live_grows.ensures.of_members next.shape) flat.active found wanted members c.in-Ok-open_all.ensures.opened (c.opening_by_nodes.ensures.begins store flat stands found) in
    let keeps = subst (λ (s : StoreWords). KeepsCells s next) c.in_ok-next.ensures c.in-Ok-open_all.ensures.keeps in
    c.opening_by_nodes.ensures.ends store next c.layout.ensures.well_formed c.layout-3.ensures.well_formed keeps flat stands wanted
    (wanted_inside store.shape (g.W.Wanted.bounds c.args.want.now) list (g.W.Wanted.count c.args.want.now) c.requires.inside (c.requires.within list means)) opens

-- what was found isn't active
pub returns-clause-new : goal.returns-clause-new
returns-clause-new g c = λ list means flat stands active.
    let store = c.args.store.now in
    let axes : ℕ = (bounds_of_shape store.shape).n in
    let some = c.is_nothing.ensures.some c.if-is_nothing.false axes in
    let says = c.in_ok-found.ensures.found.says some.0 (subst (λ l. Contains l some.0) (ap (found_in axes) c.as_slice-list.ensures) some.1) in
    absurd (found_inactive (cell_in store some.0) says.2 ((c.cells_are_active.ensures.active store c.layout.ensures.well_formed flat stands some.0).1 (active some.0 (says.1 list means))))

pub returns-clause-keeps : goal.returns-clause-keeps
returns-clause-keeps g c = subst (λ (s : StoreWords). KeepsCells s c.open_all.new.store) c.in_ok-next.ensures c.in-Ok-open_all.ensures.keeps

pub returns-clause-links : goal.returns-clause-links
returns-clause-links g c = c.links_stay.ensures.grow c.args.store.now c.open_all.new.store c.layout.ensures.well_formed c.layout-3.ensures.well_formed (subst (λ (s : StoreWords). KeepsCells s c.open_all.new.store) c.in_ok-next.ensures c.in-Ok-open_all.ensures.keeps)

pub returns-in-Err-open_all-clause-answer : goal.returns-in-Err-open_all-clause-answer
returns-in-Err-open_all-clause-answer g c = λ list means flat stands.
    let store = c.args.store.now in
    let wanted = wanted_below list (g.W.Wanted.count c.args.want.now) in
    let found = found_in c.extents.result.n c.as_slice-list.result.now in
    let axes : c.extents.result.n ≡ store.shape.axes = ap (λ (b : Bounds). b.n) c.extents.ensures.value ∙ ap (λ (s : Shape). s.axes) c.layout-2.ensures.layout in
    let same : found ≡ found_in store.shape.axes c.in_ok-found.found = ap (λ (n : ℕ). found_in n c.as_slice-list.result.now) axes ∙ ap (found_in store.shape.axes) c.as_slice-list.ensures in
    let members = found_members flat.active wanted found (λ at has. (c.in_ok-found.ensures.found.says at (subst (λ l. Contains l at) same has)).1 list means)
    (λ at is. known_active store (c.cells_are_active.ensures.active store) c.layout.ensures.well_formed flat stands found at (subst (λ l. IsKnown store l at) (sym same) (c.in_ok-found.ensures.known list means at is))) in
    refused_answers {A = Option StoreWords} (λ next. tt) c.in-Err-open_all.stop (unless_full (first_full store.shape (flat.active ++ wanted)))
    (refused_wanted c.open_all.result c.in-Err-open_all.stop c.in-Err-open_all.is store found (subst (λ (s : StoreWords). IfActRefused c.open_all.result (IsFirstFull s 0 found)) c.in_ok-next.ensures c.open_all.ensures.full) (c.need_grows.ensures.full store.shape)
    flat.active wanted (c.opening_by_nodes.ensures.begins store flat stands found) members)

-- ---- what the opening asks for
pub open_all-requires-clause-inside : goal.open_all-requires-clause-inside
open_all-requires-clause-inside g c κs within =
    let store = c.args.store.now in
    let found = found_in c.extents.result.n c.as_slice-list.result.now in
    let axes : c.extents.result.n ≡ store.shape.axes = ap (λ (b : Bounds). b.n) c.extents.ensures.value ∙ ap (λ (s : Shape). s.axes) c.layout-2.ensures.layout in
    let same : found ≡ found_in store.shape.axes c.in_ok-found.found = ap (λ (n : ℕ). found_in n c.as_slice-list.result.now) axes ∙ ap (found_in store.shape.axes) c.as_slice-list.ensures in
    all_of (Inside (bounds_of_shape c.in_ok-next.next.shape)) found (λ at has.
    subst (λ (s : StoreWords). Inside (bounds_of_shape s.shape) at) (sym c.in_ok-next.ensures) (c.in_ok-found.ensures.found.says at (subst (λ l. Contains l at) same has)).0)

-- ---- what was found was opened by one worker
pub open_few-requires : goal.open_few-requires
open_few-requires g c =
    let store = c.args.store.now in
    let found = found_in c.extents.result.n c.as_slice-list.result.now in
    let axes : c.extents.result.n ≡ store.shape.axes = ap (λ (b : Bounds). b.n) c.extents.ensures.value ∙ ap (λ (s : Shape). s.axes) c.layout-2.ensures.layout in
    let same : found ≡ found_in store.shape.axes c.in_ok-found.found = ap (λ (n : ℕ). found_in n c.as_slice-list.result.now) axes ∙ ap (found_in store.shape.axes) c.as_slice-list.ensures in
    record {
      inside = all_of (Inside (bounds_of_shape c.in_ok-next.next.shape)) found (λ at has.
          subst (λ (s : StoreWords). Inside (bounds_of_shape s.shape) at) (sym c.in_ok-next.ensures) (c.in_ok-found.ensures.found.says at (subst (λ l. Contains l at) same has)).0);
    }

pub returns-in-Ok-clause-answer : goal.returns-in-Ok-clause-answer
returns-in-Ok-clause-answer g c = λ list means flat stands.
    let store = c.args.store.now in
    let wanted = wanted_below list (g.W.Wanted.count c.args.want.now) in
    let found = found_in c.extents.result.n c.as_slice-list.result.now in
    let axes : c.extents.result.n ≡ store.shape.axes = ap (λ (b : Bounds). b.n) c.extents.ensures.value ∙ ap (λ (s : Shape). s.axes) c.layout-2.ensures.layout in
    let same : found ≡ found_in store.shape.axes c.in_ok-found.found = ap (λ (n : ℕ). found_in n c.as_slice-list.result.now) axes ∙ ap (found_in store.shape.axes) c.as_slice-list.ensures in
    let members = found_members flat.active wanted found (λ at has. (c.in_ok-found.ensures.found.says at (subst (λ l. Contains l at) same has)).1 list means)
    (λ at is. known_active store (c.cells_are_active.ensures.active store) c.layout.ensures.well_formed flat stands found at (subst (λ l. IsKnown store l at) (sym same) (c.in_ok-found.ensures.known list means at is))) in
    few_answer c.open_few.result (Ok c.in-Ok.next) c.in-Ok.is store c.in_ok-next.next c.in_ok-next.ensures flat.active found wanted (c.need_grows.ensures.full store.shape) members
    (c.open_few.ensures.answer flat (subst (λ (s : StoreWords). StandsFor s flat) (sym c.in_ok-next.ensures) stands))

pub returns-in-Ok-clause-activated : goal.returns-in-Ok-clause-activated
returns-in-Ok-clause-activated g c = λ list means flat stands.
    let store = c.args.store.now in
    let wanted = wanted_below list (g.W.Wanted.count c.args.want.now) in
    let found = found_in c.extents.result.n c.as_slice-list.result.now in
    let axes : c.extents.result.n ≡ store.shape.axes = ap (λ (b : Bounds). b.n) c.extents.ensures.value ∙ ap (λ (s : Shape). s.axes) c.layout-2.ensures.layout in
    let same : found ≡ found_in store.shape.axes c.in_ok-found.found = ap (λ (n : ℕ). found_in n c.as_slice-list.result.now) axes ∙ ap (found_in store.shape.axes) c.as_slice-list.ensures in
    let members = found_members flat.active wanted found (λ at has. (c.in_ok-found.ensures.found.says at (subst (λ l. Contains l at) same has)).1 list means)
    (λ at is. known_active store (c.cells_are_active.ensures.active store) c.layout.ensures.well_formed flat stands found at (subst (λ l. IsKnown store l at) (sym same) (c.in_ok-found.ensures.known list means at is))) in
    few_stands store c.in_ok-next.next c.in-Ok.next c.in_ok-next.ensures flat found wanted (c.closure_members.ensures.of_members store.shape) members
    (c.in-Ok.ensures.opened flat (subst (λ (s : StoreWords). StandsFor s flat) (sym c.in_ok-next.ensures) stands))

pub returns-in-Ok-clause-keeps : goal.returns-in-Ok-clause-keeps
returns-in-Ok-clause-keeps g c = subst (λ (s : StoreWords). KeepsCells s c.in-Ok.next) c.in_ok-next.ensures c.in-Ok.ensures.keeps

pub returns-in-Ok-clause-links : goal.returns-in-Ok-clause-links
returns-in-Ok-clause-links g c = c.links_stay.ensures.grow c.args.store.now c.in-Ok.next c.layout.ensures.well_formed c.in-Ok.ensures.well_formed (subst (λ (s : StoreWords). KeepsCells s c.in-Ok.next) c.in_ok-next.ensures c.in-Ok.ensures.keeps)

pub returns-in-Err-clause-answer : goal.returns-in-Err-clause-answer
returns-in-Err-clause-answer g c = λ list means flat stands.
    let store = c.args.store.now in
    let wanted = wanted_below list (g.W.Wanted.count c.args.want.now) in
    let found = found_in c.extents.result.n c.as_slice-list.result.now in
    let axes : c.extents.result.n ≡ store.shape.axes = ap (λ (b : Bounds). b.n) c.extents.ensures.value ∙ ap (λ (s : Shape). s.axes) c.layout-2.ensures.layout in
    let same : found ≡ found_in store.shape.axes c.in_ok-found.found = ap (λ (n : ℕ). found_in n c.as_slice-list.result.now) axes ∙ ap (found_in store.shape.axes) c.as_slice-list.ensures in
    let members = found_members flat.active wanted found (λ at has. (c.in_ok-found.ensures.found.says at (subst (λ l. Contains l at) same has)).1 list means)
    (λ at is. known_active store (c.cells_are_active.ensures.active store) c.layout.ensures.well_formed flat stands found at (subst (λ l. IsKnown store l at) (sym same) (c.in_ok-found.ensures.known list means at is))) in
    as_err c.in-Err.stop (unless_full (first_full store.shape (flat.active ++ wanted)))
    (few_answer c.open_few.result (Err c.in-Err.stop) c.in-Err.is store c.in_ok-next.next c.in_ok-next.ensures flat.active found wanted (c.need_grows.ensures.full store.shape) members
    (c.open_few.ensures.answer flat (subst (λ (s : StoreWords). StandsFor s flat) (sym c.in_ok-next.ensures) stands)))

pub returns-in-Ok-clause-new : goal.returns-in-Ok-clause-new
returns-in-Ok-clause-new g c = λ list means flat stands active.
    let store = c.args.store.now in
    let axes : ℕ = (bounds_of_shape store.shape).n in
    let some = c.is_nothing.ensures.some c.if-is_nothing.false axes in
    let says = c.in_ok-found.ensures.found.says some.0 (subst (λ l. Contains l some.0) (ap (found_in axes) c.as_slice-list.ensures) some.1) in
    absurd (found_inactive (cell_in store some.0) says.2 ((c.cells_are_active.ensures.active store c.layout.ensures.well_formed flat stands some.0).1 (active some.0 (says.1 list means))))
