use Rattle.std.proofs.Common.{ℕ, List, ◌++◌, refl, sym, ap, ◌∙◌}
use Rattle.sg_coord.specs.declared.coord.Coord.{Coord}
use Rattle.sg_coord.specs.Bounds.{bounds_of}
use Rattle.sg_layout.specs.Need.{first_full}
use Rattle.sg_flat.specs.State.{opening_layout}
use Rattle.sg_store.specs.StoreWords.{StoreWords}
use Rattle.sg_activate.specs.Activating.{wanted_below, unless_full}
use Rattle.sg_convert.specs.steps.Parts.{part_of}
use Rattle.sg_convert.proofs.Pieced.{parts_are, parts_inside}
use Rattle.sg_convert.proofs.Opens.{opened_stands, opened_full, refusal_is}
use Rattle.sg_convert.proofs.converting.opened_for.Goals as goal

pub activate-requires-clause-within : goal.activate-requires-clause-within
activate-requires-clause-within g c κs within = λ list means piece below.
    parts_inside (bounds_of c.args.pieces.now.extents) c.args.pieces.now.coords c.args.pieces.now.each list c.args.pieces.now.inside means piece

pub returns-in-Ok-clause-answer : goal.returns-in-Ok-clause-answer
returns-in-Ok-clause-answer g c =
    let to = c.args.to.now in
    let coords = c.args.pieces.now.coords in
    let list : ℕ → List Coord = part_of coords c.args.pieces.now.each in
    let same = parts_are coords c.args.pieces.now.each list (λ piece. refl) 64 c.args.pieces.now.all in
    ap unless_full (sym (opened_full to c.in_ok-store.store.shape (c.need_absorbs.ensures.full to) c.in_ok-store.ensures.shape coords (wanted_below list 64) same))
    ∙ c.in-Ok.ensures.answer list (λ piece. refl) (opening_layout to) c.in_ok-store.ensures.opening

pub returns-in-Ok-clause-opened : goal.returns-in-Ok-clause-opened
returns-in-Ok-clause-opened g c =
    let to = c.args.to.now in
    let coords = c.args.pieces.now.coords in
    let list : ℕ → List Coord = part_of coords c.args.pieces.now.each in
    let same = parts_are coords c.args.pieces.now.each list (λ piece. refl) 64 c.args.pieces.now.all in
    opened_stands to c.in_ok-store.store.shape (c.closure_closes.ensures.absorbs to) c.in_ok-store.ensures.shape coords (wanted_below list 64) same c.activate.new.store
    (c.in-Ok.ensures.activated list (λ piece. refl) (opening_layout to) c.in_ok-store.ensures.opening)

pub returns-in-Err-clause-answer : goal.returns-in-Err-clause-answer
returns-in-Err-clause-answer g c =
    let to = c.args.to.now in
    let coords = c.args.pieces.now.coords in
    let list : ℕ → List Coord = part_of coords c.args.pieces.now.each in
    let same = parts_are coords c.args.pieces.now.each list (λ piece. refl) 64 c.args.pieces.now.all in
    refusal_is StoreWords c.in-Err.stop (unless_full (first_full c.in_ok-store.store.shape ((opening_layout to).active ++ wanted_below list 64))) (unless_full (first_full to coords))
    (ap unless_full (opened_full to c.in_ok-store.store.shape (c.need_absorbs.ensures.full to) c.in_ok-store.ensures.shape coords (wanted_below list 64) same))
    (c.in-Err.ensures.answer list (λ piece. refl) (opening_layout to) c.in_ok-store.ensures.opening)
