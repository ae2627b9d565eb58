use Rattle.std.proofs.Common.{pos, sym, ap, ◌∙◌, [], ◌++◌, append-nil, List, refl, arith}
use Rattle.std.proofs.lemmas.List.Elements.{Contains-get_or}
use Rattle.std.proofs.lemmas.Option.{slice_get-get_or, slice_get_read}
use Rattle.sg_coord.specs.declared.coord.Coord.{Coord}
use Rattle.sg_coord.specs.Bounds.{bounds_of}
use Rattle.sg_exec.proofs.Turning.{slice_piece, row_piece, slice_named, low_point, if_ok, on_err, err_so}
use Rattle.sg_exec.proofs.activation.requests.LayoutWantsWanted.wanted.Goals as goal

pub returns-in_ok-column-in-Slice-clause-list : goal.returns-in_ok-column-in-Slice-clause-list
returns-in_ok-column-in-Slice-clause-list c =
    let self = c.args.self.now in
    let points = c.in-Slice.points in
    let low = low_point self.turns points c.in-Slice.block self.count c.args.piece c.in-Slice.is self.counted c.requires.below in
    let d : Coord = record { n = 0; a = pos 0; b = pos 0; c = pos 0 } in
    let has = c.in_ok-column-in-Slice.ensures.column in
    let whole = c.in_ok-column-in-Slice.ensures.ran.over.whole in
    if_ok c.add_wants.result (λ added list means.
    added ∙ ap (λ (l : List Coord). c.args.into.now.items ++ l)
    (slice_piece self.stores.now.list self.turns points c.in-Slice.block (bounds_of self.extents) self.layout self.count c.args.piece list d c.as_slice.result.now c.in-Slice.is self.counted c.requires.below means
    (c.as_slice.ensures.value ∙ (has.ran means.state means.sees _ (slice_get-get_or points.now c.args.piece d low) c.index.result.now
    (slice_get_read _ _ c.in_ok-column-in-Slice.column c.index.result.now refl (omega (arith, has.few, whole)) c.index.ensures)
    (slice_named self.stores.now.list means.state self.turns points c.in-Slice.block c.in-Slice.is means.named _ (Contains-get_or points.now c.args.piece d low))).wants_are)))
    c.add_wants.ensures.list

pub returns-in-Rows-clause-list : goal.returns-in-Rows-clause-list
returns-in-Rows-clause-list c =
    let self = c.args.self.now in
    if_ok c.add_wants-in-Rows.result (λ added list means.
    added ∙ ap (λ (l : List Coord). c.args.into.now.items ++ l)
    (row_piece self.stores.now.list self.turns c.in-Rows.rows (bounds_of self.extents) self.layout self.count c.args.piece list _ c.in-Rows.is self.counted c.requires.below means))
    c.add_wants-in-Rows.ensures.list

pub returns-in_err-column-in-Slice-clause-front : goal.returns-in_err-column-in-Slice-clause-front
returns-in_err-column-in-Slice-clause-front c = on_err c.from_residual.result ([], sym (append-nil c.args.into.now.items), λ list means. (list c.args.piece, refl))

pub returns-in_ok-column-in-Slice-clause-front : goal.returns-in_ok-column-in-Slice-clause-front
returns-in_ok-column-in-Slice-clause-front c =
    let self = c.args.self.now in
    let points = c.in-Slice.points in
    let low = low_point self.turns points c.in-Slice.block self.count c.args.piece c.in-Slice.is self.counted c.requires.below in
    let d : Coord = record { n = 0; a = pos 0; b = pos 0; c = pos 0 } in
    let has = c.in_ok-column-in-Slice.ensures.column in
    let whole = c.in_ok-column-in-Slice.ensures.ran.over.whole in
    err_so c.add_wants.result c.add_wants.ensures.front (λ front. (
      front.0,
      front.2,
      λ list means. (
        front.1,
        sym
            (slice_piece self.stores.now.list self.turns points c.in-Slice.block (bounds_of self.extents) self.layout self.count c.args.piece list d c.as_slice.result.now c.in-Slice.is self.counted c.requires.below means
            (c.as_slice.ensures.value ∙ (has.ran means.state means.sees _ (slice_get-get_or points.now c.args.piece d low) c.index.result.now
            (slice_get_read _ _ c.in_ok-column-in-Slice.column c.index.result.now refl (omega (arith, has.few, whole)) c.index.ensures)
            (slice_named self.stores.now.list means.state self.turns points c.in-Slice.block c.in-Slice.is means.named _ (Contains-get_or points.now c.args.piece d low))).wants_are)) ∙ front.3,
      ),
    ))

pub returns-in-Rows-clause-front : goal.returns-in-Rows-clause-front
returns-in-Rows-clause-front c =
    let self = c.args.self.now in
    err_so c.add_wants-in-Rows.result c.add_wants-in-Rows.ensures.front (λ front. (
      front.0,
      front.2,
      λ list means. (
        front.1,
        sym
            (row_piece self.stores.now.list self.turns c.in-Rows.rows (bounds_of self.extents) self.layout self.count c.args.piece list _ c.in-Rows.is self.counted c.requires.below means) ∙ front.3,
      ),
    ))
