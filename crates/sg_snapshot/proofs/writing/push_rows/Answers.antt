use Rattle.std.proofs.Common.{◌≡◌, ◌++◌, List, map, refl, sym, ap, ◌∙◌, subst}
use Rattle.std.specs.Prelude.{All}
use Rattle.std.proofs.lemmas.List.{append-nil, take_all}
use Rattle.sg_coord.specs.declared.coord.Coord.{Coord}
use Rattle.sg_coord.specs.Bounds.{Bounds, bounds_of}
use Rattle.sg_coord.specs.Coord.{Inside, row_of}
use Rattle.sg_layout.specs.Axes.{bounds_of_shape}
use Rattle.sg_snapshot.specs.Numbers.{bytes_of}
use Rattle.sg_snapshot.proofs.Writings.{number_more}
use Rattle.sg_snapshot.proofs.writing.push_rows.Goals as goal

pub loop-at-init : goal.loop-at-init
loop-at-init c = λ all. c.in_ok-reserve.ensures.items ∙ sym (append-nil c.args.bytes.now.items)

pub loop-at-preserved : goal.loop-at-preserved
loop-at-preserved c = λ all.
    let b = bounds_of c.extents-extents.result in
    let coords = c.args.coords.now in
    let i = c.loop-at.at-index in
    number_more (row_of b) coords i _ _ c.args.bytes.now.items c.loop-at.bytes.items c.push_row.new.bytes.items c.loop-at-test.true refl (c.loop-at.invariant all) (c.in_ok-push_row.ensures (all i _ c.loop-at-test.true))

pub returns : goal.returns
returns c = λ all.
    let coords = c.args.coords.now in
    let b = bounds_of c.extents-extents.result in
    let same : b ≡ bounds_of_shape c.args.store.now.shape = c.extents-extents.ensures.value ∙ ap bounds_of_shape c.layout.ensures.layout in
    c.loop-at.invariant (subst (λ (e : Bounds). All (Inside e) coords) (sym same) all)
    ∙ ap (λ (l : List Coord). c.args.bytes.now.items ++ bytes_of (map (row_of b) l)) (take_all c.loop-at.at-index coords c.loop-at-test.false)
    ∙ ap (λ (e : Bounds). c.args.bytes.now.items ++ bytes_of (map (row_of e) coords)) same
