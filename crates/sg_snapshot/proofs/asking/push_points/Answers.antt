use Rattle.std.proofs.Common.{◌≡◌, ◌<◌, ◌++◌, ℕ, List, Option, Some, map, sym, ap, ◌∙◌, subst, arith}
use Rattle.std.specs.Prelude.{All}
use Rattle.std.proofs.lemmas.List.{append-nil}
use Rattle.sg_coord.specs.Bounds.{Bounds, bounds_of, volume}
use Rattle.sg_coord.specs.Coord.{point_at}
use Rattle.sg_layout.specs.Axes.{bounds_of_shape}
use Rattle.sg_store.specs.Walks.{cell_in}
use Rattle.sg_store.specs.WellFormed.{IsReached}
use Rattle.sg_snapshot.specs.Numbers.{bytes_of}
use Rattle.sg_snapshot.specs.steps.Asking.{rows_with, cells_with}
use Rattle.sg_snapshot.proofs.Askings.{AskLaws, cell_at, rows_more, cells_more, asked_rows, asked_cells}
use Rattle.sg_snapshot.proofs.asking.push_points.Goals as goal

pub loop-row-init : goal.loop-row-init
loop-row-init c = record {
  reached = subst (λ (l : List ℕ). All (IsReached c.args.store.now) l) (sym c.in_ok-cells.ensures.items) (λ i d below. absurd (omega arith));
  rows = c.in_ok-reserve.ensures.items ∙ sym (append-nil c.args.bytes.now.items);
  cells = c.in_ok-cells.ensures.items;
  next = λ below. c.first_coord-at.ensures;
}

pub loop-row-preserved : goal.loop-row-preserved
loop-row-preserved c =
    let store = c.args.store.now in
    let e = bounds_of c.extents-extents.result in
    let same : e ≡ bounds_of_shape store.shape = c.extents-extents.ensures.value ∙ ap bounds_of_shape c.layout.ensures.layout in
    let row = c.loop-row.row in
    let below : row < volume e = omega (arith, c.loop-row.auto.row-end, c.loop-row-test.true, c.volume-row-end.ensures.value) in
    let cell : cell_in store c.loop-row.at ≡ cell_at store row = ap (cell_in store) (c.loop-row.invariant.next below ∙ ap (λ (b : Bounds). point_at b row) same) in
    record {
      reached = c.in_ok-push_point.ensures.reached c.loop-row.invariant.reached;
      rows = rows_more (cell_at store) row (cell_in store c.loop-row.at) c.args.bytes.now.items c.loop-row.bytes.items c.push_point.new.bytes.items cell c.loop-row.invariant.rows c.in_ok-push_point.ensures.rows;
      cells = cells_more (cell_at store) row (cell_in store c.loop-row.at) c.loop-row.cells.items c.push_point.new.cells.items cell c.loop-row.invariant.cells c.in_ok-push_point.ensures.cells;
      next = c.point_after-at.ensures;
    }

pub returns : goal.returns
returns c =
    let store = c.args.store.now in
    let old = c.args.bytes.now.items in
    let b = bounds_of_shape store.shape in
    let laws : AskLaws c.args.store.now = record {
      well = c.layout.ensures.well_formed;
      row_of_point = c.numbering.ensures.row_of_point;
      tested = c.closure_members.ensures.tested store.shape;
      active = c.cells_are_active.ensures.active store;
    } in
    let same : bounds_of c.extents-extents.result ≡ b = c.extents-extents.ensures.value ∙ ap bounds_of_shape c.layout.ensures.layout in
    let end : c.loop-row.row ≡ volume (bounds_of c.extents-extents.result) = omega (arith, c.loop-row.auto.row-end, c.loop-row-test.false, c.volume-row-end.ensures.value) in
    let last : c.loop-row.row ≡ volume b = end ∙ ap volume same in
    record {
      reached = subst (λ (l : List ℕ). All (IsReached store) l) (sym c.from_vec.ensures) c.loop-row.invariant.reached;
      rows = λ flat stands.
          c.loop-row.invariant.rows
          ∙ ap (λ (n : ℕ). old ++ bytes_of (rows_with (cell_at store) n)) last
          ∙ ap (λ (l : List ℕ). old ++ bytes_of l) (asked_rows store laws flat stands);
      cells = λ flat stands.
          asked_cells store laws flat stands
          ∙ sym (ap (map (λ (cell : ℕ). let out : Option ℕ = Some cell in out)) (c.from_vec.ensures ∙ c.loop-row.invariant.cells ∙ ap (cells_with (cell_at store)) last));
    }
