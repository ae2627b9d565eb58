use Rattle.std.proofs.Common.{◌≡◌, ℕ, List, Option, Some, map, sym, ap, ◌∙◌, subst}
use Rattle.std.specs.Prelude.{All, Contains}
use Rattle.std.proofs.lemmas.List.Elements.{All-weaker, All-contains_itself}
use Rattle.std.proofs.lemmas.Result.{on_ok_weaker}
use Rattle.sg_coord.specs.declared.coord.Coord.{Coord}
use Rattle.sg_coord.specs.Coord.{Inside}
use Rattle.sg_layout.specs.declared.shape.Shape.{Shape}
use Rattle.sg_layout.specs.Axes.{bounds_of_shape}
use Rattle.sg_layout.specs.ClosureLaws.{ClosureIsInside}
use Rattle.sg_flat.specs.declared.state.FlatLayout.{FlatLayout}
use Rattle.sg_flat.specs.State.{IsFlatLayout}
use Rattle.sg_store.specs.WellFormed.{IsReached}
use Rattle.sg_snapshot.proofs.Writings.{part_is}
use Rattle.sg_snapshot.proofs.writing.push_listed.Goals as goal

-- the active coordinates are inside
actives_inside : (shape : Shape) (flat : FlatLayout) (coords : List Coord) → ClosureIsInside shape → IsFlatLayout shape flat → coords ≡ flat.active → All (Inside (bounds_of_shape shape)) coords
actives_inside shape flat coords inside is same =
    subst (λ (l : List Coord). All (Inside (bounds_of_shape shape)) l) (sym same)
    (All-weaker (Contains flat.active) (Inside (bounds_of_shape shape)) (λ at has. (inside flat.active at (subst (λ (l : List Coord). Contains l at) is.closed has)).1) flat.active (All-contains_itself flat.active))

actives_had : (flat : FlatLayout) (coords : List Coord) → coords ≡ flat.active → All (Contains flat.active) coords
actives_had flat coords same = subst (λ (l : List Coord). All (Contains flat.active) l) (sym same) (All-contains_itself flat.active)

abbrev some_cell : ℕ → Option ℕ
some_cell cell = Some cell

pub push_fields-requires : goal.push_fields-requires
push_fields-requires c = subst (λ (l : List ℕ). All (IsReached c.args.store.now) l) (sym c.as_slice.ensures) c.in_ok-cells.ensures.reached

pub returns : goal.returns
returns c =
    let store = c.args.store.now in
    let coords = c.as_slice-coords.result.now in
    on_ok_weaker c.push_fields.result
    (λ third. λ flat stands.
    let are : coords ≡ flat.active = c.as_slice-coords.ensures ∙ c.in_ok-active.ensures flat stands in
    part_is store flat c.in_ok-many.many coords c.as_slice.result.now c.args.bytes.now.items c.push_number.new.bytes.items c.push_rows.new.bytes.items c.push_fields.new.bytes.items stands are c.in_ok-many.ensures
    (c.in_ok-cells.ensures.cells flat stands (actives_had flat coords are) ∙ ap (map some_cell) (sym c.as_slice.ensures))
    c.in_ok-push_number.ensures (c.in_ok-push_rows.ensures (actives_inside store.shape flat coords (c.closure_members.ensures.inside store.shape) stands.is_flat are)) third)
    c.push_fields.ensures
