use Rattle.std.proofs.Common.{ℕ, List, Option, Some, map, refl, sym, ap, ◌∙◌, subst}
use Rattle.std.specs.Prelude.{All}
use Rattle.std.proofs.lemmas.Result.{on_ok_weaker}
use Rattle.sg_store.specs.WellFormed.{IsReached}
use Rattle.sg_snapshot.proofs.Writings.{part_is}
use Rattle.sg_snapshot.proofs.asking.push_asked.Goals as goal

abbrev some_cell : ℕ → Option ℕ
some_cell cell = Some cell

pub push_fields-requires : goal.push_fields-requires
push_fields-requires c = subst (λ (l : List ℕ). All (IsReached c.args.store.now) l) (sym c.as_slice.ensures) c.in_ok-cells.ensures.reached

pub returns : goal.returns
returns c =
    let store = c.args.store.now in
    on_ok_weaker c.push_fields.result
    (λ third. λ flat stands.
    part_is store flat c.in_ok-count.count flat.active c.as_slice.result.now c.args.bytes.now.items c.push_number.new.bytes.items c.push_points.new.bytes.items c.push_fields.new.bytes.items stands refl
    (c.in_ok-count.ensures ∙ c.requires flat stands) (c.in_ok-cells.ensures.cells flat stands ∙ ap (map some_cell) (sym c.as_slice.ensures)) c.in_ok-push_number.ensures (c.in_ok-cells.ensures.rows flat stands) third)
    c.push_fields.ensures
