use Rattle.std.proofs.Common.{ℕ, List, length, map, Vec, Global, ◌++◌, ◌∙◌, ap, sym}
use Rattle.sg_layout.specs.declared.shape.Shape.{Shape}
use Rattle.sg_grid.specs.GridText.{rows_text}
use Rattle.sg_grid.specs.Dump.{field_type}
use Rattle.sg_grid.specs.steps.Keeping.{kept_row}
use Rattle.sg_grid.proofs.Dumps.{dump_is}
use Rattle.sg_grid.proofs.dumping.dump.Goals as goal

pub returns : goal.returns
returns c flat stands =
    let store = c.args.store.now in
    let place = c.args.place in
    let coords = c.as_slice.result.now in
    c.from_vec.ensures
    ∙ ap (λ (v : Vec ℕ Global). v.items) c.into_bytes.ensures.value
    ∙ c.in_ok-push_rows.ensures
    ∙ ap (λ (list : List ℕ). list ++ rows_text c.field_type.result (map (kept_row store place) coords)) c.in_ok-text.ensures
    ∙ dump_is store c.layout-layout.ensures.well_formed (c.cells_are_active.ensures.active store) flat stands place c.requires coords (c.as_slice.ensures ∙ c.in_ok-active.ensures flat stands)
    c.shape.result.now (c.shape.ensures.value ∙ c.layout-layout.ensures.layout) c.len.result (c.len.ensures ∙ ap length (sym c.as_slice.ensures))
    c.field_type.result (c.field_type.ensures ∙ ap (λ (s : Shape). field_type s place) (sym c.shape.ensures.value))
