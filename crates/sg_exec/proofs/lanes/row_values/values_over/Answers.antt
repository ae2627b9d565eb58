use Rattle.std.proofs.Common.{ℕ, ap, ◌∙◌}
use Rattle.std.specs.Prelude.{get_or, ◌==◌, if◌then◌else◌}
use Rattle.sg_exec.specs.Standing.{shapes_of}
use Rattle.sg_exec.proofs.FieldValues.{value_over}
use Rattle.sg_exec.proofs.FieldValues as lemmas
use Rattle.sg_exec.proofs.lanes.row_values.values_over.Goals as goal

pub returns : goal.returns
returns c = λ k small.
    let laws : lemmas.ReadLaws c.args.view.now = record { inside = c.numbering.ensures.inside_test; point = c.numbering.ensures.point_of_row; has = c.places_tell.ensures (shapes_of c.args.view.now) } in
    value_over c.args.view.now c.args.one c.args.field c.args.width c.args.words.now laws c.requires.cells (get_or c.args.row.now.kinds k 0) (get_or c.args.row.now.parts k 0) (get_or c.args.row.now.slots k 0) _ _
    (c.requires.one k small) (c.slots_over-cells.ensures k small)
    (c.words_where.ensures k small ∙ ap (λ (x : ℕ). if get_or c.args.row.now.kinds k 0 == 0 then 0 else x) (c.words_at.ensures k small))
