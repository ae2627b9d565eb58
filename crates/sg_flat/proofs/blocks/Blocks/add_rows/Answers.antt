use Rattle.std.proofs.Common.{sym, ap, ◌∙◌, eqb, ltb}
use Rattle.std.proofs.lemmas.Bool.{ltb-true, lt-ltb, eqb-true, eq-eqb}
use Rattle.std.specs.Ordering.{nat_cmp}
use Rattle.std.specs.BTreeSet.{contains}
use Rattle.sg_coord.specs.Bounds.{bounds_of, volume}
use Rattle.sg_coord.specs.Coord.{point_at}
use Rattle.sg_flat.specs.steps.Blocks.{block_number, row_in_block}
use Rattle.sg_flat.proofs.Cuts.{cut_of}
use Rattle.sg_flat.proofs.Reaches.{row_more, same_row}
use Rattle.sg_flat.proofs.blocks.Blocks.add_rows.Goals as goal

pub loop-place-preserved : goal.loop-place-preserved
loop-place-preserved c = λ row.
    let all = bounds_of c.args.self.now.extents in
    let block = bounds_of c.args.self.now.block in
    let laws = c.numbering.ensures in
    let n = c.row_at.result in
    let number = block_number all block c.args.at in
    row_more (contains nat_cmp c.loop-place.rows row) (contains nat_cmp c.insert.new.self row) (contains nat_cmp c.args.rows.now row)
    (ltb row (volume all)) (eqb number (block_number all block (point_at all row))) row n c.args.grown.from c.loop-place.place (row_in_block block (point_at all row))
    (c.in_ok-insert.ensures.updates.0 row) (c.loop-place.invariant row) c.loop-place.auto.place
    (λ same. (
      ap (λ k. ltb k (volume all)) same ∙ lt-ltb n (volume all) c.row_at.ensures.below,
      ap (λ k. eqb number (block_number all block (point_at all k))) same ∙ eq-eqb number (block_number all block (point_at all n)) (sym c.row_at.ensures.block),
      ap (λ k. row_in_block block (point_at all k)) same ∙ c.row_at.ensures.place,
    ))
    (λ inside same place. same_row all block row n laws.point_of_row laws.row_of_point laws.point_inside (cut_of c.args.self.now)
    (ltb-true row (volume all) inside) c.row_at.ensures.below
    (sym (eqb-true number (block_number all block (point_at all row)) same) ∙ sym c.row_at.ensures.block)
    (place ∙ sym c.row_at.ensures.place))
