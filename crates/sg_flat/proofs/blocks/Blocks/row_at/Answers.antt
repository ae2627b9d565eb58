use Rattle.std.proofs.Common.{ap, ◌∙◌, ◌≡◌, arith}
use Rattle.std.proofs.lemmas.Int.{to_z-of_z}
use Rattle.sg_coord.specs.Bounds.{bounds_of}
use Rattle.sg_coord.specs.Coord.{row_of, count_of}
use Rattle.sg_flat.specs.steps.Blocks.{block_number, row_in_block}
use Rattle.sg_flat.proofs.Cuts.{cut_of, is_further}
use Rattle.sg_flat.proofs.blocks.Blocks.row_at.Goals as goal

pub row-requires : goal.row-requires
row-requires c =
    let blocks = c.args.self.now in
    let inside = c.corner-first.ensures.inside in
    let by_inside = c.coord_at-by.ensures.inside in
    let a : c.count.result ≡ count_of c.corner-first.result.a = grind (arith, to_z-of_z) in
    let a' : c.count-2.result ≡ count_of c.coord_at-by.result.a = grind (arith, to_z-of_z) in
    let b : c.count-3.result ≡ count_of c.corner-first.result.b = grind (arith, to_z-of_z) in
    let b' : c.count-4.result ≡ count_of c.coord_at-by.result.b = grind (arith, to_z-of_z) in
    let z : c.count-5.result ≡ count_of c.corner-first.result.c = grind (arith, to_z-of_z) in
    let z' : c.count-6.result ≡ count_of c.coord_at-by.result.c = grind (arith, to_z-of_z) in
    (is_further (bounds_of blocks.extents) (bounds_of blocks.block) c.args.at c.corner-first.result c.coord_at-by.result c.coord_of-point.result
    c.count.result c.count-2.result c.count-3.result c.count-4.result c.count-5.result c.count-6.result
    (cut_of blocks) c.requires.inside by_inside c.corner-first.ensures.value (a, b, z) (a', b', z') c.coord_of-point.ensures).inside

pub returns-clause-block : goal.returns-clause-block
returns-clause-block c =
    let blocks = c.args.self.now in
    let inside = c.corner-first.ensures.inside in
    let by_inside = c.coord_at-by.ensures.inside in
    let a : c.count.result ≡ count_of c.corner-first.result.a = grind (arith, to_z-of_z) in
    let a' : c.count-2.result ≡ count_of c.coord_at-by.result.a = grind (arith, to_z-of_z) in
    let b : c.count-3.result ≡ count_of c.corner-first.result.b = grind (arith, to_z-of_z) in
    let b' : c.count-4.result ≡ count_of c.coord_at-by.result.b = grind (arith, to_z-of_z) in
    let z : c.count-5.result ≡ count_of c.corner-first.result.c = grind (arith, to_z-of_z) in
    let z' : c.count-6.result ≡ count_of c.coord_at-by.result.c = grind (arith, to_z-of_z) in
    let further = is_further (bounds_of blocks.extents) (bounds_of blocks.block) c.args.at c.corner-first.result c.coord_at-by.result c.coord_of-point.result
    c.count.result c.count-2.result c.count-3.result c.count-4.result c.count-5.result c.count-6.result
    (cut_of blocks) c.requires.inside by_inside c.corner-first.ensures.value (a, b, z) (a', b', z') c.coord_of-point.ensures in
    ap (block_number (bounds_of blocks.extents) (bounds_of blocks.block)) c.row.ensures.inverse ∙ ap (row_of (bounds_of blocks.extents)) further.same_block

pub returns-clause-place : goal.returns-clause-place
returns-clause-place c =
    let blocks = c.args.self.now in
    let inside = c.corner-first.ensures.inside in
    let by_inside = c.coord_at-by.ensures.inside in
    let a : c.count.result ≡ count_of c.corner-first.result.a = grind (arith, to_z-of_z) in
    let a' : c.count-2.result ≡ count_of c.coord_at-by.result.a = grind (arith, to_z-of_z) in
    let b : c.count-3.result ≡ count_of c.corner-first.result.b = grind (arith, to_z-of_z) in
    let b' : c.count-4.result ≡ count_of c.coord_at-by.result.b = grind (arith, to_z-of_z) in
    let z : c.count-5.result ≡ count_of c.corner-first.result.c = grind (arith, to_z-of_z) in
    let z' : c.count-6.result ≡ count_of c.coord_at-by.result.c = grind (arith, to_z-of_z) in
    let further = is_further (bounds_of blocks.extents) (bounds_of blocks.block) c.args.at c.corner-first.result c.coord_at-by.result c.coord_of-point.result
    c.count.result c.count-2.result c.count-3.result c.count-4.result c.count-5.result c.count-6.result
    (cut_of blocks) c.requires.inside by_inside c.corner-first.ensures.value (a, b, z) (a', b', z') c.coord_of-point.ensures in
    ap (row_in_block (bounds_of blocks.block)) c.row.ensures.inverse ∙ ap (row_of (bounds_of blocks.block)) further.place ∙ c.coord_at-by.ensures.inverse
