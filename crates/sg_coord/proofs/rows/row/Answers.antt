use Rattle.std.proofs.Common.{◌≡◌, arith}
use Rattle.std.proofs.lemmas.Int.{to_z-of_z}
use Rattle.sg_coord.specs.Bounds.{bounds_of}
use Rattle.sg_coord.specs.Coord.{count_of}
use Rattle.sg_coord.proofs.RowLaws.{row_below, point_of_row}
use Rattle.sg_coord.proofs.rows.row.Goals as goal

pub overflow_mul-result-2 : goal.overflow_mul-result-2
overflow_mul-result-2 c =
    let first : c.count.result ≡ count_of c.args.at.a = grind (arith, to_z-of_z) in
    let second : c.count-2.result ≡ count_of c.args.at.b = grind (arith, to_z-of_z) in
    rw (first, second) (omega (arith, row_below (bounds_of c.args.extents.now) c.args.at c.requires))

pub overflow_add-result-2 : goal.overflow_add-result-2
overflow_add-result-2 c =
    let first : c.count.result ≡ count_of c.args.at.a = grind (arith, to_z-of_z) in
    let second : c.count-2.result ≡ count_of c.args.at.b = grind (arith, to_z-of_z) in
    let third : c.count-3.result ≡ count_of c.args.at.c = grind (arith, to_z-of_z) in
    rw (first, second, third) (omega (arith, row_below (bounds_of c.args.extents.now) c.args.at c.requires))

pub returns-clause-below : goal.returns-clause-below
returns-clause-below c =
    let first : c.count.result ≡ count_of c.args.at.a = grind (arith, to_z-of_z) in
    let second : c.count-2.result ≡ count_of c.args.at.b = grind (arith, to_z-of_z) in
    let third : c.count-3.result ≡ count_of c.args.at.c = grind (arith, to_z-of_z) in
    rw (first, second, third) (row_below (bounds_of c.args.extents.now) c.args.at c.requires)

pub returns-clause-inverse : goal.returns-clause-inverse
returns-clause-inverse c =
    let first : c.count.result ≡ count_of c.args.at.a = grind (arith, to_z-of_z) in
    let second : c.count-2.result ≡ count_of c.args.at.b = grind (arith, to_z-of_z) in
    let third : c.count-3.result ≡ count_of c.args.at.c = grind (arith, to_z-of_z) in
    rw (first, second, third) (point_of_row (bounds_of c.args.extents.now) c.args.at c.requires)
