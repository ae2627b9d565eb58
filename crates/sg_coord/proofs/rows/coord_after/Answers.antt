use Rattle.std.proofs.Common.{◌≡◌, ◌+◌, ◌/◌, ◌%◌, ◌*◌, ◌<◌, ℕ, pos, ap, ◌∙◌, refl, arith}
use Rattle.std.proofs.lemmas.Int.{to_z-of_z}
use Rattle.sg_coord.specs.declared.coord.Coord.{Coord}
use Rattle.sg_coord.specs.Bounds.{bounds_of}
use Rattle.sg_coord.specs.Coord.{count_of}
use Rattle.sg_coord.proofs.Following.{in_line, next_line, next_plane}
use Rattle.sg_coord.proofs.Uses.{offset_below}
use Rattle.sg_coord.proofs.rows.coord_after.Goals as goal

pub returns-then-c-extents : goal.returns-then-c-extents
returns-then-c-extents c = λ k is below.
    let e = bounds_of c.args.extents.now in
    let a_is : c.count-a.result ≡ count_of c.args.at.a = grind (arith, to_z-of_z) in
    let a : c.count-a.result ≡ k / (e.b * e.c) = a_is ∙ ap (λ (x : Coord). count_of x.a) is in
    let b_is : c.count-b.result ≡ count_of c.args.at.b = grind (arith, to_z-of_z) in
    let b : c.count-b.result ≡ k / e.c % e.b = b_is ∙ ap (λ (x : Coord). count_of x.b) is in
    let last_is : c.count-c.result ≡ count_of c.args.at.c = grind (arith, to_z-of_z) in
    let last : c.count-c.result ≡ k % e.c = last_is ∙ ap (λ (x : Coord). count_of x.c) is in
    c.coord_of.ensures
    ∙ in_line e k _ (ap (λ (x : Coord). x.n) is) (ap pos a) (ap pos b) (ap (λ (x : ℕ). pos (x + 1)) last) (omega (arith, c.if-c-extents.true, last))

pub returns-then-b-extents : goal.returns-then-b-extents
returns-then-b-extents c = λ k is below.
    let e = bounds_of c.args.extents.now in
    let a_is : c.count-a.result ≡ count_of c.args.at.a = grind (arith, to_z-of_z) in
    let a : c.count-a.result ≡ k / (e.b * e.c) = a_is ∙ ap (λ (x : Coord). count_of x.a) is in
    let b_is : c.count-b.result ≡ count_of c.args.at.b = grind (arith, to_z-of_z) in
    let b : c.count-b.result ≡ k / e.c % e.b = b_is ∙ ap (λ (x : Coord). count_of x.b) is in
    let last_is : c.count-c.result ≡ count_of c.args.at.c = grind (arith, to_z-of_z) in
    let last : c.count-c.result ≡ k % e.c = last_is ∙ ap (λ (x : Coord). count_of x.c) is in
    let b_high : count_of c.args.at.b < e.b = offset_below c.args.at.b e.b c.requires.b_low c.requires.b_high in
    let c_high : count_of c.args.at.c < e.c = offset_below c.args.at.c e.c c.requires.c_low c.requires.c_high in
    let full : k % e.c + 1 ≡ e.c = omega (arith, c.if-c-extents.false, c_high, last, last_is) in
    let some : 0 < e.c = omega (arith, c_high) in
    c.coord_of-then-b-extents.ensures
    ∙ next_line e k _ (ap (λ (x : Coord). x.n) is) (ap pos a) (ap (λ (x : ℕ). pos (x + 1)) b) refl some full (omega (arith, c.if-b-extents.true, b))

pub returns : goal.returns
returns c = λ k is below.
    let e = bounds_of c.args.extents.now in
    let a_is : c.count-a.result ≡ count_of c.args.at.a = grind (arith, to_z-of_z) in
    let a : c.count-a.result ≡ k / (e.b * e.c) = a_is ∙ ap (λ (x : Coord). count_of x.a) is in
    let b_is : c.count-b.result ≡ count_of c.args.at.b = grind (arith, to_z-of_z) in
    let b : c.count-b.result ≡ k / e.c % e.b = b_is ∙ ap (λ (x : Coord). count_of x.b) is in
    let last_is : c.count-c.result ≡ count_of c.args.at.c = grind (arith, to_z-of_z) in
    let last : c.count-c.result ≡ k % e.c = last_is ∙ ap (λ (x : Coord). count_of x.c) is in
    let b_high : count_of c.args.at.b < e.b = offset_below c.args.at.b e.b c.requires.b_low c.requires.b_high in
    let c_high : count_of c.args.at.c < e.c = offset_below c.args.at.c e.c c.requires.c_low c.requires.c_high in
    let full : k % e.c + 1 ≡ e.c = omega (arith, c.if-c-extents.false, c_high, last, last_is) in
    let some : 0 < e.c = omega (arith, c_high) in
    let ends : k / e.c % e.b + 1 ≡ e.b = omega (arith, c.if-b-extents.false, b_high, b, b_is) in
    let more : 0 < e.b = omega (arith, b_high) in
    c.coord_of-2.ensures
    ∙ next_plane e k _ (ap (λ (x : Coord). x.n) is) (ap (λ (x : ℕ). pos (x + 1)) a) refl refl some more full ends
