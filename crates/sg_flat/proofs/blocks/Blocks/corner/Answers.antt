use Rattle.std.proofs.Common.{ap, ◌≡◌, ◌/◌, ◌∙◌, arith}
use Rattle.std.proofs.lemmas.Int.{to_z-of_z}
use Rattle.sg_coord.specs.Coord.{count_of}
use Rattle.sg_flat.specs.steps.Blocks.{all_of, each_of}
use Rattle.sg_flat.proofs.Cuts.{cut_of, corner_by_quotients}
use Rattle.sg_flat.proofs.blocks.Blocks.corner.Goals as goal

pub returns-clause-inside : goal.returns-clause-inside
returns-clause-inside c =
    let block = each_of c.args.self.now in
    let inside = c.requires in
    let a : c.count.result ≡ count_of c.args.at.a = grind (arith, to_z-of_z) in
    let b : c.count-2.result ≡ count_of c.args.at.b = grind (arith, to_z-of_z) in
    let z : c.count-3.result ≡ count_of c.args.at.c = grind (arith, to_z-of_z) in
    corner_by_quotients (all_of c.args.self.now) block c.args.at c.coord_of.result c.quotient.result c.quotient-2.result c.quotient-3.result (cut_of c.args.self.now) inside
    (c.quotient.ensures ∙ ap (λ n. n / block.a) a) (c.quotient-2.ensures ∙ ap (λ n. n / block.b) b) (c.quotient-3.ensures ∙ ap (λ n. n / block.c) z) c.coord_of.ensures
