use Rattle.std.proofs.Common.{◌≡◌, ℤ, pos, ◌+ℤ◌, to_z, of_z, w32, sym, ap, ◌∙◌, arith}
use Rattle.std.proofs.lemmas.Int.{to_z-of_z}
use Rattle.sg_coord.proofs.Uses.{same_parts}
use Rattle.sg_exec.specs.steps.Nearby.{on_first}
use Rattle.sg_exec.proofs.lanes.near.along_first.Goals as goal

pub returns-then-here-there : goal.returns-then-here-there
returns-then-here-there c = λ some.
    let a : to_z w32 (of_z w32 c.args.at.a) ≡ c.args.at.a = grind (arith, to_z-of_z) in
    let b : to_z w32 (of_z w32 c.args.at.b) ≡ c.args.at.b = grind (arith, to_z-of_z) in
    let d : to_z w32 (of_z w32 c.args.at.c) ≡ c.args.at.c = grind (arith, to_z-of_z) in
    let next_a : to_z w32 (of_z w32 c.args.next.a) ≡ c.args.next.a = grind (arith, to_z-of_z) in
    let next_b : to_z w32 (of_z w32 c.args.next.b) ≡ c.args.next.b = grind (arith, to_z-of_z) in
    let next_d : to_z w32 (of_z w32 c.args.next.c) ≡ c.args.next.c = grind (arith, to_z-of_z) in
    same_parts c.args.next (on_first c.difference.result c.args.at) c.requires
    (sym next_a ∙ c.difference.ensures some ∙ ap (λ (z : ℤ). z +ℤ pos c.difference.result) a)
    (sym next_b ∙ ap (to_z w32) (sym c.if-mine-its.true) ∙ b)
    (sym next_d ∙ ap (to_z w32) (sym c.if-here-there.true) ∙ d)
