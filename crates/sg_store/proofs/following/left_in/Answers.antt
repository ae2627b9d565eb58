use Rattle.std.proofs.Common.{◌≡◌, ℕ, ◌-◌, ◌%◌, to_z, of_z, w32, List, ap, ap₂, ◌∙◌, arith, mod-lt}
use Rattle.std.proofs.lemmas.Int.{to_z-of_z}
use Rattle.sg_coord.specs.Coord.{count_of}
use Rattle.sg_layout.specs.declared.shape.Size.{Size}
use Rattle.sg_layout.specs.Axes.{extent_in}
use Rattle.sg_store.specs.Following.{last_part}
use Rattle.sg_store.proofs.following.left_in.Goals as goal

pub overflow_sub-result : goal.overflow_sub-result
overflow_sub-result c = omega (arith, c.remainder-rest.ensures, mod-lt c.count.result c.extent_in-extent.ensures.some, c.extent_in-extent.ensures.some)

pub returns : goal.returns
returns c =
    let extent : c.extent_in-extent.result ≡ extent_in c.args.node.now.sizes c.args.at.n = c.extent_in-extent.ensures.value ∙ ap (λ (sizes : List Size). extent_in sizes c.args.at.n) c.as_slice.ensures in
    let same : to_z w32 (of_z w32 c.last_part.result) ≡ c.last_part.result = grind (arith, to_z-of_z) in
    let part : c.count.result ≡ count_of (last_part c.args.at) = c.count.ensures.value ∙ ap count_of (same ∙ c.last_part.ensures) in
    let rest : c.remainder-rest.result ≡ count_of (last_part c.args.at) % extent_in c.args.node.now.sizes c.args.at.n = c.remainder-rest.ensures ∙ ap₂ (λ (x e : ℕ). x % e) part extent in
    ap₂ (λ (e r : ℕ). e - 1 - r) extent rest
