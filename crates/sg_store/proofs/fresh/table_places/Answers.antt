use Rattle.std.proofs.Common.{◌≡◌, ◌*◌, ◌≤◌, ◌^◌, ◌∙◌, ap, arith}
use Rattle.std.proofs.lemmas.Int.{to_z-of_z}
use Rattle.sg_layout.specs.Axes.{count_of}
use Rattle.sg_layout.specs.StorageWords.{power_for}
use Rattle.sg_store.proofs.TablePlaces.{power_is}
use Rattle.sg_store.proofs.fresh.table_places.Goals as goal

pub returns : goal.returns
returns c =
    let some : 1 ≤ count_of c.args.node.now.cap = c.requires.0 in
    let few : count_of c.args.node.now.cap ≤ 2 ^ 16 = c.requires.1 in
    let count : c.count-cap.result ≡ count_of c.args.node.now.cap = grind (arith, to_z-of_z) in
    let p = c.next_power_of_two in
    power_is (2 * c.count-cap.result) p.result p.ensures.power p.ensures.lower_bound p.ensures.upper_bound (omega (arith, count, some)) (omega (arith, count, few))
    ∙ ap (λ n. power_for (2 * n)) count
