use Rattle.std.proofs.Common.{◌≡◌, ◌*◌, arith, ◌∙◌, ap}
use Rattle.std.proofs.lemmas.Int.{to_z-of_z}
use Rattle.sg_layout.specs.Axes.{count_of}
use Rattle.sg_layout.specs.StorageWords.{power_for}
use Rattle.sg_convert.proofs.Tallied.{cap_range}
use Rattle.sg_convert.proofs.Counted.{power_is}
use Rattle.sg_convert.proofs.used.power_for.Goals as goal

pub returns-clause-value : goal.returns-clause-value
returns-clause-value c =
    let range = cap_range c.args.cap c.requires in
    let count : c.count.result ≡ count_of c.args.cap = grind (arith, to_z-of_z) in
    let p = c.next_power_of_two in
    (power_is (2 * c.count.result) p.result p.ensures.power p.ensures.lower_bound p.ensures.upper_bound (omega arith) (omega arith)).0
    ∙ ap (λ n. power_for (2 * n)) count

pub returns-clause-most : goal.returns-clause-most
returns-clause-most c =
    let range = cap_range c.args.cap c.requires in
    let count : c.count.result ≡ count_of c.args.cap = grind (arith, to_z-of_z) in
    let p = c.next_power_of_two in
    (power_is (2 * c.count.result) p.result p.ensures.power p.ensures.lower_bound p.ensures.upper_bound (omega arith) (omega arith)).1
