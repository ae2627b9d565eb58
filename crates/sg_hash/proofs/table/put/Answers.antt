use Rattle.std.proofs.Common.{◌≡◌, ◌+◌, ◌<◌, ◌^◌, length, set, sym, subst, arith}
use Rattle.std.specs.Prelude.{Some, if◌then◌else◌, ◌==◌}
use Rattle.sg_hash.specs.Tables.{IsTable, AreBeside, beside}
use Rattle.sg_hash.proofs.Uses.{table_put, beside_put, beside_set, held_below, put_empty}
use Rattle.sg_hash.proofs.table.put.Goals as goal

pub returns-in-Some-clause-table : goal.returns-in-Some-clause-table
returns-in-Some-clause-table c =
    let found = c.in-Some.ensures in
    let below : c.in-Some.place < length c.args.keys.now = held_below c.args.keys.now c.args.key c.in-Some.place found.0 c.requires.some found.2 in
    let empty = put_empty c.args.keys.now c.args.key c.in-Some.place below c.requires.absent found.4 in
    subst (λ w. IsTable (set c.args.keys.now c.in-Some.place (w + 1))) (sym c.from.ensures)
    (table_put c.args.keys.now c.args.key c.in-Some.place found.0 c.requires.table found.1 found.2 found.3 empty)

pub returns-in-Some-clause-links : goal.returns-in-Some-clause-links
returns-in-Some-clause-links c =
    let found = c.in-Some.ensures in
    let below : c.in-Some.place < length c.args.keys.now = held_below c.args.keys.now c.args.key c.in-Some.place found.0 c.requires.some found.2 in
    let number : c.from-in-Some.result < 2 ^ 32 = omega (arith, c.from-in-Some.ensures) in
    subst (λ w. AreBeside (set c.args.keys.now c.in-Some.place (w + 1)) (set c.args.links.now c.in-Some.place (c.from-in-Some.result + 1))) (sym c.from.ensures)
    (beside_set c.args.keys.now c.args.links.now c.args.key c.from-in-Some.result c.in-Some.place c.requires.links below number)

pub returns-in-Some-clause-put : goal.returns-in-Some-clause-put
returns-in-Some-clause-put c =
    let found = c.in-Some.ensures in
    let below : c.in-Some.place < length c.args.keys.now = held_below c.args.keys.now c.args.key c.in-Some.place found.0 c.requires.some found.2 in
    let empty = put_empty c.args.keys.now c.args.key c.in-Some.place below c.requires.absent found.4 in
    λ e k.
    let done = beside_put c.args.keys.now c.args.links.now c.args.key c.args.number c.in-Some.place c.requires.links.many below empty c.requires.absent k in
    subst (λ w. beside (set c.args.keys.now c.in-Some.place (w + 1)) (set c.args.links.now c.in-Some.place (c.from-in-Some.result + 1)) k ≡ (if (k == c.args.key) then Some c.args.number else beside c.args.keys.now c.args.links.now k)) (sym c.from.ensures)
    (subst (λ w. beside (set c.args.keys.now c.in-Some.place (c.args.key + 1)) (set c.args.links.now c.in-Some.place (w + 1)) k ≡ (if (k == c.args.key) then Some c.args.number else beside c.args.keys.now c.args.links.now k)) (sym c.from-in-Some.ensures) done)
