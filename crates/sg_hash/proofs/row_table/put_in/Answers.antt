use Rattle.std.proofs.Common.{◌≡◌, ◌+◌, ◌<◌, ◌^◌, ℕ, List, length, set, sym, ap, ◌∙◌, subst, arith}
use Rattle.sg_hash.specs.Tables.{IsTable, AreBeside, beside}
use Rattle.sg_hash.proofs.Uses.{table_put, beside_put, beside_set, held_below, put_empty}
use Rattle.sg_hash.proofs.row_table.put_in.Goals as goal

pub returns-in-Some-clause-table : goal.returns-in-Some-clause-table
returns-in-Some-clause-table c =
    let found = c.in-Some.ensures in
    let below : c.in-Some.place < length c.args.keys.now = held_below c.args.keys.now c.args.key c.in-Some.place found.0 c.requires.some found.2 in
    let empty = put_empty c.args.keys.now c.args.key c.in-Some.place below c.requires.absent found.4 in
    let keys : c.set.new.self ≡ set c.args.keys.now c.in-Some.place (c.args.key + 1) = c.set.ensures ∙ ap (λ w. set c.args.keys.now c.in-Some.place (w + 1)) c.from.ensures in
    subst IsTable (sym keys) (table_put c.args.keys.now c.args.key c.in-Some.place found.0 c.requires.table found.1 found.2 found.3 empty)

pub returns-in-Some-clause-links : goal.returns-in-Some-clause-links
returns-in-Some-clause-links c =
    let found = c.in-Some.ensures in
    let below : c.in-Some.place < length c.args.keys.now = held_below c.args.keys.now c.args.key c.in-Some.place found.0 c.requires.some found.2 in
    let small : c.args.number < 2 ^ 32 = omega arith in
    let keys : c.set.new.self ≡ set c.args.keys.now c.in-Some.place (c.args.key + 1) = c.set.ensures ∙ ap (λ w. set c.args.keys.now c.in-Some.place (w + 1)) c.from.ensures in
    let links : c.set-in-Some.new.self ≡ set c.args.links.now c.in-Some.place (c.args.number + 1) =
    c.set-in-Some.ensures ∙ ap (λ w. set c.args.links.now c.in-Some.place (w + 1)) c.from-in-Some.ensures in
    subst (λ (ks : List ℕ). AreBeside ks c.set-in-Some.new.self) (sym keys)
    (subst (AreBeside (set c.args.keys.now c.in-Some.place (c.args.key + 1))) (sym links)
    (beside_set c.args.keys.now c.args.links.now c.args.key c.args.number c.in-Some.place c.requires.links below small))

pub returns-in-Some-clause-put : goal.returns-in-Some-clause-put
returns-in-Some-clause-put c =
    let found = c.in-Some.ensures in
    let below : c.in-Some.place < length c.args.keys.now = held_below c.args.keys.now c.args.key c.in-Some.place found.0 c.requires.some found.2 in
    let empty = put_empty c.args.keys.now c.args.key c.in-Some.place below c.requires.absent found.4 in
    let keys : c.set.new.self ≡ set c.args.keys.now c.in-Some.place (c.args.key + 1) = c.set.ensures ∙ ap (λ w. set c.args.keys.now c.in-Some.place (w + 1)) c.from.ensures in
    let links : c.set-in-Some.new.self ≡ set c.args.links.now c.in-Some.place (c.args.number + 1) =
    c.set-in-Some.ensures ∙ ap (λ w. set c.args.links.now c.in-Some.place (w + 1)) c.from-in-Some.ensures in
    λ e k.
    ap (λ (ks : List ℕ). beside ks c.set-in-Some.new.self k) keys ∙ ap (λ (ls : List ℕ). beside (set c.args.keys.now c.in-Some.place (c.args.key + 1)) ls k) links
    ∙ beside_put c.args.keys.now c.args.links.now c.args.key c.args.number c.in-Some.place c.requires.links.many below empty c.requires.absent k
