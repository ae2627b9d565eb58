use Rattle.std.proofs.Common.{◌≡◌, ◌+◌, ◌<◌, length, get_or, sym, ◌∙◌, inl, inr}
use Rattle.sg_hash.proofs.Uses.{absent_by_empty, absent_by_full, held_below}
use Rattle.sg_hash.proofs.row_table.place_in.Goals as goal

pub returns-then-get-eq0 : goal.returns-then-get-eq0
returns-then-get-eq0 c =
    let found = c.in-Some.ensures in
    absent_by_empty c.args.keys.now c.args.key c.in-Some.place found.0 c.requires.table found.1 found.2 found.3 (sym c.get.ensures ∙ c.if-get-eq0.true)

pub returns-else-get-eq0 : goal.returns-else-get-eq0
returns-else-get-eq0 c =
    let found = c.in-Some.ensures in
    let below : c.in-Some.place < length c.args.keys.now = held_below c.args.keys.now c.args.key c.in-Some.place found.0 c.requires.some found.2 in
    let held : get_or c.args.keys.now c.in-Some.place 0 ≡ c.args.key + 1 = elim (found.4) [
      | inl empty ↦ absurd (c.if-get-eq0.false (c.get.ensures ∙ empty))
      | inr holds ↦ holds
    ] in
    (below, held)

pub returns-in-None : goal.returns-in-None
returns-in-None c = absent_by_full c.args.keys.now c.args.key c.in-None.ensures
