use Rattle.std.proofs.Common.{◌≡◌, ap, sym, subst, ◌∙◌, arith}
use Rattle.std.specs.Prelude.{Some}
use Rattle.sg_hash.specs.Tables.{IsTable, beside}
use Rattle.sg_activate.proofs.DescentAnswered.{few_base, begins_key}
use Rattle.sg_activate.proofs.descent.seat.DescentPass.begin.Goals as goal

pub find-requires-clause-table : goal.find-requires-clause-table
find-requires-clause-table c =
    let p = c.args.self.now in
    let few = few_base p in
    let some = c.if-self-eq0.false in
    let one : p.base ≡ 1 = omega arith in
    subst IsTable (sym c.as_slice.ensures) (p.heads.table one)

pub returns-in-Some : goal.returns-in-Some
returns-in-Some c =
    let p = c.args.self.now in
    let key = c.offset-key.result in
    let found : beside p.start.keys p.start.heads key ≡ Some c.in-Some.number =
    ap (λ k. beside k p.start.heads key) (sym c.as_slice.ensures) ∙ ap (λ l. beside c.as_slice.result.now l key) (sym c.as_slice-2.ensures) ∙ sym c.find.ensures.number ∙ c.in-Some.is in
    begins_key p c.args.at key c.in-Some.number c.if-self-eq0.false c.offset-key.ensures.value found
