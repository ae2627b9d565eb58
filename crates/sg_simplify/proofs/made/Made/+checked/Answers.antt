use Rattle.std.proofs.Common.{length, ap, arith}
use Rattle.std.proofs.lemmas.Result.{IfOk-weaker}
use Rattle.sg_simplify.proofs.Reading.{rest-whole, rest-shorter, first-rest}
use Rattle.sg_simplify.proofs.Descending.{checked-none, checked-no-index, checked-next}
use Rattle.sg_simplify.proofs.made.Made.+checked.Goals as goal

pub returns-in_default : goal.returns-in_default
returns-in_default t c = checked-none c.args.axis c.args.extents.now c.args.index.now c.args.place c.args.self.now c.args.out.now c.in_default.len_below

pub returns-in_default-index : goal.returns-in_default-index
returns-in_default-index t c = checked-no-index c.args.axis c.args.extents.now c.args.index.now c.args.place c.args.self.now c.args.out.now c.in_default-index.len_below

pub checked-requires : goal.checked-requires
checked-requires t c =
    let extents = c.args.extents.now in
    let shorter = rest-shorter extents c.in-len1-up.len_at_least in
    let whole = ap length (rest-whole extents) in
    let few = c.requires.few in
    (omega (arith, shorter, whole, c.decreases), omega (arith, shorter, whole))

pub returns : goal.returns
returns t c =
    let extents = c.args.extents.now in
    let index = c.args.index.now in
    IfOk-weaker c.checked.result _ _
    (λ to others. checked-next c.args.axis _ _ c.args.place c.in_ok-next.next to extents _ index _ c.args.self.now c.check.new.self c.checked.new.self c.args.out.now c.check.new.out c.checked.new.out
    (first-rest extents c.in-len1-up.len_at_least) (first-rest index c.in-len1-up-index.len_at_least) c.in_ok-next.ensures others) c.checked.ensures
