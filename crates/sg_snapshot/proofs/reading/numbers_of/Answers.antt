use Rattle.std.proofs.Common.{◌+◌, ◌*◌, ◌++◌, ℕ, List, Option, Some, ap, ◌∙◌, arith}
use Rattle.std.specs.Prelude.{drop, option_map}
use Rattle.sg_snapshot.specs.Numbers.{numbers_of}
use Rattle.sg_snapshot.proofs.Fronts.{not_begun, number_more, numbers_cut, numbers_whole}
use Rattle.sg_snapshot.proofs.reading.numbers_of.Goals as goal

pub loop-i-init : goal.loop-i-init
loop-i-init c = not_begun c.in_ok-numbers.numbers.items (numbers_of c.args.bytes.now) c.in_ok-numbers.ensures.items

pub loop-i-preserved : goal.loop-i-preserved
loop-i-preserved c =
    let bytes = c.args.bytes.now in
    let i = c.loop-i.i in
    ap (λ (done : List ℕ). option_map (λ (more : List ℕ). done ++ more) (numbers_of (drop (4 * (i + 1)) bytes))) c.in_ok-push.ensures.items
    ∙ number_more bytes c.loop-i.numbers.items i c.number_at.result (numbers_of bytes) (let below = c.loop-i-test.true in omega arith) c.number_at.ensures c.loop-i.invariant

pub returns-then-end-long : goal.returns-then-end-long
returns-then-end-long c =
    let i = c.loop-i.i in
    numbers_cut c.args.bytes.now c.loop-i.numbers.items (4 * i) (let less = c.if-end-long.true in omega (arith, c.loop-i.auto.i-end, c.loop-i-test.false)) (omega (arith, c.loop-i.auto.i-end, c.loop-i-test.false)) c.loop-i.invariant

pub returns : goal.returns
returns c =
    let i = c.loop-i.i in
    ap (λ (l : List ℕ). let out : Option (List ℕ) = Some l in out) c.from_vec.ensures
    ∙ numbers_whole c.args.bytes.now c.loop-i.numbers.items (4 * i) (let less = c.if-end-long.false in omega (arith, c.loop-i.auto.i-end, c.loop-i-test.false)) c.loop-i.invariant
