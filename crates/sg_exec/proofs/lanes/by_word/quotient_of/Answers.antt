use Rattle.std.proofs.Common.{◌≤◌, arith, pow_pos}
use Rattle.sg_exec.proofs.ByWord.{product_fits, quotient_is, quotient_most}
use Rattle.sg_exec.proofs.ByWord as lemmas
use Rattle.sg_exec.proofs.lanes.by_word.quotient_of.Goals as goal

pub overflow_mul-result : goal.overflow_mul-result
overflow_mul-result c =
    let over : lemmas.IsOver c.args.div c.args.log c.args.over = record { few = c.requires.log; low = c.requires.low; high = c.requires.high; is = c.requires.over } in
    omega (arith, product_fits c.args.size c.args.div c.args.log c.args.over c.requires.size (omega (arith, c.requires.low, pow_pos c.args.log)) over)

pub overflow_cast-result-3 : goal.overflow_cast-result-3
overflow_cast-result-3 c =
    let over : lemmas.IsOver c.args.div c.args.log c.args.over = record { few = c.requires.log; low = c.requires.low; high = c.requires.high; is = c.requires.over } in
    let some : 1 ≤ c.args.div = omega (arith, c.requires.low, pow_pos c.args.log) in
    omega (arith, quotient_is c.args.size c.args.div c.args.log c.args.over c.requires.size some over, quotient_most c.args.size c.args.div c.requires.size some)

pub returns-clause-is : goal.returns-clause-is
returns-clause-is c =
    let over : lemmas.IsOver c.args.div c.args.log c.args.over = record { few = c.requires.log; low = c.requires.low; high = c.requires.high; is = c.requires.over } in
    quotient_is c.args.size c.args.div c.args.log c.args.over c.requires.size (omega (arith, c.requires.low, pow_pos c.args.log)) over

pub returns-clause-most : goal.returns-clause-most
returns-clause-most c =
    let over : lemmas.IsOver c.args.div c.args.log c.args.over = record { few = c.requires.log; low = c.requires.low; high = c.requires.high; is = c.requires.over } in
    let some : 1 ≤ c.args.div = omega (arith, c.requires.low, pow_pos c.args.log) in
    omega (arith, quotient_is c.args.size c.args.div c.args.log c.args.over c.requires.size some over, quotient_most c.args.size c.args.div c.requires.size some)
