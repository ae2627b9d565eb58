use Rattle.std.proofs.Common.{sym, ◌∙◌, arith, length-drop}
use Rattle.sg_parser.proofs.ParsedLemmas.{slice_turn, slice_stuck, slice_end}
use Rattle.sg_parser.proofs.program.parse.Goals as goal

pub loop-rest-preserved : goal.loop-rest-preserved
loop-rest-preserved c =
    let items = c.in_ok-push-in-Ok.ensures.ok in
    let lines = c.in_ok-push-in-Ok-2.ensures.ok in
    let some = c.in-Ok.ensures.some in
    let within = c.in-Ok.ensures.within in
    let turn = slice_turn c.loop-rest.number c.loop-rest.items c.loop-rest.lines c.loop-rest.rest.now c.first-item.result c.in-Ok.item c.in-Ok.taken c.in-len1-up.len_at_least c.first-item.is c.in-Ok.ensures.value in
    record {
      value = rw (items, lines, c.behind-rest.ensures) (sym turn ∙ c.loop-rest.invariant.value);
      count = rw c.behind-rest.ensures (omega (arith, length-drop c.in-Ok.taken c.loop-rest.rest.now));
    }

pub returns-in-Err-Refused : goal.returns-in-Err-Refused
returns-in-Err-Refused c =
    let refused = rw c.in-Err-Refused.field-0-is at c.in-Err-Refused.ensures.value in
    sym c.loop-rest.invariant.value
    ∙ slice_stuck c.loop-rest.number c.loop-rest.items c.loop-rest.lines c.loop-rest.rest.now c.first-item.result c.in-len1-up.len_at_least c.first-item.is refused

pub returns : goal.returns
returns c = sym c.loop-rest.invariant.value ∙ slice_end c.loop-rest.number c.loop-rest.items c.loop-rest.lines c.loop-rest.rest.now c.in_default.len_below
