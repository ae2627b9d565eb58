use Rattle.std.proofs.Common.{refl, sym, ap, ◌∙◌, subst, map, arith}
use Rattle.sg_accum.specs.AccRace.{cell_of, AreEntries}
use Rattle.sg_accum.proofs.Words.{one-more-entry, one-more-cell}
use Rattle.sg_accum.proofs.steps.entries.Goals as goal

pub loop-value-preserved : goal.loop-value-preserved
loop-value-preserved c =
    let f = cell_of c.args.op c.args.ty in
    let pushed = c.push_reserved.ensures.items in
    record {
      cells = ap (map f) pushed
          ∙ one-more-cell f c.loop-value.words.items c.args.values.now c.loop-value.value-index c.entry.result _ c.loop-value-test.true c.loop-value.invariant.cells c.entry.ensures.cell refl;
      low = subst (AreEntries c.args.op) (sym pushed) (one-more-entry c.args.op c.loop-value.words.items c.entry.result c.entry.ensures.low c.loop-value.invariant.low);
      many = omega (arith, c.push_reserved.ensures.len, c.loop-value.invariant.many);
      room = omega (arith, c.push_reserved.ensures.capacity, c.loop-value.invariant.room);
    }
