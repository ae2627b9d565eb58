use Rattle.std.proofs.Common.{length, map, ◌∙◌, ap, take, ◌+◌, sym, arith}
use Rattle.std.proofs.lemmas.List.{length-set}
use Rattle.std.specs.Mem.Slots.{slots_items}
use Rattle.sg_accum.specs.AccRace.{cell_of}
use Rattle.sg_accum.proofs.Words.{copied, mapped-at, entry-at}
use Rattle.sg_accum.proofs.steps.copy_cells.Goals as goal

pub cell-requires : goal.cell-requires
cell-requires c = record { low = entry-at c.args.op (slots_items c.args.closed.now.words) c.loop-i.i c.word.result c.word.ensures c.requires.low }

pub loop-i-preserved : goal.loop-i-preserved
loop-i-preserved c =
    let f = cell_of c.args.op c.args.ty in
    let words = slots_items c.args.closed.now.words in
    let long = c.loop-i.invariant.long in
    let set' = c.set.ensures in
    record {
      long = ap length set' ∙ length-set c.loop-i.values c.loop-i.i _ ∙ long;
      front = ap (take (c.loop-i.i + 1)) set' ∙ copied c.loop-i.values (map f words) c.loop-i.i c.cell.result (omega arith) c.loop-i.invariant.front
          (mapped-at f words c.loop-i.i c.word.result c.word.ensures ∙ ap (λ n. mathlib.Core.Option.some n) (sym c.cell.ensures));
    }
