use Rattle.std.proofs.Common.{length, ◌∙◌, ap, take, ◌+◌, arith}
use Rattle.std.proofs.lemmas.List.{length-set}
use Rattle.std.specs.Mem.Slots.{slots_items}
use Rattle.sg_activate.proofs.DescentLoops.{copied_from}
use Rattle.sg_activate.proofs.descent.ended.copy_words.Goals as goal

pub loop-i-preserved : goal.loop-i-preserved
loop-i-preserved c =
    let long = c.loop-i.invariant.long in
    let set' = c.set.ensures in
    record {
      long = ap length set' ∙ length-set c.loop-i.words c.loop-i.i _ ∙ long;
      front = ap (take (c.loop-i.i + 1)) set' ∙ copied_from c.loop-i.words (slots_items c.args.closed.now.words) c.args.first c.loop-i.i c.word.result (omega arith) c.loop-i.invariant.front c.word.ensures;
    }
