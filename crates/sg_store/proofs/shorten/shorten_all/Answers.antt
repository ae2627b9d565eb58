use Rattle.std.proofs.Common.{arith, length, ap, ◌∙◌, ◌<◌}
use Rattle.sg_dynamic.specs.Chunks.{chunks_of}
use Rattle.sg_store.proofs.Turns.{cut_more, cut_end}
use Rattle.sg_store.proofs.shorten.shorten_all.Goals as goal

pub loop-head-preserved : goal.loop-head-preserved
loop-head-preserved c =
    let below : c.loop-head.head < length c.args.chains.now.lists = omega (arith, c.loop-head-test.true, c.used-head-end.ensures.few) in
    record {
      cut = cut_more c.args.chains.now c.loop-head.chains c.shorten.new.chains c.args.lengths.now c.args.chunk c.loop-head.head c.chunks-wanted.result c.loop-head.invariant.cut below
          (c.chunks-wanted.ensures ∙ ap (chunks_of c.args.chunk) c.get.ensures) c.shorten.ensures.cut;
      exact = c.shorten.ensures.exact;
      fewer = omega (arith, c.loop-head.invariant.fewer, c.shorten.ensures.fewer);
    }

pub chunks-wanted-requires-clause-short : goal.chunks-wanted-requires-clause-short
chunks-wanted-requires-clause-short c =
    let below : c.loop-head.head < length c.args.lengths.now = omega (arith, c.loop-head-test.true, c.used-head-end.ensures.few, c.requires.many) in
    omega (arith, c.requires.short c.loop-head.head 0 below, c.get.ensures)

pub returns-clause-cut : goal.returns-clause-cut
returns-clause-cut c =
    cut_end c.args.chains.now c.loop-head.chains c.args.lengths.now c.args.chunk c.loop-head.head (length c.args.lengths.now) c.loop-head.invariant.cut
    (λ head past. c.used-head-end.ensures.rest head (omega (arith, past, c.loop-head-test.false)))
    (omega (arith, c.used-head-end.ensures.few, c.requires.many))
