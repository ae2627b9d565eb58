use Rattle.std.proofs.Common.{replicate, ap, ◌∙◌, arith}
use Rattle.sg_store.specs.steps.KeptWords.{in_row, kept_link}
use Rattle.sg_store.proofs.WordsInUse.{kept_none, kept_next, kept_all}
use Rattle.sg_store.proofs.kept_words.kept_links.Goals as goal

pub loop-next-init : goal.loop-next-init
loop-next-init c = (kept_none c.args.links.now c.in_ok-kept.kept c.args.row.now (c.in_ok-kept.ensures ∙ ap (λ n. replicate n 0) c.len.ensures), omega arith)

pub set-requires : goal.set-requires
set-requires c = let at = c.in-Some.ensures.next in omega (arith, at.1, c.loop-next.invariant.0.as_many)

pub loop-next-preserved : goal.loop-next-preserved
loop-next-preserved c =
    let at = c.in-Some.ensures.next in (
      kept_next c.args.links.now c.loop-next.kept c.set.new.self c.args.row.now c.loop-next.slot c.in-Some.next c.kept_link.result at.0 at.1 at.3 c.set.ensures
          (c.kept_link.ensures ∙ ap (kept_link (in_row c.args.row.now)) c.get.ensures) c.loop-next.invariant.0,
      omega (arith, at.1),
    )

pub returns : goal.returns
returns c = kept_all c.args.links.now c.loop-next.kept c.args.row.now c.loop-next.slot c.in_default.ensures.next c.loop-next.invariant.0
