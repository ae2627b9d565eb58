use Rattle.std.proofs.Common.{◌≡◌, ◌+◌, ◌<◌, ◌^◌, ◌++◌, ◌∷◌, [], List, take, map, refl, ap, ◌∙◌, arith}
use Rattle.std.specs.Prelude.{◌==◌}
use Rattle.std.specs.List.{list_all}
use Rattle.std.proofs.lemmas.Grind.{common_steps}
use Rattle.std.proofs.lemmas.List.{take_all}
use Rattle.std.proofs.lemmas.Result.{on_ok_weaker}
use Rattle.sg_ir.specs.declared.code.Inst.{Inst}
use Rattle.sg_ir.specs.Blocks.{End, link, block_of}
use Rattle.sg_ir.specs.Span.{sets}
use Rattle.sg_simplify.specs.steps.Counted.{one_where, has_words}
use Rattle.sg_simplify.specs.steps.Tally.{tally}
use Rattle.sg_simplify.proofs.Counting.{counts-same, const-words, words-more, set-count, if-count, for-count, more-count}
use Rattle.sg_simplify.proofs.setters.Setters.+setters.Goals as goal

pub block-returns-clause-counts : goal.block-returns-clause-counts
block-returns-clause-counts t c = λ types count tells var.
    c.loop-inst.invariant.0 types count tells var
    ∙ ap (λ insts. tally (count var + sets var (block_of types insts))) (take_all c.loop-inst.inst-index c.args.block.now c.loop-inst-test.false)

pub block-loop-inst-init : goal.block-loop-inst-init
block-loop-inst-init t c = (λ types count tells var. let e : count var ≡ count var + 0 = omega arith in tells var ∙ ap tally e, refl)

pub block-loop-inst-preserved : goal.block-loop-inst-preserved
block-loop-inst-preserved t c =
    let xs = c.args.block.now in
    let i = c.loop-inst.inst-index in
    let inst = c.inst-item.result in
    let more : take (i + 1) xs ≡ take i xs ++ inst ∷ [] = grind (arith, common_steps) in
    let done = c.in_ok-inst.ensures in (
      λ types count tells. counts-same (λ v. count v + sets v (block_of types (take i xs)) + sets v (link types inst End)) (λ v. count v + sets v (block_of types (take (i + 1) xs))) c.inst.new.self.again.entries
          (λ v. more-count types (take i xs) (take (i + 1) xs) inst v (count v) more)
          (done.counts types (λ v. count v + sets v (block_of types (take i xs))) (c.loop-inst.invariant.0 types count tells)),
      ap (λ (insts : List Inst). list_all (λ b. b) (map has_words insts)) more ∙ words-more (take i xs) inst c.loop-inst.invariant.1 done.words,
    )

pub inst-returns-in-Const-clause-words : goal.inst-returns-in-Const-clause-words
inst-returns-in-Const-clause-words t c =
    let small : c.in-Const.word < 2 ^ 32 = omega arith in
    const-words c.args.inst.now c.in-Const._to c.in-Const.word c.in-Const.is small

pub inst-returns-in-Set-clause-counts : goal.inst-returns-in-Set-clause-counts
inst-returns-in-Set-clause-counts t c =
    on_ok_weaker c.note.result
    (λ counts types count tells. counts-same (λ v. count v + one_where (c.in-Set.var == v)) (λ v. count v + sets v (link types c.args.inst.now End)) c.note.new.self.again.entries
    (λ v. ap (λ n. count v + n) (set-count types c.args.inst.now c.in-Set.var c.in-Set._from v c.in-Set.is)) (counts count tells))
    c.note.ensures

pub inst-returns-in_ok-block-in-If-clause-counts : goal.inst-returns-in_ok-block-in-If-clause-counts
inst-returns-in_ok-block-in-If-clause-counts t c =
    let is = c.in-If in
    on_ok_weaker c.block-in-If.result
    (λ counts types count tells. counts-same (λ v. count v + sets v (block_of types c.as_slice.result.now) + sets v (block_of types c.as_slice-in-If.result.now)) (λ v. count v + sets v (link types c.args.inst.now End)) c.block-in-If.new.self.again.entries
    (λ v. ap (λ insts. count v + sets v (block_of types insts) + sets v (block_of types c.as_slice-in-If.result.now)) c.as_slice.ensures
    ∙ ap (λ insts. count v + sets v (block_of types is.yes) + sets v (block_of types insts)) c.as_slice-in-If.ensures
    ∙ if-count types c.args.inst.now is._cond is.yes is.no v (count v) is.is)
    (counts types (λ v. count v + sets v (block_of types c.as_slice.result.now)) (c.in_ok-block-in-If.ensures.counts types count tells)))
    c.block-in-If.ensures.counts

pub inst-returns-in_ok-note-in-For-clause-counts : goal.inst-returns-in_ok-note-in-For-clause-counts
inst-returns-in_ok-note-in-For-clause-counts t c =
    let is = c.in-For in
    on_ok_weaker c.block-in-For.result
    (λ counts types count tells. counts-same (λ v. count v + one_where (is.var == v) + sets v (block_of types c.as_slice-in-For.result.now)) (λ v. count v + sets v (link types c.args.inst.now End)) c.block-in-For.new.self.again.entries
    (λ v. ap (λ insts. count v + one_where (is.var == v) + sets v (block_of types insts)) c.as_slice-in-For.ensures ∙ for-count types c.args.inst.now is.var is._lo is._hi is.body v (count v) is.is)
    (counts types (λ v. count v + one_where (is.var == v)) (c.in_ok-note-in-For.ensures count tells)))
    c.block-in-For.ensures.counts
