use Rattle.std.proofs.Common.{◌≡◌, ℤ, to_z, of_z, w32, ◌++◌, ◌∷◌, [], true, false, not, ◌&&◌, ◌||◌, List, map, reverse, sym, ap, ◌∙◌, arith}
use Rattle.std.proofs.lemmas.Int.{to_z-of_z}
use Rattle.std.proofs.lemmas.List.{reverse-append, reverse-reverse}
use Rattle.sg_ir.specs.declared.code.Inst.{Inst}
use Rattle.sg_ir.specs.declared.code.Inst.TheVariants as v
use Rattle.sg_ir.specs.Blocks.{chained, link, block_of}
use Rattle.sg_simplify.specs.Kept.{Keep, kept_part}
use Rattle.sg_words.specs.Spread.{bears_mark}
use Rattle.sg_simplify.specs.steps.Needed.{kept_by}
use Rattle.sg_simplify.proofs.KeptDepths.{depths, depths-reverse, popped, in_if, in_for}
use Rattle.sg_simplify.proofs.KeptTests.{first_fails, second_fails, neither_fails, first_holds, or_fails, only_second}
use Rattle.sg_simplify.proofs.KeptInsts.{is_none, none_tested, plain_by, pushed_plain, left_plain, if_left, for_left, pushed_where, left_where}
use Rattle.sg_simplify.proofs.lean.+kept.Goals.{keep-then-not-is_empty-via-then-not-is_empty, keep-then-not-is_empty-via-else-not-is_empty+then-not-is_empty-2, keep-then-is_marked-via-then-is_marked, keep-then-is_marked-via-else-is_marked+then-not-is_empty-3}
use Rattle.sg_simplify.proofs.lean.+kept.Goals as goal

pub kept-loop-inst-init : goal.kept-loop-inst-init
kept-loop-inst-init t c =
    let keep : Keep = kept_by (bears_mark c.args.marks.now) in
    let turned = c.in_ok-last_first.last_first in
    let whole : reverse turned ≡ c.args.insts = ap reverse c.in_ok-last_first.ensures ∙ reverse-reverse c.args.insts in
    let same : depths turned ≡ depths c.args.insts = ap depths c.in_ok-last_first.ensures ∙ depths-reverse c.args.insts in (
      λ types. ap (λ (xs : List Inst). kept_part keep (block_of types xs)) (sym whole) ∙ ap (λ (out : List Inst). chained (map (link types) out) (kept_part keep (block_of types (reverse turned)))) (sym c.new-out.ensures),
      omega (arith, same),
    )

pub kept-keep-requires : goal.kept-keep-requires
kept-keep-requires t c =
    let less = (popped c.loop-inst.last_first c.pop.new.self c.in-Some.inst (depths c.args.insts) c.in-Some.ensures c.loop-inst.invariant.1).0 in
    (omega (arith, less, c.decreases), tt)

pub kept-loop-inst-preserved : goal.kept-loop-inst-preserved
kept-loop-inst-preserved t c =
    let keep : Keep = kept_by (bears_mark c.args.marks.now) in
    let out = c.loop-inst.out in
    let before = c.pop.new.self in
    let inst = c.in-Some.inst in (
      λ types. c.loop-inst.invariant.0 types
          ∙ (ap (λ (xs : List Inst). chained (map (link types) out) (kept_part keep (block_of types (reverse xs)))) c.in-Some.ensures
          ∙ (ap (λ (xs : List Inst). chained (map (link types) out) (kept_part keep (block_of types xs))) (reverse-append before (inst ∷ []))
          ∙ c.in_ok-keep.ensures types (block_of types (reverse before)))),
      (popped c.loop-inst.last_first before inst (depths c.args.insts) c.in-Some.ensures c.loop-inst.invariant.1).1,
    )

pub kept-returns : goal.kept-returns
kept-returns t c = λ types.
    let keep : Keep = kept_by (bears_mark c.args.marks.now) in
    sym (c.loop-inst.invariant.0 types ∙ ap (λ (xs : List Inst). chained (map (link types) c.loop-inst.out) (kept_part keep (block_of types (reverse xs)))) c.in_default.ensures.0)

pub keep-kept-requires : goal.keep-kept-requires
keep-kept-requires t c =
    let less = (in_if c.args.inst c.in-If.cond c.in-If.yes c.in-If.no c.in-If.is).0 in
    (omega (arith, less, c.decreases), tt)

pub keep-kept-requires-in-If : goal.keep-kept-requires-in-If
keep-kept-requires-in-If t c =
    let less = (in_if c.args.inst c.in-If.cond c.in-If.yes c.in-If.no c.in-If.is).1 in
    (omega (arith, less, c.decreases), tt)

pub keep-kept-requires-in-For : goal.keep-kept-requires-in-For
keep-kept-requires-in-For t c =
    let less = in_for c.args.inst c.in-For.var c.in-For.lo c.in-For.hi c.in-For.body c.in-For.is in
    (omega (arith, less, c.decreases), tt)

pub keep-returns-in_ok-push-in-If : goal.keep-returns-in_ok-push-in-If
keep-returns-in_ok-push-in-If t c =
    let keep : Keep = kept_by (bears_mark c.args.marks.now) in
    let is = c.in-If in
    let some = c.in_ok-yes-in-If.yes in
    let other = c.in_ok-no-in-If.no in
    let on : not (is_none some && is_none other) ≡ true = elim c.then-not-is_empty.branch [
      | keep-then-not-is_empty-via-then-not-is_empty w ↦ first_fails (is_none some) (is_none other) (sym (none_tested c.is_empty.result some c.is_empty.ensures) ∙ w.if-not-is_empty.true)
      | keep-then-not-is_empty-via-else-not-is_empty+then-not-is_empty-2 w ↦
          second_fails (is_none some) (is_none other) (sym (none_tested w.is_empty-else-not-is_empty.result other w.is_empty-else-not-is_empty.ensures) ∙ w.if-not-is_empty-2.true)
    ] in
    λ types rest. pushed_where keep types c.args.out.now c.push.new.self c.args.inst (v.If is.cond some other) rest (not (is_none some && is_none other))
    (ap (λ (it : Inst). kept_part keep (link types it rest)) is.is ∙ if_left keep types is.cond is.yes is.no some other rest (c.in_ok-yes-in-If.ensures types) (c.in_ok-no-in-If.ensures types)) on
    c.in_ok-push-in-If.ensures.ok

pub keep-returns-else-not-is_empty-2 : goal.keep-returns-else-not-is_empty-2
keep-returns-else-not-is_empty-2 t c =
    let keep : Keep = kept_by (bears_mark c.args.marks.now) in
    let is = c.in-If in
    let some = c.in_ok-yes-in-If.yes in
    let other = c.in_ok-no-in-If.no in
    let off : not (is_none some && is_none other) ≡ false =
    neither_fails (is_none some) (is_none other) (sym (none_tested c.is_empty.result some c.is_empty.ensures) ∙ c.if-not-is_empty.false)
    (sym (none_tested c.is_empty-else-not-is_empty.result other c.is_empty-else-not-is_empty.ensures) ∙ c.if-not-is_empty-2.false) in
    λ types rest. left_where keep types c.args.out.now c.args.inst (v.If is.cond some other) rest (not (is_none some && is_none other))
    (ap (λ (it : Inst). kept_part keep (link types it rest)) is.is ∙ if_left keep types is.cond is.yes is.no some other rest (c.in_ok-yes-in-If.ensures types) (c.in_ok-no-in-If.ensures types)) off

pub keep-returns-in_ok-push-in-For : goal.keep-returns-in_ok-push-in-For
keep-returns-in_ok-push-in-For t c =
    let keep : Keep = kept_by (bears_mark c.args.marks.now) in
    let is = c.in-For in
    let some = c.in_ok-body-in-For.body in
    let test : c.is_marked.result ≡ keep.vars is.var = c.is_marked.ensures ∙ ap (bears_mark c.args.marks.now) c.var_node.ensures in
    let on : (keep.vars is.var || not (is_none some)) ≡ true = elim c.then-is_marked.branch [
      | keep-then-is_marked-via-then-is_marked w ↦ first_holds (keep.vars is.var) (not (is_none some)) (sym test ∙ w.if-is_marked.true)
      | keep-then-is_marked-via-else-is_marked+then-not-is_empty-3 w ↦
          or_fails (keep.vars is.var) (is_none some) (sym (none_tested w.is_empty-else-is_marked.result some w.is_empty-else-is_marked.ensures) ∙ w.if-not-is_empty-3.true)
    ] in
    let lo : to_z w32 (of_z w32 is.lo) ≡ is.lo = grind (arith, to_z-of_z) in
    let hi : to_z w32 (of_z w32 is.hi) ≡ is.hi = grind (arith, to_z-of_z) in
    λ types rest. pushed_where keep types c.args.out.now c.push-then-is_marked.new.self c.args.inst (v.For is.var is.lo is.hi some) rest (keep.vars is.var || not (is_none some))
    (ap (λ (it : Inst). kept_part keep (link types it rest)) is.is ∙ for_left keep types is.var is.lo is.hi is.body some rest (c.in_ok-body-in-For.ensures types)) on
    (c.in_ok-push-in-For.ensures.ok
    ∙ (ap (λ (z : ℤ). c.args.out.now ++ v.For is.var z (to_z w32 (of_z w32 is.hi)) some ∷ []) lo ∙ ap (λ (z : ℤ). c.args.out.now ++ v.For is.var is.lo z some ∷ []) hi))

pub keep-returns-else-not-is_empty-3 : goal.keep-returns-else-not-is_empty-3
keep-returns-else-not-is_empty-3 t c =
    let keep : Keep = kept_by (bears_mark c.args.marks.now) in
    let is = c.in-For in
    let some = c.in_ok-body-in-For.body in
    let test : c.is_marked.result ≡ keep.vars is.var = c.is_marked.ensures ∙ ap (bears_mark c.args.marks.now) c.var_node.ensures in
    let off : (keep.vars is.var || not (is_none some)) ≡ false =
    only_second (keep.vars is.var) (is_none some) (sym test ∙ c.if-is_marked.false) (sym (none_tested c.is_empty-else-is_marked.result some c.is_empty-else-is_marked.ensures) ∙ c.if-not-is_empty-3.false) in
    λ types rest. left_where keep types c.args.out.now c.args.inst (v.For is.var is.lo is.hi some) rest (keep.vars is.var || not (is_none some))
    (ap (λ (it : Inst). kept_part keep (link types it rest)) is.is ∙ for_left keep types is.var is.lo is.hi is.body some rest (c.in_ok-body-in-For.ensures types)) off

pub keep-returns-in_ok-push-in_default : goal.keep-returns-in_ok-push-in_default
keep-returns-in_ok-push-in_default t c =
    let keep : Keep = kept_by (bears_mark c.args.marks.now) in
    λ types rest. pushed_plain keep types c.args.out.now c.push-then-is_kept.new.self c.args.inst rest (plain_by c.args.inst c.in_default.not-If c.in_default.not-For) (sym c.is_kept.ensures ∙ c.if-is_kept.true)
    c.in_ok-push-in_default.ensures.ok

pub keep-returns-else-is_kept : goal.keep-returns-else-is_kept
keep-returns-else-is_kept t c =
    let keep : Keep = kept_by (bears_mark c.args.marks.now) in
    λ types rest. left_plain keep types c.args.out.now c.args.inst rest (plain_by c.args.inst c.in_default.not-If c.in_default.not-For) (sym c.is_kept.ensures ∙ c.if-is_kept.false)
