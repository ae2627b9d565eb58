use Rattle.std.proofs.Common.{◌≡◌, ◌++◌, ◌∷◌, [], ℕ, ◌+◌, ◌-◌, List, length, ap, ◌∙◌, arith}
use Rattle.std.specs.Prelude.{drop}
use Rattle.std.proofs.lemmas.List.{drop-drop}
use Rattle.sg_snapshot.specs.Parts.{cut_lists}
use Rattle.sg_snapshot.proofs.Fronts.{lists_begin, lists_more, lists_none, lists_end}
use Rattle.sg_snapshot.proofs.reading.lists_of.Goals as goal

pub loop-field-init : goal.loop-field-init
loop-field-init c =
    let numbers = c.args.numbers.now in
    record {
      whole = lists_begin c.new-lists.result (cut_lists (c.args.fields - 0) c.args.count numbers) c.new-lists.ensures
          ∙ ap (λ (n : ℕ). cut_lists n c.args.count numbers) (let e : c.args.fields - 0 ≡ c.args.fields = omega arith in e);
      rest = ap (λ (n : ℕ). drop n numbers) (let e : 0 ≡ length numbers - length numbers = omega arith in e);
      few = omega arith;
    }

pub loop-field-preserved : goal.loop-field-preserved
loop-field-preserved c =
    let numbers = c.args.numbers.now in
    let count = c.args.count in
    let rest = c.loop-field.rest.now in
    let left = c.split_at.result.1.now in
    let done = c.loop-field.lists in
    record {
      whole = lists_more c.args.fields c.loop-field._field count done c.push.new.self rest left (cut_lists c.args.fields count numbers) c.loop-field-test.true c.if-rest-count.false
          (c.in_ok-push.ensures.ok ∙ ap (λ (list : List ℕ). done ++ list ∷ []) (c.in_ok-from_slice.ensures ∙ c.split_at.ensures.front)) c.split_at.ensures.back c.loop-field.invariant.whole;
      rest = c.split_at.ensures.back ∙ ap (drop count) c.loop-field.invariant.rest ∙ drop-drop count (length numbers - length rest) numbers
          ∙ ap (λ (n : ℕ). drop n numbers) (let e : length numbers - length rest + count ≡ length numbers - length left = omega (arith, c.split_at.ensures.back_len, c.loop-field.invariant.few) in e);
      few = omega (arith, c.split_at.ensures.back_len, c.loop-field.invariant.few);
    }

pub returns-then-rest-count-clause-front : goal.returns-then-rest-count-clause-front
returns-then-rest-count-clause-front c =
    lists_none c.args.fields c.loop-field._field c.args.count c.loop-field.lists c.loop-field.rest.now (cut_lists c.args.fields c.args.count c.args.numbers.now) c.loop-field-test.true c.if-rest-count.true c.loop-field.invariant.whole

pub returns : goal.returns
returns c =
    let numbers = c.args.numbers.now in
    let rest = c.loop-field.rest.now in
    record {
      front = lists_end c.args.fields c.loop-field._field c.args.count (length numbers - length rest) c.loop-field.lists rest numbers (cut_lists c.args.fields c.args.count numbers)
          c.loop-field-test.false c.loop-field.invariant.rest c.loop-field.invariant.whole;
      within = omega arith;
    }
