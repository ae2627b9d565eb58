use Rattle.std.proofs.Common.{◌≡◌, Some, Option, List, arith, ap, length, get_or, sym, subst, refl, ◌∙◌}
use Rattle.std.specs.Prelude.{slice_get, ◌∷◌, []}
use Rattle.std.proofs.lemmas.Option.{slice_get_read}
use Rattle.std.proofs.lemmas.List.{length-append}
use Rattle.sg_store.specs.StoreWords.{StoreWords}
use Rattle.sg_exec.specs.Standing.{shapes_of}
use Rattle.sg_exec.specs.steps.Turning.{MayWant}
use Rattle.sg_exec.specs.steps.Wants.{AreReached}
use Rattle.sg_exec.proofs.Reaching.{there, reached_none, reached_stand, reached_fault, reached_more}
use Rattle.sg_exec.proofs.Settling.{current_shapes, shapes_more, into_more}
use Rattle.sg_exec.proofs.LinksKept.{links_current, links_more}
use Rattle.sg_exec.proofs.Answering.{all_stopped, store_fault}
use Rattle.sg_exec.proofs.activation.activate.activated_copies.Goals as goal

pub loop-number-preserved : goal.loop-number-preserved
loop-number-preserved g c =
    let stores = c.args.stores.now.list in
    let number = c.loop-number.number in
    let copies = c.loop-number.copies.items in
    let items = ap length c.as_slice-list.ensures in
    let store = c.index-list-number.result in
    let count = c.loop-number.invariant.count in
    let pushed = ap length c.in_ok-add_copy.ensures in
    let one = length-append copies (c.in_ok-copy.copy ∷ []) in
    let is : slice_get stores number ≡ Some store = slice_get_read stores (length stores) number store refl (omega arith) (c.index-list-number.is ∙ ap (λ (xs : List StoreWords). get_or xs number store) c.as_slice-list.ensures) in
    record {
      count = omega (arith, pushed, one, count);
      reached = λ wants meant.
          let list = there wants number (omega (arith, meant.count, items)) in
          subst (λ (cs : List (Option StoreWords)). AreReached stores wants cs) (sym c.in_ok-add_copy.ensures)
          (reached_more stores wants copies number store list.0 c.in_ok-copy.copy (c.loop-number.invariant.reached wants meant) count is list.1
          (λ flat stands. c.in_ok-copy.ensures.reached list.0 (meant.each number store list.0 is list.1) flat stands));
      shapes = λ j s cp is_s is_c.
          shapes_more stores copies number store c.in_ok-copy.copy c.loop-number.invariant.shapes count is c.in_ok-copy.ensures.shape j s cp is_s (ap (λ (cs : List (Option StoreWords)). slice_get cs j) (sym c.in_ok-add_copy.ensures) ∙ is_c);
      links = λ j s cp is_s is_c.
          links_more stores copies number store c.in_ok-copy.copy c.loop-number.invariant.links count is c.in_ok-copy.ensures.links j s cp is_s (ap (λ (cs : List (Option StoreWords)). slice_get cs j) (sym c.in_ok-add_copy.ensures) ∙ is_c);
      into = λ layout cp is_c.
          into_more (MayWant c.args.turns) copies number c.in_ok-copy.copy count c.loop-number.invariant.into c.in_ok-copy.ensures.into layout cp (ap (λ (cs : List (Option StoreWords)). slice_get cs layout) (sym c.in_ok-add_copy.ensures) ∙ is_c);
    }

pub store_activated-requires-clause-active : goal.store_activated-requires-clause-active
store_activated-requires-clause-active g c κs within = λ all.
    let stores = c.args.stores.now.list in
    let number = c.loop-number.number in
    let items = ap length c.as_slice-list.ensures in
    let store = c.index-list-number.result in
    (slice_get_read stores (length stores) number store refl (omega arith) (c.index-list-number.is ∙ ap (λ (xs : List StoreWords). get_or xs number store) c.as_slice-list.ensures), c.requires.active all)

pub returns-in_err-copy-clause-reached : goal.returns-in_err-copy-clause-reached
returns-in_err-copy-clause-reached g c = λ wants meant flats made all are.
    let stores = c.args.stores.now.list in
    let number = c.loop-number.number in
    let copies = c.loop-number.copies.items in
    let items = ap length c.as_slice-list.ensures in
    let store = c.index-list-number.result in
    let list = there wants number (omega (arith, meant.count, items)) in
    let is : slice_get stores number ≡ Some store = slice_get_read stores (length stores) number store refl (omega arith) (c.index-list-number.is ∙ ap (λ (xs : List StoreWords). get_or xs number store) c.as_slice-list.ensures) in
    all_stopped _ (shapes_of stores) flats made c.from_residual.result c.in_err-copy.field-0.0 c.from_residual.ensures.1
    (λ fault is_fault. reached_fault stores flats wants made c.need_grows.ensures.full c.closure_members.ensures.of_members all are copies number store list.0 fault meant.count c.loop-number.invariant.count (c.loop-number.invariant.reached wants meant) is list.1
    (λ flat stands. store_fault {A = Unit {0}} (λ _. store) number store.shape flat list.0 list.0 c.in_err-copy.field-0.0 fault (c.in_err-copy.ensures.reached list.0 (meant.each number store list.0 is list.1) flat stands) is_fault refl))

pub returns-clause-reached : goal.returns-clause-reached
returns-clause-reached g c = λ wants meant flats made all are.
    let stores = c.args.stores.now.list in
    let copies = c.loop-number.copies.items in
    let items = ap length c.as_slice-list.ensures in
    let count = c.loop-number.invariant.count in
    let lengths : length copies ≡ length stores = omega arith in (
      reached_none stores flats wants made c.need_grows.ensures.full c.closure_members.ensures.of_members all are copies meant.count lengths (c.loop-number.invariant.reached wants meant),
      reached_stand stores flats wants made c.need_grows.ensures.full c.closure_members.ensures.of_members all are copies meant.count lengths (c.loop-number.invariant.reached wants meant),
    )

pub returns-clause-shapes : goal.returns-clause-shapes
returns-clause-shapes g c =
    let stores = c.args.stores.now.list in
    let copies = c.loop-number.copies.items in
    let items = ap length c.as_slice-list.ensures in
    let count = c.loop-number.invariant.count in
    let lengths : length copies ≡ length stores = omega arith in
    current_shapes copies stores lengths c.loop-number.invariant.shapes

pub returns-clause-links : goal.returns-clause-links
returns-clause-links g c =
    let stores = c.args.stores.now.list in
    let copies = c.loop-number.copies.items in
    let items = ap length c.as_slice-list.ensures in
    let count = c.loop-number.invariant.count in
    let lengths : length copies ≡ length stores = omega arith in
    links_current copies stores lengths c.loop-number.invariant.links

pub returns-clause-into : goal.returns-clause-into
returns-clause-into g c = c.loop-number.invariant.into
