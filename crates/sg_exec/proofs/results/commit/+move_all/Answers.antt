use Rattle.std.proofs.Common.{◌≡◌, ◌+◌, ◌∷◌, ◌++◌, [], List, Option, length, sym, ap, ◌∙◌, arith, append_assoc, append-nil}
use Rattle.std.specs.Prelude.{unwrap_or}
use Rattle.std.proofs.lemmas.List.{length-append}
use Rattle.sg_store.specs.StoreWords.{StoreWords}
use Rattle.sg_exec.specs.steps.Landing.{current}
use Rattle.sg_exec.proofs.StoresLanded.{current_length}
use Rattle.sg_exec.proofs.TreesKept.{current_none, current_last}
use Rattle.sg_exec.proofs.results.commit.+move_all.Goals as goal

pub returns-in_default-clause-items : goal.returns-in_default-clause-items
returns-in_default-clause-items t c =
    let owned = c.args.owned.now.items in
    sym (ap (λ (rest : List StoreWords). owned ++ rest) (current_none c.args.copies.items c.args.list c.in_default.ensures.0) ∙ append-nil owned)

pub move_all-requires : goal.move_all-requires
move_all-requires t c =
    let one_less : length c.args.list ≡ length c.pop.new.self + 1 = ap length c.in-Some.ensures ∙ length-append c.pop.new.self (c.in-Some.store ∷ []) in
    let also_less : length c.args.copies.items ≡ length c.pop-2.new.self.items + 1 = ap length c.in-Some-pop.ensures.items ∙ length-append c.pop-2.new.self.items (c.in-Some-pop.copy ∷ []) in
    (omega (arith, one_less, c.decreases), (omega (arith, one_less, also_less, c.requires.same), omega (arith, one_less, c.requires.space)))

pub move_one-requires : goal.move_one-requires
move_one-requires t c =
    let list = c.pop.new.self in
    let copies = c.pop-2.new.self.items in
    let one_less : length c.args.list ≡ length list + 1 = ap length c.in-Some.ensures ∙ length-append list (c.in-Some.store ∷ []) in
    let long = ap length c.move_all.ensures.items ∙ length-append c.args.owned.now.items (current copies list) in
    let many = current_length copies list in
    omega (arith, one_less, long, many, c.requires.space, c.move_all.ensures.space)

pub returns-clause-items : goal.returns-clause-items
returns-clause-items t c =
    let list = c.pop.new.self in
    let copies = c.pop-2.new.self.items in
    let owned = c.args.owned.now.items in
    let store = c.in-Some.store in
    let copy = c.in-Some-pop.copy in
    let one_less : length c.args.list ≡ length list + 1 = ap length c.in-Some.ensures ∙ length-append list (store ∷ []) in
    let also_less : length c.args.copies.items ≡ length copies + 1 = ap length c.in-Some-pop.ensures.items ∙ length-append copies (copy ∷ []) in
    let same : length copies ≡ length list = omega (arith, one_less, also_less, c.requires.same) in
    c.move_one.ensures.items
    ∙ ap (λ (front : List StoreWords). front ++ unwrap_or copy store ∷ []) c.move_all.ensures.items
    ∙ append_assoc owned (current copies list) (unwrap_or copy store ∷ [])
    ∙ ap (λ (rest : List StoreWords). owned ++ rest) (sym (current_last copies list copy store same))
    ∙ ap (λ (stores : List StoreWords). owned ++ current (copies ++ copy ∷ []) stores) (sym c.in-Some.ensures)
    ∙ ap (λ (cs : List (Option StoreWords)). owned ++ current cs c.args.list) (sym c.in-Some-pop.ensures.items)
