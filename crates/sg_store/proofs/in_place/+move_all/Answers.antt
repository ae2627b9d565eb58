use Rattle.std.proofs.Common.{◌≡◌, ◌+◌, ◌∷◌, ◌++◌, [], List, length, sym, ap, ◌∙◌, arith, append_assoc}
use Rattle.std.proofs.lemmas.List.{length-append}
use Rattle.sg_store.specs.StoreWords.{StoreWords}
use Rattle.sg_store.proofs.in_place.+move_all.Goals as goal

pub move_all-requires : goal.move_all-requires
move_all-requires t c =
    let one_less : length c.args.list ≡ length c.pop.new.self + 1 = ap length c.in-Some.ensures ∙ length-append c.pop.new.self (c.in-Some.store ∷ []) in
    (omega (arith, one_less, c.decreases), omega (arith, one_less, c.requires))

pub move_one-requires : goal.move_one-requires
move_one-requires t c =
    let list = c.pop.new.self in
    let one_less : length c.args.list ≡ length list + 1 = ap length c.in-Some.ensures ∙ length-append list (c.in-Some.store ∷ []) in
    let long = ap length c.move_all.ensures.items ∙ length-append c.args.owned.now.items list in
    omega (arith, one_less, long, c.requires, c.move_all.ensures.space)

pub returns-clause-items : goal.returns-clause-items
returns-clause-items t c =
    let list = c.pop.new.self in
    let owned = c.args.owned.now.items in
    c.move_one.ensures.items
    ∙ ap (λ (front : List StoreWords). front ++ c.in-Some.store ∷ []) c.move_all.ensures.items
    ∙ append_assoc owned list (c.in-Some.store ∷ [])
    ∙ ap (λ (rest : List StoreWords). owned ++ rest) (sym c.in-Some.ensures)
