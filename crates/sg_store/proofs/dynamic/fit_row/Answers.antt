use Rattle.std.proofs.Common.{◌∙◌, ◌^◌, List, ℕ, length, sym, ap, subst}
use Rattle.std.specs.Prelude.{OnOk}
use Rattle.sg_pool.specs.Numbers.{place_count}
use Rattle.sg_dynamic.specs.Chunks.{fit, HaveRoom, AreFitted}
use Rattle.sg_store.proofs.FrontLengths.{front_is, front_short}
use Rattle.sg_store.proofs.dynamic.fit_row.Goals as goal

pub fit_front-requires-clause-short : goal.fit_front-requires-clause-short
fit_front-requires-clause-short c = front_short c.standing.result.now c.args.lengths.now (2 ^ 15) c.standing.ensures.few c.standing.ensures.words c.requires.short

pub fit_front-requires-clause-room : goal.fit_front-requires-clause-room
fit_front-requires-clause-room c =
    let same = front_is c.standing.result.now c.args.lengths.now (length c.args.chains.now.lists) c.standing.ensures.row c.requires.room.many in
    subst (λ (l : List ℕ). HaveRoom c.args.chains.now l c.args.chunk) (sym same) c.requires.room

pub returns-clause-answer : goal.returns-clause-answer
returns-clause-answer c =
    let same = front_is c.standing.result.now c.args.lengths.now (length c.args.chains.now.lists) c.standing.ensures.row c.requires.room.many in
    c.fit_front.ensures.answer ∙ ap (λ (l : List ℕ). fit c.args.chunk l (place_count c.args.pool.now)) same

pub returns-clause-fitted : goal.returns-clause-fitted
returns-clause-fitted c =
    let same = front_is c.standing.result.now c.args.lengths.now (length c.args.chains.now.lists) c.standing.ensures.row c.requires.room.many in
    subst (λ (l : List ℕ). OnOk c.fit_front.result (AreFitted c.args.chains.now c.fit_front.new.chains l c.args.chunk)) same c.fit_front.ensures.fitted
