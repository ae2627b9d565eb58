use Rattle.std.proofs.Common.{◌∙◌, List, ℕ, length, sym, ap, subst}
use Rattle.std.specs.Prelude.{OnOk}
use Rattle.sg_pool.specs.Numbers.{place_count}
use Rattle.sg_dynamic.specs.Chunks.{fit, HaveRoom, AreFitted}
use Rattle.sg_dynamic.proofs.Growth.{whole_front}
use Rattle.sg_dynamic.proofs.chunks.fit_chunks.Goals as goal

pub fit_front-requires-clause-room : goal.fit_front-requires-clause-room
fit_front-requires-clause-room c =
    let same = whole_front c.args.lengths.now (length c.args.chains.now.lists) c.requires.room.many in
    subst (λ (l : List ℕ). HaveRoom c.args.chains.now l c.args.chunk) (sym same) c.requires.room

pub returns-clause-answer : goal.returns-clause-answer
returns-clause-answer c =
    let same = whole_front c.args.lengths.now (length c.args.chains.now.lists) c.requires.room.many in
    c.fit_front.ensures.answer ∙ ap (λ (l : List ℕ). fit c.args.chunk l (place_count c.args.pool.now)) same

pub returns-clause-fitted : goal.returns-clause-fitted
returns-clause-fitted c =
    let same = whole_front c.args.lengths.now (length c.args.chains.now.lists) c.requires.room.many in
    subst (λ (l : List ℕ). OnOk c.fit_front.result (AreFitted c.args.chains.now c.fit_front.new.chains l c.args.chunk)) same c.fit_front.ensures.fitted
