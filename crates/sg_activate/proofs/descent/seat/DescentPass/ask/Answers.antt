use Rattle.std.proofs.Common.{◌+◌, ◌<◌, ◌≡◌, true, false, length, subst}
use Rattle.std.specs.Prelude.{slice_index, slice_index_or, MatchOption}
use Rattle.sg_activate.specs.DescentRace.{stock_at}
use Rattle.sg_activate.proofs.DescentViews.{dry-has}
use Rattle.sg_activate.proofs.DescentMores.{more-then, look-more, try-more, provided-more, seen-here, missed-here, tried-here, made-asked, marked-asked}
use Rattle.sg_activate.proofs.descent.seat.DescentPass.ask.Goals as goal

pub returns-then-word-ne0-clause-more : goal.returns-then-word-ne0-clause-more
returns-then-word-ne0-clause-more c = look-more c.args.slot c.look-word.result c.args.seat.now.seat.me.0 c.look-word.new.seat.seat.me.0 c.look-word.ensures.event

pub returns-then-word-ne0-clause-answer : goal.returns-then-word-ne0-clause-answer
returns-then-word-ne0-clause-answer c = seen-here c.args.slot c.look-word.result c.args.seat.now.seat.me.0 c.look-word.new.seat.seat.me.0 c.look-word.ensures.event c.if-word-ne0.true

pub returns-in-Some-clause-more : goal.returns-in-Some-clause-more
returns-in-Some-clause-more c =
    let v = c.args.seat.now.seat.me.0 in
    let a = c.look-word.new.seat.seat.me.0 in
    let b = c.provide.new.seat.seat.me.0 in
    let w = c.place.new.seat.seat.me.0 in
    more-then v a w (look-more c.args.slot c.look-word.result v a c.look-word.ensures.event)
    (more-then a b w (provided-more c.args.node (length (stock_at c.args.self.now.start c.args.node)) a b c.provide.ensures.event)
    (try-more c.args.node c.args.slot c.in-Some.ticket _ c.place.ensures.event.0 b w c.place.ensures.event.1))

pub returns-in-Some-clause-answer : goal.returns-in-Some-clause-answer
returns-in-Some-clause-answer c =
    let e = c.place.ensures.event in
    tried-here c.args.node c.args.slot c.in-Some.ticket _ e.0 c.place.result c.provide.new.seat.seat.me.0 c.place.new.seat.seat.me.0 e.1 e.2 e.3

pub returns-in-Some-clause-made : goal.returns-in-Some-clause-made
returns-in-Some-clause-made c = λ i t has.
    made-asked c.args.node (length (stock_at c.args.self.now.start c.args.node)) c.args.slot c.look-word.result c.in-Some.ticket _ c.place.ensures.event.0
    c.args.seat.now.seat.me.0 c.look-word.new.seat.seat.me.0 c.provide.new.seat.seat.me.0 c.place.new.seat.seat.me.0 c.look-word.ensures.event c.provide.ensures.event c.place.ensures.event.1 i t has

pub returns-in-Some-clause-marked : goal.returns-in-Some-clause-marked
returns-in-Some-clause-marked c =
    marked-asked c.args.node (length (stock_at c.args.self.now.start c.args.node)) c.args.slot c.look-word.result c.in-Some.ticket _ c.place.ensures.event.0
    c.args.seat.now.seat.me.0 c.look-word.new.seat.seat.me.0 c.provide.new.seat.seat.me.0 c.place.new.seat.seat.me.0 c.look-word.ensures.event c.provide.ensures.event c.place.ensures.event.1

pub returns-in-None-clause-more : goal.returns-in-None-clause-more
returns-in-None-clause-more c =
    let v = c.args.seat.now.seat.me.0 in
    let a = c.look-word.new.seat.seat.me.0 in
    let b = c.provide.new.seat.seat.me.0 in
    more-then v a b (look-more c.args.slot c.look-word.result v a c.look-word.ensures.event)
    (provided-more c.args.node (length (stock_at c.args.self.now.start c.args.node)) a b c.provide.ensures.event)

pub returns-in-None-clause-answer : goal.returns-in-None-clause-answer
returns-in-None-clause-answer c =
    let v = c.args.seat.now.seat.me.0 in
    let a = c.look-word.new.seat.seat.me.0 in
    let b = c.provide.new.seat.seat.me.0 in
    let more = provided-more c.args.node (length (stock_at c.args.self.now.start c.args.node)) a b c.provide.ensures.event in
    let dry : slice_index_or c.provide.new.seat.dry c.args.node false ≡ true =
    subst (λ r. MatchOption r (slice_index_or c.provide.new.seat.dry c.args.node false ≡ true) (λ t. (slice_index c.provide.new.seat.spares c.args.node ≡ t + 1) × (t < length (stock_at c.args.self.now.start c.args.node)))) c.in-None.is c.provide.ensures.spare in
    (more.missed c.args.slot (missed-here c.args.slot c.look-word.result v a c.look-word.ensures.event c.if-word-ne0.false), dry-has c.provide.new.seat.dry b c.args.node c.provide.new.seat.dry_are dry)
