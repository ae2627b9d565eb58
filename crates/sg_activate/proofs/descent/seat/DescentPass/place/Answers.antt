use Rattle.std.proofs.Common.{rules, ◌+◌, ◌<◌, ap, subst, ◌∙◌, arith}
use Rattle.std.specs.Prelude.{slice_index}
use Rattle.std.proofs.lemmas.List.{length-set}
use Rattle.sg_words.specs.Counts.{pairs}
use Rattle.sg_activate.specs.DescentRace.{stock_at}
use Rattle.sg_activate.proofs.DescentPasses.{try-allowed, try-told}
use Rattle.sg_activate.proofs.DescentMores.{bits-more, try-more}
use Rattle.sg_activate.proofs.DescentViews.{spare-stands, tried-link, tried-see, spares-fewer, spares-same, dry-same, without-less}
use Rattle.sg_activate.proofs.descent.seat.DescentPass.place.Goals as goal

pub compare_exchange-found-requires : goal.compare_exchange-found-requires
compare_exchange-found-requires c =
    let sized = c.args.self.now.sized in
    let inside = c.requires.inside in (
      search rules,
      omega arith,
      try-allowed c.args.self.now _ _ _ c.args.slot c.args.node c.args.ticket _ (search rules) c.requires.own.told c.requires.inside c.requires.here
          (spare-stands c.args.seat.now.spares c.args.seat.now.seat.me.0 c.args.node c.args.ticket c.args.seat.now.spares_are c.requires.spare) c.requires.known (ap (λ n. n + 1) c.number_of-number.ensures),
    )

pub invariant_of-seat : goal.invariant_of-seat
invariant_of-seat c =
    let few = c.args.self.now.few in
    let node = c.requires.node in
    let rows = c.args.seat.now.rows in
    let me = (try-told c.args.self.now c.args.self.now.table.shared.table_id.slots c.args.seat.now.seat.me c.compare_exchange-found.new.seat.me c.args.slot c.args.node c.args.ticket (c.number_of-number.result + 1) c.compare_exchange-found.result c.compare_exchange-found.ensures.2 c.requires.own.told c.requires.here
    (spare-stands c.args.seat.now.spares c.args.seat.now.seat.me.0 c.args.node c.args.ticket c.args.seat.now.spares_are c.requires.spare) (ap (λ n. n + 1) c.number_of-number.ensures)).0 in
    let d = tried-link c.args.seat.now.seat.me.0 c.compare_exchange-found.new.seat.me.0 c.args.node c.args.slot c.args.ticket (slice_index (stock_at c.args.self.now.start c.args.node) c.args.ticket) c.compare_exchange-found.result (ap (λ m. m.0) me) c.if-found-eq0.true in
    let live = c.args.seat.now.working in
    let share = d.0 in
    record {
      empty_handed = ap (λ m. m.1) me ∙ c.args.seat.now.empty_handed;
      working = omega arith;
      rows = length-set c.args.seat.now.spares c.args.node 0 ∙ c.args.seat.now.rows;
      flags = c.args.seat.now.flags;
      bits = c.args.seat.now.bits;
      spares_are = spares-fewer c.args.seat.now.spares c.args.seat.now.seat.me.0 c.compare_exchange-found.new.seat.me.0 c.args.node (omega arith) d.2 c.args.seat.now.spares_are;
      dry_are = dry-same c.args.seat.now.dry c.args.seat.now.seat.me.0 c.compare_exchange-found.new.seat.me.0 d.3 c.args.seat.now.dry_are;
      bits_are = bits-more c.args.seat.now.last_bits c.args.seat.now.seat.me.0 c.compare_exchange-found.new.seat.me.0 (try-more c.args.node c.args.slot c.args.ticket (slice_index (stock_at c.args.self.now.start c.args.node) c.args.ticket) c.compare_exchange-found.result c.args.seat.now.seat.me.0 c.compare_exchange-found.new.seat.me.0 (ap (λ m. m.0) me)) c.args.seat.now.bits_are;
    }

pub invariant_of-seat-else-found-eq0 : goal.invariant_of-seat-else-found-eq0
invariant_of-seat-else-found-eq0 c =
    let me = (try-told c.args.self.now c.args.self.now.table.shared.table_id.slots c.args.seat.now.seat.me c.compare_exchange-found.new.seat.me c.args.slot c.args.node c.args.ticket (c.number_of-number.result + 1) c.compare_exchange-found.result c.compare_exchange-found.ensures.2 c.requires.own.told c.requires.here
    (spare-stands c.args.seat.now.spares c.args.seat.now.seat.me.0 c.args.node c.args.ticket c.args.seat.now.spares_are c.requires.spare) (ap (λ n. n + 1) c.number_of-number.ensures)).0 in
    let d = tried-see c.args.seat.now.seat.me.0 c.compare_exchange-found.new.seat.me.0 c.args.node c.args.slot c.args.ticket (slice_index (stock_at c.args.self.now.start c.args.node) c.args.ticket) c.compare_exchange-found.result (ap (λ m. m.0) me) c.if-found-eq0.false in
    let live = c.args.seat.now.working in
    let share = d.0 in
    record {
      empty_handed = ap (λ m. m.1) me ∙ c.args.seat.now.empty_handed;
      working = omega arith;
      rows = c.args.seat.now.rows;
      flags = c.args.seat.now.flags;
      bits = c.args.seat.now.bits;
      spares_are = spares-same c.args.seat.now.spares c.args.seat.now.seat.me.0 c.compare_exchange-found.new.seat.me.0 d.2 c.args.seat.now.spares_are;
      dry_are = dry-same c.args.seat.now.dry c.args.seat.now.seat.me.0 c.compare_exchange-found.new.seat.me.0 d.3 c.args.seat.now.dry_are;
      bits_are = bits-more c.args.seat.now.last_bits c.args.seat.now.seat.me.0 c.compare_exchange-found.new.seat.me.0 (try-more c.args.node c.args.slot c.args.ticket (slice_index (stock_at c.args.self.now.start c.args.node) c.args.ticket) c.compare_exchange-found.result c.args.seat.now.seat.me.0 c.compare_exchange-found.new.seat.me.0 (ap (λ m. m.0) me)) c.args.seat.now.bits_are;
    }

pub overflow_cast-result : goal.overflow_cast-result
overflow_cast-result c =
    let told = try-told c.args.self.now c.args.self.now.table.shared.table_id.slots c.args.seat.now.seat.me c.compare_exchange-found.new.seat.me c.args.slot c.args.node c.args.ticket (c.number_of-number.result + 1) c.compare_exchange-found.result c.compare_exchange-found.ensures.2 c.requires.own.told c.requires.here
    (spare-stands c.args.seat.now.spares c.args.seat.now.seat.me.0 c.args.node c.args.ticket c.args.seat.now.spares_are c.requires.spare) (ap (λ n. n + 1) c.number_of-number.ensures) in
    let bound = told.1 in
    let places = c.args.self.now.laid.places c.args.node in
    omega arith

pub returns-then-found-eq0-clause-own : goal.returns-then-found-eq0-clause-own
returns-then-found-eq0-clause-own c =
    let me = (try-told c.args.self.now c.args.self.now.table.shared.table_id.slots c.args.seat.now.seat.me c.compare_exchange-found.new.seat.me c.args.slot c.args.node c.args.ticket (c.number_of-number.result + 1) c.compare_exchange-found.result c.compare_exchange-found.ensures.2 c.requires.own.told c.requires.here
    (spare-stands c.args.seat.now.spares c.args.seat.now.seat.me.0 c.args.node c.args.ticket c.args.seat.now.spares_are c.requires.spare) (ap (λ n. n + 1) c.number_of-number.ensures)).0 in
    let d = tried-link c.args.seat.now.seat.me.0 c.compare_exchange-found.new.seat.me.0 c.args.node c.args.slot c.args.ticket (slice_index (stock_at c.args.self.now.start c.args.node) c.args.ticket) c.compare_exchange-found.result (ap (λ m. m.0) me) c.if-found-eq0.true in
    record {
      table = c.compare_exchange-found.ensures.0 ∙ c.requires.own.table;
      told = d.1 ∙ c.requires.own.told;
      spare = λ l t has. c.requires.own.spare l t (without-less c.args.node l t c.args.seat.now.seat.me.0.spare (subst (λ s. 0 < pairs l t s) d.2 has));
    }

pub returns-then-found-eq0-clause-event : goal.returns-then-found-eq0-clause-event
returns-then-found-eq0-clause-event c =
    let me = (try-told c.args.self.now c.args.self.now.table.shared.table_id.slots c.args.seat.now.seat.me c.compare_exchange-found.new.seat.me c.args.slot c.args.node c.args.ticket (c.number_of-number.result + 1) c.compare_exchange-found.result c.compare_exchange-found.ensures.2 c.requires.own.told c.requires.here
    (spare-stands c.args.seat.now.spares c.args.seat.now.seat.me.0 c.args.node c.args.ticket c.args.seat.now.spares_are c.requires.spare) (ap (λ n. n + 1) c.number_of-number.ensures)).0 in
    (c.compare_exchange-found.result, ap (λ m. m.0) me, (λ _. c.number_of-number.ensures), (λ full. absurd (full c.if-found-eq0.true)))

pub returns-else-found-eq0-clause-own : goal.returns-else-found-eq0-clause-own
returns-else-found-eq0-clause-own c =
    let me = (try-told c.args.self.now c.args.self.now.table.shared.table_id.slots c.args.seat.now.seat.me c.compare_exchange-found.new.seat.me c.args.slot c.args.node c.args.ticket (c.number_of-number.result + 1) c.compare_exchange-found.result c.compare_exchange-found.ensures.2 c.requires.own.told c.requires.here
    (spare-stands c.args.seat.now.spares c.args.seat.now.seat.me.0 c.args.node c.args.ticket c.args.seat.now.spares_are c.requires.spare) (ap (λ n. n + 1) c.number_of-number.ensures)).0 in
    let d = tried-see c.args.seat.now.seat.me.0 c.compare_exchange-found.new.seat.me.0 c.args.node c.args.slot c.args.ticket (slice_index (stock_at c.args.self.now.start c.args.node) c.args.ticket) c.compare_exchange-found.result (ap (λ m. m.0) me) c.if-found-eq0.false in
    record {
      table = c.compare_exchange-found.ensures.0 ∙ c.requires.own.table;
      told = d.1 ∙ c.requires.own.told;
      spare = λ l t has. c.requires.own.spare l t (subst (λ s. 0 < pairs l t s) d.2 has);
    }

pub returns-else-found-eq0-clause-event : goal.returns-else-found-eq0-clause-event
returns-else-found-eq0-clause-event c =
    let me = (try-told c.args.self.now c.args.self.now.table.shared.table_id.slots c.args.seat.now.seat.me c.compare_exchange-found.new.seat.me c.args.slot c.args.node c.args.ticket (c.number_of-number.result + 1) c.compare_exchange-found.result c.compare_exchange-found.ensures.2 c.requires.own.told c.requires.here
    (spare-stands c.args.seat.now.spares c.args.seat.now.seat.me.0 c.args.node c.args.ticket c.args.seat.now.spares_are c.requires.spare) (ap (λ n. n + 1) c.number_of-number.ensures)).0 in
    (c.compare_exchange-found.result, ap (λ m. m.0) me, (λ empty. absurd (c.if-found-eq0.false empty)), (λ full. omega arith))

pub returns-else-found-eq0-clause-bound : goal.returns-else-found-eq0-clause-bound
returns-else-found-eq0-clause-bound c =
    let told = try-told c.args.self.now c.args.self.now.table.shared.table_id.slots c.args.seat.now.seat.me c.compare_exchange-found.new.seat.me c.args.slot c.args.node c.args.ticket (c.number_of-number.result + 1) c.compare_exchange-found.result c.compare_exchange-found.ensures.2 c.requires.own.told c.requires.here
    (spare-stands c.args.seat.now.spares c.args.seat.now.seat.me.0 c.args.node c.args.ticket c.args.seat.now.spares_are c.requires.spare) (ap (λ n. n + 1) c.number_of-number.ensures) in
    let bound = told.1 in
    let full = c.if-found-eq0.false in
    omega arith
