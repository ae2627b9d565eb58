use Rattle.std.proofs.Common.{rules, ◌+◌, ◌<◌, true, length, ap, subst, ◌∙◌, arith}
use Rattle.std.proofs.lemmas.List.{length-set}
use Rattle.sg_words.specs.Counts.{pairs}
use Rattle.sg_activate.specs.DescentRace.{stock_at}
use Rattle.sg_activate.proofs.DescentPasses.{draw-allowed, draw-told}
use Rattle.sg_activate.proofs.DescentMores.{bits-more, draw-more}
use Rattle.sg_activate.proofs.DescentViews.{no-spare, not-past, drawn-spare, drawn-past, spares-more, spares-same, dry-more, dry-same, spares-below}
use Rattle.sg_activate.proofs.descent.seat.DescentPass.draw.Goals as goal

pub fetch_add-ticket-requires : goal.fetch_add-ticket-requires
fetch_add-ticket-requires c =
    let sized = c.args.self.now.sized in
    let node = c.requires.node in
    let a = c.len.ensures in
    let b = c.len-2.ensures in (
      search rules,
      omega arith,
      draw-allowed c.args.self.now _ _ _ _ c.args.node (omega arith) (search rules) c.requires.own.told c.requires.node
          (no-spare c.args.seat.now.spares c.args.seat.now.seat.me.0 c.args.node c.args.seat.now.spares_are c.requires.none)
          (not-past c.args.seat.now.dry c.args.seat.now.seat.me.0 c.args.node c.args.seat.now.dry_are c.requires.not_dry),
    )

pub invariant_of-seat : goal.invariant_of-seat
invariant_of-seat c =
    let a = c.len.ensures in
    let b = c.len-2.ensures in
    let limit = c.limit_of-limit.ensures in
    let tested = c.if-ticket-limit.true in
    let few = c.args.self.now.few in
    let node = c.requires.node in
    let rows = c.args.seat.now.rows in
    let me = draw-told c.args.self.now c.args.self.now.table.shared.table_id.slots c.args.seat.now.seat.me c.fetch_add-ticket.new.seat.me (c.len.result + c.len-2.result + c.args.node) c.args.node c.fetch_add-ticket.result c.fetch_add-ticket.ensures.2 (omega arith) c.requires.own.told c.requires.node in
    let d = drawn-spare c.args.seat.now.seat.me.0 c.fetch_add-ticket.new.seat.me.0 c.args.node (length (stock_at c.args.self.now.start c.args.node)) c.fetch_add-ticket.result (ap (λ m. m.0) me) (omega arith) in
    let live = c.args.seat.now.working in
    let share = d.0 in
    record {
      empty_handed = ap (λ m. m.1) me ∙ c.args.seat.now.empty_handed;
      working = omega arith;
      rows = length-set c.args.seat.now.spares c.args.node (c.fetch_add-ticket.result + 1) ∙ c.args.seat.now.rows;
      flags = c.args.seat.now.flags;
      bits = c.args.seat.now.bits;
      spares_are = spares-more c.args.seat.now.spares c.args.seat.now.seat.me.0 c.fetch_add-ticket.new.seat.me.0 c.args.node c.fetch_add-ticket.result (omega arith) c.requires.none d.2 c.args.seat.now.spares_are;
      dry_are = dry-same c.args.seat.now.dry c.args.seat.now.seat.me.0 c.fetch_add-ticket.new.seat.me.0 d.3 c.args.seat.now.dry_are;
      bits_are = bits-more c.args.seat.now.last_bits c.args.seat.now.seat.me.0 c.fetch_add-ticket.new.seat.me.0 (draw-more c.args.node (length (stock_at c.args.self.now.start c.args.node)) c.fetch_add-ticket.result c.args.seat.now.seat.me.0 c.fetch_add-ticket.new.seat.me.0 (ap (λ m. m.0) me)) c.args.seat.now.bits_are;
    }

pub invariant_of-seat-else-ticket-limit : goal.invariant_of-seat-else-ticket-limit
invariant_of-seat-else-ticket-limit c =
    let a = c.len.ensures in
    let b = c.len-2.ensures in
    let limit = c.limit_of-limit.ensures in
    let tested = c.if-ticket-limit.false in
    let few = c.args.self.now.few in
    let node = c.requires.node in
    let flags = c.args.seat.now.flags in
    let me = draw-told c.args.self.now c.args.self.now.table.shared.table_id.slots c.args.seat.now.seat.me c.fetch_add-ticket.new.seat.me (c.len.result + c.len-2.result + c.args.node) c.args.node c.fetch_add-ticket.result c.fetch_add-ticket.ensures.2 (omega arith) c.requires.own.told c.requires.node in
    let d = drawn-past c.args.seat.now.seat.me.0 c.fetch_add-ticket.new.seat.me.0 c.args.node (length (stock_at c.args.self.now.start c.args.node)) c.fetch_add-ticket.result (ap (λ m. m.0) me) (omega arith) in
    let live = c.args.seat.now.working in
    let share = d.0 in
    record {
      empty_handed = ap (λ m. m.1) me ∙ c.args.seat.now.empty_handed;
      working = omega arith;
      rows = c.args.seat.now.rows;
      flags = length-set c.args.seat.now.dry c.args.node true ∙ c.args.seat.now.flags;
      bits = c.args.seat.now.bits;
      spares_are = spares-same c.args.seat.now.spares c.args.seat.now.seat.me.0 c.fetch_add-ticket.new.seat.me.0 d.2 c.args.seat.now.spares_are;
      dry_are = dry-more c.args.seat.now.dry c.args.seat.now.seat.me.0 c.fetch_add-ticket.new.seat.me.0 c.args.node c.fetch_add-ticket.result (omega arith) d.3 c.args.seat.now.dry_are;
      bits_are = bits-more c.args.seat.now.last_bits c.args.seat.now.seat.me.0 c.fetch_add-ticket.new.seat.me.0 (draw-more c.args.node (length (stock_at c.args.self.now.start c.args.node)) c.fetch_add-ticket.result c.args.seat.now.seat.me.0 c.fetch_add-ticket.new.seat.me.0 (ap (λ m. m.0) me)) c.args.seat.now.bits_are;
    }

pub returns-then-ticket-limit-clause-own : goal.returns-then-ticket-limit-clause-own
returns-then-ticket-limit-clause-own c =
    let a = c.len.ensures in
    let b = c.len-2.ensures in
    let limit = c.limit_of-limit.ensures in
    let tested = c.if-ticket-limit.true in
    let me = draw-told c.args.self.now c.args.self.now.table.shared.table_id.slots c.args.seat.now.seat.me c.fetch_add-ticket.new.seat.me (c.len.result + c.len-2.result + c.args.node) c.args.node c.fetch_add-ticket.result c.fetch_add-ticket.ensures.2 (omega arith) c.requires.own.told c.requires.node in
    let d = drawn-spare c.args.seat.now.seat.me.0 c.fetch_add-ticket.new.seat.me.0 c.args.node (length (stock_at c.args.self.now.start c.args.node)) c.fetch_add-ticket.result (ap (λ m. m.0) me) (omega arith) in
    record {
      table = c.fetch_add-ticket.ensures.0 ∙ c.requires.own.table;
      told = d.1 ∙ c.requires.own.told;
      spare = spares-below (λ l. length (stock_at c.args.self.now.start l)) c.args.seat.now.seat.me.0 c.fetch_add-ticket.new.seat.me.0 c.args.node c.fetch_add-ticket.result d.2 (omega arith) c.requires.own.spare;
    }

pub returns-else-ticket-limit-clause-own : goal.returns-else-ticket-limit-clause-own
returns-else-ticket-limit-clause-own c =
    let a = c.len.ensures in
    let b = c.len-2.ensures in
    let limit = c.limit_of-limit.ensures in
    let tested = c.if-ticket-limit.false in
    let me = draw-told c.args.self.now c.args.self.now.table.shared.table_id.slots c.args.seat.now.seat.me c.fetch_add-ticket.new.seat.me (c.len.result + c.len-2.result + c.args.node) c.args.node c.fetch_add-ticket.result c.fetch_add-ticket.ensures.2 (omega arith) c.requires.own.told c.requires.node in
    let d = drawn-past c.args.seat.now.seat.me.0 c.fetch_add-ticket.new.seat.me.0 c.args.node (length (stock_at c.args.self.now.start c.args.node)) c.fetch_add-ticket.result (ap (λ m. m.0) me) (omega arith) in
    record {
      table = c.fetch_add-ticket.ensures.0 ∙ c.requires.own.table;
      told = d.1 ∙ c.requires.own.told;
      spare = λ l t has. c.requires.own.spare l t (subst (λ s. 0 < pairs l t s) d.2 has);
    }
