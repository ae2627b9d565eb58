use Rattle.std.proofs.Common.{rules, ◌+◌, ◌<◌, sym, ap, ◌∙◌, subst, arith}
use Rattle.std.specs.Prelude.{slice_index}
use Rattle.sg_pointer.proofs.Passes.{try-allowed}
use Rattle.sg_words.proofs.Uses.{tried-link, tried-see}
use Rattle.sg_pointer.proofs.seat.PointerPass.place.Goals as goal

pub compare_exchange-found-requires : goal.compare_exchange-found-requires
compare_exchange-found-requires c =
    let sized = c.args.self.now.sized in
    (search rules, omega arith, try-allowed c.args.self.now _ _ _ _ c.args.ticket _ (search rules) c.requires.inside c.requires.spare (ap (λ l. slice_index l c.args.ticket + 1) c.as_slice.ensures))

pub invariant_of-seat : goal.invariant_of-seat
invariant_of-seat c =
    let me = c.compare_exchange-found.ensures.2.0 c.args.ticket c.requires.spare in
    let link = tried-link c.args.seat.now.seat.me.0 c.compare_exchange-found.new.seat.me.0 _ _ _ _ (ap (λ m. m.0) me) c.if-found-eq0.true c.requires.spare in
    let live = c.args.seat.now.working in
    record {
      empty_handed = ap (λ m. m.1) me ∙ c.args.seat.now.empty_handed;
      working = omega arith;
      spares = link.1;
      dries = c.args.seat.now.dries ∙ sym link.3;
    }

pub invariant_of-seat-else-found-eq0 : goal.invariant_of-seat-else-found-eq0
invariant_of-seat-else-found-eq0 c =
    let me = c.compare_exchange-found.ensures.2.0 c.args.ticket c.requires.spare in
    let see = tried-see c.args.seat.now.seat.me.0 c.compare_exchange-found.new.seat.me.0 _ _ _ _ (ap (λ m. m.0) me) c.if-found-eq0.false in
    let live = c.args.seat.now.working in
    record {
      empty_handed = ap (λ m. m.1) me ∙ c.args.seat.now.empty_handed;
      working = omega arith;
      spares = see.1 ∙ c.args.seat.now.spares;
      dries = c.args.seat.now.dries ∙ sym see.3;
    }

pub returns-then-found-eq0-clause-own : goal.returns-then-found-eq0-clause-own
returns-then-found-eq0-clause-own c =
    let me = c.compare_exchange-found.ensures.2.0 c.args.ticket c.requires.spare in
    let link = tried-link c.args.seat.now.seat.me.0 c.compare_exchange-found.new.seat.me.0 _ _ _ _ (ap (λ m. m.0) me) c.if-found-eq0.true c.requires.spare in
    record {
      table = c.compare_exchange-found.ensures.0 ∙ c.requires.own.table;
      told = link.2 ∙ c.requires.own.told;
      spare = λ t h. absurd (let e = ap (λ l. Rattle.sg_words.specs.Counts.pairs 0 t l) link.1 in omega arith);
    }

pub returns-else-found-eq0-clause-own : goal.returns-else-found-eq0-clause-own
returns-else-found-eq0-clause-own c =
    let me = c.compare_exchange-found.ensures.2.0 c.args.ticket c.requires.spare in
    let see = tried-see c.args.seat.now.seat.me.0 c.compare_exchange-found.new.seat.me.0 _ _ _ _ (ap (λ m. m.0) me) c.if-found-eq0.false in
    record {
      table = c.compare_exchange-found.ensures.0 ∙ c.requires.own.table;
      told = see.2 ∙ c.requires.own.told;
      spare = λ t h. c.requires.own.spare t (subst (λ l. 0 < Rattle.sg_words.specs.Counts.pairs 0 t l) see.1 h);
    }
