use Rattle.std.proofs.Common.{rules, ◌<◌, length, inl, inr, refl, sym, ap, ◌∙◌, subst, arith}
use Rattle.std.specs.Prelude.{slice_index, nat_lt}
use Rattle.sg_words.specs.RaceMachine.{key_word}
use Rattle.sg_words.specs.Counts.{pairs, firsts}
use Rattle.sg_hash.proofs.Passes.{try_key-allowed}
use Rattle.sg_hash.proofs.Keys.{tried-key, at-word, key-now}
use Rattle.sg_hash.specs.KeySteps.{TellKeys}
use Rattle.sg_hash.proofs.seat.HashPass.put_key.Goals as goal

pub compare_exchange-found-requires : goal.compare_exchange-found-requires
compare_exchange-found-requires c =
    let sized = c.args.self.now.sized in
    (search rules, omega arith, try_key-allowed c.args.self.now _ _ _ _ c.args.place c.args.key _ c.word_at-at.ensures (search rules) c.requires.own.told c.requires.inside c.requires.may refl)

pub invariant_of-seat : goal.invariant_of-seat
invariant_of-seat c =
    let me = (c.compare_exchange-found.ensures.2 c.args.place c.args.key (at-word c.args.self.now.start _ _ _ c.requires.own.told c.word_at-at.ensures) refl).0 in
    let f = tried-key c.args.seat.now.seat.me.0 c.compare_exchange-found.new.seat.me.0 _ _ _ (ap (λ m. m.0) me) in
    let live = c.args.seat.now.working in
    record {
      empty_handed = ap (λ m. m.1) me ∙ c.args.seat.now.empty_handed;
      working = subst (λ n. 0 < n) (sym f.share) live;
      spares = f.spare ∙ c.args.seat.now.spares;
      dries = c.args.seat.now.dries ∙ sym (ap (λ l. nat_lt 0 (firsts 0 l)) f.past);
    }

pub returns-then-found-eq0-clause-own : goal.returns-then-found-eq0-clause-own
returns-then-found-eq0-clause-own c =
    let me = (c.compare_exchange-found.ensures.2 c.args.place c.args.key (at-word c.args.self.now.start _ _ _ c.requires.own.told c.word_at-at.ensures) refl).0 in
    let f = tried-key c.args.seat.now.seat.me.0 c.compare_exchange-found.new.seat.me.0 _ _ _ (ap (λ m. m.0) me) in
    record {
      table = c.compare_exchange-found.ensures.0 ∙ c.requires.own.table;
      told = f.told ∙ c.requires.own.told;
      spare = λ t h. c.requires.own.spare t (subst (λ l. 0 < pairs 0 t l) f.spare h);
    }

pub returns-then-found-eq0-clause-event : goal.returns-then-found-eq0-clause-event
returns-then-found-eq0-clause-event c = (c.compare_exchange-found.result, key-now c.args.key c.compare_exchange-found.result (inl (c.if-found-eq0.true, refl)), ap (λ m. m.0) (c.compare_exchange-found.ensures.2 c.args.place c.args.key (at-word c.args.self.now.start _ _ _ c.requires.own.told c.word_at-at.ensures) refl).0)

pub returns-then-found-eq0-clause-tells : goal.returns-then-found-eq0-clause-tells
returns-then-found-eq0-clause-tells c =
    subst (λ now. TellKeys (length c.args.self.now.start.links) c.args.place now c.compare_exchange-found.new.seat.me.0) (sym (key-now c.args.key c.compare_exchange-found.result (inl (c.if-found-eq0.true, refl))))
    (subst (λ n. TellKeys n c.args.place (key_word c.args.key c.compare_exchange-found.result) c.compare_exchange-found.new.seat.me.0) (ap (λ l. slice_index l 1) c.requires.own.told) (c.compare_exchange-found.ensures.2 c.args.place c.args.key (at-word c.args.self.now.start _ _ _ c.requires.own.told c.word_at-at.ensures) refl).1)

pub returns-else-found-eq0-clause-own : goal.returns-else-found-eq0-clause-own
returns-else-found-eq0-clause-own c =
    let me = (c.compare_exchange-found.ensures.2 c.args.place c.args.key (at-word c.args.self.now.start _ _ _ c.requires.own.told c.word_at-at.ensures) refl).0 in
    let f = tried-key c.args.seat.now.seat.me.0 c.compare_exchange-found.new.seat.me.0 _ _ _ (ap (λ m. m.0) me) in
    record {
      table = c.compare_exchange-found.ensures.0 ∙ c.requires.own.table;
      told = f.told ∙ c.requires.own.told;
      spare = λ t h. c.requires.own.spare t (subst (λ l. 0 < pairs 0 t l) f.spare h);
    }

pub returns-else-found-eq0-clause-event : goal.returns-else-found-eq0-clause-event
returns-else-found-eq0-clause-event c = (c.compare_exchange-found.result, key-now c.args.key c.compare_exchange-found.result (inr (c.if-found-eq0.false, refl)), ap (λ m. m.0) (c.compare_exchange-found.ensures.2 c.args.place c.args.key (at-word c.args.self.now.start _ _ _ c.requires.own.told c.word_at-at.ensures) refl).0)

pub returns-else-found-eq0-clause-tells : goal.returns-else-found-eq0-clause-tells
returns-else-found-eq0-clause-tells c =
    subst (λ now. TellKeys (length c.args.self.now.start.links) c.args.place now c.compare_exchange-found.new.seat.me.0) (sym (key-now c.args.key c.compare_exchange-found.result (inr (c.if-found-eq0.false, refl))))
    (subst (λ n. TellKeys n c.args.place (key_word c.args.key c.compare_exchange-found.result) c.compare_exchange-found.new.seat.me.0) (ap (λ l. slice_index l 1) c.requires.own.told) (c.compare_exchange-found.ensures.2 c.args.place c.args.key (at-word c.args.self.now.start _ _ _ c.requires.own.told c.word_at-at.ensures) refl).1)
