use Rattle.std.proofs.Common.{rules, ◌<◌, sym, ap, ◌∙◌, subst, arith}
use Rattle.std.specs.Prelude.{slice_index}
use Rattle.sg_hash.proofs.Passes.{look_key-allowed}
use Rattle.sg_hash.proofs.Keys.{looked-key, at-word}
use Rattle.sg_hash.specs.KeySteps.{TellKeys}
use Rattle.sg_hash.proofs.seat.HashPass.look_key.Goals as goal

pub load-requires : goal.load-requires
load-requires c =
    let sized = c.args.self.now.sized in
    (search rules, omega arith, look_key-allowed c.args.self.now _ _ _ _ c.args.place c.word_at.ensures (search rules) c.requires.own.told c.requires.inside)

pub invariant_of-seat : goal.invariant_of-seat
invariant_of-seat c =
    let me = (c.load.ensures.2 c.args.place (at-word c.args.self.now.start _ _ _ c.requires.own.told c.word_at.ensures)).0 in
    let f = looked-key c.args.seat.now.seat.me.0 c.load.new.seat.me.0 _ _ (ap (λ m. m.0) me) in
    let live = c.args.seat.now.working in
    record {
      empty_handed = ap (λ m. m.1) me ∙ c.args.seat.now.empty_handed;
      working = subst (λ n. 0 < n) (sym f.share) live;
      spares = f.spare ∙ c.args.seat.now.spares;
      dries = c.args.seat.now.dries ∙ sym (ap (λ l. Rattle.std.specs.Prelude.nat_lt 0 (Rattle.sg_words.specs.Counts.firsts 0 l)) f.past);
    }

pub returns-clause-own : goal.returns-clause-own
returns-clause-own c =
    let me = (c.load.ensures.2 c.args.place (at-word c.args.self.now.start _ _ _ c.requires.own.told c.word_at.ensures)).0 in
    let f = looked-key c.args.seat.now.seat.me.0 c.load.new.seat.me.0 _ _ (ap (λ m. m.0) me) in
    record {
      table = c.load.ensures.0 ∙ c.requires.own.table;
      told = f.told ∙ c.requires.own.told;
      spare = λ t h. c.requires.own.spare t (subst (λ l. 0 < Rattle.sg_words.specs.Counts.pairs 0 t l) f.spare h);
    }

pub returns-clause-event : goal.returns-clause-event
returns-clause-event c = ap (λ m. m.0) (c.load.ensures.2 c.args.place (at-word c.args.self.now.start _ _ _ c.requires.own.told c.word_at.ensures)).0

pub returns-clause-tells : goal.returns-clause-tells
returns-clause-tells c =
    subst (λ n. TellKeys n c.args.place c.load.result c.load.new.seat.me.0) (ap (λ l. slice_index l 1) c.requires.own.told)
    (c.load.ensures.2 c.args.place (at-word c.args.self.now.start _ _ _ c.requires.own.told c.word_at.ensures)).1
