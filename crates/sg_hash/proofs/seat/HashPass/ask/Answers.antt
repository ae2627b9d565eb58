use Rattle.std.proofs.Common.{◌<◌, nat_lt, sym, ap, ◌∙◌, subst}
use Rattle.sg_words.specs.Counts.{pairs, firsts}
use Rattle.sg_hash.proofs.Searches.{full-grows, keys-grow, beside-kept, beside-asked, linked-kept, linked-asked}
use Rattle.sg_hash.proofs.seat.HashPass.ask.Goals as goal

pub returns-in-Some-clause-own : goal.returns-in-Some-clause-own
returns-in-Some-clause-own c =
    record {
      at = c.ask_slot.ensures.own;
      others = full-grows _ c.args.seat.now.seat.me.0 c.ask_slot.new.seat.seat.me.0 c.args.seat.now.full c.ask_slot.new.seat.full (c.ask_slot.ensures.full ∙ c.search.ensures.full)
          (keys-grow c.args.seat.now.seat.me.0 c.search.new.seat.seat.me.0 c.ask_slot.new.seat.seat.me.0 c.search.ensures.searched c.ask_slot.ensures.keys) c.requires.own.others;
      beside = beside-asked c.in-Some.place c.args.key c.args.seat.now.seat.me.0 c.search.new.seat.seat.me.0 c.ask_slot.new.seat.seat.me.0 c.ask_slot.result
          c.search.ensures.searched c.in-Some.ensures.found.1 c.ask_slot.ensures.keys c.ask_slot.ensures.answer c.requires.own.beside;
      linked = linked-asked c.in-Some.place c.args.key c.args.seat.now.seat.me.0 c.search.new.seat.seat.me.0 c.ask_slot.new.seat.seat.me.0 c.ask_slot.result
          c.search.ensures.searched c.search.ensures.put c.in-Some.ensures.found.1 c.ask_slot.ensures.keys c.ask_slot.ensures.answer c.ask_slot.ensures.stays_dry c.requires.own.linked;
    }

pub returns-in-None-clause-own : goal.returns-in-None-clause-own
returns-in-None-clause-own c = record {
  at = record { table = c.search.ensures.own.table; told = c.search.ensures.own.told; spare = c.search.ensures.own.spare };
  others = λ is. (c.args.key, c.in-None.ensures.found.0);
  beside = beside-kept c.args.seat.now.seat.me.0 c.search.new.seat.seat.me.0 c.search.ensures.searched.made c.search.ensures.searched.grows c.requires.own.beside;
  linked = linked-kept c.args.seat.now.seat.me.0 c.search.new.seat.seat.me.0 c.in-None.ensures.found.2 c.search.ensures.searched.grows
      (λ p n has. subst (λ l. 0 < pairs p n l) (sym c.search.ensures.searched.seen) has) (λ d. ap (λ l. nat_lt 0 (firsts 0 l)) c.search.ensures.searched.past ∙ d) c.requires.own.linked;
}
