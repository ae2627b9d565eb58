use Rattle.std.proofs.Common.{◌≡◌, ◌+◌, [], ◌∷◌, length, take, drop, ap, sym, ◌∙◌, subst}
use mathlib.Core.Option.{some}
use lib.ListN.{get_elem?}
use Rattle.sg_words.specs.SlotRaces.{slot_race}
use Rattle.sg_words.proofs.Uses.{slot-small}
use Rattle.sg_hash.proofs.Endings.{ended}
use Rattle.sg_hash.proofs.seat.HashPass.gather.Goals.{After-free}
use Rattle.sg_hash.proofs.seat.HashPass.gather.Goals as goal

pub returns-clause-ended : goal.returns-clause-ended
returns-clause-ended c =
    let last = c.close_with-closed.ensures.values.2 in
    ended c.args.self.table.shared.key c.args.self.start last.0.words last.0.views c.args.seat.seat.id c.args.seat.seat.me.0 c.copy_words.new.words c.copy_words-2.new.words
    (length c.args.links) (length c.args.keys) c.len-places.result c.word-count.result
    c.args.self.told last.1.0 last.1.1 (c.copy_words.ensures ∙ ap (take (length c.args.links)) (sym last.2)) c.requires.long
    (c.copy_words-2.ensures ∙ ap (λ l. take (length c.args.keys) (drop c.len-places.result l)) (sym last.2)) c.requires.many (c.len-places.ensures ∙ c.requires.long)
    (subst (λ k. get_elem? last.0.words (c.len-places.result + k) ≡ some c.word-count.result) (c.len-places.ensures ∙ c.requires.long ∙ sym c.requires.many)
    (ap (λ l. get_elem? l (c.len-places.result + c.len-places.result)) last.2 ∙ c.word-count.ensures))

pub returns-clause-links : goal.returns-clause-links
returns-clause-links c i =
    let start = c.args.self.start in
    slot-small start.links start.keys start.stock (length start.stock ∷ length start.links ∷ []) (slot_race c.copy_words.new.words c.copy_words-2.new.words (c.word-count.result ∷ []) (returns-clause-ended c).0) i
    c.args.self.links c.args.self.numbers (returns-clause-ended c).2
