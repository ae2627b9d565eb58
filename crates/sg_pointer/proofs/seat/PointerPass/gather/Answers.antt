use Rattle.std.proofs.Common.{[], ◌∷◌, length, take, ap, sym, ◌∙◌}
use lib.ListN.{get_elem?}
use Rattle.sg_words.specs.SlotRaces.{slot_race}
use Rattle.sg_words.proofs.Uses.{slot-small}
use Rattle.sg_pointer.proofs.Endings.{ended}
use Rattle.sg_pointer.proofs.seat.PointerPass.gather.Goals.{After-free}
use Rattle.sg_pointer.proofs.seat.PointerPass.gather.Goals as goal

pub returns-clause-ended : goal.returns-clause-ended
returns-clause-ended c =
    let last = c.close_with-closed.ensures.values.2 in
    ended c.args.self.table.shared.key c.args.self.start last.0.words last.0.views c.args.seat.seat.id c.args.seat.seat.me.0 c.copy_words.new.links (length c.args.links) c.word-count.result
    c.args.self.told last.1.0 last.1.1 (c.copy_words.ensures ∙ ap (take (length c.args.links)) (sym last.2)) c.requires.long
    (ap (λ l. get_elem? l (length c.copy_words.new.links)) last.2 ∙ ap (get_elem? _) (sym c.len.ensures) ∙ c.word-count.ensures)

pub returns-clause-links : goal.returns-clause-links
returns-clause-links c i =
    let start = c.args.self.start in
    slot-small start.links [] start.stock (length start.stock ∷ []) (slot_race c.copy_words.new.links [] (c.word-count.result ∷ []) (returns-clause-ended c).0) i c.args.self.links c.args.self.numbers (returns-clause-ended c).2
