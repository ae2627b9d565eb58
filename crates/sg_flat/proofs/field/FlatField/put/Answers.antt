use Rattle.std.proofs.Common.{Some, None, refl, sym, arith}
use Rattle.sg_flat.proofs.MapWords.{put_word_is, puts_from_updates, edited_is_fine-remove, edited_is_fine-insert}
use Rattle.sg_flat.proofs.field.FlatField.put.Goals as goal

pub invariant_of-self : goal.invariant_of-self
invariant_of-self c = rw c.remove.ensures.entries (edited_is_fine-remove _ c.self.inside.words.entries c.self.invariant)

pub invariant_of-self-in_ok-insert : goal.invariant_of-self-in_ok-insert
invariant_of-self-in_ok-insert c =
    rw c.in_ok-insert.ensures.entries (edited_is_fine-insert c.args.row c.args.word c.self.inside.words.entries c.if-word-eq0.false (omega arith) c.self.invariant)

pub returns-then-word-eq0 : goal.returns-then-word-eq0
returns-then-word-eq0 c = λ size below are_words.
    put_word_is size c.args.self.now c.remove.new.self.entries c.args.row c.args.word below are_words c.remove.ensures.ordered (invariant_of-self c).0
    (puts_from_updates c.args.self.now c.remove.new.self.entries c.args.row c.args.word None (sym c.if-word-eq0.true) (rw c.self.view_is at c.remove.ensures.updates.0))

pub returns-in_ok-insert : goal.returns-in_ok-insert
returns-in_ok-insert c = λ size below are_words.
    put_word_is size c.args.self.now c.insert.new.self.entries c.args.row c.args.word below are_words c.in_ok-insert.ensures.ordered (invariant_of-self-in_ok-insert c).0
    (puts_from_updates c.args.self.now c.insert.new.self.entries c.args.row c.args.word (Some c.args.word) refl (rw c.self.view_is at c.in_ok-insert.ensures.updates.0))
