use Rattle.std.proofs.Common.{refl, ap, sym, subst, ◌≡◌, Option, None}
use Rattle.std.proofs.Common.{arith}
use Rattle.sparsegrid.specs.Texts.{texts}
use Rattle.sparsegrid.specs.Words.{Asked, good_words}
use Rattle.sparsegrid.specs.Lines.{words_last}
use Rattle.sparsegrid.specs.Meaning.{asks_journal, meaning_by, meaning_of_words, refused_before_tasks}
use Rattle.sparsegrid.specs.Outcome.{outside_of}
use Rattle.sparsegrid.specs.steps.Leading.{Kept}
use Rattle.sparsegrid.proofs.Going.{stays_same}
use Rattle.sparsegrid.proofs.Kept.{kept_same, kept_memory, kept_refused}
use Rattle.sparsegrid.proofs.Sources.{words_end}
use Rattle.sparsegrid.proofs.session.answer.Goals as goal

pub returns-in-Ok-clause-went : goal.returns-in-Ok-clause-went
returns-in-Ok-clause-went g c =
    subst (λ (o : Option Asked). Kept (asks_journal o) (λ readings. meaning_of_words o readings) 0 (outside_of g.F.Files g.S.Sink c.args.files.now c.args.out.now)
    (outside_of g.F.Files g.S.Sink c.run_asked.new.files c.run_asked.new.out) c.run_asked.result) (sym c.in-Ok.ensures.asked) c.run_asked.ensures.went

pub returns-in-Err-Refused-clause-went : goal.returns-in-Err-Refused-clause-went
returns-in-Err-Refused-clause-went g c =
    let bad : good_words (texts c.args.words.now) ≡ None = rw c.in-Err-Refused.field-0-is at c.in-Err-Refused.ensures.asked in
    kept_same (asks_journal (good_words (texts c.args.words.now))) (meaning_by (texts c.args.words.now)) (λ readings. refused_before_tasks words_last) 0 _ _ c.refuse_words.result
    (λ readings. ap (λ (o : Option Asked). meaning_of_words o readings) bad)
    (kept_refused (asks_journal (good_words (texts c.args.words.now))) words_last 0 _ _ c.refuse_words.result c.refuse_words.ensures.sends c.refuse_words.ensures.status c.refuse_words.ensures.session (λ two. absurd (omega arith)) refl refl refl)

pub returns-in-Err-Memory-clause-went : goal.returns-in-Err-Memory-clause-went
returns-in-Err-Memory-clause-went g c = kept_memory (asks_journal (good_words (texts c.args.words.now))) (meaning_by (texts c.args.words.now)) 0 _ _ (words_end (texts c.args.words.now)) (stays_same _) refl refl refl
