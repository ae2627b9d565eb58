use Rattle.std.proofs.Common.{refl, ◌∙◌}
use Rattle.sparsegrid.specs.Words.{asked_by, doing}
use Rattle.sparsegrid.specs.Meaning.{is_journal, meaning_of_asked}
use Rattle.sparsegrid.proofs.Going.{stays_same}
use Rattle.sparsegrid.proofs.Kept.{kept_of, went_of, kept_memory}
use Rattle.sparsegrid.proofs.Sources.{asked_ends}
use Rattle.sparsegrid.proofs.Unread.{generated_went, no_journal}
use Rattle.sparsegrid.proofs.session.run_generated.Goals as goal

pub returns-in-Ok-clause-went : goal.returns-in-Ok-clause-went
returns-in-Ok-clause-went g c =
    let plain = no_journal (doing c.args.asked.now.mode) c.requires.number in
    kept_of (is_journal (doing c.args.asked.now.mode)) (meaning_of_asked (asked_by c.args.asked.now)) 0 _ _ c.run_source.result plain
    (generated_went (asked_by c.args.asked.now) c.as_bytes.result.now _ _ c.run_source.result c.requires.number (c.as_bytes.ensures.value ∙ c.in-Ok.ensures.text)
    (went_of (is_journal (doing c.args.asked.now.mode)) _ 1 _ _ c.run_source.result plain c.run_source.ensures.went))

pub returns-in-Err-clause-went : goal.returns-in-Err-clause-went
returns-in-Err-clause-went g c = kept_memory (is_journal (doing c.args.asked.now.mode)) (meaning_of_asked (asked_by c.args.asked.now)) 0 _ _ (asked_ends (asked_by c.args.asked.now)) (stays_same _) refl refl refl
