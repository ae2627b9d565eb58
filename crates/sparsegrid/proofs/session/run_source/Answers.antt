use Rattle.std.proofs.Common.{refl, ap, ◌≡◌, Err}
use Rattle.std.specs.Prelude.{Result}
use Rattle.sg_session.specs.declared.refusal.Refusal.{Refusal}
use Rattle.sg_session.specs.Compiled.{CheckedProgram}
use Rattle.sg_session.specs.Compiling.{spelled_program, compiled_program}
use Rattle.sparsegrid.specs.Words.{asked_by, doing}
use Rattle.sparsegrid.specs.Lines.{refusal_last}
use Rattle.sparsegrid.specs.Meaning.{is_journal, refused_before_tasks, meaning_of_compiled, items_or_none}
use Rattle.sparsegrid.proofs.Going.{stays_same}
use Rattle.sparsegrid.proofs.Kept.{kept_same, kept_memory, kept_refused}
use Rattle.sparsegrid.proofs.Opened.{compiled_kept}
use Rattle.sparsegrid.proofs.Sources.{compiled_left, compiled_ends, file_not_two, refused_end}
use Rattle.sparsegrid.proofs.session.run_source.Goals as goal

pub returns-in-Ok-clause-went : goal.returns-in-Ok-clause-went
returns-in-Ok-clause-went g c =
    compiled_kept (is_journal (doing c.args.asked.now.mode)) (asked_by c.args.asked.now) c.args.bytes.now (compiled_program c.args.bytes.now) c.in-Ok.compiled _ _ c.run_compiled.result c.in-Ok.ensures.answer c.run_compiled.ensures.went

pub returns-in-Ok-clause-program : goal.returns-in-Ok-clause-program
returns-in-Ok-clause-program g c = compiled_left (compiled_program c.args.bytes.now) c.in-Ok.compiled c.run_compiled.result c.in-Ok.ensures.answer c.run_compiled.ensures.program

pub returns-in-Err-Refused-clause-went : goal.returns-in-Err-Refused-clause-went
returns-in-Err-Refused-clause-went g c =
    let why : compiled_program c.args.bytes.now ≡ Err c.in-Err-Refused.refusal = rw c.in-Err-Refused.field-0-is at c.in-Err-Refused.ensures.answer in
    kept_same (is_journal (doing c.args.asked.now.mode)) (λ readings. meaning_of_compiled (asked_by c.args.asked.now) readings c.args.bytes.now (compiled_program c.args.bytes.now))
    (λ readings. refused_before_tasks (refusal_last (items_or_none (spelled_program c.args.bytes.now)) c.in-Err-Refused.refusal)) 1 _ _ c.refuse_source.result
    (λ readings. ap (λ (a : Result CheckedProgram Refusal). meaning_of_compiled (asked_by c.args.asked.now) readings c.args.bytes.now a) why)
    (kept_refused (is_journal (doing c.args.asked.now.mode)) (refusal_last (items_or_none (spelled_program c.args.bytes.now)) c.in-Err-Refused.refusal) 1 _ _ c.refuse_source.result c.refuse_source.ensures.sends c.refuse_source.ensures.status c.refuse_source.ensures.session
    (file_not_two (items_or_none (spelled_program c.args.bytes.now)) c.in-Err-Refused.refusal) refl refl refl)

pub returns-in-Err-Refused-clause-end : goal.returns-in-Err-Refused-clause-end
returns-in-Err-Refused-clause-end g c =
    refused_end c.refuse_source.result (items_or_none (spelled_program c.args.bytes.now)) c.in-Err-Refused.refusal c.refuse_source.ensures.status c.refuse_source.ensures.session

pub returns-in-Err-Memory-clause-went : goal.returns-in-Err-Memory-clause-went
returns-in-Err-Memory-clause-went g c =
    kept_memory (is_journal (doing c.args.asked.now.mode)) (λ readings. meaning_of_compiled (asked_by c.args.asked.now) readings c.args.bytes.now (compiled_program c.args.bytes.now)) 1 _ _
    (λ readings. compiled_ends (asked_by c.args.asked.now) readings c.args.bytes.now (compiled_program c.args.bytes.now)) (stays_same _) refl refl refl
