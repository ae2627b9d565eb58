use Rattle.std.proofs.Common.{refl, ap, ◌∙◌, sym, map}
use Rattle.sg_outside.specs.Files.{Bytes, TooMany}
use Rattle.sg_session.specs.Bindings.{binding_read}
use Rattle.sparsegrid.specs.Verdicts.{journal_file}
use Rattle.sparsegrid.specs.Outcome.{outside_of}
use Rattle.sparsegrid.proofs.Audits.{journal_gave, journal_failed, journal_memory, journal_long, verdict_went}
use Rattle.sparsegrid.proofs.Going.{stays_same}
use Rattle.sparsegrid.proofs.auditing.audit_bound.Goals as goal

pub returns-in-All-clause-went : goal.returns-in-All-clause-went
returns-in-All-clause-went g c = λ program compiles.
    journal_gave program (journal_file (map binding_read c.args.binds.now.list)) c.journal_file-name.result.now (Bytes c.as_slice.result.now) _ (outside_of g.F.Files g.S.Sink c.read.new.self c.args.out.now) _ c.write_verdict.result c.journal_file-name.ensures
    (λ held told. c.in-All.ensures.bytes held told ∙ ap Bytes (sym c.as_slice.ensures.value))
    c.in-All.ensures.asked c.in-All.ensures.reads c.in-All.ensures.cause c.in-All.ensures.holds (stays_same _)
    (verdict_went program (journal_file (map binding_read c.args.binds.now.list)) c.args.compiled c.as_slice.result.now _ _ c.write_verdict.result compiles c.write_verdict.ensures.sends c.write_verdict.ensures.program c.write_verdict.ensures.opened c.write_verdict.ensures.status refl refl refl)

pub returns-in-TooLong-clause-went : goal.returns-in-TooLong-clause-went
returns-in-TooLong-clause-went g c = λ program compiles.
    journal_gave program (journal_file (map binding_read c.args.binds.now.list)) c.journal_file-name.result.now TooMany _ (outside_of g.F.Files g.S.Sink c.read.new.self c.args.out.now) _ c.refuse_long_journal.result c.journal_file-name.ensures (λ held told. c.in-TooLong.ensures.bytes held told)
    c.in-TooLong.ensures.asked c.in-TooLong.ensures.reads c.in-TooLong.ensures.cause c.in-TooLong.ensures.holds (stays_same _)
    (journal_long program (journal_file (map binding_read c.args.binds.now.list)) _ _ c.refuse_long_journal.result c.refuse_long_journal.ensures.sends c.refuse_long_journal.ensures.status c.refuse_long_journal.ensures.session refl refl refl)

pub returns-in-Failed-clause-went : goal.returns-in-Failed-clause-went
returns-in-Failed-clause-went g c = λ program compiles.
    journal_failed program (journal_file (map binding_read c.args.binds.now.list)) c.journal_file-name.result.now _ _ c.refuse_read.result c.journal_file-name.ensures
    c.in-Failed.ensures.asked c.in-Failed.ensures.reads c.in-Failed.ensures.cause c.refuse_read.ensures.sends c.refuse_read.ensures.status c.refuse_read.ensures.session

pub returns-in-Memory-clause-went : goal.returns-in-Memory-clause-went
returns-in-Memory-clause-went g c = λ program compiles.
    journal_memory program (journal_file (map binding_read c.args.binds.now.list)) c.journal_file-name.result.now _ _ c.journal_file-name.ensures
    c.in-Memory.ensures.asked c.in-Memory.ensures.reads c.in-Memory.ensures.cause c.in-Memory.ensures.holds (stays_same _)
