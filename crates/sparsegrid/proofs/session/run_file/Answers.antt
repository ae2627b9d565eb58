use Rattle.std.proofs.Common.{refl, ap, ◌∙◌, sym, arith}
use Rattle.sg_outside.specs.Files.{Bytes, TooMany}
use Rattle.sparsegrid.specs.Words.{asked_by, doing}
use Rattle.sparsegrid.specs.Lines.{file_bytes_last}
use Rattle.sparsegrid.specs.Outcome.{outside_of}
use Rattle.sparsegrid.specs.Meaning.{is_journal}
use Rattle.sparsegrid.proofs.Opened.{read_gave, read_failed, read_memory}
use Rattle.sparsegrid.proofs.Kept.{kept_refused}
use Rattle.sparsegrid.proofs.Going.{stays_same}
use Rattle.sparsegrid.proofs.session.run_file.Goals as goal

pub returns-in-All-clause-went : goal.returns-in-All-clause-went
returns-in-All-clause-went g c =
    read_gave (is_journal (doing c.args.asked.now.mode)) (asked_by c.args.asked.now) c.requires.file c.as_str-name.result.now (Bytes c.as_slice.result.now) _ _ _ c.run_source.result c.as_str-name.ensures.value
    (λ held told. c.in-All.ensures.bytes held told ∙ ap Bytes (sym c.as_slice.ensures.value))
    c.in-All.ensures.asked c.in-All.ensures.reads c.in-All.ensures.cause c.in-All.ensures.holds (stays_same _) c.run_source.ensures.went

pub returns-in-TooLong-clause-went : goal.returns-in-TooLong-clause-went
returns-in-TooLong-clause-went g c =
    read_gave (is_journal (doing c.args.asked.now.mode)) (asked_by c.args.asked.now) c.requires.file c.as_str-name.result.now TooMany _ (outside_of g.F.Files g.S.Sink c.read.new.self c.args.out.now) _ c.refuse_long.result c.as_str-name.ensures.value (λ held told. c.in-TooLong.ensures.bytes held told)
    c.in-TooLong.ensures.asked c.in-TooLong.ensures.reads c.in-TooLong.ensures.cause c.in-TooLong.ensures.holds (stays_same _)
    (kept_refused (is_journal (doing c.args.asked.now.mode)) file_bytes_last 1 _ _ c.refuse_long.result c.refuse_long.ensures.sends c.refuse_long.ensures.status c.refuse_long.ensures.session (λ two. absurd (omega arith)) refl refl refl)

pub returns-in-Failed-clause-went : goal.returns-in-Failed-clause-went
returns-in-Failed-clause-went g c =
    read_failed (is_journal (doing c.args.asked.now.mode)) (asked_by c.args.asked.now) c.requires.file c.as_str-name.result.now _ _ c.refuse_read.result c.as_str-name.ensures.value
    c.in-Failed.ensures.asked c.in-Failed.ensures.reads c.in-Failed.ensures.cause c.refuse_read.ensures.sends c.refuse_read.ensures.status c.refuse_read.ensures.session

pub returns-clause-went : goal.returns-clause-went
returns-clause-went g c =
    read_memory (is_journal (doing c.args.asked.now.mode)) (asked_by c.args.asked.now) c.requires.file c.as_str-name.result.now _ _ c.as_str-name.ensures.value
    c.in-Memory.ensures.asked c.in-Memory.ensures.reads c.in-Memory.ensures.cause c.in-Memory.ensures.holds (stays_same _)
