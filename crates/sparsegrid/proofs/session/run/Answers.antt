use Rattle.std.proofs.Common.{◌≡◌, Some, ap}
use Rattle.sg_outside.specs.Files.{Held}
use Rattle.sparsegrid.specs.Texts.{texts}
use Rattle.sparsegrid.specs.Words.{good_words}
use Rattle.sparsegrid.specs.Meaning.{meaning_by, asks_journal}
use Rattle.sparsegrid.specs.Outcome.{IsOfFile, outside_of}
use Rattle.sparsegrid.proofs.Codes as codes
use Rattle.sparsegrid.proofs.Both as both
use Rattle.sparsegrid.proofs.Kept.{went_of}
use Rattle.sparsegrid.proofs.OfFile.{left_at_end}
use Rattle.sparsegrid.proofs.session.run.Goals as goal

pub returns-clause-whole : goal.returns-clause-whole
returns-clause-whole g c = λ plain. codes.whole (texts c.args.words.now) _ _ c.answer.result (went_of (asks_journal (good_words (texts c.args.words.now))) (meaning_by (texts c.args.words.now)) 0 _ _ c.answer.result plain c.answer.ensures.went) c.answer.ensures.end _ c.answer.ensures.lower c.done_of-done.result c.with_code.result c.done_of-done.ensures.status c.done_of-done.ensures.session _ _ c.with_code.ensures.puts

pub returns-clause-stopped : goal.returns-clause-stopped
returns-clause-stopped g c = λ plain. codes.stopped (texts c.args.words.now) _ _ c.answer.result (went_of (asks_journal (good_words (texts c.args.words.now))) (meaning_by (texts c.args.words.now)) 0 _ _ c.answer.result plain c.answer.ensures.went) c.answer.ensures.end _ c.answer.ensures.lower c.done_of-done.result c.with_code.result c.done_of-done.ensures.status c.done_of-done.ensures.session _ _ c.with_code.ensures.puts

pub returns-clause-front : goal.returns-clause-front
returns-clause-front g c = λ plain. codes.front (texts c.args.words.now) _ _ c.answer.result (went_of (asks_journal (good_words (texts c.args.words.now))) (meaning_by (texts c.args.words.now)) 0 _ _ c.answer.result plain c.answer.ensures.went) c.answer.ensures.end _ c.answer.ensures.lower c.done_of-done.result c.with_code.result c.done_of-done.ensures.status c.done_of-done.ensures.session _ _ c.with_code.ensures.puts

pub returns-clause-ended : goal.returns-clause-ended
returns-clause-ended g c = λ plain. codes.ended (texts c.args.words.now) _ _ c.answer.result (went_of (asks_journal (good_words (texts c.args.words.now))) (meaning_by (texts c.args.words.now)) 0 _ _ c.answer.result plain c.answer.ensures.went) c.answer.ensures.end _ c.answer.ensures.lower c.done_of-done.result c.with_code.result c.done_of-done.ensures.status c.done_of-done.ensures.session _ _ c.with_code.ensures.puts

pub returns-clause-asked : goal.returns-clause-asked
returns-clause-asked g c = λ plain. codes.asked (texts c.args.words.now) _ _ c.answer.result (went_of (asks_journal (good_words (texts c.args.words.now))) (meaning_by (texts c.args.words.now)) 0 _ _ c.answer.result plain c.answer.ensures.went) c.answer.ensures.end _ c.answer.ensures.lower c.done_of-done.result c.with_code.result c.done_of-done.ensures.status c.done_of-done.ensures.session _ _ c.with_code.ensures.puts

pub returns-clause-journal : goal.returns-clause-journal
returns-clause-journal g c = both.journal (texts c.args.words.now) _ _ c.answer.result c.answer.ensures.went c.answer.ensures.end _ c.answer.ensures.lower c.done_of-done.result c.with_code.result c.done_of-done.ensures.status c.done_of-done.ensures.session _ _ c.with_code.ensures.puts
    (λ is. let same = c.with_code.ensures.untouched (c.answer.ensures.plain is) in (same.0, ap (λ out. outside_of g.F.Files g.S.Sink c.answer.new.files out) same.1)) c.fronts_are_sound.ensures

pub returns-clause-quiet : goal.returns-clause-quiet
returns-clause-quiet g c = both.quiet (texts c.args.words.now) _ _ c.answer.result c.answer.ensures.went c.answer.ensures.end _ c.answer.ensures.lower c.done_of-done.result c.with_code.result c.done_of-done.ensures.status c.done_of-done.ensures.session _ _ c.with_code.ensures.puts
    (λ is. let same = c.with_code.ensures.untouched (c.answer.ensures.plain is) in (same.0, ap (λ out. outside_of g.F.Files g.S.Sink c.answer.new.files out) same.1)) c.answer.ensures.quiet

pub returns-clause-read_faults : goal.returns-clause-read_faults
returns-clause-read_faults g c = both.read_faults (texts c.args.words.now) _ _ c.answer.result c.answer.ensures.went c.answer.ensures.end _ c.answer.ensures.lower c.done_of-done.result c.with_code.result c.done_of-done.ensures.status c.done_of-done.ensures.session _ _ c.with_code.ensures.puts
    (λ is. let same = c.with_code.ensures.untouched (c.answer.ensures.plain is) in (same.0, ap (λ out. outside_of g.F.Files g.S.Sink c.answer.new.files out) same.1)) c.answer.ensures.never_falls

pub returns-clause-put_faults : goal.returns-clause-put_faults
returns-clause-put_faults g c = both.put_faults (texts c.args.words.now) _ _ c.answer.result c.answer.ensures.went c.answer.ensures.end _ c.answer.ensures.lower c.done_of-done.result c.with_code.result c.done_of-done.ensures.status c.done_of-done.ensures.session _ _ c.with_code.ensures.puts
    (λ is. let same = c.with_code.ensures.untouched (c.answer.ensures.plain is) in (same.0, ap (λ out. outside_of g.F.Files g.S.Sink c.answer.new.files out) same.1)) c.answer.ensures.cause

pub returns-clause-reads : goal.returns-clause-reads
returns-clause-reads g c = both.reads (texts c.args.words.now) _ _ c.answer.result c.answer.ensures.went c.answer.ensures.end _ c.answer.ensures.lower c.done_of-done.result c.with_code.result c.done_of-done.ensures.status c.done_of-done.ensures.session _ _ c.with_code.ensures.puts
    (λ is. let same = c.with_code.ensures.untouched (c.answer.ensures.plain is) in (same.0, ap (λ out. outside_of g.F.Files g.S.Sink c.answer.new.files out) same.1))

pub returns-clause-session : goal.returns-clause-session
returns-clause-session g c = both.session (texts c.args.words.now) _ _ c.answer.result c.answer.ensures.went c.answer.ensures.end _ c.answer.ensures.lower c.done_of-done.result c.with_code.result c.done_of-done.ensures.status c.done_of-done.ensures.session _ _ c.with_code.ensures.puts
    (λ is. let same = c.with_code.ensures.untouched (c.answer.ensures.plain is) in (same.0, ap (λ out. outside_of g.F.Files g.S.Sink c.answer.new.files out) same.1))

pub returns-clause-last : goal.returns-clause-last
returns-clause-last g c = both.last (texts c.args.words.now) _ _ c.answer.result c.answer.ensures.went c.answer.ensures.end _ c.answer.ensures.lower c.done_of-done.result c.with_code.result c.done_of-done.ensures.status c.done_of-done.ensures.session _ _ c.with_code.ensures.puts
    (λ is. let same = c.with_code.ensures.untouched (c.answer.ensures.plain is) in (same.0, ap (λ out. outside_of g.F.Files g.S.Sink c.answer.new.files out) same.1))

pub returns-clause-program : goal.returns-clause-program
returns-clause-program g c = both.left_at_end (texts c.args.words.now) _ _ c.answer.result c.answer.ensures.went c.answer.ensures.end _ c.answer.ensures.lower c.done_of-done.result c.with_code.result c.done_of-done.ensures.status c.done_of-done.ensures.session _ _ c.with_code.ensures.puts
    (λ is. let same = c.with_code.ensures.untouched (c.answer.ensures.plain is) in (same.0, ap (λ out. outside_of g.F.Files g.S.Sink c.answer.new.files out) same.1))
    (λ session. (held : Held) → g.F.Files.holds c.args.files.now ≡ Some held → IsOfFile (texts c.args.words.now) held session)
    (left_at_end (λ session. (held : Held) → g.F.Files.holds c.args.files.now ≡ Some held → IsOfFile (texts c.args.words.now) held session) c.answer.result c.answer.ensures.program)
