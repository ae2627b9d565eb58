use Rattle.sg_session.proofs.Spelling.{spelled_lex, spelled_parse, spelled_ok, is_spelled}
use Rattle.sg_session.proofs.spelled.spell.Goals as goal

pub returns-in-Ok-parse-clause-answer : goal.returns-in-Ok-parse-clause-answer
returns-in-Ok-parse-clause-answer c = spelled_ok c.args.bytes.now c.in-Ok.tokens c.in-Ok-parse.program c.in-Ok.ensures c.in-Ok-parse.ensures

pub returns-in-Ok-parse-clause-spelled : goal.returns-in-Ok-parse-clause-spelled
returns-in-Ok-parse-clause-spelled c =
    is_spelled c.in-Ok.tokens c.in-Ok-parse.program c.parsed_is_spelled.ensures c.cut_gives_items.ensures (c.answered_are_few.ensures c.args.bytes.now c.in-Ok.tokens c.in-Ok.ensures) c.in-Ok-parse.ensures

pub returns-in-Err-Refused-parse-clause-answer : goal.returns-in-Err-Refused-parse-clause-answer
returns-in-Err-Refused-parse-clause-answer c =
    spelled_parse c.args.bytes.now c.in-Ok.tokens c.in-Err-Refused-parse.fault c.in-Ok.ensures (rw c.in-Err-Refused-parse.field-0-is at c.in-Err-Refused-parse.ensures)

pub returns-in-Err-Refused-clause-answer : goal.returns-in-Err-Refused-clause-answer
returns-in-Err-Refused-clause-answer c = rw c.in-Err-Refused.field-0-is (spelled_lex c.args.bytes.now c.in-Err-Refused.fault (rw c.in-Err-Refused.field-0-is at c.in-Err-Refused.ensures))
