use Rattle.std.proofs.Common.{sym, ◌∙◌}
use Rattle.sg_audit.proofs.Texts.{cuts_first}
use Rattle.sg_audit.proofs.reading.first_line.Goals as goal

pub returns : goal.returns
returns c =
    let cut = c.split_at.ensures in
    cuts_first c.args.bytes.now c.split_at.result.0.now c.split_at.result.1.now c.line_end.result (sym c.is_empty.ensures ∙ c.if-is_empty.false) c.line_end.ensures cut.front cut.back cut.by_index.0 cut.front_len
