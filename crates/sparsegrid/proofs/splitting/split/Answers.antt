use Rattle.std.proofs.Common.{map, string_bytes, ◌∙◌}
use Rattle.clap.specs.Simple.{app_of}
use Rattle.sparsegrid.proofs.SplitParse.{rows_refused, rows_taken}
use Rattle.sparsegrid.proofs.splitting.split.Goals as goal

pub returns-in-Ok : goal.returns-in-Ok
returns-in-Ok c =
    rows_taken (app_of c.in_ok-command.command) c.in_ok-command.ensures (map string_bytes c.args.words.now) c.in-Ok.matches c.in-Ok.ensures.matches c.in-Ok.ensures.kinds

pub returns : goal.returns
returns c =
    rows_refused (app_of c.in_ok-command.command) c.in_ok-command.ensures (map string_bytes c.args.words.now) c.in-Err.error c.in-Err.ensures.kinds
    (λ memory. c.in_default.not-OutOfMemory (c.kind.ensures ∙ memory))
