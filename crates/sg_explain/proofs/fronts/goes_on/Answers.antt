use Rattle.std.proofs.Common.{◌∙◌, ap, sym}
use Rattle.sg_parser.specs.Parsed.{program_of}
use Rattle.sg_explain.proofs.FrontLemmas.{front_of}
use Rattle.sg_explain.proofs.fronts.goes_on.Goals as goal

pub returns-in-Ok : goal.returns-in-Ok
returns-in-Ok c = λ holds. front_of c.parsed_is_spelled.ensures c.args.tokens.list c.in_ok-more.more c.in-Ok._program (ap program_of (sym c.in_ok-append.ensures) ∙ c.in-Ok.ensures)
