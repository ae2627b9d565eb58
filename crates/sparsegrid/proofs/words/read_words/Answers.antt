use Rattle.std.proofs.Common.{◌≡◌, ℕ, false, List, Err, map, string_bytes, subst, sym, ◌∙◌}
use Rattle.sg_words.specs.declared.memory.Stop.{Stop}
use Rattle.sg_words.specs.declared.memory.Stop.TheVariants as stop
use Rattle.clap.specs.Matches.{found_of}
use Rattle.clap.specs.Walk.{rows_of}
use Rattle.clap.specs.declared.parser.matches.ArgMatches.{ArgMatches}
use Rattle.sparsegrid.specs.Words as spec
use Rattle.sparsegrid.specs.declared.words.BadWords.{BadWords}
use Rattle.sparsegrid.specs.declared.words.Words.{Words}
use Rattle.sparsegrid.specs.steps.Splitting.{has_dash_for_from, rows_split}
use Rattle.sg_words.specs.Answers.{AnswersOption}
use Rattle.sparsegrid.proofs.SplitParse.{asked_of_rows, nothing_asked, nothing_for_dash}
use Rattle.sparsegrid.proofs.words.read_words.Goals as goal

-- words that aren't taken ask for nothing
refused : (words : List (List ℕ)) (why : Stop BadWords) → has_dash_for_from words ≡ false → AnswersOption {A = ArgMatches} (λ matches. rows_of (found_of matches)) (Err why) (rows_split words) → AnswersOption {A = Words} spec.asked_by (Err why) (spec.good_words words)
refused words stop.Memory none is = tt
refused words (stop.Refused fault) none is = nothing_asked words none is

pub returns-in-Ok-clause-asked : goal.returns-in-Ok-clause-asked
returns-in-Ok-clause-asked c =
    subst (AnswersOption spec.asked_by c.matches_asked.result) (sym (asked_of_rows (map string_bytes c.args.words.now) (rows_of (found_of c.in-Ok.matches)) (sym c.has_dash_for_from.ensures ∙ c.if-has_dash_for_from.false) c.in-Ok.ensures)) c.matches_asked.ensures.asked

pub returns-in-Ok-clause-some : goal.returns-in-Ok-clause-some
returns-in-Ok-clause-some c = c.matches_asked.ensures.some

pub returns-in-Ok-clause-few : goal.returns-in-Ok-clause-few
returns-in-Ok-clause-few c = c.matches_asked.ensures.few

pub returns-in-Err-clause-asked : goal.returns-in-Err-clause-asked
returns-in-Err-clause-asked c = refused (map string_bytes c.args.words.now) c.in-Err.stop (sym c.has_dash_for_from.ensures ∙ c.if-has_dash_for_from.false) c.in-Err.ensures

pub returns-then-has_dash_for_from-clause-asked : goal.returns-then-has_dash_for_from-clause-asked
returns-then-has_dash_for_from-clause-asked c = nothing_for_dash (map string_bytes c.args.words.now) (sym c.has_dash_for_from.ensures ∙ c.if-has_dash_for_from.true)
