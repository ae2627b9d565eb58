use Rattle.std.proofs.Common.{refl, subst}
use Rattle.clap.specs.Matches.{found_of}
use Rattle.sparsegrid.specs.Words as spec
use Rattle.sg_words.specs.Answers.{AnswersOption}
use Rattle.sparsegrid.proofs.SplitParse.{parts_read}
use Rattle.sparsegrid.proofs.words.matches_asked.Goals as goal

pub slice_bounds-unwrap_or-end : goal.slice_bounds-unwrap_or-end
slice_bounds-unwrap_or-end c = refl

pub returns-clause-asked : goal.returns-clause-asked
returns-clause-asked c =
    subst (AnswersOption spec.asked_by c.parts_asked.result)
    (parts_read (found_of c.args.matches.now) c.get_str.result c.get_str-2.result c.get_str-3.result c.get_raw.result _ c.unwrap_or.result c.get_str.ensures c.get_str-2.ensures c.get_str-3.ensures c.get_raw.ensures c.unwrap_or.ensures refl)
    c.parts_asked.ensures.asked

pub returns-clause-some : goal.returns-clause-some
returns-clause-some c = c.parts_asked.ensures.some

pub returns-clause-few : goal.returns-clause-few
returns-clause-few c = c.parts_asked.ensures.few
