use Rattle.std.proofs.Common.{ℤ, w32, rules, ap, ◌∙◌}
use Rattle.std.specs.Prelude.{if◌then◌else◌, nat_lt}
use Rattle.std.proofs.lemmas.Int.{to_z-of_z}
use mir.Val.{SFits}
use Rattle.sg_words.specs.Words.{word_of}
use Rattle.sg_exec.proofs.Starting.{part_put, part_others}
use Rattle.sg_exec.proofs.lanes.batch.put_part.Goals as goal

pub returns-clause-parts : goal.returns-clause-parts
returns-clause-parts c =
    let a : SFits w32 c.args.at.a = search rules in
    let b : SFits w32 c.args.at.b = search rules in
    let d : SFits w32 c.args.at.c = search rules in
    part_put c.args.at c.args.vars.now c.args.k c.part_word.result c.part_word-2.result c.part_word-3.result c.requires.column c.requires.room c.requires.none
    (c.part_word.ensures ∙ ap (λ (part : ℤ). if nat_lt 0 c.args.at.n then word_of part else 0) (to_z-of_z w32 c.args.at.a a))
    (c.part_word-2.ensures ∙ ap (λ (part : ℤ). if nat_lt 1 c.args.at.n then word_of part else 0) (to_z-of_z w32 c.args.at.b b))
    (c.part_word-3.ensures ∙ ap (λ (part : ℤ). if nat_lt 2 c.args.at.n then word_of part else 0) (to_z-of_z w32 c.args.at.c d))

pub returns-clause-others : goal.returns-clause-others
returns-clause-others c = part_others c.args.vars.now c.args.k c.part_word.result c.part_word-2.result c.part_word-3.result c.requires.column
