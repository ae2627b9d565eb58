use Rattle.std.proofs.Common.{◌≡◌, ◌+◌, ◌==◌, suc, Bool, ◌∷◌, length, None, sym, ap, subst, ◌∙◌, arith}
use Rattle.std.proofs.lemmas.Bool.{both_ways, eq-eqb}
use Rattle.sg_audit.specs.declared.reading.Entry.{Entry}
use Rattle.sg_audit.specs.declared.verdict.Verdict.TheVariants.{No}
use Rattle.sg_audit.specs.Reading.{entries_of}
use Rattle.sg_audit.specs.Auditing.{verdict_from}
use Rattle.sg_audit.specs.steps.Tables.{Follows}
use Rattle.sg_audit.specs.steps.Stepping.{StepsFrom}
use Rattle.sg_audit.proofs.Stepped.{steps_behind, steps_sound}
use Rattle.sg_audit.proofs.auditing.step.Goals as goal

pub returns-in-End-2 : goal.returns-in-End-2
returns-in-End-2 c = λ rooms held stand.
    let next : suc c.args.line ≡ c.args.line + 1 = omega arith in
    ap (λ (e : Entry). verdict_from rooms c.args.line held (e ∷ entries_of c.args.later.now)) (sym c.in-End-2.ensures)
    ∙ steps_behind c.args.tables.now c.args.tables.now c.args.line c.args.later.now
    (λ none. both_ways (length c.args.later.now == 0) (sym c.is_empty.ensures ∙ c.if-is_empty.false) (eq-eqb (length c.args.later.now) 0 (ap length none)))
    rooms held stand
    ∙ ap No next

pub returns-then-branch : goal.returns-then-branch
returns-then-branch c =
    subst (λ (e : Entry). StepsFrom c.args.tables.now c.follow.new.self c.args.line e (entries_of c.args.later.now) None) c.in-Written.ensures
    (steps_sound c.args.tables.now c.follow.new.self c.args.line c.in-Written.written (entries_of c.args.later.now)
    (subst (λ (b : Bool). Follows c.args.tables.now c.follow.new.self c.in-Written.written b) c.if-branch.true c.in_ok-follow-in-Written.ensures))
