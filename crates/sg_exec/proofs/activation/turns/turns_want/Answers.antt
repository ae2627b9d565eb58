use Rattle.std.proofs.Common.{sym, subst}
use Rattle.sg_exec.specs.declared.activation.turns.Turns.{Turns}
use Rattle.sg_exec.specs.steps.Turning.{MayWant, WantsNone}
use Rattle.sg_exec.proofs.activation.turns.turns_want.Goals as goal

pub returns-in-Slice-clause-none : goal.returns-in-Slice-clause-none
returns-in-Slice-clause-none c = λ no. subst (λ (turns : Turns). WantsNone turns c.args.layout) (sym c.in-Slice.is) (c.block_wants.ensures.none no)

pub returns-in-Slice-clause-text : goal.returns-in-Slice-clause-text
returns-in-Slice-clause-text c = λ is. subst (λ (turns : Turns). MayWant turns c.args.layout) (sym c.in-Slice.is) (c.block_wants.ensures.text is)

pub returns-in-Rows-clause-text : goal.returns-in-Rows-clause-text
returns-in-Rows-clause-text c = λ is. subst (λ (turns : Turns). MayWant turns c.args.layout) (sym c.in-Rows.is) tt
