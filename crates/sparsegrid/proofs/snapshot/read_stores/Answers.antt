use Rattle.std.proofs.Common.{refl, ap, ◌∙◌, sym, subst, List, ℕ, Ok, Err}
use Rattle.sg_outside.specs.Files.{Bytes}
use Rattle.sg_words.specs.declared.memory.Stop.TheVariants as stop
use Rattle.sg_snapshot.specs.Restored.{StandForRestored}
use Rattle.sparsegrid.proofs.Beginning.{made_stores, made_fault, made_long, made_failed, made_nothing}
use Rattle.sparsegrid.proofs.snapshot.read_stores.Goals as goal

pub returns-in-Ok-clause-given : goal.returns-in-Ok-clause-given
returns-in-Ok-clause-given g c =
    made_stores c.args.layouts.now.list _ _ c.as_slice.result.now c.in-Ok.stores c.in-Ok.ensures.answer
    (λ held told. c.in-All.ensures.bytes held told ∙ ap Bytes (sym c.as_slice.ensures.value))

pub returns-in-Err-Refused-clause-given : goal.returns-in-Err-Refused-clause-given
returns-in-Err-Refused-clause-given g c =
    made_fault c.args.layouts.now.list _ _ c.as_slice.result.now c.in-Err-Refused.fault (rw c.in-Err-Refused.field-0-is at c.in-Err-Refused.ensures.answer)
    (λ held told. c.in-All.ensures.bytes held told ∙ ap Bytes (sym c.as_slice.ensures.value))

pub returns-in-All-clause-given : goal.returns-in-All-clause-given
returns-in-All-clause-given g c = made_nothing c.args.layouts.now.list _ _

pub returns-in-TooLong-clause-given : goal.returns-in-TooLong-clause-given
returns-in-TooLong-clause-given g c = made_long c.args.layouts.now.list _ _ (λ held told. c.in-TooLong.ensures.bytes held told)

pub returns-in-Failed-clause-given : goal.returns-in-Failed-clause-given
returns-in-Failed-clause-given g c = made_failed c.args.layouts.now.list _ _

pub returns-clause-given : goal.returns-clause-given
returns-clause-given g c = made_nothing c.args.layouts.now.list _ _
