use Rattle.std.proofs.Common.{◌<◌, length, ap, sym, subst}
use Rattle.std.specs.Prelude.{All}
use Rattle.sg_flat.specs.declared.state.FlatState.{FlatState}
use Rattle.sg_exec.specs.Standing.{StandForState}
use Rattle.sg_batch.specs.Batches.{Batched, StaysAtMemory, group_end, members}
use Rattle.sg_batch.specs.Independent.{AreApart}
use Rattle.sg_batch.specs.steps.Passing.{PassesFlat}
use Rattle.sg_batch.proofs.Uses.{group_stands}
use Rattle.sg_session.specs.Performed.{SessionParts}
use Rattle.sparsegrid.proofs.group.run_group.Goals as goal

pub run_members-requires-clause-there : goal.run_members-requires-clause-there
run_members-requires-clause-there g c = λ lifetimes outlive. subst (λ (s : SessionParts). All (λ number. number < length s.compiled.kernels) c.args.group.now) (sym c.session.view_is) c.requires.there

pub run_members-requires-clause-apart : goal.run_members-requires-clause-apart
run_members-requires-clause-apart g c = λ lifetimes outlive.
    subst (λ (s : SessionParts). AreApart (members s.compiled.kernels c.args.group.now)) (sym c.session.view_is) c.requires.apart

pub returns-clause-answer : goal.returns-clause-answer
returns-clause-answer g c =
    subst (λ (s : SessionParts). (state : FlatState) → StandForState s.compiled.layouts s.stores state →
    Batched s.compiled.layouts c.run_members.new.stores.list c.run_members.result (group_end s.compiled.layouts 0 state (members s.compiled.kernels c.args.group.now)))
    c.session.view_is c.run_members.ensures.answer

pub returns-clause-flat : goal.returns-clause-flat
returns-clause-flat g c =
    subst (λ (s : SessionParts). (state : FlatState) → StandForState s.compiled.layouts s.stores state → PassesFlat s.compiled.layouts c.run_members.result state (members s.compiled.kernels c.args.group.now))
    c.session.view_is c.run_members.ensures.flat

pub returns-clause-compiled : goal.returns-clause-compiled
returns-clause-compiled g c = ap (λ (s : SessionParts). s.compiled) c.session.view_is

pub returns-clause-stays : goal.returns-clause-stays
returns-clause-stays g c = subst (λ (s : SessionParts). StaysAtMemory c.run_members.result s.stores c.run_members.new.stores.list) c.session.view_is c.run_members.ensures.stays

pub invariant_of-session : goal.invariant_of-session
invariant_of-session g c = group_stands _ _ _ _ _ c.run_members.ensures.answer c.run_members.ensures.stays c.session.invariant
