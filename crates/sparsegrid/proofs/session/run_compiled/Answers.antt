use Rattle.std.proofs.Common.{false, [], Option, refl, ap, string_bytes}
use Rattle.std.specs.Prelude.{option_map}
use Rattle.sparsegrid.specs.declared.showing.Showing.TheVariants.{Texts}
use Rattle.sparsegrid.specs.Telling.{telling_of}
use Rattle.sg_session.specs.Texts.{check_text}
use Rattle.sparsegrid.proofs.Sources.{went_opened, check_named}
use Rattle.sparsegrid.proofs.Kept.{kept_of}
use Rattle.sparsegrid.proofs.Opened.{unbound_kept}
use Rattle.sparsegrid.proofs.session.run_compiled.Goals as goal

pub returns-in-Check-clause-went : goal.returns-in-Check-clause-went
returns-in-Check-clause-went g c = λ program compiles.
    rw c.in-Check.is (kept_of false _ 1 _ _ c.check.result refl (went_opened program c.args.compiled (check_text c.args.compiled.names c.args.compiled.neutral) (check_text program.names program.neutral) 1 _ _ c.check.result compiles
    (check_named program c.args.compiled compiles) c.check.ensures.sends c.check.ensures.program c.check.ensures.opened c.check.ensures.status refl refl refl))

pub returns-in-Lower-clause-went : goal.returns-in-Lower-clause-went
returns-in-Lower-clause-went g c = λ program compiles.
    rw c.in-Lower.is (kept_of false _ 1 _ _ c.leave_open.result refl (went_opened program c.args.compiled [] [] 1 _ _ c.leave_open.result compiles
    refl c.leave_open.ensures.sends c.leave_open.ensures.program c.leave_open.ensures.opened c.leave_open.ensures.status refl refl refl))

pub returns-in-Gen-clause-went : goal.returns-in-Gen-clause-went
returns-in-Gen-clause-went g c = λ program compiles. rw c.in-Gen.is (unbound_kept false program (telling_of program.names program.layouts Texts) _ _ _ _ c.perform-in-Gen.result (ap (λ (f : Option _). option_map string_bytes f) c.without_files-bare.ensures.from) c.without_files-bare.ensures.binds (c.perform-in-Gen.ensures.went program compiles))

pub returns-in-Audit-clause-went : goal.returns-in-Audit-clause-went
returns-in-Audit-clause-went g c = λ program compiles. rw c.in-Audit.is (kept_of false _ 1 _ _ c.audit_bound.result refl (c.audit_bound.ensures.went program compiles))

pub returns-in-Journal-clause-went : goal.returns-in-Journal-clause-went
returns-in-Journal-clause-went g c = λ program compiles. rw c.in-Journal.is (c.perform-in-Journal.ensures.went program compiles)
