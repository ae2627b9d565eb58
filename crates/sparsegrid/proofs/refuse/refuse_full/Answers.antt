use Rattle.std.proofs.Common.{ap, subst}
use Rattle.std.specs.Prelude.{All}
use Rattle.sg_store.specs.WellFormed.{IsWellFormed}
use Rattle.sg_session.specs.Performed.{SessionParts}
use Rattle.sparsegrid.proofs.Beginning.{full_nothing}
use Rattle.sparsegrid.proofs.refuse.refuse_full.Goals as goal

pub returns-in-Ok-send_last-clause-nothing : goal.returns-in-Ok-send_last-clause-nothing
returns-in-Ok-send_last-clause-nothing g c = full_nothing c.opening_is_placed.ensures c.nothing_is_placed.ensures.held c.args.compiled c.in-Ok.session (subst (All IsWellFormed) (ap (λ (s : SessionParts). s.stores) c.session.view_is) c.well_formed-in-Ok.ensures) c.in-Ok.ensures
