use Rattle.std.proofs.Common.{sym, ap, ◌∙◌}
use Rattle.sg_flat.specs.Domain.{active_in, domain_points}
use Rattle.sg_exec.proofs.StoreLists.{flat_at, no_flat_at, if_ok_more}
use Rattle.sg_exec.proofs.workers.points.domain_points.Goals as goal

pub returns-in-Some-clause-points : goal.returns-in-Some-clause-points
returns-in-Some-clause-points g c = if_ok_more _ _ c.active_points.result (λ points active. λ state all.
    let found = flat_at c.args.stores.now.list state.layouts c.in-Walk.layout c.in-Some.store.now all (sym c.in-Some.ensures.value) in
    active found.0 found.2 ∙ ap active_in (sym found.1) ∙ ap (domain_points state) (sym c.in-Walk.is)) c.active_points.ensures

pub returns-in-None-clause-points : goal.returns-in-None-clause-points
returns-in-None-clause-points g c = λ state all.
    c.listed.ensures ∙ c.new.ensures ∙ ap active_in (sym (no_flat_at c.args.stores.now.list state.layouts c.in-Walk.layout all (sym c.in-None.ensures.value))) ∙ ap (domain_points state) (sym c.in-Walk.is)
