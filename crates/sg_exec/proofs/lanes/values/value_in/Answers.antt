use Rattle.std.proofs.Common.{sym, ◌∙◌}
use Rattle.sg_exec.proofs.StoreLists.{idle_zero, some_is_none}
use Rattle.sg_exec.proofs.lanes.values.value_in.Goals as goal

pub returns-in-Some : goal.returns-in-Some
returns-in-Some c = λ flat stands at has. c.value.ensures.stands flat stands at (has ∙ c.in-Some.is)

pub returns-in-None : goal.returns-in-None
returns-in-None c = λ flat stands at has.
    sym (idle_zero c.args.store.now.shape flat c.args.place at c.numbering.ensures.inside_test c.numbering.ensures.point_of_row stands.is_flat
    (λ active. some_is_none _ (has ∙ c.in-None.is) ((c.cells_are_active.ensures.active c.args.store.now c.layout.ensures.well_formed flat stands at).1 active)))
