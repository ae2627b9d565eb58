use Rattle.std.proofs.Common.{List, ◌++◌, ap, ◌∙◌}
use Rattle.sg_activate.specs.declared.found.Found.{Found}
use Rattle.sg_activate.specs.declared.found.Finds.{Finds}
use Rattle.sg_activate.specs.steps.Finding.{coords_found}
use Rattle.sg_activate.proofs.CoordsFound.{lists_more}
use Rattle.sg_activate.proofs.few.coords_of.Goals as goal

pub loop-finds-preserved : goal.loop-finds-preserved
loop-finds-preserved c =
    lists_more c.args.axes c.loop-finds.coords c.add_coords.new.coords c.args.found.now c.loop-finds.finds-index c.finds-item.result
    c.loop-finds-test.true c.loop-finds.invariant
    (c.in_ok-add_coords.ensures ∙ ap (λ (list : List Found). c.loop-finds.coords ++ coords_found c.args.axes list) c.as_slice.ensures
    ∙ ap (λ (finds : Finds). c.loop-finds.coords ++ coords_found c.args.axes finds.list) c.finds-item.is)
