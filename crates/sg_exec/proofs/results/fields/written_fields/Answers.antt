use Rattle.std.proofs.Common.{[]}
use Rattle.sg_exec.specs.steps.Landing.{current}
use Rattle.sg_exec.proofs.FieldsFound.{have_empty}
use Rattle.sg_exec.proofs.results.fields.written_fields.Goals as goal

pub returns : goal.returns
returns g c =
    c.in_ok-add_all.ensures [] (have_empty (current c.args.reached.now c.args.stores.now.list) _ _ _ c.new-accumulated.ensures.items c.new-seats.ensures.items c.new-owned.ensures.items)
