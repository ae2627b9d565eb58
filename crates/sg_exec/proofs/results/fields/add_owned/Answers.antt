use Rattle.std.proofs.Common.{◌∷◌, [], ◌++◌, List, sym, subst}
use Rattle.sg_flat.specs.declared.effects.Way.TheVariants.{Own}
use Rattle.sg_ir.specs.Apt.{Writes}
use Rattle.sg_exec.specs.declared.results.shared.Owned.{Owned}
use Rattle.sg_exec.specs.steps.Landing.{current}
use Rattle.sg_exec.specs.steps.Passes.{IsAmong, HaveFields}
use Rattle.sg_exec.proofs.FieldsFound.{have_own, have_owned}
use Rattle.sg_exec.proofs.results.fields.add_owned.Goals as goal

pub returns-then-is_owned : goal.returns-then-is_owned
returns-then-is_owned c = λ uses have.
    let mids = current c.args.reached.now c.args.stores.now.list in
    let fields = c.args.fields.now in
    have_own mids c.args.layout c.args.field uses fields.accumulated.items fields.seats.items fields.owned.items have
    (subst (λ (owned : List Owned). IsAmong c.args.layout c.args.field owned) c.as_slice.ensures.value (c.is_owned.ensures c.if-is_owned.true))

pub returns : goal.returns
returns c = λ uses have.
    let mids = current c.args.reached.now c.args.stores.now.list in
    let fields = c.args.fields.now in
    subst (λ (owned : List Owned). HaveFields mids (uses ++ Writes c.args.layout c.args.field Own ∷ []) fields.accumulated.items fields.seats.items owned) (sym c.in_ok-push.ensures.items)
    (have_owned mids uses fields.accumulated.items fields.seats.items fields.owned.items (record { layout = c.args.layout; field = c.args.field }) have)
