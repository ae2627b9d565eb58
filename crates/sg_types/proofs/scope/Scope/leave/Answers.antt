use Rattle.std.proofs.Common.{◌∙◌, ap, take}
use Rattle.sg_types.proofs.Locals.{shown, shown-take}
use Rattle.sg_types.proofs.scope.Scope.leave.Goals as goal

pub returns : goal.returns
returns c = ap shown c.truncate.ensures.entries ∙ (shown-take c.args.len c.self.inside.locals.entries ∙ ap (take c.args.len) c.self.view_is)
