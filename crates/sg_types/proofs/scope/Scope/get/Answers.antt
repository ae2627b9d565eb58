use Rattle.std.proofs.Common.{◌∙◌, ap, bytes_eq}
use Rattle.std.specs.Map.{lookup}
use Rattle.sg_types.specs.Scopes.{local_named}
use Rattle.sg_types.proofs.Locals.{lookup-shown}
use Rattle.sg_types.proofs.scope.Scope.get.Goals as goal

pub returns : goal.returns
returns c =
    c.copied.ensures
    ∙ (c.get.ensures.value
    ∙ (ap (λ bytes. lookup (λ key. bytes_eq bytes key.now) c.self.inside.locals.entries) c.as_slice.ensures
    ∙ (lookup-shown c.args.name.now c.self.inside.locals.entries ∙ ap (λ scope. local_named scope c.args.name.now) c.self.view_is)))
