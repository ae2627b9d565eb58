use Rattle.std.proofs.Common.{◌∙◌, ap, find, bytes_eq, ◌∙◌}
use Rattle.std.specs.Map.{lookup}
use Rattle.sg_ast.specs.Token.{same_name}
use Rattle.sg_names.proofs.Keys.{lookup-names}
use Rattle.sg_names.proofs.table.Table.get.Goals as goal

pub returns : goal.returns
returns g c =
    c.get.ensures.value
    ∙ (ap (λ bytes. lookup (λ key. bytes_eq bytes key.items) c.self.inside.entries.entries) c.as_slice.ensures
    ∙ (lookup-names (λ key. key.items) g.T.Named.name_of c.args.name.now c.self.inside.entries.entries c.self.invariant.1
    ∙ ap (find (λ named. same_name c.args.name.now (g.T.Named.name_of named))) c.self.view_is))
