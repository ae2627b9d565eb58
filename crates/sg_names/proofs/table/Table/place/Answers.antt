use Rattle.std.proofs.Common.{◌∙◌, ap, position, bytes_eq}
use Rattle.std.specs.Map.{keys_of}
use Rattle.sg_ast.specs.Token.{same_name}
use Rattle.sg_names.proofs.Keys.{position-names}
use Rattle.sg_names.proofs.table.Table.place.Goals as goal

pub returns-clause-value : goal.returns-clause-value
returns-clause-value g c =
    c.get_index_of.ensures.index
    ∙ (ap (λ bytes. position (λ key. bytes_eq bytes key.items) (keys_of c.self.inside.entries.entries)) c.as_slice.ensures
    ∙ (position-names (λ key. key.items) g.T.Named.name_of c.args.name.now c.self.inside.entries.entries c.self.invariant.1
    ∙ ap (position (λ named. same_name c.args.name.now (g.T.Named.name_of named))) c.self.view_is))
