use Rattle.std.proofs.Common.{◌∙◌, ap, ◌++◌, ◌∷◌, [], find, subst, sym}
use Rattle.std.specs.Map.{values_of}
use Rattle.sg_ast.specs.Token.{same_name}
use Rattle.indexmap.proofs.CallerLemmas.{insert_entry-new}
use Rattle.sg_names.proofs.Keys.{AreKeys, no_key, AreKeys-push, values-push, room-push}
use Rattle.sg_names.proofs.table.Table.push.Goals as goal
use Rattle.std.proofs.Common.{◌<◌, ◌^◌, length}

pub invariant_of-self-2 : goal.invariant_of-self-2
invariant_of-self-2 g c =
    let key_is = c.in_ok-key.ensures.items ∙ (c.as_slice.ensures ∙ ap (λ name. name.text) c.name.ensures) in
    let absent = no_key (λ key. key.items) g.T.Named.name_of (g.T.Named.name_of c.args.thing) c.self.inside.entries.entries c.in_ok-key.key c.self.invariant.1 key_is
    (ap (find (λ named. same_name (g.T.Named.name_of c.args.thing) (g.T.Named.name_of named))) c.self.view_is ∙ c.requires.new) in
    let entries = c.in_ok-insert.ensures.entries ∙ insert_entry-new _ c.self.inside.entries c.in_ok-key.key c.args.thing absent in (
      subst (λ es. length es < 2 ^ 32) (sym entries) (room-push c.self.inside.entries.entries c.in_ok-key.key c.args.thing c.args.self.now c.self.view_is c.requires.room),
      subst (AreKeys (λ key. key.items) g.T.Named.name_of) (sym entries) (AreKeys-push (λ key. key.items) g.T.Named.name_of c.self.inside.entries.entries c.in_ok-key.key c.args.thing c.self.invariant.1 key_is),
    )

pub returns : goal.returns
returns g c =
    let key_is = c.in_ok-key.ensures.items ∙ (c.as_slice.ensures ∙ ap (λ name. name.text) c.name.ensures) in
    let absent = no_key (λ key. key.items) g.T.Named.name_of (g.T.Named.name_of c.args.thing) c.self.inside.entries.entries c.in_ok-key.key c.self.invariant.1 key_is
    (ap (find (λ named. same_name (g.T.Named.name_of c.args.thing) (g.T.Named.name_of named))) c.self.view_is ∙ c.requires.new) in
    let entries = c.in_ok-insert.ensures.entries ∙ insert_entry-new _ c.self.inside.entries c.in_ok-key.key c.args.thing absent in
    ap values_of entries ∙ (values-push c.self.inside.entries.entries c.in_ok-key.key c.args.thing ∙ ap (λ all. all ++ c.args.thing ∷ []) c.self.view_is)
