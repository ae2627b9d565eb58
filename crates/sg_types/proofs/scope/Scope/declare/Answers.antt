use Rattle.std.proofs.Common.{◌≡◌, ◌∙◌, ap, List, ℕ, ◌++◌, ◌∷◌, [], None, bytes_eq}
use Rattle.std.specs.Map.{lookup}
use Rattle.indexmap.proofs.CallerLemmas.{insert_entry-new}
use Rattle.sg_types.specs.Scopes.{NamedLocal, local_named}
use Rattle.sg_types.proofs.Locals.{shown, shown-push, lookup-shown}
use Rattle.sg_types.proofs.scope.Scope.declare.Goals as goal

pub returns : goal.returns
returns c =
    let name = c.args.name.now in
    let entries = c.self.inside.locals.entries in
    let absent : lookup (λ key. bytes_eq c.as_slice.result.now key.now) entries ≡ None =
    ap (λ bytes. lookup (λ key. bytes_eq bytes key.now) entries) c.as_slice.ensures
    ∙ (lookup-shown name entries ∙ (ap (λ scope. local_named scope name) c.self.view_is ∙ c.requires)) in
    ap shown c.in_ok-insert.ensures.entries
    ∙ (ap shown (insert_entry-new (λ x y. bytes_eq x.now y.now) c.self.inside.locals c.as_slice.result c.args.local absent)
    ∙ (shown-push entries c.as_slice.result c.args.local
    ∙ (ap (λ (scope : List NamedLocal). scope ++ record { name = record { text = c.as_slice.result.now }; local = c.args.local } ∷ []) c.self.view_is
    ∙ ap (λ (text : List ℕ). c.args.self.now ++ record { name = record { text = text }; local = c.args.local } ∷ []) c.as_slice.ensures)))
