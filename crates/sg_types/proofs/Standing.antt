-- Fields stand in layouts that are there.
use Rattle.std.proofs.Common.{◌≡◌, ◌<◌, Bool, true, false, nat_lt, List, [], ◌∷◌, length, find, Option, Some, None, option_map, refl, ap, sym, ◌∙◌}
use Rattle.std.specs.List.{list_all}
use Rattle.std.proofs.lemmas.Bool.{and_parts, ltb-true}
use Rattle.sg_ast.specs.declared.token.Name.{Name}
use Rattle.sg_names.specs.declared.tables.FieldAt.{FieldAt}
use Rattle.sg_names.specs.declared.tables.NamedField.{NamedField}
use Rattle.sg_ast.specs.Token.{same_name}
use Rattle.sg_names.specs.Tables.{Tables, field_named}
use Rattle.sg_types.specs.steps.Standing.{fields_stand}

module _ {X : Type 0} (test good : X → Bool) where
  found_good : (x : X) (xs : List X) (y : X) (b : Bool) → test x ≡ b → good x ≡ true → (find test xs ≡ Some y → good y ≡ true) → find test (x ∷ xs) ≡ Some y → good y ≡ true
  found_good x xs y true e g rest h = let same : Some x ≡ Some y = rw e at h in let is : x ≡ y = cc in ap good (sym is) ∙ g
  found_good x xs y false e g rest h = rest (rw e at h)

  -- what is found in a list of good things is good
  pub find_good : (xs : List X) (y : X) → list_all good xs ≡ true → find test xs ≡ Some y → good y ≡ true
  find_good [] y a h = let no_such : None ≡ Some y = h in cc
  find_good (x ∷ xs) y a h =
      let parts = and_parts (good x) (list_all good xs) a in
      found_good x xs y (test x) refl parts.0 (find_good xs y parts.1) h

pub field_stands : (tables : Tables) (name : Name) (at : FieldAt) → fields_stand tables ≡ true → field_named tables name ≡ Some at → at.layout < length tables.layouts
field_stands tables name at stands h = go (find (λ named. same_name name named.name) tables.fields) refl h
  where
    go : (found : Option NamedField) → find (λ named. same_name name named.name) tables.fields ≡ found → option_map (λ named. named.at) found ≡ Some at → at.layout < length tables.layouts
    go None e q = let no_such : None ≡ Some at = q in absurd (cc)
    go (Some named) e q =
        let is : named.at ≡ at = cc in
        ltb-true at.layout (length tables.layouts)
        (ap (λ (place : FieldAt). nat_lt place.layout (length tables.layouts)) (sym is) ∙ find_good (λ named. same_name name named.name) (λ named. nat_lt named.at.layout (length tables.layouts)) tables.fields named stands e)
