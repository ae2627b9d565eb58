-- Look-ups among the names in scope.
use Rattle.std.proofs.Common.{◌≡◌, ℕ, ◌++◌, List, [], ◌∷◌, map, take, Bool, true, false, cond, find, bytes_eq, Option, Some, option_map, refl, ap, sym, ◌∙◌, Bor}
use Rattle.std.specs.Map.{lookup}
use Rattle.std.proofs.lemmas.List.{take-map}
use Rattle.sg_ast.specs.declared.token.Name.{Name}
use Rattle.sg_ast.specs.Token.{same_name}
use Rattle.sg_types.specs.declared.scope.Local.{Local}
use Rattle.sg_types.specs.Scopes.{NamedLocal, local_named}

abbrev pub shown_one : Bor (List ℕ) × Local → NamedLocal
shown_one entry = record { name = record { text = entry.0.now }; local = entry.1 }

-- the names of a map's entries
abbrev pub shown : List (Bor (List ℕ) × Local) → List NamedLocal
shown entries = map shown_one entries

option_map-cond : {A B : Type 0} (f : A → B) (b : Bool) (x y : Option A) → option_map f (cond b x y) ≡ cond b (option_map f x) (option_map f y)
option_map-cond f true x y = refl
option_map-cond f false x y = refl

pub lookup-shown : (name : Name) (entries : List (Bor (List ℕ) × Local)) → lookup (λ key. bytes_eq name.text key.now) entries ≡ local_named (shown entries) name
lookup-shown name [] = refl
lookup-shown name (entry ∷ entries) =
    ap (cond (bytes_eq name.text entry.0.now) (Some entry.1)) (lookup-shown name entries)
    ∙ sym (option_map-cond (λ (named : NamedLocal). named.local) (bytes_eq name.text entry.0.now) (Some (shown_one entry)) (find (λ named. same_name name named.name) (shown entries)))

pub shown-take : (n : ℕ) (entries : List (Bor (List ℕ) × Local)) → shown (take n entries) ≡ take n (shown entries)
shown-take n entries = sym (take-map shown_one n entries)

pub shown-push : (entries : List (Bor (List ℕ) × Local)) (key : Bor (List ℕ)) (local : Local) → shown (entries ++ (key, local) ∷ []) ≡ shown entries ++ shown_one (key, local) ∷ []
shown-push [] key local = refl
shown-push (first ∷ entries) key local = ap (λ rest. shown_one first ∷ rest) (shown-push entries key local)
