-- The start of a kernel's body: the loop's variables, declared one after the other.
use Rattle.std.proofs.Common.{◌≡◌, ℕ, zero, suc, ◌+◌, ◌<◌, ◌++◌, Bool, true, false, take, get_or, fold, List, [], ◌∷◌, length, Some, None, refl, ap, ◌∙◌, length-append, arith}
use Rattle.std.specs.List.{list_any}
use Rattle.std.proofs.lemmas.Bool.{or_parts, or_from}
use Rattle.sg_words.specs.declared.operators.Ty.TheVariants as ty
use Rattle.sg_ast.specs.declared.token.Name.{Name}
use Rattle.sg_ast.specs.Token.{same_name}
use Rattle.sg_ast.proofs.Uses.{same_name-symm}
use Rattle.sg_names.specs.Names.{has_repeat}
use Rattle.sg_types.specs.Scopes.{NamedLocal, local_named}
use Rattle.sg_types.specs.Statements.{Reached, with_variable}
use Rattle.sg_types.specs.Programs.{first_reached}

-- a variable of the loop is declared
abbrev pub one : Reached → Name → Reached
one at name = with_variable name ty.I32 true at

abbrev pub begun : Reached → List Name → Reached
begun at names = fold one at names

pub number_begun : (at : Reached) (names : List Name) → (begun at names).number ≡ at.number
number_begun at [] = refl
number_begun at (name ∷ names) = number_begun (one at name) names

pub length_begun : (at : Reached) (names : List Name) → length (begun at names).types ≡ length at.types + length names
length_begun at [] = omega arith
length_begun at (name ∷ names) = omega (arith, length_begun (one at name) names, length-append at.types (ty.I32 ∷ []))

-- the name isn't among those of a scope
not_found : (name : Name) (scope : List NamedLocal) (last : NamedLocal) → local_named scope name ≡ None → same_name name last.name ≡ false → local_named (scope ++ last ∷ []) name ≡ None
not_found name [] last h e = rw e refl
not_found name (first ∷ scope) last h e = go (same_name name first.name) refl (not_found name scope last)
  where
    go : (b : Bool) → same_name name first.name ≡ b → (local_named scope name ≡ None → same_name name last.name ≡ false → local_named (scope ++ last ∷ []) name ≡ None) → local_named ((first ∷ scope) ++ last ∷ []) name ≡ None
    go true q rest = let some_is : Some first.local ≡ None = rw q at h in absurd cc
    go false q rest = rw q (rest (rw q at h) e)

not_begun : (name : Name) (at : Reached) (names : List Name) → local_named at.scope name ≡ None → list_any (same_name name) names ≡ false → local_named (begun at names).scope name ≡ None
not_begun name at [] h e = h
not_begun name at (other ∷ names) h e =
    let parts = or_parts (same_name name other) (list_any (same_name name) names) e in
    not_begun name (one at other) names
    (not_found name at.scope (record { name = other; local = record { var = length at.types; ty = ty.I32; is_loop = true } }) h parts.0) parts.1

-- none of a list passes a test, so what stands in it doesn't
none_passes : (test : Name → Bool) (names : List Name) (i : ℕ) (name : Name) → i < length names → name ≡ get_or names i name → list_any test names ≡ false → test name ≡ false
none_passes test [] i name h is e = absurd (omega arith)
none_passes test (first ∷ names) zero name h is e = ap test is ∙ (or_parts (test first) (list_any test names) e).0
none_passes test (first ∷ names) (suc i) name h is e = none_passes test names i name (omega arith) is (or_parts (test first) (list_any test names) e).1

-- a name isn't among those before it, if none stands twice
earlier_differ : (names : List Name) (i : ℕ) (name : Name) → i < length names → name ≡ get_or names i name → has_repeat names ≡ false → list_any (same_name name) (take i names) ≡ false
earlier_differ [] i name h is r = absurd (omega arith)
earlier_differ (first ∷ names) zero name h is r = refl
earlier_differ (first ∷ names) (suc i) name h is r =
    let parts = or_parts (list_any (same_name first) names) (has_repeat names) r in
    or_from (same_name name first) (list_any (same_name name) (take i names))
    (same_name-symm name first ∙ (none_passes (same_name first) names i name (omega arith) is parts.0))
    (earlier_differ names i name (omega arith) is parts.1)

pub fresh_begun : (names : List Name) (i : ℕ) (name : Name) → i < length names → name ≡ get_or names i name → has_repeat names ≡ false → local_named (first_reached (take i names)).scope name ≡ None
fresh_begun names i name h is r = not_begun name (record { number = 1; types = []; scope = [] }) (take i names) refl (earlier_differ names i name h is r)
