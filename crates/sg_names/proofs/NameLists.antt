-- Names that stand twice in a list, while it is gone through with a set of those that were met.
use Rattle.std.specs.Prelude.{◌≡◌, refl, ℕ, ◌+◌, ◌<◌, Bool, true, false, ◌||◌, List, [], ◌∷◌, ◌++◌, length, map, drop, slice_index_or, if◌then◌else◌, bytes_eq}
use Rattle.std.proofs.Common.{sym, ap, ◌∙◌}
use Rattle.std.specs.List.{list_any}
use Rattle.std.proofs.lemmas.List.{drop_more}
use Rattle.std.proofs.lemmas.List.Folds.{list_any-append}
use Rattle.sg_ast.specs.declared.token.Name.{Name}
use Rattle.sg_ast.specs.Token.{same_name}
use Rattle.sg_ast.proofs.Uses.{same_name-symm}
use Rattle.sg_names.specs.Names.{has_repeat}

pub or-none : (a : Bool) → (a || false) ≡ a
or-none true = refl
or-none false = refl

-- what is left of a list of things, by their names
pub left_more : {X : Type 0} (name_of : X → Name) (xs : List X) (i : ℕ) (x : X) → i < length xs → x ≡ slice_index_or xs i x
    → map name_of (drop i xs) ≡ name_of x ∷ map name_of (drop (i + 1) xs)
left_more name_of xs i x h at = ap (map name_of) (drop_more xs i x h) ∙ ap (λ y. name_of y ∷ map name_of (drop (i + 1) xs)) (sym at)

module _ {K : Type 0} (bytes : K → List ℕ) where
  -- a name was met
  abbrev pub is_seen : List K → Name → Bool
  is_seen keys name = list_any (λ key. bytes_eq name.text (bytes key)) keys

  -- one of these names was met, or stands twice among them
  abbrev pub repeats_left : List K → List Name → Bool
  repeats_left keys names = list_any (is_seen keys) names || has_repeat names

  none_seen : (names : List Name) → list_any (is_seen []) names ≡ false
  none_seen [] = refl
  none_seen (name ∷ names) = none_seen names

  pub repeats_left-start : (names : List Name) → repeats_left [] names ≡ has_repeat names
  repeats_left-start names = ap (λ b. b || has_repeat names) (none_seen names)

  seen_more : (keys : List K) (key : K) (n x : Name) → bytes key ≡ n.text → is_seen (keys ++ key ∷ []) x ≡ (is_seen keys x || same_name n x)
  seen_more keys key n x is =
      list_any-append (λ k. bytes_eq x.text (bytes k)) keys (key ∷ [])
      ∙ (ap (λ b. is_seen keys x || b) (or-none (bytes_eq x.text (bytes key)) ∙ (ap (λ text. bytes_eq x.text text) is ∙ same_name-symm x n)))

  shuffle : (a b p q : Bool) → ((a || b) || (p || q)) ≡ ((a || p) || (b || q))
  shuffle true b p q = refl
  shuffle false true true q = refl
  shuffle false true false q = refl
  shuffle false false p q = refl

  any_seen_more : (keys : List K) (key : K) (n : Name) (xs : List Name) → bytes key ≡ n.text
      → list_any (is_seen (keys ++ key ∷ [])) xs ≡ (list_any (is_seen keys) xs || list_any (same_name n) xs)
  any_seen_more keys key n [] is = refl
  any_seen_more keys key n (x ∷ xs) is =
      ap (λ b. b || list_any (is_seen (keys ++ key ∷ [])) xs) (seen_more keys key n x is)
      ∙ (ap (λ b. (is_seen keys x || same_name n x) || b) (any_seen_more keys key n xs is)
      ∙ shuffle (is_seen keys x) (same_name n x) (list_any (is_seen keys) xs) (list_any (same_name n) xs))

  groups : (a b c : Bool) → ((a || b) || c) ≡ (a || (b || c))
  groups true b c = refl
  groups false b c = refl

  -- a name that was met
  pub repeats_left-found : (keys : List K) (n : Name) (ns : List Name) → is_seen keys n ≡ true → repeats_left keys (n ∷ ns) ≡ true
  repeats_left-found keys n ns met = ap (λ b. (b || list_any (is_seen keys) ns) || (list_any (same_name n) ns || has_repeat ns)) met

  -- a name that was not met
  pub repeats_left-more : (keys after : List K) (key : K) (n : Name) (ns : List Name) → is_seen keys n ≡ false → bytes key ≡ n.text
      → after ≡ (if is_seen keys n then keys else keys ++ key ∷ []) → repeats_left after ns ≡ repeats_left keys (n ∷ ns)
  repeats_left-more keys after key n ns unmet is after_is =
      ap (λ ks. repeats_left ks ns) (after_is ∙ ap (λ b. if b then keys else keys ++ key ∷ []) unmet)
      ∙ (ap (λ b. b || has_repeat ns) (any_seen_more keys key n ns is)
      ∙ (groups (list_any (is_seen keys) ns) (list_any (same_name n) ns) (has_repeat ns)
      ∙ ap (λ b. (b || list_any (is_seen keys) ns) || (list_any (same_name n) ns || has_repeat ns)) (sym unmet)))
