-- Tables as lists of entries, and lists that grow at their end.
use Rattle.std.specs.Prelude.{◌≡◌, refl, ℕ, zero, suc, ◌<◌, ◌==◌, Bool, true, false, if◌then◌else◌, cond, List, [], ◌∷◌, ◌++◌, length, get_or, nat_eq, unwrap_or, Some, None}
use Rattle.std.specs.Map.{lookup}
use Rattle.std.proofs.Common.{arith, sym, ap, subst, ◌∙◌}
use Rattle.std.proofs.lemmas.Bool.{eqb-true}
use Rattle.indexmap.specs.IndexMap.{insert_entry}
use Rattle.sg_simplify.specs.steps.Serves.{EachByRecursion}

pub each_push : {A : Type 0} (P : A → Type 0) (xs : List A) (x : A) → EachByRecursion P xs → P x → EachByRecursion P (xs ++ x ∷ [])
each_push P [] x all one = (one, tt)
each_push P (y ∷ xs) x all one = (all.0, each_push P xs x all.1 one)

pub each_map : {A : Type 0} (P Q : A → Type 0) → ((x : A) → P x → Q x) → (xs : List A) → EachByRecursion P xs → EachByRecursion Q xs
each_map P Q f [] all = tt
each_map P Q f (x ∷ xs) all = (f x all.0, each_map P Q f xs all.1)

-- an entry that was found
pub record IsFound {A : Type 0} (same : A → A → Bool) (key : A) (P : A × ℕ → Type 0) (t : ℕ) : Type 0 where
  pub other : A
  pub alike : same key other ≡ true
  pub holds : P (other, t)

some_is : (t u : ℕ) → Some t ≡ Some u → t ≡ u
some_is t u e = ap (λ o. unwrap_or o 0) e

none_is : {A : Type 0} (t : ℕ) → None ≡ Some t → A
none_is t e = absurd (cc)

pub each_found : {A : Type 0} (same : A → A → Bool) (key : A) (P : A × ℕ → Type 0) (entries : List (A × ℕ)) (t : ℕ) → EachByRecursion P entries → lookup (same key) entries ≡ Some t → IsFound same key P t
each_found {A} same key P [] t all e = none_is t e
each_found {A} same key P (entry ∷ entries) t all e = by_test (same key entry.0) refl (each_found same key P entries t all.1) e
  where
    by_test : (test : Bool) → same key entry.0 ≡ test → (lookup (same key) entries ≡ Some t → IsFound same key P t) → cond test (Some entry.1) (lookup (same key) entries) ≡ Some t → IsFound same key P t
    by_test true is more found = record { other = entry.0; alike = is; holds = subst (λ u. P (entry.0, u)) (some_is entry.1 t found) all.0 }
    by_test false is more found = more found

-- the last item of a longer list, and the others
pub length_push : {A : Type 0} (xs : List A) (x : A) → length (xs ++ x ∷ []) ≡ suc (length xs)
length_push [] x = refl
length_push (y ∷ xs) x = ap suc (length_push xs x)

pub get_last : {A : Type 0} (xs : List A) (x other : A) → get_or (xs ++ x ∷ []) (length xs) other ≡ x
get_last [] x other = refl
get_last (y ∷ xs) x other = get_last xs x other

pub get_kept : {A : Type 0} (xs : List A) (x other : A) (r : ℕ) → r < length xs → get_or (xs ++ x ∷ []) r other ≡ get_or xs r other
get_kept [] x other r below = absurd (omega (arith, below))
get_kept (y ∷ xs) x other zero below = refl
get_kept (y ∷ xs) x other (suc r) below = get_kept xs x other r (omega (arith, below))

-- a name that is given, and the others
pub names_put : (names : List (ℕ × ℕ)) (from to r : ℕ) → lookup (nat_eq r) (insert_entry nat_eq names from to) ≡ (if r == from then Some to else lookup (nat_eq r) names)
names_put [] from to r = refl
names_put (entry ∷ names) from to r = by_test (nat_eq from entry.0) refl (names_put names from to r)
  where
    by_test : (test : Bool) → nat_eq from entry.0 ≡ test → lookup (nat_eq r) (insert_entry nat_eq names from to) ≡ (if r == from then Some to else lookup (nat_eq r) names)
        → lookup (nat_eq r) (if test then (entry.0, to) ∷ names else entry ∷ insert_entry nat_eq names from to) ≡ (if r == from then Some to else cond (nat_eq r entry.0) (Some entry.1) (lookup (nat_eq r) names))
    by_test true is more = same_key (nat_eq r entry.0) (r == from) (ap (nat_eq r) (sym (eqb-true from entry.0 is)))
      where
        same_key : (a b : Bool) → a ≡ b → cond a (Some to) (lookup (nat_eq r) names) ≡ (if b then Some to else cond a (Some entry.1) (lookup (nat_eq r) names))
        same_key true true e = refl
        same_key true false e = absurd (cc)
        same_key false true e = absurd (cc)
        same_key false false e = refl
    by_test false is more = ap (cond (nat_eq r entry.0) (Some entry.1)) more ∙ other_key (nat_eq r entry.0) (r == from) refl refl
      where
        other_key : (a b : Bool) → nat_eq r entry.0 ≡ a → (r == from) ≡ b → cond a (Some entry.1) (if b then Some to else lookup (nat_eq r) names) ≡ (if b then Some to else cond a (Some entry.1) (lookup (nat_eq r) names))
        other_key true true e f = absurd (clash (sym (ap (λ k. nat_eq k entry.0) (eqb-true r from f)) ∙ e))
          where
            clash : nat_eq from entry.0 ≡ true → ⊥
            clash h = absurd (cc)
        other_key true false e f = refl
        other_key false true e f = refl
        other_key false false e f = refl
