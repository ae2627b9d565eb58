-- Things that are kept by the bytes of their names are found by their names.
use Rattle.std.specs.Prelude.{◌≡◌, refl, ℕ, ◌+◌, suc, not, ◌<◌, ◌^◌, List, [], ◌∷◌, ◌++◌, length, cond, nat_lt, bytes_eq, Some, None, find, position}
use Rattle.std.proofs.Common.{ap, ◌∙◌, arith}
use Rattle.std.specs.List.{AllByRecursion, position_or_len}
use Rattle.std.proofs.lemmas.List.{length_push}
use Rattle.std.specs.Map.{keys_of, values_of, lookup}
use Rattle.sg_ast.specs.declared.token.Name.{Name}
use Rattle.sg_ast.specs.Token.{same_name}

module _ {K X : Type 0} (bytes : K → List ℕ) (name_of : X → Name) where
  -- each key is the bytes of its thing's name
  abbrev pub AreKeys : List (K × X) → Type 0
  AreKeys entries = AllByRecursion (λ entry. bytes entry.0 ≡ (name_of entry.1).text) entries

  pub lookup-names : (name : Name) (entries : List (K × X)) → AreKeys entries
      → lookup (λ key. bytes_eq name.text (bytes key)) entries ≡ find (λ x. same_name name (name_of x)) (values_of entries)
  lookup-names name [] h = refl
  lookup-names name (e ∷ es) h =
      ap (λ text. cond (bytes_eq name.text text) (Some e.1) (lookup (λ key. bytes_eq name.text (bytes key)) es)) h.0
      ∙ ap (λ more. cond (same_name name (name_of e.1)) (Some e.1) more) (lookup-names name es h.1)

  position_or_len-names : (name : Name) (entries : List (K × X)) → AreKeys entries
      → position_or_len (λ key. bytes_eq name.text (bytes key)) (keys_of entries) ≡ position_or_len (λ x. same_name name (name_of x)) (values_of entries)
  position_or_len-names name [] h = refl
  position_or_len-names name (e ∷ es) h =
      ap (λ text. cond (not (bytes_eq name.text text)) (1 + position_or_len (λ key. bytes_eq name.text (bytes key)) (keys_of es)) 0) h.0
      ∙ ap (λ n. cond (not (same_name name (name_of e.1))) (1 + n) 0) (position_or_len-names name es h.1)

  as_many : (entries : List (K × X)) → length (keys_of entries) ≡ length (values_of entries)
  as_many [] = refl
  as_many (e ∷ es) = ap suc (as_many es)

  pub position-names : (name : Name) (entries : List (K × X)) → AreKeys entries
      → position (λ key. bytes_eq name.text (bytes key)) (keys_of entries) ≡ position (λ x. same_name name (name_of x)) (values_of entries)
  position-names name entries h =
      ap (λ n. cond (nat_lt n (length (keys_of entries))) (Some n) None) (position_or_len-names name entries h)
      ∙ ap (λ l. cond (nat_lt (position_or_len (λ x. same_name name (name_of x)) (values_of entries)) l)
      (Some (position_or_len (λ x. same_name name (name_of x)) (values_of entries))) None) (as_many entries)

  -- a thing of a new name
  pub no_key : (name : Name) (entries : List (K × X)) (key : K) → AreKeys entries → bytes key ≡ name.text
      → find (λ x. same_name name (name_of x)) (values_of entries) ≡ None → lookup (λ other. bytes_eq (bytes key) (bytes other)) entries ≡ None
  no_key name entries key h is none = ap (λ text. lookup (λ other. bytes_eq text (bytes other)) entries) is ∙ (lookup-names name entries h ∙ none)

  pub AreKeys-push : (entries : List (K × X)) (key : K) (x : X) → AreKeys entries → bytes key ≡ (name_of x).text → AreKeys (entries ++ (key, x) ∷ [])
  AreKeys-push [] key x h is = (is, tt)
  AreKeys-push (e ∷ es) key x h is = (h.0, AreKeys-push es key x h.1 is)

pub values-push : {K X : Type 0} (entries : List (K × X)) (key : K) (x : X) → values_of (entries ++ (key, x) ∷ []) ≡ values_of entries ++ x ∷ []
values-push [] key x = refl
values-push (e ∷ es) key x = ap (λ more. e.1 ∷ more) (values-push es key x)

length-values : {K X : Type 0} (entries : List (K × X)) → length (values_of entries) ≡ length entries
length-values [] = refl
length-values (e ∷ es) = ap suc (length-values es)

pub room-push : {K X : Type 0} (entries : List (K × X)) (key : K) (x : X) (all : List X) → values_of entries ≡ all → length all + 1 < 2 ^ 32 → length (entries ++ (key, x) ∷ []) < 2 ^ 32
room-push entries key x all is h = omega (arith, length_push entries (key, x), length-values entries, ap length is)
