-- Where items end in token lists.
use Rattle.std.specs.Prelude.{◌≡◌, refl, ℕ, ◌≤◌, Bool, true, false, not, List, [], ◌∷◌, ◌++◌, map, Option, Some, None}
use Rattle.std.proofs.Common.{◌∙◌, ap, arith}
use Rattle.std.proofs.lemmas.Bool.{eqb-true, leb-true}
use Rattle.std.proofs.lemmas.Option.{same_Some}
use Rattle.sg_ast.specs.declared.token.Sign.TheVariants as s
use Rattle.sg_ast.specs.declared.token.Token.{Token}
use Rattle.sg_ast.specs.declared.token.Token.TheVariants as t
use Rattle.sg_ast.specs.Stmt.{joined_lists}
use Rattle.sg_ast.specs.Items.{ends_item, open_after, in_front, cut_by, are_left_from}

-- how many braces are open after a list in which no item ends, where so many are open before it
abbrev pub unless_ended : Bool → Option ℕ → Option ℕ
unless_ended true after = None
unless_ended false after = after

abbrev pub braces_after : ℕ → List Token → Option ℕ
braces_after n [] = Some n
braces_after n (x ∷ xs) = unless_ended (ends_item n x) (braces_after (open_after n x) xs)

not_ended : (ends : Bool) (o : Option ℕ) (m : ℕ) → unless_ended ends o ≡ Some m → (ends ≡ false) × (o ≡ Some m)
not_ended true o m h = absurd (cc)
not_ended false o m h = (refl, h)

pub braces_after-append : (n m : ℕ) (xs ys : List Token) → braces_after n xs ≡ Some m → braces_after n (xs ++ ys) ≡ braces_after m ys
braces_after-append n m [] ys h = ap (λ k. braces_after k ys) (same_Some n m h)
braces_after-append n m (x ∷ xs) ys h =
    let p = not_ended (ends_item n x) (braces_after (open_after n x) xs) m h in
    ap (λ ends. unless_ended ends (braces_after (open_after n x) (xs ++ ys))) p.0 ∙ braces_after-append (open_after n x) m xs ys p.1

-- no brace is open after the end of an item
open_after-end : (n : ℕ) (x : Token) → ends_item n x ≡ true → open_after n x ≡ 0
open_after-end n (t.Sign s.Semicolon) h = eqb-true n 0 h
open_after-end n (t.Sign s.CloseBrace) h = let below : n ≤ 1 = leb-true n 1 h in omega arith
open_after-end n _ h = absurd (cc)

-- a list whose last element, and no other, ends an item
abbrev pub is_only_end : Bool → List Token → Bool → Bool
is_only_end true [] rest = true
is_only_end true (x ∷ xs) rest = false
is_only_end false xs rest = rest

abbrev pub is_whole : ℕ → List Token → Bool
is_whole n [] = false
is_whole n (x ∷ xs) = is_only_end (ends_item n x) xs (is_whole (open_after n x) xs)

-- what ends no item may be left away in front
pub is_whole-append : (n m : ℕ) (xs ys : List Token) → braces_after n xs ≡ Some m → is_whole n (xs ++ ys) ≡ is_whole m ys
is_whole-append n m [] ys h = ap (λ k. is_whole k ys) (same_Some n m h)
is_whole-append n m (x ∷ xs) ys h =
    let p = not_ended (ends_item n x) (braces_after (open_after n x) xs) m h in
    ap (λ ends. is_only_end ends (xs ++ ys) (is_whole (open_after n x) (xs ++ ys))) p.0 ∙ is_whole-append (open_after n x) m xs ys p.1

-- a whole item in front is the first item
pub cut_by-whole : {A : Type 0} (token : A → Token) (n : ℕ) (xs rest : List A) → is_whole n (map token xs) ≡ true → cut_by token n (xs ++ rest) ≡ xs ∷ cut_by token 0 rest
cut_by-whole token n [] rest h = absurd (cc)
cut_by-whole {A} token n (x ∷ xs) rest h = go (ends_item n (token x)) refl xs h (cut_by-whole token (open_after n (token x)) xs rest) where
  go : (ends : Bool) → ends_item n (token x) ≡ ends → (xs : List A) → is_only_end ends (map token xs) (is_whole (open_after n (token x)) (map token xs)) ≡ true
      → (is_whole (open_after n (token x)) (map token xs) ≡ true → cut_by token (open_after n (token x)) (xs ++ rest) ≡ xs ∷ cut_by token 0 rest)
      → cut_by token n ((x ∷ xs) ++ rest) ≡ (x ∷ xs) ∷ cut_by token 0 rest
  go true is [] h more = rw (is, open_after-end n (token x) is) refl
  go true is (y ∷ ys) h more = absurd (cc)
  go false is ys h more = rw (is, more h) refl

-- after a whole item, what is left is what is left of the rest
pub are_left_from-whole : (left : Bool) (n : ℕ) (xs rest : List Token) → is_whole n xs ≡ true → are_left_from left n (xs ++ rest) ≡ are_left_from false 0 rest
are_left_from-whole left n [] rest h = absurd (cc)
are_left_from-whole left n (x ∷ xs) rest h = go (ends_item n x) refl xs h (are_left_from-whole (not (ends_item n x)) (open_after n x) xs rest) where
  go : (ends : Bool) → ends_item n x ≡ ends → (xs : List Token) → is_only_end ends xs (is_whole (open_after n x) xs) ≡ true
      → (is_whole (open_after n x) xs ≡ true → are_left_from (not (ends_item n x)) (open_after n x) (xs ++ rest) ≡ are_left_from false 0 rest)
      → are_left_from (not (ends_item n x)) (open_after n x) (xs ++ rest) ≡ are_left_from false 0 rest
  go true is [] h more = rw (is, open_after-end n x is) refl
  go true is (y ∷ ys) h more = absurd (cc)
  go false is ys h more = more h

joined-in_front : (ends : Bool) (x : Token) (items : List (List Token)) → joined_lists (in_front ends x items) ≡ x ∷ joined_lists items
joined-in_front true x items = refl
joined-in_front false x [] = refl
joined-in_front false x (item ∷ items) = refl

-- a cut list, put together again
pub joined-cut_by : (n : ℕ) (xs : List Token) → joined_lists (cut_by (λ x. x) n xs) ≡ xs
joined-cut_by n [] = refl
joined-cut_by n (x ∷ xs) = joined-in_front (ends_item n x) x (cut_by (λ x. x) (open_after n x) xs) ∙ ap (λ ys. x ∷ ys) (joined-cut_by (open_after n x) xs)
