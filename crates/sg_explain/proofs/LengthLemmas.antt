-- That the first item of a list has as many tokens as come up to the first end of an item.
use Rattle.std.specs.Prelude.{◌≡◌, refl, ℕ, ◌<◌, Bool, true, false, List, [], ◌∷◌, length, take, drop}
use Rattle.std.proofs.Common.{ap, arith}
use Rattle.std.proofs.lemmas.Bool.{eqb-true, leb-true}
use Rattle.sg_ast.specs.declared.token.Sign.TheVariants as s
use Rattle.sg_ast.specs.declared.token.Token.{Token}
use Rattle.sg_ast.specs.declared.token.Token.TheVariants as t
use Rattle.sg_ast.specs.declared.token.Spanned.{Spanned}
use Rattle.sg_ast.specs.Items.{ends_item, open_after, in_front, cut_by, items_of}
use Rattle.sg_explain.specs.steps.ItemLengths.{item_length}

-- no brace is open behind the end of an item
ended_closed : (braces : ℕ) (token : Token) → ends_item braces token ≡ true → open_after braces token ≡ 0
ended_closed braces (t.Sign s.Semicolon) h = eqb-true braces 0 h
ended_closed braces (t.Sign s.CloseBrace) h = omega (arith, leb-true braces 1 h)
ended_closed braces token h = absurd (cc)

-- the first item, and then the others
abbrev IsCut : {A : Type 0} → (A → Token) → ℕ → List A → ℕ → Type 0
IsCut token braces xs n = cut_by token braces xs ≡ take n xs ∷ cut_by token 0 (drop n xs)

cut_at : {A : Type 0} (token : A → Token) (braces : ℕ) (x : A) (xs : List A) (ends : Bool) → ends_item braces (token x) ≡ ends → IsCut token braces (x ∷ xs) (item_length token braces (x ∷ xs))
cut_at token braces x xs true e = rw (e, ended_closed braces (token x) e) refl
cut_at token braces x [] false e = rw e refl
cut_at token braces x (y ∷ ys) false e =
    rw e (ap (in_front false x) (cut_at token (open_after braces (token x)) y ys (ends_item (open_after braces (token x)) (token y)) refl))

first_cut : (x : Spanned) (xs : List Spanned)
    → items_of (x ∷ xs) ≡ take (item_length (λ spanned. spanned.token) 0 (x ∷ xs)) (x ∷ xs) ∷ items_of (drop (item_length (λ spanned. spanned.token) 0 (x ∷ xs)) (x ∷ xs))
first_cut x xs = cut_at (λ spanned. spanned.token) 0 x xs (ends_item 0 x.token) refl

pub cut_some : (tokens : List Spanned) (n : ℕ) → 0 < length tokens → n ≡ item_length (λ spanned. spanned.token) 0 tokens → items_of tokens ≡ take n tokens ∷ items_of (drop n tokens)
cut_some [] n some is = absurd (omega arith)
cut_some (x ∷ xs) n some is = rw is (first_cut x xs)
