-- What holds of each reserved word and each sign, by a test over the whole table.
use Rattle.std.proofs.Common.{◌≡◌, ◌⊎◌, ℕ, ◌≤◌, ◌==◌, Bool, true, false, not, ◌&&◌, cond, nat_eq, nat_le, List, [], ◌∷◌, ◌++◌, length, slice_index, Some, None, codes, find, bytes_eq, refl, sym, ap, ◌∙◌, subst, inl, inr, arith}
use Rattle.std.specs.List.{starts_with, list_all, list_any}
use Rattle.std.specs.Option.{is_some}
use Rattle.std.proofs.lemmas.Bool.{cases_Bool, and_parts, or_left, or_right, leb-true, both_ways, false_from_ne_true}
use Rattle.std.proofs.lemmas.Slice.Eq.{bytes_eq-Decides}
use Rattle.sg_ast.specs.declared.token.Word.{Word}
use Rattle.sg_ast.specs.declared.token.Word.TheVariants as word
use Rattle.sg_ast.specs.declared.token.Sign.{Sign}
use Rattle.sg_ast.specs.declared.token.Sign.TheVariants as sign
use Rattle.sg_ast.specs.Token.{is_reserved}
use Rattle.sg_lexer.specs.Alphabet.{is_space, is_inner, word_text, reserved_words, reserved_word, sign_text, signs, sign_at}

-- the two ways in which a choice gives a value
pub chosen : {A : Type 0} (b : Bool) (x y z : A) → cond b x y ≡ z → ((b ≡ true) × (x ≡ z)) ⊎ ((b ≡ false) × (y ≡ z))
chosen true x y z e = inl (refl, e)
chosen false x y z e = inr (refl, e)

-- x is an element of the list
abbrev pub Stands : {X : Type 0} → X → List X → Type 0
Stands x [] = ⊥
Stands x (y ∷ ys) = (y ≡ x) ⊎ Stands x ys

pub passes_each : {X : Type 0} (p : X → Bool) (xs : List X) → list_all p xs ≡ true → (x : X) → Stands x xs → p x ≡ true
passes_each p [] e x at = absurd at
passes_each {X} p (y ∷ ys) e x (inl same) = let P : X → Type 0 = λ z. p z ≡ true in subst P same (and_parts (p y) (list_all p ys) e).0
passes_each p (y ∷ ys) e x (inr at) = passes_each p ys (and_parts (p y) (list_all p ys) e).1 x at

-- what is found passes
pub found_passes : {X : Type 0} (p : X → Bool) (xs : List X) (x : X) → find p xs ≡ Some x → p x ≡ true
found_passes p [] x e = cc
found_passes {X} p (y ∷ ys) x e =
    elim (chosen (p y) (Some y) (find p ys) (Some x) e) [
      | inl h ↦ (let same : y ≡ x = cc in let P : X → Type 0 = λ z. p z ≡ true in subst P same h.0)
      | inr h ↦ found_passes p ys x h.1
    ]

-- if none is found, none passes
pub none_passes : {X : Type 0} (p : X → Bool) (xs : List X) (x : X) → find p xs ≡ None → Stands x xs → p x ≡ false
none_passes p [] x e at = absurd at
none_passes {X} p (y ∷ ys) x e (inl same) =
    elim (chosen (p y) (Some y) (find p ys) None e) [
      | inl h ↦ cc
      | inr h ↦ (let P : X → Type 0 = λ z. p z ≡ false in subst P same h.0)
    ]
none_passes p (y ∷ ys) x e (inr at) =
    elim (chosen (p y) (Some y) (find p ys) None e) [
      | inl h ↦ cc
      | inr h ↦ none_passes p ys x h.1 at
    ]

-- no element is greater than one before it
abbrev pub is_falling : {X : Type 0} → (X → ℕ) → List X → Bool
is_falling size [] = true
is_falling size (x ∷ xs) = list_all (λ y. nat_le (size y) (size x)) xs && is_falling size xs

-- then the first that passes is a greatest
pub first_is_greatest : {X : Type 0} (size : X → ℕ) (p : X → Bool) (xs : List X) (x y : X) → is_falling size xs ≡ true → find p xs ≡ Some x → Stands y xs → p y ≡ true → size y ≤ size x
first_is_greatest size p [] x y falls e at passes = absurd at
first_is_greatest {X} size p (z ∷ zs) x y falls e (inl same) passes =
    elim (chosen (p z) (Some z) (find p zs) (Some x) e) [
      | inl h ↦ (let first : z ≡ x = cc in let eq : size y ≡ size x = ap size (sym same ∙ first) in omega arith)
      | inr h ↦ absurd (both_ways (p y) (let P : X → Type 0 = λ v. p v ≡ false in subst P same h.0) passes)
    ]
first_is_greatest size p (z ∷ zs) x y falls e (inr at) passes =
    elim (chosen (p z) (Some z) (find p zs) (Some x) e) [
      | inl h ↦ (let first : z ≡ x = cc in
          let below : size y ≤ size z = leb-true (size y) (size z) (passes_each (λ v. nat_le (size v) (size z)) zs (and_parts (list_all (λ v. nat_le (size v) (size z)) zs) (is_falling size zs) falls).0 y at) in
          let eq : size z ≡ size x = ap size first in omega arith)
      | inr h ↦ first_is_greatest size p zs x y (and_parts (list_all (λ v. nat_le (size v) (size z)) zs) (is_falling size zs) falls).1 h.1 at passes
    ]

-- ---- words

pub each_word : (w : Word) → Stands w reserved_words
each_word word.Const = inl refl
each_word word.Layout = inr (inl refl)
each_word word.Field = inr (inr (inl refl))
each_word word.Kernel = inr (inr (inr (inl refl)))
each_word word.For = inr (inr (inr (inr (inl refl))))
each_word word.In = inr (inr (inr (inr (inr (inl refl)))))
each_word word.If = inr (inr (inr (inr (inr (inr (inl refl))))))
each_word word.Else = inr (inr (inr (inr (inr (inr (inr (inl refl)))))))
each_word word.Let = inr (inr (inr (inr (inr (inr (inr (inr (inl refl))))))))
each_word word.True = inr (inr (inr (inr (inr (inr (inr (inr (inr (inl refl)))))))))
each_word word.False = inr (inr (inr (inr (inr (inr (inr (inr (inr (inr (inl refl))))))))))
each_word word.I32 = inr (inr (inr (inr (inr (inr (inr (inr (inr (inr (inr (inl refl)))))))))))
each_word word.U32 = inr (inr (inr (inr (inr (inr (inr (inr (inr (inr (inr (inr (inl refl))))))))))))
each_word word.Bool = inr (inr (inr (inr (inr (inr (inr (inr (inr (inr (inr (inr (inr (inl refl)))))))))))))
each_word word.Min = inr (inr (inr (inr (inr (inr (inr (inr (inr (inr (inr (inr (inr (inr (inl refl))))))))))))))
each_word word.Max = inr (inr (inr (inr (inr (inr (inr (inr (inr (inr (inr (inr (inr (inr (inr (inl refl)))))))))))))))
each_word word.Mulq = inr (inr (inr (inr (inr (inr (inr (inr (inr (inr (inr (inr (inr (inr (inr (inr (inl refl))))))))))))))))
each_word word.Active = inr (inr (inr (inr (inr (inr (inr (inr (inr (inr (inr (inr (inr (inr (inr (inr (inr (inl refl)))))))))))))))))
each_word word.Dense = inr (inr (inr (inr (inr (inr (inr (inr (inr (inr (inr (inr (inr (inr (inr (inr (inr (inr (inl refl))))))))))))))))))
each_word word.Hash = inr (inr (inr (inr (inr (inr (inr (inr (inr (inr (inr (inr (inr (inr (inr (inr (inr (inr (inr (inl refl)))))))))))))))))))
each_word word.Pointer = inr (inr (inr (inr (inr (inr (inr (inr (inr (inr (inr (inr (inr (inr (inr (inr (inr (inr (inr (inr (inl refl))))))))))))))))))))
each_word word.Bitmasked = inr (inr (inr (inr (inr (inr (inr (inr (inr (inr (inr (inr (inr (inr (inr (inr (inr (inr (inr (inr (inr (inl refl)))))))))))))))))))))
each_word word.Dynamic = inr (inr (inr (inr (inr (inr (inr (inr (inr (inr (inr (inr (inr (inr (inr (inr (inr (inr (inr (inr (inr (inr (inl refl))))))))))))))))))))))
each_word word.Cap = inr (inr (inr (inr (inr (inr (inr (inr (inr (inr (inr (inr (inr (inr (inr (inr (inr (inr (inr (inr (inr (inr (inr (inl refl)))))))))))))))))))))))
each_word word.Chunk = inr (inr (inr (inr (inr (inr (inr (inr (inr (inr (inr (inr (inr (inr (inr (inr (inr (inr (inr (inr (inr (inr (inr (inr (inl refl))))))))))))))))))))))))
each_word word.Load = inr (inr (inr (inr (inr (inr (inr (inr (inr (inr (inr (inr (inr (inr (inr (inr (inr (inr (inr (inr (inr (inr (inr (inr (inr (inl refl)))))))))))))))))))))))))
each_word word.Run = inr (inr (inr (inr (inr (inr (inr (inr (inr (inr (inr (inr (inr (inr (inr (inr (inr (inr (inr (inr (inr (inr (inr (inr (inr (inr (inl refl))))))))))))))))))))))))))
each_word word.Times = inr (inr (inr (inr (inr (inr (inr (inr (inr (inr (inr (inr (inr (inr (inr (inr (inr (inr (inr (inr (inr (inr (inr (inr (inr (inr (inr (inl refl)))))))))))))))))))))))))))
each_word word.Dump = inr (inr (inr (inr (inr (inr (inr (inr (inr (inr (inr (inr (inr (inr (inr (inr (inr (inr (inr (inr (inr (inr (inr (inr (inr (inr (inr (inr (inl refl))))))))))))))))))))))))))))
each_word word.Image = inr (inr (inr (inr (inr (inr (inr (inr (inr (inr (inr (inr (inr (inr (inr (inr (inr (inr (inr (inr (inr (inr (inr (inr (inr (inr (inr (inr (inr (inl refl)))))))))))))))))))))))))))))
each_word word.Stats = inr (inr (inr (inr (inr (inr (inr (inr (inr (inr (inr (inr (inr (inr (inr (inr (inr (inr (inr (inr (inr (inr (inr (inr (inr (inr (inr (inr (inr (inr (inl refl))))))))))))))))))))))))))))))
each_word word.Prune = inr (inr (inr (inr (inr (inr (inr (inr (inr (inr (inr (inr (inr (inr (inr (inr (inr (inr (inr (inr (inr (inr (inr (inr (inr (inr (inr (inr (inr (inr (inr (inl refl)))))))))))))))))))))))))))))))
each_word word.Clear = inr (inr (inr (inr (inr (inr (inr (inr (inr (inr (inr (inr (inr (inr (inr (inr (inr (inr (inr (inr (inr (inr (inr (inr (inr (inr (inr (inr (inr (inr (inr (inr (inl refl))))))))))))))))))))))))))))))))

pub for_word : (p : Word → Bool) → list_all p reserved_words ≡ true → (w : Word) → p w ≡ true
for_word p e w = passes_each p reserved_words e w (each_word w)

-- a word is found by its spelling
pub word_again : (w : Word) → reserved_word (word_text w) ≡ Some w
unfolding reserved_word
word_again word.Const = refl
word_again word.Layout = refl
word_again word.Field = refl
word_again word.Kernel = refl
word_again word.For = refl
word_again word.In = refl
word_again word.If = refl
word_again word.Else = refl
word_again word.Let = refl
word_again word.True = refl
word_again word.False = refl
word_again word.I32 = refl
word_again word.U32 = refl
word_again word.Bool = refl
word_again word.Min = refl
word_again word.Max = refl
word_again word.Mulq = refl
word_again word.Active = refl
word_again word.Dense = refl
word_again word.Hash = refl
word_again word.Pointer = refl
word_again word.Bitmasked = refl
word_again word.Dynamic = refl
word_again word.Cap = refl
word_again word.Chunk = refl
word_again word.Load = refl
word_again word.Run = refl
word_again word.Times = refl
word_again word.Dump = refl
word_again word.Image = refl
word_again word.Stats = refl
word_again word.Prune = refl
word_again word.Clear = refl

-- the word that is found has the spelling
pub word_found : (text : List ℕ) (w : Word) → reserved_word text ≡ Some w → word_text w ≡ text
unfolding reserved_word
word_found text w e = (bytes_eq-Decides (word_text w) text).0 (found_passes (λ v. bytes_eq (word_text v) text) reserved_words w e)

-- if none is found, no word has the spelling
pub no_word_found : (text : List ℕ) → reserved_word text ≡ None → (w : Word) → word_text w ≡ text → ⊥
unfolding reserved_word
no_word_found text e w same = both_ways (bytes_eq (word_text w) text) (none_passes (λ v. bytes_eq (word_text v) text) reserved_words w e (each_word w)) ((bytes_eq-Decides (word_text w) text).1 same)

-- one that passes
any_passes : {X : Type 0} (p : X → Bool) (xs : List X) (x : X) → Stands x xs → p x ≡ true → list_any p xs ≡ true
any_passes p [] x at e = absurd at
any_passes {X} p (y ∷ ys) x (inl same) e = or_left (p y) (list_any p ys) (let P : X → Type 0 = λ z. p z ≡ true in subst P (sym same) e)
any_passes p (y ∷ ys) x (inr at) e = or_right (p y) (list_any p ys) (any_passes p ys x at e)

any_none : {X : Type 0} (p : X → Bool) (xs : List X) → ((x : X) → p x ≡ false) → list_any p xs ≡ false
any_none p [] none = refl
any_none p (y ∷ ys) none = rw (none y) (any_none p ys none)

-- what is no reserved word has the spelling of none
pub no_reserved_word : (text : List ℕ) → is_reserved text ≡ false → (w : Word) → word_text w ≡ text → ⊥
unfolding is_reserved
no_reserved_word text e w same =
    both_ways (list_any (λ v. bytes_eq (word_text v) text) reserved_words) e (any_passes (λ v. bytes_eq (word_text v) text) reserved_words w (each_word w) ((bytes_eq-Decides (word_text w) text).1 same))

-- what has the spelling of none is no reserved word
pub not_reserved : (text : List ℕ) → ((w : Word) → word_text w ≡ text → ⊥) → is_reserved text ≡ false
unfolding is_reserved
not_reserved text other = any_none (λ v. bytes_eq (word_text v) text) reserved_words (λ w. false_from_ne_true (bytes_eq (word_text w) text) (λ e. other w ((bytes_eq-Decides (word_text w) text).0 e)))

-- one is found exactly when one passes
find_any : {X : Type 0} (p : X → Bool) (xs : List X) → is_some (find p xs) ≡ list_any p xs
find_any p [] = refl
find_any p (y ∷ ys) = elim (cases_Bool (p y)) [ inl e ↦ rw e refl | inr e ↦ rw e (find_any p ys) ]

-- whether a text is a reserved word's, by looking for the word
pub found_word_reserved : (text : List ℕ) → is_some (reserved_word text) ≡ is_reserved text
unfolding reserved_word is_reserved
found_word_reserved text = find_any (λ v. bytes_eq (word_text v) text) reserved_words

-- ---- signs

pub each_sign : (s : Sign) → Stands s signs
each_sign sign.DotDot = inl refl
each_sign sign.EqualEqual = inr (inl refl)
each_sign sign.NotEqual = inr (inr (inl refl))
each_sign sign.LessEqual = inr (inr (inr (inl refl)))
each_sign sign.GreaterEqual = inr (inr (inr (inr (inl refl))))
each_sign sign.AndAnd = inr (inr (inr (inr (inr (inl refl)))))
each_sign sign.OrOr = inr (inr (inr (inr (inr (inr (inl refl))))))
each_sign sign.ShiftLeft = inr (inr (inr (inr (inr (inr (inr (inl refl)))))))
each_sign sign.ShiftRight = inr (inr (inr (inr (inr (inr (inr (inr (inl refl))))))))
each_sign sign.PlusEqual = inr (inr (inr (inr (inr (inr (inr (inr (inr (inl refl)))))))))
each_sign sign.OrEqual = inr (inr (inr (inr (inr (inr (inr (inr (inr (inr (inl refl))))))))))
each_sign sign.AndEqual = inr (inr (inr (inr (inr (inr (inr (inr (inr (inr (inr (inl refl)))))))))))
each_sign sign.CaretEqual = inr (inr (inr (inr (inr (inr (inr (inr (inr (inr (inr (inr (inl refl))))))))))))
each_sign sign.OpenBrace = inr (inr (inr (inr (inr (inr (inr (inr (inr (inr (inr (inr (inr (inl refl)))))))))))))
each_sign sign.CloseBrace = inr (inr (inr (inr (inr (inr (inr (inr (inr (inr (inr (inr (inr (inr (inl refl))))))))))))))
each_sign sign.OpenParen = inr (inr (inr (inr (inr (inr (inr (inr (inr (inr (inr (inr (inr (inr (inr (inl refl)))))))))))))))
each_sign sign.CloseParen = inr (inr (inr (inr (inr (inr (inr (inr (inr (inr (inr (inr (inr (inr (inr (inr (inl refl))))))))))))))))
each_sign sign.OpenBracket = inr (inr (inr (inr (inr (inr (inr (inr (inr (inr (inr (inr (inr (inr (inr (inr (inr (inl refl)))))))))))))))))
each_sign sign.CloseBracket = inr (inr (inr (inr (inr (inr (inr (inr (inr (inr (inr (inr (inr (inr (inr (inr (inr (inr (inl refl))))))))))))))))))
each_sign sign.Semicolon = inr (inr (inr (inr (inr (inr (inr (inr (inr (inr (inr (inr (inr (inr (inr (inr (inr (inr (inr (inl refl)))))))))))))))))))
each_sign sign.Comma = inr (inr (inr (inr (inr (inr (inr (inr (inr (inr (inr (inr (inr (inr (inr (inr (inr (inr (inr (inr (inl refl))))))))))))))))))))
each_sign sign.Colon = inr (inr (inr (inr (inr (inr (inr (inr (inr (inr (inr (inr (inr (inr (inr (inr (inr (inr (inr (inr (inr (inl refl)))))))))))))))))))))
each_sign sign.Equal = inr (inr (inr (inr (inr (inr (inr (inr (inr (inr (inr (inr (inr (inr (inr (inr (inr (inr (inr (inr (inr (inr (inl refl))))))))))))))))))))))
each_sign sign.Less = inr (inr (inr (inr (inr (inr (inr (inr (inr (inr (inr (inr (inr (inr (inr (inr (inr (inr (inr (inr (inr (inr (inr (inl refl)))))))))))))))))))))))
each_sign sign.Greater = inr (inr (inr (inr (inr (inr (inr (inr (inr (inr (inr (inr (inr (inr (inr (inr (inr (inr (inr (inr (inr (inr (inr (inr (inl refl))))))))))))))))))))))))
each_sign sign.Plus = inr (inr (inr (inr (inr (inr (inr (inr (inr (inr (inr (inr (inr (inr (inr (inr (inr (inr (inr (inr (inr (inr (inr (inr (inr (inl refl)))))))))))))))))))))))))
each_sign sign.Minus = inr (inr (inr (inr (inr (inr (inr (inr (inr (inr (inr (inr (inr (inr (inr (inr (inr (inr (inr (inr (inr (inr (inr (inr (inr (inr (inl refl))))))))))))))))))))))))))
each_sign sign.Star = inr (inr (inr (inr (inr (inr (inr (inr (inr (inr (inr (inr (inr (inr (inr (inr (inr (inr (inr (inr (inr (inr (inr (inr (inr (inr (inr (inl refl)))))))))))))))))))))))))))
each_sign sign.Slash = inr (inr (inr (inr (inr (inr (inr (inr (inr (inr (inr (inr (inr (inr (inr (inr (inr (inr (inr (inr (inr (inr (inr (inr (inr (inr (inr (inr (inl refl))))))))))))))))))))))))))))
each_sign sign.Percent = inr (inr (inr (inr (inr (inr (inr (inr (inr (inr (inr (inr (inr (inr (inr (inr (inr (inr (inr (inr (inr (inr (inr (inr (inr (inr (inr (inr (inr (inl refl)))))))))))))))))))))))))))))
each_sign sign.And = inr (inr (inr (inr (inr (inr (inr (inr (inr (inr (inr (inr (inr (inr (inr (inr (inr (inr (inr (inr (inr (inr (inr (inr (inr (inr (inr (inr (inr (inr (inl refl))))))))))))))))))))))))))))))
each_sign sign.Or = inr (inr (inr (inr (inr (inr (inr (inr (inr (inr (inr (inr (inr (inr (inr (inr (inr (inr (inr (inr (inr (inr (inr (inr (inr (inr (inr (inr (inr (inr (inr (inl refl)))))))))))))))))))))))))))))))
each_sign sign.Caret = inr (inr (inr (inr (inr (inr (inr (inr (inr (inr (inr (inr (inr (inr (inr (inr (inr (inr (inr (inr (inr (inr (inr (inr (inr (inr (inr (inr (inr (inr (inr (inr (inl refl))))))))))))))))))))))))))))))))
each_sign sign.Tilde = inr (inr (inr (inr (inr (inr (inr (inr (inr (inr (inr (inr (inr (inr (inr (inr (inr (inr (inr (inr (inr (inr (inr (inr (inr (inr (inr (inr (inr (inr (inr (inr (inr (inl refl)))))))))))))))))))))))))))))))))
each_sign sign.Not = inr (inr (inr (inr (inr (inr (inr (inr (inr (inr (inr (inr (inr (inr (inr (inr (inr (inr (inr (inr (inr (inr (inr (inr (inr (inr (inr (inr (inr (inr (inr (inr (inr (inr (inl refl))))))))))))))))))))))))))))))))))

pub for_sign : (p : Sign → Bool) → list_all p signs ≡ true → (s : Sign) → p s ≡ true
for_sign p e s = passes_each p signs e s (each_sign s)

-- a sign is found by its spelling
pub sign_again : (s : Sign) → sign_at (sign_text s) ≡ Some s
unfolding sign_at
sign_again sign.DotDot = refl
sign_again sign.EqualEqual = refl
sign_again sign.NotEqual = refl
sign_again sign.LessEqual = refl
sign_again sign.GreaterEqual = refl
sign_again sign.AndAnd = refl
sign_again sign.OrOr = refl
sign_again sign.ShiftLeft = refl
sign_again sign.ShiftRight = refl
sign_again sign.PlusEqual = refl
sign_again sign.OrEqual = refl
sign_again sign.AndEqual = refl
sign_again sign.CaretEqual = refl
sign_again sign.OpenBrace = refl
sign_again sign.CloseBrace = refl
sign_again sign.OpenParen = refl
sign_again sign.CloseParen = refl
sign_again sign.OpenBracket = refl
sign_again sign.CloseBracket = refl
sign_again sign.Semicolon = refl
sign_again sign.Comma = refl
sign_again sign.Colon = refl
sign_again sign.Equal = refl
sign_again sign.Less = refl
sign_again sign.Greater = refl
sign_again sign.Plus = refl
sign_again sign.Minus = refl
sign_again sign.Star = refl
sign_again sign.Slash = refl
sign_again sign.Percent = refl
sign_again sign.And = refl
sign_again sign.Or = refl
sign_again sign.Caret = refl
sign_again sign.Tilde = refl
sign_again sign.Not = refl

-- no two signs are spelled alike
pub same_sign : (s t : Sign) → sign_text s ≡ sign_text t → s ≡ t
same_sign s t e = let found : Some s ≡ Some t = sym (sign_again s) ∙ ap sign_at e ∙ sign_again t in cc

-- a sign is spelled by one or two bytes, which are no letters, digits, `_` or white space
pub sign_outer : (s : Sign) → not (is_inner (slice_index (sign_text s) 0)) ≡ true
sign_outer = for_sign (λ s. not (is_inner (slice_index (sign_text s) 0))) refl

pub sign_no_space : (s : Sign) → not (is_space (slice_index (sign_text s) 0)) ≡ true
sign_no_space = for_sign (λ s. not (is_space (slice_index (sign_text s) 0))) refl

pub sign_without_spaces : (s : Sign) → list_all (λ b. not (b == 32)) (sign_text s) ≡ true
sign_without_spaces = for_sign (λ s. list_all (λ b. not (b == 32)) (sign_text s)) refl

pub sign_some : (s : Sign) → nat_le 1 (length (sign_text s)) ≡ true
sign_some = for_sign (λ s. nat_le 1 (length (sign_text s))) refl

-- no sign begins a comment, alone or with a space after it
pub sign_alone_no_comment : (s : Sign) → not (starts_with nat_eq (sign_text s) (codes "//")) ≡ true
sign_alone_no_comment = for_sign (λ s. not (starts_with nat_eq (sign_text s) (codes "//"))) refl

pub sign_no_comment : (rest : List ℕ) (s : Sign) → not (starts_with nat_eq (sign_text s ++ 32 ∷ rest) (codes "//")) ≡ true
sign_no_comment rest = for_sign (λ s. not (starts_with nat_eq (sign_text s ++ 32 ∷ rest) (codes "//"))) refl

-- the sign that is found stands there, and no longer one does
pub sign_found : (bytes : List ℕ) (s : Sign) → sign_at bytes ≡ Some s → starts_with nat_eq bytes (sign_text s) ≡ true
unfolding sign_at
sign_found bytes s e = found_passes (λ v. starts_with nat_eq bytes (sign_text v)) signs s e

pub sign_longest : (bytes : List ℕ) (s t : Sign) → sign_at bytes ≡ Some s → starts_with nat_eq bytes (sign_text t) ≡ true → length (sign_text t) ≤ length (sign_text s)
unfolding sign_at
sign_longest bytes s t e there = first_is_greatest (λ v. length (sign_text v)) (λ v. starts_with nat_eq bytes (sign_text v)) signs s t refl e (each_sign t) there

-- if none is found, none stands there
pub no_sign_found : (bytes : List ℕ) → sign_at bytes ≡ None → (s : Sign) → starts_with nat_eq bytes (sign_text s) ≡ false
unfolding sign_at
no_sign_found bytes e s = none_passes (λ v. starts_with nat_eq bytes (sign_text v)) signs s e (each_sign s)
