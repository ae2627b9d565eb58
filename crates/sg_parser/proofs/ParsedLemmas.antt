-- One item of a file at a time, from the front of its tokens.
use Rattle.std.specs.Prelude.{◌≡◌, refl, ℕ, zero, suc, ◌+◌, ◌-◌, ◌≤◌, ◌<◌, Bool, true, false, List, [], ◌∷◌, ◌++◌, length, take, drop, Option, Some, None, Result, Ok, Err}
use Rattle.std.proofs.Common.{sym, ◌∙◌, ap, arith, append-nil, get_or, length-append, take-append-drop}
use Rattle.std.proofs.lemmas.Option.{same_Some, some_pair_parts}
use Rattle.sg_ast.specs.declared.token.Token.{Token}
use Rattle.sg_ast.specs.declared.token.Spanned.{Spanned}
use Rattle.sg_ast.specs.declared.program.Item.{Item}
use Rattle.sg_ast.specs.declared.program.Program.{Program}
use Rattle.sg_ast.specs.Program.{item_tokens}
use Rattle.sg_ast.specs.Grammar.{is_item}
use Rattle.sg_ast.specs.Items.{ends_item, open_after, in_front, cut_by, items_of}
use Rattle.sg_ast.proofs.Uses.{cut_by-item}
use Rattle.sg_parser.specs.declared.program.ParseFault.{ParseFault}
use Rattle.sg_parser.specs.declared.program.ParseFault.TheVariants as fault
use Rattle.sg_ast.specs.Items.{kinds}
use Rattle.sg_words.specs.Options.{◌>>=◌}
use Rattle.sg_parser.specs.ReadItem.{read_item}
use Rattle.sg_parser.specs.Parsed.{if_whole, item_of, program_from}
use Rattle.sg_parser.specs.steps.Counted.{counted_item}
use Rattle.sg_parser.proofs.StepLemmas.{bind_some}
use Rattle.sg_parser.proofs.ItemSound.{item_sound}
use Rattle.sg_parser.proofs.ItemComplete.{item_complete}

abbrev pub token_of : Spanned → Token
token_of spanned = spanned.token

pub kinds-append : (xs ys : List Spanned) → kinds (xs ++ ys) ≡ kinds xs ++ kinds ys
kinds-append [] ys = refl
kinds-append (x ∷ xs) ys = ap (λ k. x.token ∷ k) (kinds-append xs ys)

-- the first cut: it begins with the first token, and stands at the front
pub record FirstCut (braces : ℕ) (x : Spanned) (xs : List Spanned) : Type 0 where
  pub front : List Spanned
  pub rest : List Spanned
  pub more : List (List Spanned)
  pub is : cut_by token_of braces (x ∷ xs) ≡ (x ∷ front) ∷ more
  pub parts : xs ≡ front ++ rest

pub first_cut : (braces : ℕ) (x : Spanned) (xs : List Spanned) → FirstCut braces x xs
first_cut braces x [] = go (ends_item braces x.token) refl where
  go : (ends : Bool) → ends_item braces x.token ≡ ends → FirstCut braces x []
  go true is = record { front = []; rest = []; more = []; is = rw is refl; parts = refl }
  go false is = record { front = []; rest = []; more = []; is = rw is refl; parts = refl }
first_cut braces x (y ∷ ys) = go (ends_item braces x.token) refl (first_cut (open_after braces x.token) y ys) where
  go : (ends : Bool) → ends_item braces x.token ≡ ends → FirstCut (open_after braces x.token) y ys → FirstCut braces x (y ∷ ys)
  go true is next = record { front = []; rest = y ∷ ys; more = cut_by token_of (open_after braces x.token) (y ∷ ys); is = ap (λ ends. in_front ends x (cut_by token_of (open_after braces x.token) (y ∷ ys))) is; parts = refl }
  go false is next = record {
    front = y ∷ next.front;
    rest = next.rest;
    more = next.more;
    is = ap (λ ends. in_front ends x (cut_by token_of (open_after braces x.token) (y ∷ ys))) is ∙ ap (λ cuts. in_front false x cuts) next.is;
    parts = ap (λ k. y ∷ k) next.parts;
  }

whole_some : (o : Option (Item × List Token)) (a : Item) → if_whole o ≡ Some a → o ≡ Some (a, [])
whole_some None a h = absurd (cc)
whole_some (Some (item, [])) a h = ap (λ (i : Item). Some (i, [])) (same_Some item a h)
whole_some (Some (item, token ∷ rest)) a h = absurd (cc)

-- what spells an item
pub spelled_is : (xs : List Spanned) (a : Item) → item_of xs ≡ Some a → (is_item a ≡ true) × (kinds xs ≡ item_tokens a)
spelled_is xs a h = let p = item_sound (kinds xs) a [] (whole_some (read_item (kinds xs)) a h) in (p.0, p.1 ∙ append-nil (item_tokens a))

pub is_spelled : (xs : List Spanned) (a : Item) → is_item a ≡ true → kinds xs ≡ item_tokens a → item_of xs ≡ Some a
is_spelled xs a good is =
    let read : read_item (kinds xs) ≡ Some (a, []) = ap read_item (is ∙ sym (append-nil (item_tokens a))) ∙ item_complete a [] good in
    ap if_whole read

pub length-kinds : (xs : List Spanned) → length (kinds xs) ≡ length xs
length-kinds [] = refl
length-kinds (x ∷ xs) = ap suc (length-kinds xs)

pub kinds-take : (n : ℕ) (xs : List Spanned) (front rest : List Token) → kinds xs ≡ front ++ rest → length front ≡ n → kinds (take n xs) ≡ front
kinds-take n xs [] rest h is = rw (← is) refl
kinds-take n [] (f ∷ front) rest h is = absurd (cc)
kinds-take n (x ∷ xs) (f ∷ front) rest h is =
    let whole : x.token ∷ kinds xs ≡ f ∷ (front ++ rest) = h in
    let head : x.token ≡ f = cc in
    let tail : kinds xs ≡ front ++ rest = cc in
    let more : kinds (take (length front) xs) ≡ front = kinds-take (length front) xs front rest tail refl in
    rw (← is) (ap (λ t. t ∷ kinds (take (length front) xs)) head ∙ ap (λ k. f ∷ k) more)

nothing_spelled : (a : Item) → item_of [] ≡ Some a → ⊥
unfolding read_item
nothing_spelled a h = absurd (cc)

-- an item at the front, and the program goes on after it
pub parsed_turn : (number : ℕ) (items : List Item) (lines : List ℕ) (x : Spanned) (xs : List Spanned) (a : Item) (rest : List Token) (n : ℕ)
    → read_item (kinds (x ∷ xs)) ≡ Some (a, rest) → n + length rest ≡ length (x ∷ xs)
    → program_from number items lines (items_of (x ∷ xs)) ≡ program_from (number + 1) (items ++ a ∷ []) (lines ++ x.line ∷ []) (items_of (drop n (x ∷ xs)))
unfolding program_from
parsed_turn number items lines x xs a rest n read count =
    let p = item_sound (kinds (x ∷ xs)) a rest read in
    let same : length (item_tokens a) ≡ n = omega (arith, length-kinds (x ∷ xs), ap length p.1, length-append (item_tokens a) rest) in
    go n p.0 (kinds-take n (x ∷ xs) (item_tokens a) rest p.1 same) where
      go : (n : ℕ) → is_item a ≡ true → kinds (take n (x ∷ xs)) ≡ item_tokens a
          → program_from number items lines (items_of (x ∷ xs)) ≡ program_from (number + 1) (items ++ a ∷ []) (lines ++ x.line ∷ []) (items_of (drop n (x ∷ xs)))
      go zero good is = absurd (nothing_spelled a (is_spelled [] a good is))
      go (suc m) good is =
          let cut : items_of (x ∷ xs) ≡ (x ∷ take m xs) ∷ items_of (drop m xs) = ap items_of (sym (take-append-drop (suc m) (x ∷ xs))) ∙ cut_by-item token_of a (x ∷ take m xs) (drop m xs) good is in
          rw (cut, is_spelled (x ∷ take m xs) a good is) refl

-- no item at the front: the first cut spells none
pub parsed_stuck : (number : ℕ) (items : List Item) (lines : List ℕ) (x : Spanned) (xs : List Spanned) → read_item (kinds (x ∷ xs)) ≡ None
    → program_from number items lines (items_of (x ∷ xs)) ≡ Err (fault.Syntax number x.line)
unfolding program_from
parsed_stuck number items lines x xs read =
    let fc = first_cut 0 x xs in
    rw (fc.is, go fc (item_of (x ∷ fc.front)) refl) refl where
      go : (fc : FirstCut 0 x xs) → (o : Option Item) → item_of (x ∷ fc.front) ≡ o → item_of (x ∷ fc.front) ≡ None
      go fc None is = is
      go fc (Some a) is =
          let p = spelled_is (x ∷ fc.front) a is in
          let all : kinds (x ∷ xs) ≡ item_tokens a ++ kinds fc.rest = ap (λ k. kinds (x ∷ k)) fc.parts ∙ kinds-append (x ∷ fc.front) fc.rest ∙ ap (λ k. k ++ kinds fc.rest) p.1 in
          let found : read_item (kinds (x ∷ xs)) ≡ Some (a, kinds fc.rest) = ap read_item all ∙ item_complete a (kinds fc.rest) p.0 in
          absurd (cc)

-- an item has a token at least
some_tokens : (tokens : List Token) (a : Item) → read_item (tokens ++ []) ≡ Some (a, []) → 1 ≤ length tokens
unfolding read_item
some_tokens [] a h = absurd (cc)
some_tokens (token ∷ tokens) a h = omega arith

item_some : (a : Item) → is_item a ≡ true → 1 ≤ length (item_tokens a)
item_some a good = some_tokens (item_tokens a) a (item_complete a [] good)

pub read_shorter : (tokens : List Token) (a : Item) (rest : List Token) → read_item tokens ≡ Some (a, rest) → length rest < length tokens
read_shorter tokens a rest h =
    let p = item_sound tokens a rest h in
    omega (arith, item_some a p.0, ap length p.1, length-append (item_tokens a) rest)

pub counted_is : (tokens : List Spanned) (a : Item) (rest : List Spanned) → read_item (kinds tokens) ≡ Some (a, kinds rest) → counted_item (kinds tokens) ≡ Some (a, length tokens - length rest)
counted_is tokens a rest h = rw (h, length-kinds tokens, length-kinds rest) refl

pub spanned_shorter : (tokens : List Spanned) (a : Item) (rest : List Spanned) → read_item (kinds tokens) ≡ Some (a, kinds rest) → length rest < length tokens
spanned_shorter tokens a rest h = omega (arith, read_shorter (kinds tokens) a (kinds rest) h, length-kinds tokens, length-kinds rest)

-- a turn, by the count of the item's tokens
pub counted_turn : (number : ℕ) (items : List Item) (lines : List ℕ) (x : Spanned) (xs : List Spanned) (a : Item) (n : ℕ) → counted_item (kinds (x ∷ xs)) ≡ Some (a, n)
    → program_from number items lines (items_of (x ∷ xs)) ≡ program_from (number + 1) (items ++ a ∷ []) (lines ++ x.line ∷ []) (items_of (drop n (x ∷ xs)))
counted_turn number items lines x xs a n h =
    let p = bind_some (read_item (kinds (x ∷ xs))) (λ (item : Item × List Token). Some (item.0, length (kinds (x ∷ xs)) - length item.1)) (a, n) h in
    let same = some_pair_parts p.0.0 a (length (kinds (x ∷ xs)) - length p.0.1) n p.2 in
    let count = same.1 in
    let shorter = read_shorter (kinds (x ∷ xs)) p.0.0 p.0.1 p.1 in
    let turn = parsed_turn number items lines x xs p.0.0 p.0.1 n p.1 (omega (arith, length-kinds (x ∷ xs))) in
    turn ∙ ap (λ (i : Item). program_from (number + 1) (items ++ i ∷ []) (lines ++ x.line ∷ []) (items_of (drop n (x ∷ xs)))) same.0

pub counted_stuck : (number : ℕ) (items : List Item) (lines : List ℕ) (x : Spanned) (xs : List Spanned) → counted_item (kinds (x ∷ xs)) ≡ None
    → program_from number items lines (items_of (x ∷ xs)) ≡ Err (fault.Syntax number x.line)
counted_stuck number items lines x xs h = parsed_stuck number items lines x xs (go (read_item (kinds (x ∷ xs))) h) where
  go : (o : Option (Item × List Token)) → ◌>>=◌ {B = Item × ℕ} o (λ item. Some (item.0, length (kinds (x ∷ xs)) - length item.1)) ≡ None → o ≡ None
  go None h = refl
  go (Some item) h = absurd (cc)

-- a turn, where the first token is what a slice has at its first place
pub slice_turn : (number : ℕ) (items : List Item) (lines : List ℕ) (tokens : List Spanned) (x : Spanned) (a : Item) (n : ℕ) → 1 ≤ length tokens → x ≡ get_or tokens 0 x → counted_item (kinds tokens) ≡ Some (a, n)
    → program_from number items lines (items_of tokens) ≡ program_from (number + 1) (items ++ a ∷ []) (lines ++ x.line ∷ []) (items_of (drop n tokens))
slice_turn number items lines [] x a n some is h = absurd (omega arith)
slice_turn number items lines (y ∷ ys) x a n some is h =
    counted_turn number items lines y ys a n h
    ∙ ap (λ (z : Spanned). program_from (number + 1) (items ++ a ∷ []) (lines ++ z.line ∷ []) (items_of (drop n (y ∷ ys)))) (sym is)

abbrev refused : ℕ → ℕ → Result Program ParseFault
refused number line = Err (fault.Syntax number line)

pub slice_stuck : (number : ℕ) (items : List Item) (lines : List ℕ) (tokens : List Spanned) (x : Spanned) → 1 ≤ length tokens → x ≡ get_or tokens 0 x → counted_item (kinds tokens) ≡ None
    → program_from number items lines (items_of tokens) ≡ Err (fault.Syntax number x.line)
slice_stuck number items lines [] x some is h = absurd (omega arith)
slice_stuck number items lines (y ∷ ys) x some is h = counted_stuck number items lines y ys h ∙ ap (λ (z : Spanned). refused number z.line) (sym is)

pub slice_end : (number : ℕ) (items : List Item) (lines : List ℕ) (tokens : List Spanned) → length tokens < 1 → program_from number items lines (items_of tokens) ≡ Ok (record { items = items; lines = lines })
unfolding program_from
slice_end number items lines [] none = refl
slice_end number items lines (y ∷ ys) none = absurd (omega arith)
