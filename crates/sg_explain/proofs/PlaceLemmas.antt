-- That the bytes which are shown for a statement spell it.
use Rattle.std.specs.Prelude.{◌≡◌, refl, ℕ, zero, suc, Bool, true, false, ◌&&◌, List, [], ◌∷◌, ◌++◌, map, length, drop, Option, Some, None, option_map, option_and_then, slice_get}
use Rattle.std.proofs.Common.{◌∙◌, ap, sym, subst, arith}
use Rattle.std.proofs.lemmas.List.{append_assoc, map-append}
use Rattle.std.proofs.lemmas.Option.{slice_get-map, same_Some}
use Rattle.sg_ast.specs.declared.token.Token.{Token}
use Rattle.sg_ast.specs.declared.token.Spanned.{Spanned}
use Rattle.sg_ast.specs.Stmt.{joined_lists}
use Rattle.sg_ast.specs.Items.{kinds, items_of}
use Rattle.sg_lexer.specs.Laws.{AreTokens, none, AnsweredAreTokens}
use Rattle.sg_parser.specs.Laws.{Spells, ParsedIsSpelled}
use Rattle.sg_explain.specs.Parts.{ends_part, begins_part, added_if, parts_by, parts_from, item_parts}
use Rattle.sg_explain.specs.KernelItems.{begins_kernel, kernel_items}
use Rattle.sg_explain.specs.Shown.{ShownIsStatement}
use Rattle.sg_explain.specs.Places.{head_end, head_place, part_at}
use Rattle.sg_explain.specs.ShownBytes.{ShownIsSpelled}
use Rattle.sg_explain.proofs.ItemLemmas.{kinds_added}
use Rattle.sg_explain.proofs.Joined.{joined_items, joined_append}

abbrev token_of : Spanned → Token
token_of spanned = spanned.token

-- ---- parts with places, and without

parts_kinds : (fresh : Bool) (xs : List Spanned) → map kinds (parts_by token_of fresh xs) ≡ parts_from fresh (kinds xs)
parts_kinds fresh [] = refl
parts_kinds fresh (x ∷ xs) =
    kinds_added (fresh && begins_part x.token) (x ∷ xs) (parts_by token_of (ends_part x.token) xs)
    ∙ ap (added_if (fresh && begins_part x.token) (kinds (x ∷ xs))) (parts_kinds (ends_part x.token) xs)

-- ---- a part is the end of its item

record IsEnd (xs part : List Spanned) : Type 0 where
  pub front : List Spanned
  pub first : Spanned
  pub rest : List Spanned
  pub is : part ≡ first ∷ rest
  pub split : xs ≡ front ++ first ∷ rest

end_behind : (x : Spanned) (xs part : List Spanned) → IsEnd xs part → IsEnd (x ∷ xs) part
end_behind x xs part e = record { front = x ∷ e.front; first = e.first; rest = e.rest; is = e.is; split = ap (λ more. x ∷ more) e.split }

end_added : (test : Bool) (x : Spanned) (xs part : List Spanned) (parts : List (List Spanned)) (n : ℕ) → ((m : ℕ) → slice_get parts m ≡ Some part → IsEnd xs part)
    → slice_get (added_if test (x ∷ xs) parts) n ≡ Some part → IsEnd (x ∷ xs) part
end_added true x xs part parts zero inner h = record { front = []; first = x; rest = xs; is = sym (same_Some (x ∷ xs) part h); split = refl }
end_added true x xs part parts (suc n) inner h = end_behind x xs part (inner n h)
end_added false x xs part parts n inner h = end_behind x xs part (inner n h)

part_is_end : (fresh : Bool) (xs part : List Spanned) (n : ℕ) → slice_get (parts_by token_of fresh xs) n ≡ Some part → IsEnd xs part
part_is_end fresh [] part n h = let no_such : ◌≡◌ {A = Option (List Spanned)} None (Some part) = h in absurd (cc)
part_is_end fresh (x ∷ xs) part n h =
    end_added (fresh && begins_part x.token) x xs part (parts_by token_of (ends_part x.token) xs) n (λ m. part_is_end (ends_part x.token) xs part m) h

-- ---- an item is a piece of the tokens

record IsAmongItems (items : List (List Spanned)) (item : List Spanned) : Type 0 where
  pub before : List (List Spanned)
  pub after : List (List Spanned)
  pub split : items ≡ before ++ item ∷ after

among_behind : (x : List Spanned) (items : List (List Spanned)) (item : List Spanned) → IsAmongItems items item → IsAmongItems (x ∷ items) item
among_behind x items item a = record { before = x ∷ a.before; after = a.after; split = ap (λ more. x ∷ more) a.split }

among_added : (test : Bool) (x item : List Spanned) (items chosen : List (List Spanned)) (k : ℕ) → ((m : ℕ) → slice_get chosen m ≡ Some item → IsAmongItems items item)
    → slice_get (added_if test x chosen) k ≡ Some item → IsAmongItems (x ∷ items) item
among_added true x item items chosen zero inner h = record { before = []; after = items; split = ap (λ given. given ∷ items) (same_Some x item h) }
among_added true x item items chosen (suc k) inner h = among_behind x items item (inner k h)
among_added false x item items chosen k inner h = among_behind x items item (inner k h)

kernel_among : (items : List (List Spanned)) (item : List Spanned) (k : ℕ) → slice_get (kernel_items items) k ≡ Some item → IsAmongItems items item
kernel_among [] item k h = let no_such : ◌≡◌ {A = Option (List Spanned)} None (Some item) = h in absurd (cc)
kernel_among (x ∷ items) item k h = among_added (begins_kernel (kinds x)) x item items (kernel_items items) k (λ m. kernel_among items item m) h

joined_split : (before after : List (List Spanned)) (item : List Spanned) → joined_lists (before ++ item ∷ after) ≡ joined_lists before ++ (item ++ joined_lists after)
joined_split before after item = joined_append before (item ∷ after)

-- a part of a kernel's item, with all that is behind it in the file
record IsThere (list part : List Spanned) : Type 0 where
  pub front : List Spanned
  pub first : Spanned
  pub rest : List Spanned
  pub behind : List Spanned
  pub is : part ≡ first ∷ rest
  pub split : list ≡ front ++ first ∷ (rest ++ behind)

there : (list item part : List Spanned) (k n : ℕ) → slice_get (kernel_items (items_of list)) k ≡ Some item → slice_get (item_parts item) n ≡ Some part → IsThere list part
there list item part k n is_item is_part =
    let a = kernel_among (items_of list) item k is_item in
    let e = part_is_end false item part n is_part in
    record {
      front = joined_lists a.before ++ e.front;
      first = e.first;
      rest = e.rest;
      behind = joined_lists a.after;
      is = e.is;
      split = sym (joined_items list) ∙ ap joined_lists a.split ∙ joined_split a.before a.after item
          ∙ ap (λ given. joined_lists a.before ++ (given ++ joined_lists a.after)) e.split
          ∙ ap (λ more. joined_lists a.before ++ more) (append_assoc e.front (e.first ∷ e.rest) (joined_lists a.after))
          ∙ sym (append_assoc (joined_lists a.before) e.front (e.first ∷ (e.rest ++ joined_lists a.after)));
    }

-- ---- the bytes

-- the tokens of bytes from some token on
tokens_behind : (bytes : List ℕ) (from to : ℕ) (front back : List Spanned) (x : Spanned) → AreTokens bytes from (front ++ x ∷ back) to → AreTokens bytes x.start (x ∷ back) to
tokens_behind bytes from to [] back x h = (omega arith, none (drop x.start bytes), h.2, h.3)
tokens_behind bytes from to (y ∷ front) back x h = tokens_behind bytes y.end to front back x h.3

mapped_some : {A B : Type 0} (f : A → B) (given : Option A) (y : B) → option_map f given ≡ Some y → (x : A) × (given ≡ Some x) × (f x ≡ y)
mapped_some f None y h = let no_such : None ≡ Some y = h in absurd (cc)
mapped_some f (Some x) y h = (x, refl, same_Some (f x) y h)

pub shown_spelled : AnsweredAreTokens → ParsedIsSpelled → ShownIsStatement → ShownIsSpelled
shown_spelled answered spelled shown bytes found program read parsed kernel number decl given is_decl is_given =
    let spells : Spells found.list program = spelled found.list program parsed in
    let at = shown found.list program spells.of_grammar spells.tokens_are kernel number decl given is_decl is_given in
    let item = at.0 in
    let rest = at.2 in
    let same = sym (slice_get-map kinds (item_parts item) number) ∙ ap (λ lists. slice_get lists number) (parts_kinds false item) ∙ at.3 in
    let part = mapped_some kinds (slice_get (item_parts item) number) (given ++ rest) same in
    let t = there found.list item part.0 kernel number at.1 part.1 in
    let here : List Spanned = t.first ∷ (t.rest ++ t.behind) in
    let all = subst (λ list. AreTokens bytes 0 list (length bytes)) t.split (answered bytes found read) in
    record {
      place = record { from = t.first.start; to = head_end t.first.end t.rest };
      is = ap (λ items. option_and_then head_place (option_and_then (part_at number) items)) at.1
          ∙ ap (option_and_then head_place) part.1 ∙ ap (λ tokens. head_place tokens) t.is;
      stand = record {
        here = here;
        more = rest ++ kinds t.behind;
        read = tokens_behind bytes 0 (length bytes) t.front (t.rest ++ t.behind) t.first all;
        begins = map-append token_of (t.first ∷ t.rest) t.behind
            ∙ ap (λ tokens. tokens ++ kinds t.behind) (ap kinds (sym t.is) ∙ part.2)
            ∙ append_assoc given rest (kinds t.behind);
      };
    }
