-- What `program_of` means, in words of the grammar alone.
use Rattle.std.specs.Prelude.{◌≡◌, refl, ℕ, ◌+◌, Bool, true, false, List, [], ◌∷◌, ◌++◌, map, length, take, drop, Option, Some, None, Result, Ok, Err}
use Rattle.std.specs.List.{AllByRecursion, list_all}
use Rattle.std.proofs.Common.{sym, ◌∙◌, ap, arith, append_assoc, append-nil, take-append-drop}
use Rattle.std.proofs.lemmas.Bool.{and_parts, and_from}
use Rattle.sg_ast.specs.declared.token.Token.{Token}
use Rattle.sg_ast.specs.declared.token.Spanned.{Spanned}
use Rattle.sg_ast.specs.declared.program.Item.{Item}
use Rattle.sg_ast.specs.declared.program.Program.{Program}
use Rattle.sg_ast.specs.Stmt.{joined_lists}
use Rattle.sg_ast.specs.Program.{item_tokens, program_tokens}
use Rattle.sg_ast.specs.Grammar.{is_item}
use Rattle.sg_ast.specs.Items.{ends_item, open_after, in_front, cut_by, items_of, first_line, item_lines}
use Rattle.sg_ast.proofs.Uses.{cut_by-item}
use Rattle.sg_parser.specs.declared.program.ParseFault.{ParseFault}
use Rattle.sg_parser.specs.declared.program.ParseFault.TheVariants as fault
use Rattle.sg_ast.specs.Items.{kinds}
use Rattle.sg_parser.specs.Parsed.{item_of, item_or_fault, program_from}
use Rattle.sg_parser.specs.Laws.{SpellsItem, ParsedIsSpelled, SpelledIsParsed, FirstFaultIsNamed, TreeIsOne}
use Rattle.sg_parser.proofs.ParsedLemmas.{token_of, spelled_is, is_spelled, kinds-take}

joined-in_front : (ends : Bool) (x : Spanned) (cuts : List (List Spanned)) → joined_lists (map kinds (in_front ends x cuts)) ≡ x.token ∷ joined_lists (map kinds cuts)
joined-in_front true x cuts = refl
joined-in_front false x [] = refl
joined-in_front false x (cut ∷ cuts) = refl

joined-cuts : (braces : ℕ) (xs : List Spanned) → joined_lists (map kinds (cut_by token_of braces xs)) ≡ kinds xs
joined-cuts braces [] = refl
joined-cuts braces (x ∷ xs) = joined-in_front (ends_item braces x.token) x (cut_by token_of (open_after braces x.token) xs) ∙ ap (λ k. x.token ∷ k) (joined-cuts (open_after braces x.token) xs)

-- what was accepted from some cuts on
record Accepted (items : List Item) (lines : List ℕ) (cuts : List (List Spanned)) (program : Program) : Type 0 where
  more : List Item
  all : program.items ≡ items ++ more
  places : program.lines ≡ lines ++ map first_line cuts
  good : list_all is_item more ≡ true
  parts : joined_lists (map item_tokens more) ≡ joined_lists (map kinds cuts)

same_ok : (a b : Program) → ◌≡◌ {A = Result Program ParseFault} (Ok a) (Ok b) → a ≡ b
same_ok a b h = cc

on_found : (number : ℕ) (items : List Item) (lines : List ℕ) (cuts : List (List Spanned)) (program : Program) → program_from number items lines cuts ≡ Ok program → Accepted items lines cuts program
unfolding program_from
on_found number items lines [] program h =
    let same = same_ok (record { items = items; lines = lines }) program h in
    record { more = []; all = sym (ap (λ (p : Program). p.items) same) ∙ sym (append-nil items); places = sym (ap (λ (p : Program). p.lines) same) ∙ sym (append-nil lines); good = refl; parts = refl }
on_found number items lines (cut ∷ cuts) program h = go (item_of cut) refl h (λ item. on_found (number + 1) (items ++ item ∷ []) (lines ++ first_line cut ∷ []) cuts program) where
  go : (o : Option Item) → item_of cut ≡ o → item_or_fault number (first_line cut) (λ item. program_from (number + 1) (items ++ item ∷ []) (lines ++ first_line cut ∷ []) cuts) o ≡ Ok program
      → ((item : Item) → program_from (number + 1) (items ++ item ∷ []) (lines ++ first_line cut ∷ []) cuts ≡ Ok program → Accepted (items ++ item ∷ []) (lines ++ first_line cut ∷ []) cuts program)
      → Accepted items lines (cut ∷ cuts) program
  go None is h next = absurd (cc)
  go (Some item) is h next =
      let a = next item h in
      let p = spelled_is cut item is in
      record {
        more = item ∷ a.more;
        all = a.all ∙ append_assoc items (item ∷ []) a.more;
        places = a.places ∙ append_assoc lines (first_line cut ∷ []) (map first_line cuts);
        good = and_from (is_item item) (list_all is_item a.more) p.0 a.good;
        parts = ap (λ k. k ++ joined_lists (map item_tokens a.more)) (sym p.1) ∙ ap (λ k. kinds cut ++ k) a.parts;
      }

pub parsed_spelled : ParsedIsSpelled
parsed_spelled tokens program h =
    let a = on_found 1 [] [] (items_of tokens) program h in
    record {
      of_grammar = ap (λ items. list_all is_item items) a.all ∙ a.good;
      tokens_are = ap (λ items. joined_lists (map item_tokens items)) a.all ∙ a.parts ∙ joined-cuts 0 tokens;
      lines_are = a.places;
    }

kinds-drop : (n : ℕ) (xs : List Spanned) (front rest : List Token) → kinds xs ≡ front ++ rest → length front ≡ n → kinds (drop n xs) ≡ rest
kinds-drop n xs [] rest h is = rw (← is) h
kinds-drop n [] (f ∷ front) rest h is = absurd (cc)
kinds-drop n (x ∷ xs) (f ∷ front) rest h is =
    let same : x.token ∷ kinds xs ≡ f ∷ (front ++ rest) = h in
    let tail : kinds xs ≡ front ++ rest = cc in
    rw (← is) (kinds-drop (length front) xs front rest tail refl)

-- an accepted program
abbrev accepted : List Item → List ℕ → Result Program ParseFault
accepted items lines = Ok (record { items = items; lines = lines })

only_from : (more : List Item) (tokens : List Spanned) → list_all is_item more ≡ true → kinds tokens ≡ joined_lists (map item_tokens more) → (number : ℕ) (items : List Item) (lines : List ℕ)
    → program_from number items lines (items_of tokens) ≡ Ok (record { items = items ++ more; lines = lines ++ item_lines tokens })
unfolding program_from
only_from [] [] good h number items lines = rw (append-nil items, append-nil lines) refl
only_from [] (x ∷ xs) good h number items lines = absurd (cc)
only_from (a ∷ more) tokens good h number items lines =
    let p = and_parts (is_item a) (list_all is_item more) good in
    let n : ℕ = length (item_tokens a) in
    let front : List Spanned = take n tokens in
    let rest : List Spanned = drop n tokens in
    let is : kinds front ≡ item_tokens a = kinds-take n tokens (item_tokens a) (joined_lists (map item_tokens more)) h refl in
    let left : kinds rest ≡ joined_lists (map item_tokens more) = kinds-drop n tokens (item_tokens a) (joined_lists (map item_tokens more)) h refl in
    let cut : items_of tokens ≡ front ∷ items_of rest = ap items_of (sym (take-append-drop n tokens)) ∙ cut_by-item token_of a front rest p.0 is in
    let next = only_from more rest p.1 left (number + 1) (items ++ a ∷ []) (lines ++ first_line front ∷ []) in
    let spells = is_spelled front a p.0 is in
    ap (program_from number items lines) cut
    ∙ ap (item_or_fault number (first_line front) (λ item. program_from (number + 1) (items ++ item ∷ []) (lines ++ first_line front ∷ []) (items_of rest))) spells
    ∙ next
    ∙ ap (λ (all : List Item). accepted all ((lines ++ first_line front ∷ []) ++ item_lines rest)) (append_assoc items (a ∷ []) more)
    ∙ ap (λ (places : List ℕ). accepted (items ++ a ∷ more) places) (append_assoc lines (first_line front ∷ []) (item_lines rest) ∙ ap (λ cuts. lines ++ map first_line cuts) (sym cut))

pub spelled_parsed : SpelledIsParsed
spelled_parsed tokens program spells =
    only_from program.items tokens spells.of_grammar (sym spells.tokens_are) 1 [] []
    ∙ ap (λ (lines : List ℕ). accepted program.items lines) (sym spells.lines_are)

-- the first that spells none among some cuts
record Faulty (number : ℕ) (cuts : List (List Spanned)) (at line : ℕ) : Type 0 where
  before : List (List Spanned)
  here : List Spanned
  behind : List (List Spanned)
  parts : cuts ≡ before ++ here ∷ behind
  count : length before + number ≡ at
  place : first_line here ≡ line
  good : AllByRecursion SpellsItem before
  none : SpellsItem here → ⊥

same_fault : (a b : ParseFault) → ◌≡◌ {A = Result Program ParseFault} (Err a) (Err b) → a ≡ b
same_fault a b h = cc

on_fault : (number : ℕ) (items : List Item) (lines : List ℕ) (cuts : List (List Spanned)) (at line : ℕ) → program_from number items lines cuts ≡ Err (fault.Syntax at line) → Faulty number cuts at line
unfolding program_from
on_fault number items lines [] at line h = absurd (cc)
on_fault number items lines (cut ∷ cuts) at line h = go (item_of cut) refl h (λ item. on_fault (number + 1) (items ++ item ∷ []) (lines ++ first_line cut ∷ []) cuts at line) where
  go : (o : Option Item) → item_of cut ≡ o → item_or_fault number (first_line cut) (λ item. program_from (number + 1) (items ++ item ∷ []) (lines ++ first_line cut ∷ []) cuts) o ≡ Err (fault.Syntax at line)
      → ((item : Item) → program_from (number + 1) (items ++ item ∷ []) (lines ++ first_line cut ∷ []) cuts ≡ Err (fault.Syntax at line) → Faulty (number + 1) cuts at line)
      → Faulty number (cut ∷ cuts) at line
  go None is h next =
      let same = same_fault (fault.Syntax number (first_line cut)) (fault.Syntax at line) h in
      let numbers : number ≡ at = cc in
      let places : first_line cut ≡ line = cc in
      record {
        before = [];
        here = cut;
        behind = cuts;
        parts = refl;
        count = omega arith;
        place = places;
        good = tt;
        none = λ spells. let yields = is_spelled cut spells.0 spells.1 spells.2 in absurd (cc);
      }
  go (Some item) is h next =
      let f = next item h in
      let p = spelled_is cut item is in
      let count = f.count in
      record {
        before = cut ∷ f.before;
        here = f.here;
        behind = f.behind;
        parts = ap (λ k. cut ∷ k) f.parts;
        count = omega arith;
        place = f.place;
        good = ((item, p.0, p.1), f.good);
        none = f.none;
      }

pub fault_named : FirstFaultIsNamed
fault_named tokens number line h =
    let f = on_fault 1 [] [] (items_of tokens) number line h in
    record { before = f.before; here = f.here; behind = f.behind; parts = f.parts; count = f.count; at = f.place; spelled = f.good; none = f.none }

-- tokens at no place
abbrev at_no_place : List Token → List Spanned
at_no_place [] = []
at_no_place (token ∷ tokens) = record { token = token; start = 0; end = 0; line = 0 } ∷ at_no_place tokens

kinds-at_no_place : (tokens : List Token) → kinds (at_no_place tokens) ≡ tokens
kinds-at_no_place [] = refl
kinds-at_no_place (token ∷ tokens) = ap (λ k. token ∷ k) (kinds-at_no_place tokens)

pub tree_one : TreeIsOne
tree_one a b good other same =
    let tokens : List Spanned = at_no_place (program_tokens a) in
    let first = only_from a.items tokens good (kinds-at_no_place (program_tokens a)) 1 [] [] in
    let second = only_from b.items tokens other (kinds-at_no_place (program_tokens a) ∙ same) 1 [] [] in
    ap (λ (p : Program). p.items) (same_ok (record { items = a.items; lines = item_lines tokens }) (record { items = b.items; lines = item_lines tokens }) (sym first ∙ second))
