-- That the tokens before a place are a front of a file of the grammar.
use Rattle.std.specs.Prelude.{◌≡◌, ◌⊎◌, refl, ℕ, zero, suc, ◌+◌, ◌-◌, ◌<◌, ◌≤◌, Bool, true, IsTrue, IfOk, List, [], ◌∷◌, ◌++◌, length, take, drop, Result, Ok, Err}
use Rattle.std.specs.List.{AllByRecursion, list_all}
use Rattle.std.proofs.Common.{◌∙◌, ap, sym, subst, inl, inr, arith}
use Rattle.std.proofs.lemmas.Bool.{and_from}
use Rattle.std.proofs.lemmas.List.{append_assoc, length-append, map-append, take-append-drop, take-append-le, take_all}
use Rattle.sg_ast.specs.declared.token.Token.{Token}
use Rattle.sg_ast.specs.declared.token.Spanned.{Spanned}
use Rattle.sg_ast.specs.declared.token.Tokens.{Tokens}
use Rattle.sg_ast.specs.declared.program.Item.{Item}
use Rattle.sg_ast.specs.declared.program.Program.{Program}
use Rattle.sg_ast.specs.Stmt.{joined_lists}
use Rattle.sg_ast.specs.Program.{item_tokens}
use Rattle.sg_ast.specs.Grammar.{is_item}
use Rattle.sg_ast.specs.Items.{kinds, items_of}
use Rattle.sg_words.specs.declared.memory.Memory.{Memory}
use Rattle.sg_lexer.specs.declared.fault.LexFault.{LexFault}
use Rattle.sg_lexer.specs.Lexing.{tokens}
use Rattle.sg_parser.specs.Parsed.{program_of}
use Rattle.sg_parser.specs.declared.program.ParseFault.TheVariants as fault
use Rattle.sg_parser.specs.Laws.{Spells, SpellsItem, IsFirstUnspelled, ParsedIsSpelled, FirstFaultIsNamed}
use Rattle.sg_explain.specs.declared.place.Place.{Place}
use Rattle.sg_explain.specs.Fronts.{IsFront, IsReadUpTo, first_place, end_of, items_before}
use Rattle.sg_explain.specs.steps.Certified.{IsCertified, KeepsFronts}
use Rattle.sg_explain.proofs.Bound.{same_ok}
use Rattle.sg_explain.proofs.Joined.{joined_items, joined_append}

abbrev token_of : Spanned → Token
token_of spanned = spanned.token

-- tokens with an ending that is parsed
pub front_of : ParsedIsSpelled → (tokens more : List Spanned) (program : Program) → program_of (tokens ++ more) ≡ Ok program → IsFront (kinds tokens)
front_of spelled tokens more program parsed =
    let spells : Spells (tokens ++ more) program = spelled (tokens ++ more) program parsed in
    record {
      program = program;
      good = spells.of_grammar;
      more = kinds more;
      begins = spells.tokens_are ∙ map-append token_of tokens more;
    }

-- items that spell ones of the grammar
pub front_of_items : (items : List (List Spanned)) → AllByRecursion SpellsItem items → IsFront (kinds (joined_lists items))
front_of_items [] all = record { program = record { items = []; lines = [] }; good = refl; more = []; begins = refl }
front_of_items (tokens ∷ items) all =
    let rest = front_of_items items all.1 in
    let one : (item : Item) × IsTrue (is_item item) × (kinds tokens ≡ item_tokens item) = all.0 in
    let here : Item = one.0 in
    record {
      program = record { items = here ∷ rest.program.items; lines = [] };
      good = and_from (is_item here) (list_all is_item rest.program.items) one.1 rest.good;
      more = rest.more;
      begins = ap (λ more. item_tokens here ++ more) rest.begins
          ∙ ap (λ front. front ++ (kinds (joined_lists items) ++ rest.more)) (sym one.2)
          ∙ sym (append_assoc (kinds tokens) (kinds (joined_lists items)) rest.more)
          ∙ ap (λ front. front ++ rest.more) (sym (map-append token_of tokens (joined_lists items)));
    }

-- ---- the items of a file, one after the other

-- the tokens of a file are those of the items in front, and then the others
before_split : (xs : List Spanned) (number : ℕ) → xs ≡ items_before xs number ++ joined_lists (drop (number - 1) (items_of xs))
before_split xs number =
    sym (joined_items xs) ∙ ap joined_lists (sym (take-append-drop (number - 1) (items_of xs)))
    ∙ joined_append (take (number - 1) (items_of xs)) (drop (number - 1) (items_of xs))

pub before_within : (xs : List Spanned) (number : ℕ) → length (items_before xs number) ≤ length xs
before_within xs number =
    let all : length xs ≡ length (items_before xs number) + length (joined_lists (drop (number - 1) (items_of xs))) =
    ap length (before_split xs number) ∙ length-append (items_before xs number) (joined_lists (drop (number - 1) (items_of xs))) in
    omega (arith, all)

take_front : {A : Type 0} (front back : List A) → take (length front) (front ++ back) ≡ front
take_front [] back = refl
take_front (x ∷ front) back = ap (λ more. x ∷ more) (take_front front back)

before_taken : (xs : List Spanned) (number : ℕ) → take (length (items_before xs number)) xs ≡ items_before xs number
before_taken xs number =
    ap (take (length (items_before xs number))) (before_split xs number)
    ∙ take_front (items_before xs number) (joined_lists (drop (number - 1) (items_of xs)))

-- the items in front of the first that spells none
taken_front : {A : Type 0} (front back : List A) (whole : List A) (n : ℕ) → whole ≡ front ++ back → length front ≡ n → take n whole ≡ front
taken_front front back whole n is long = rw (is, ← long) (take_front front back)

front_before : FirstFaultIsNamed → (xs : List Spanned) (number line : ℕ) → program_of xs ≡ Err (fault.Syntax number line) → IsFront (kinds (items_before xs number))
front_before named xs number line refused =
    let first : IsFirstUnspelled xs number line = named xs number line refused in
    let count : length first.before + 1 ≡ number = first.count in
    let same : take (number - 1) (items_of xs) ≡ first.before =
    taken_front first.before (first.here ∷ first.behind) (items_of xs) (number - 1) first.parts (omega (arith, count)) in
    subst (λ (items : List (List Spanned)). IsFront (kinds (joined_lists items))) (sym same) (front_of_items first.before first.spelled)

-- a longer front has the shorter one in front
take_less : (least last : ℕ) (xs : List Spanned) → least ≤ last → take least (take last xs) ≡ take least xs
take_less zero last xs le = refl
take_less (suc least) zero xs le = absurd (omega (arith, le))
take_less (suc least) (suc last) [] le = refl
take_less (suc least) (suc last) (x ∷ xs) le = ap (λ more. x ∷ more) (take_less least last xs (omega (arith, le)))

longer_split : (xs : List Spanned) (least last : ℕ) → least ≤ last → take last xs ≡ take least xs ++ drop least (take last xs)
longer_split xs least last le =
    sym (take-append-drop least (take last xs)) ∙ ap (λ front. front ++ drop least (take last xs)) (take_less least last xs le)

-- the place behind so many tokens, where some file begins with them
pub read_up_to : FirstFaultIsNamed → (bytes : List ℕ) (found : Tokens) (number line last : ℕ) (place : Place)
    → length (items_before found.list number) ≤ last → KeepsFronts bytes (length (items_before found.list number)) last
    → place ≡ first_place (end_of 0 (take last found.list)) (drop last found.list)
    → tokens bytes ≡ Ok found → program_of found.list ≡ Err (fault.Syntax number line) → IsReadUpTo found.list number place
read_up_to named bytes found number line last place above keeps is read refused =
    let least : ℕ = length (items_before found.list number) in
    let begin : IsFront (kinds (take least found.list)) =
    subst (λ (front : List Spanned). IsFront (kinds front)) (sym (before_taken found.list number)) (front_before named found.list number line refused) in
    record {
      before = take last found.list;
      behind = drop last found.list;
      split = sym (take-append-drop last found.list);
      is = is;
      front = keeps found read begin;
      more = drop least (take last found.list);
      in_item = longer_split found.list least last above
          ∙ ap (λ front. front ++ drop least (take last found.list)) (before_taken found.list number);
    }

-- the same, where the list of the tokens is given
pub syntax_at : FirstFaultIsNamed → (bytes : List ℕ) (list : List Spanned) (number least last : ℕ) (place : Place) → least ≡ length (items_before list number) → least ≤ last
    → KeepsFronts bytes least last → place ≡ first_place (end_of 0 (take last list)) (drop last list) → (found : Tokens) (line : ℕ) → tokens bytes ≡ Ok found → found.list ≡ list
    → program_of list ≡ Err (fault.Syntax number line) → IsReadUpTo list number place
syntax_at named bytes list number least last place count above keeps is found line read same refused =
    subst (λ (xs : List Spanned). IsReadUpTo xs number place) same
    (read_up_to named bytes found number line last place (omega (arith, begin, above)) (subst (λ (n : ℕ). KeepsFronts bytes n last) begin keeps)
    (is ∙ ap (λ (xs : List Spanned). first_place (end_of 0 (take last xs)) (drop last xs)) (sym same)) read (ap program_of same ∙ refused)) where
      begin : least ≡ length (items_before found.list number)
      begin = count ∙ ap (λ (xs : List Spanned). length (items_before xs number)) (sym same)

-- what is tried with an ending is certified
pub certified : (bytes : List ℕ) (taken : ℕ) (given : Tokens) (list : List Spanned) (result : Result Bool Memory) → tokens bytes ≡ Ok given → list ≡ take taken given.list
    → IfOk result (λ found. found ≡ true → IsFront (kinds list)) → IfOk result (λ found. found ≡ true → IsCertified bytes taken)
certified bytes taken given list (Ok test) read is h =
    λ holds found again. subst (λ (xs : List Spanned). IsFront (kinds xs)) (is ∙ ap (λ (t : Tokens). take taken t.list) (same_ok {E = LexFault} given found (sym read ∙ again))) (h holds)
certified bytes taken given list (Err fault) read is h = tt

-- what is certified keeps fronts
pub keeps_certified : (bytes : List ℕ) (least last : ℕ) → IsCertified bytes last → KeepsFronts bytes least last
keeps_certified bytes least last h found read begin = h found read

-- ---- counting the tokens of items

-- an item more
pub counted_more : (left next taken : ℕ) (item rest behind : List Spanned) → left ≡ suc next → items_of rest ≡ item ∷ items_of behind
    → (taken + length item) + length (joined_lists (take next (items_of behind))) ≡ taken + length (joined_lists (take left (items_of rest)))
counted_more left next taken item rest behind same is =
    let long : length (item ++ joined_lists (take next (items_of behind))) ≡ length item + length (joined_lists (take next (items_of behind))) =
    length-append item (joined_lists (take next (items_of behind))) in
    rw (same, is) (omega (arith, long))

-- none are left, or none wanted
counted_all : (left taken whole : ℕ) (rest : List Spanned) → left ≡ 0 → taken + length (joined_lists (take left (items_of rest))) ≡ whole → taken ≡ whole
counted_all left taken whole rest none h =
    let same : taken + 0 ≡ whole = subst (λ (n : ℕ). taken + length (joined_lists (take n (items_of rest))) ≡ whole) none h in
    omega (arith, same)

none_counted : (left taken whole : ℕ) → taken + length (joined_lists (take left (items_of []))) ≡ whole → taken ≡ whole
none_counted zero taken whole h = let same : taken + 0 ≡ whole = h in omega (arith, same)
none_counted (suc left) taken whole h = let same : taken + 0 ≡ whole = h in omega (arith, same)

pub counted_end : (left taken whole : ℕ) (rest : List Spanned) → (left ≡ 0) ⊎ (rest ≡ []) → taken + length (joined_lists (take left (items_of rest))) ≡ whole → taken ≡ whole
counted_end left taken whole rest (inl none) h = counted_all left taken whole rest none h
counted_end left taken whole rest (inr none) h =
    none_counted left taken whole (subst (λ (xs : List Spanned). taken + length (joined_lists (take left (items_of xs))) ≡ whole) none h)

-- ---- leaving out the last tokens

-- one more is left out
pub cut_more : {A : Type 0} (taken : ℕ) (old new whole : List A) (last : A) → old ≡ new ++ last ∷ [] → taken < length old → take taken old ≡ take taken whole
    → take taken new ≡ take taken whole
cut_more taken old new whole last is some h =
    let long : length old ≡ length new + 1 = ap length is ∙ length-append new (last ∷ []) in
    sym (take-append-le taken new (last ∷ []) (omega (arith, long, some))) ∙ ap (take taken) (sym is) ∙ h

-- no more than are wanted are there
pub cut_all : {A : Type 0} (taken : ℕ) (new whole : List A) → length new ≤ taken → take taken new ≡ take taken whole → new ≡ take taken whole
cut_all taken new whole few h = sym (take_all taken new few) ∙ h
