-- The faults decide which programs have tables, and a fault is that of the first item with one.
use Rattle.std.specs.Prelude.{◌≡◌, refl, ◌⊎◌, ℕ, ◌+◌, ◌<◌, zero, suc, List, [], ◌∷◌, take, fold, slice_get, Option, Some, None, Result, Ok, Err}
use Rattle.std.proofs.Common.{sym, ap, ◌∙◌, subst, arith, inl, inr}
use Rattle.sg_ast.specs.declared.program.Item.{Item}
use Rattle.sg_ast.specs.declared.program.Program.{Program}
use Rattle.sg_names.specs.declared.fault.NameFault.{NameFault}
use Rattle.sg_names.specs.Tables.{Tables, no_tables}
use Rattle.sg_names.specs.Declares.{commands_in, declare}
use Rattle.sg_names.specs.Names.{fault_in, tables_from, tables_of}
use Rattle.sg_words.specs.Results.{fault_or}
use Rattle.sg_names.specs.Laws.{item_fault, AcceptedIsFaultless, RefusedIsFirst}

-- what is wrong with an item, where some items came before the list
abbrev fault_from : Tables → ℕ → ℕ → List Item → ℕ → Item → Option NameFault
fault_from before commands number items place given =
    fault_in (fold declare before (take place items)) (fold (λ n i. n + commands_in i) commands (take place items)) (number + place) given

fault_first : (before : Tables) (commands number : ℕ) (first : Item) (items : List Item)
    → fault_from before commands number (first ∷ items) 0 first ≡ fault_in before commands number first
fault_first before commands number first items =
    let same : number + 0 ≡ number = omega arith in ap (λ n. fault_in before commands n first) same

fault_later : (before : Tables) (commands number : ℕ) (first : Item) (items : List Item) (place : ℕ) (given : Item)
    → fault_from before commands number (first ∷ items) (suc place) given
    ≡ fault_from (declare before first) (commands + commands_in first) (suc number) items place given
fault_later before commands number first items place given =
    let same : number + suc place ≡ suc number + place = omega arith in
    ap (λ n. fault_in (fold declare (declare before first) (take place items)) (fold (λ n i. n + commands_in i) (commands + commands_in first) (take place items)) n given) same

abbrev NoneFrom : Tables → ℕ → ℕ → List Item → Type 0
NoneFrom before commands number items =
    (place : ℕ) (given : Item) → slice_get items place ≡ Some given → fault_from before commands number items place given ≡ None

abbrev NoneTo : Tables → ℕ → ℕ → List Item → ℕ → Type 0
NoneTo before commands number items end =
    (place : ℕ) (given : Item) → place < end → slice_get items place ≡ Some given → fault_from before commands number items place given ≡ None

pub ok_parts : (fault : Option NameFault) (after : Result Tables NameFault) (tables : Tables) → fault_or fault after ≡ Ok tables → (fault ≡ None) × (after ≡ Ok tables)
ok_parts (Some fault) after tables e = absurd (cc)
ok_parts None after tables e = (refl, e)

err_parts : (first : Option NameFault) (after : Result Tables NameFault) (fault : NameFault) → fault_or first after ≡ Err fault → (first ≡ Some fault) ⊎ ((first ≡ None) × (after ≡ Err fault))
err_parts (Some other) after fault e = let same : Some other ≡ Some fault = cc in inl same
err_parts None after fault e = inr (refl, e)

pub same_tables : (r : Result Tables NameFault) (a b : Tables) → r ≡ Ok a → r ≡ Ok b → a ≡ b
same_tables r a b left right = cc

same_item : (a b : Item) → Some a ≡ Some b → a ≡ b
same_item a b e = cc

none_first : (before : Tables) (commands number : ℕ) (first : Item) (items : List Item) (given : Item) → Some first ≡ Some given
    → fault_in before commands number first ≡ None → fault_from before commands number (first ∷ items) 0 given ≡ None
none_first before commands number first items given there none =
    subst (λ x. fault_from before commands number (first ∷ items) 0 x ≡ None) (same_item first given there) (fault_first before commands number first items ∙ none)

faultless : (before : Tables) (commands number : ℕ) (items : List Item) (tables : Tables) → tables_from before commands number items ≡ Ok tables → NoneFrom before commands number items
faultless before commands number [] tables is place given there = absurd (cc)
faultless before commands number (first ∷ items) tables is zero given there =
    let parts = ok_parts (fault_in before commands number first) (tables_from (declare before first) (commands + commands_in first) (suc number) items) tables is in
    none_first before commands number first items given there parts.0
faultless before commands number (first ∷ items) tables is (suc place) given there =
    let parts = ok_parts (fault_in before commands number first) (tables_from (declare before first) (commands + commands_in first) (suc number) items) tables is in
    fault_later before commands number first items place given
    ∙ faultless (declare before first) (commands + commands_in first) (suc number) items tables parts.1 place given there

are_declared : (before : Tables) (commands number : ℕ) (items : List Item) (tables : Tables) → tables_from before commands number items ≡ Ok tables → tables ≡ fold declare before items
are_declared before commands number [] tables is = sym (same_tables (Ok before) before tables refl is)
are_declared before commands number (first ∷ items) tables is =
    let parts = ok_parts (fault_in before commands number first) (tables_from (declare before first) (commands + commands_in first) (suc number) items) tables is in
    are_declared (declare before first) (commands + commands_in first) (suc number) items tables parts.1

accepted_from : (before : Tables) (commands number : ℕ) (items : List Item) → NoneFrom before commands number items → tables_from before commands number items ≡ Ok (fold declare before items)
accepted_from before commands number [] none = refl
accepted_from before commands number (first ∷ items) none =
    ap (λ o. fault_or o (tables_from (declare before first) (commands + commands_in first) (suc number) items))
    (sym (fault_first before commands number first items) ∙ none 0 first refl)
    ∙ accepted_from (declare before first) (commands + commands_in first) (suc number) items
    (λ place given there. sym (fault_later before commands number first items place given) ∙ none (suc place) given there)

-- the tables of a program are what its items declare
pub tables_are : (program : Program) (tables : Tables) → tables_of program ≡ Ok tables → tables ≡ fold declare no_tables program.items
tables_are program tables is = are_declared no_tables 0 1 program.items tables is

-- of a program the first item has the number 1
one_more : (items : List Item) (place : ℕ) (given : Item) → fault_from no_tables 0 1 items place given ≡ item_fault items place given
one_more items place given =
    let same : 1 + place ≡ suc place = omega arith in
    ap (λ n. fault_in (fold declare no_tables (take place items)) (fold (λ n i. n + commands_in i) 0 (take place items)) n given) same

pub accepted_is_faultless : (program : Program) → AcceptedIsFaultless program
accepted_is_faultless program tables = (
  (λ is. (
    (λ place given there. sym (one_more program.items place given) ∙ faultless no_tables 0 1 program.items tables is place given there),
    tables_are program tables is,
  )),
  (λ both.
      accepted_from no_tables 0 1 program.items (λ place given there. one_more program.items place given ∙ both.0 place given there)
      ∙ ap Ok (sym both.1)),
)

-- the first item of a list with a fault
record IsFound (before : Tables) (commands number : ℕ) (items : List Item) (fault : NameFault) (place : ℕ) (given : Item) : Type 0 where
  there : slice_get items place ≡ Some given
  earlier : NoneTo before commands number items place
  has : fault_from before commands number items place given ≡ Some fault

earlier_more : (before : Tables) (commands number : ℕ) (first : Item) (items : List Item) (end : ℕ) → fault_in before commands number first ≡ None
    → NoneTo (declare before first) (commands + commands_in first) (suc number) items end → NoneTo before commands number (first ∷ items) (suc end)
earlier_more before commands number first items end none rest zero given below there = none_first before commands number first items given there none
earlier_more before commands number first items end none rest (suc place) given below there =
    fault_later before commands number first items place given ∙ rest place given (omega arith) there

found : (before : Tables) (commands number : ℕ) (items : List Item) (fault : NameFault) → tables_from before commands number items ≡ Err fault
    → (place : ℕ) × (given : Item) × IsFound before commands number items fault place given
found before commands number [] fault is = absurd (cc)
found before commands number (first ∷ items) fault is =
    elim (err_parts (fault_in before commands number first) (tables_from (declare before first) (commands + commands_in first) (suc number) items) fault is) [
      | inl here ↦ (
        0,
        first,
        record {
          there = refl;
          earlier = λ place given below there. absurd (omega arith);
          has = fault_first before commands number first items ∙ here;
        },
      )
      | inr rest ↦
          let next = found (declare before first) (commands + commands_in first) (suc number) items fault rest.1 in (
            suc (next.0),
            next.1,
            record {
              there = next.2.there;
              earlier = earlier_more before commands number first items next.0 rest.0 next.2.earlier;
              has = fault_later before commands number first items next.0 next.1 ∙ next.2.has;
            },
          )
    ]

refused_from : (before : Tables) (commands number : ℕ) (items : List Item) (fault : NameFault) (place : ℕ) (given : Item)
    → IsFound before commands number items fault place given → tables_from before commands number items ≡ Err fault
refused_from before commands number [] fault place given is = let there = is.there in absurd (cc)
refused_from before commands number (first ∷ items) fault zero given is =
    let has = subst (λ x. fault_from before commands number (first ∷ items) 0 x ≡ Some fault) (sym (same_item first given is.there)) is.has in
    ap (λ o. fault_or o (tables_from (declare before first) (commands + commands_in first) (suc number) items)) (sym (fault_first before commands number first items) ∙ has)
refused_from before commands number (first ∷ items) fault (suc place) given is =
    let none = sym (fault_first before commands number first items) ∙ is.earlier 0 first (omega arith) refl in
    ap (λ o. fault_or o (tables_from (declare before first) (commands + commands_in first) (suc number) items)) none
    ∙ refused_from (declare before first) (commands + commands_in first) (suc number) items fault place given (record {
      there = is.there;
      earlier = λ k other below there. sym (fault_later before commands number first items k other) ∙ is.earlier (suc k) other (omega arith) there;
      has = sym (fault_later before commands number first items place given) ∙ is.has;
    })

pub refused_is_first : (program : Program) → RefusedIsFirst program
refused_is_first program fault = (
  (λ is.
      let first = found no_tables 0 1 program.items fault is in (
        first.0,
        first.1,
        record {
          there = first.2.there;
          before = λ place given below there. sym (one_more program.items place given) ∙ first.2.earlier place given below there;
          has = sym (one_more program.items first.0 first.1) ∙ first.2.has;
        },
      )),
  (λ first.
      refused_from no_tables 0 1 program.items fault first.0 first.1 (record {
        there = first.2.there;
        earlier = λ place given below there. one_more program.items place given ∙ first.2.before place given below there;
        has = one_more program.items first.0 first.1 ∙ first.2.has;
      })),
)
