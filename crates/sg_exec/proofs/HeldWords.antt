-- Words that stand for what place registers hold.
use Rattle.std.proofs.Common.{◌≡◌, ℕ, zero, suc, ◌+◌, ◌-◌, ◌*◌, ◌/◌, ◌%◌, ◌^◌, ◌<◌, ◌≤◌, inl, inr, Bool, true, false, cond, ltb, List, [], ◌∷◌, ◌++◌, length, get_or, Option, Some, None, refl, sym, ap, ap₂, ◌∙◌, subst, arith}
use Rattle.std.specs.Prelude.{◌==◌, not, IfSome, option_map, drop, slice_set, if◌then◌else◌}
use Rattle.std.proofs.lemmas.Bool.{cases_eq, ne_eqb, eqb-true}
use Rattle.std.proofs.lemmas.List.{get_or-set_same, get_or-set_other, length-set}
use Rattle.std.proofs.lemmas.Int.{ints}
use Rattle.std.proofs.lemmas.Simd.{length-zip2, get_or-sel_l, get_or-zip2}
use lib.Lanes.{zip2, sel_l}
use lib.ListN.{length-append}
use Rattle.sg_words.specs.declared.operators.Ty.TheVariants as ty
use Rattle.sg_words.specs.Words.{number}
use Rattle.sg_coord.specs.Coord.{is_on_axis}
use Rattle.sg_store.specs.declared.spot.Spot.{Spot}
use Rattle.sg_store.specs.StoreWords.{StoreWords}
use Rattle.sg_store.specs.Spots.{LeadsAlong, IsSpot}
use Rattle.sg_exec.specs.declared.lanes.held.Held.{Held}
use Rattle.sg_exec.specs.declared.lanes.held_row.HeldRow.{HeldRow}
use Rattle.sg_exec.specs.steps.Machines.{IsHeld, AreHeld, StepsDown}
use Rattle.sg_exec.specs.steps.Rows.{item_in, On, IsPut}
use Rattle.sg_exec.specs.steps.Holding.{held_of, held_at, held_rows, FitsWord, AreHeldAt, IsOneOf}
use Rattle.sg_exec.proofs.Rows.{on_or_not}

-- ---- three words

not_zero : (b : Bool) (held : Held) → b ≡ false → (if b then None else Some held) ≡ Some held
not_zero true held is = absurd (cc)
not_zero false held is = refl

pub held_from : (kind part slot : ℕ) → 1 ≤ kind → held_of kind part slot ≡ Some (record { layout = (kind - 1) / 8; spot = record { node = (kind - 1) % 8; part = part; slot = slot } })
held_from kind part slot low =
    not_zero (kind == 0) (record { layout = (kind - 1) / 8; spot = record { node = (kind - 1) % 8; part = part; slot = slot } }) (ne_eqb kind 0 (λ none. absurd (omega (arith, low, none))))

pub held_none : (kind part slot : ℕ) → kind ≡ 0 → None ≡ held_of kind part slot
held_none kind part slot none = sym (ap (λ (n : ℕ). held_of n part slot) none)

-- the words for what is held
pub word_back : (held : Held) → FitsWord held → held_of (held.layout * 8 + held.spot.node + 1) held.spot.part held.spot.slot ≡ Some held
word_back held fits =
    let made : ℕ → ℕ → Option Held = λ l n. Some (record { layout = l; spot = record { node = n; part = held.spot.part; slot = held.spot.slot } }) in
    held_from (held.layout * 8 + held.spot.node + 1) held.spot.part held.spot.slot (omega arith)
    ∙ ap₂ made (omega (arith, fits.node)) (omega (arith, fits.node))

-- the spot below one is after a node more
pub deeper : (store : StoreWords) (spot : Spot) (offset : ℕ) (below : Option Spot) → spot.node < 6 → IsSpot store spot → IfSome below (λ below. (path : List ℕ) → LeadsAlong store spot path → LeadsAlong store below (path ++ offset ∷ []))
    → IfSome below (λ below. below.node < 7)
deeper store spot offset None low is leads = tt
deeper store spot offset (Some below) low is leads = omega (arith, low, is.1.node, (leads is.0 is.1).node, length-append is.0 (offset ∷ []))

pub fits_in : (layout : ℕ) (spot : Option Spot) (held : Option Held) → held ≡ option_map (λ (spot : Spot). record { layout = layout; spot = spot }) spot → layout < 2 ^ 29 → IfSome spot (λ (spot : Spot). spot.node < 7) → IfSome held FitsWord
fits_in layout spot held is low node = subst (λ (it : Option Held). IfSome it FitsWord) (sym is) (by_spot spot node)
  where
    by_spot : (spot : Option Spot) → IfSome spot (λ (spot : Spot). spot.node < 7) → IfSome (option_map (λ (spot : Spot). record { layout = layout; spot = spot }) spot) FitsWord
    by_spot None node = tt
    by_spot (Some spot) node = record { layout = low; node = node }

-- ---- three lists

drop_one : (xs : List ℕ) (i : ℕ) → get_or (drop 1 xs) i 0 ≡ get_or xs (suc i) 0
drop_one [] zero = refl
drop_one [] (suc i) = refl
drop_one (x ∷ xs) i = refl

pub rows_at : (ks ps ss : List ℕ) (i : ℕ) → get_or (held_rows ks ps ss) i None ≡ held_of (get_or ks i 0) (get_or ps i 0) (get_or ss i 0)
rows_at [] ps ss zero = refl
rows_at [] ps ss (suc i) = refl
rows_at (k ∷ ks) ps ss zero = refl
rows_at (k ∷ ks) ps ss (suc i) = rows_at ks (drop 1 ps) (drop 1 ss) i ∙ ap₂ (held_of (get_or ks i 0)) (drop_one ps i) (drop_one ss i)

pub rows_long : (ks ps ss : List ℕ) → length (held_rows ks ps ss) ≡ length ks
rows_long [] ps ss = refl
rows_long (k ∷ ks) ps ss = ap suc (rows_long ks (drop 1 ps) (drop 1 ss))

pub held_same : (k k' p p' s s' : ℕ) → k ≡ k' → p ≡ p' → s ≡ s' → held_of k p s ≡ held_of k' p' s'
held_same k k' p p' s s' one two three = ap (λ (x : ℕ). held_of x p s) one ∙ ap₂ (held_of k') two three

pub long_kinds : (ks ps ss : List ℕ) (rows : List (Option Held)) → held_rows ks ps ss ≡ rows → length ks ≡ length rows
long_kinds ks ps ss rows is = sym (rows_long ks ps ss) ∙ ap length is

-- where a list of kinds is 0, nothing is held
pub rows_none : (ks ps ss : List ℕ) → ((i : ℕ) → get_or ks i 0 ≡ 0) → (i : ℕ) → get_or (held_rows ks ps ss) i None ≡ None
rows_none ks ps ss none i = rows_at ks ps ss i ∙ ap (λ (x : ℕ). held_of x (get_or ps i 0) (get_or ss i 0)) (none i)

-- the same words are the same held
pub rows_same : (ks ks' ps ps' ss ss' : List ℕ) → ((i : ℕ) → get_or ks' i 0 ≡ get_or ks i 0) → ((i : ℕ) → get_or ps' i 0 ≡ get_or ps i 0) → ((i : ℕ) → get_or ss' i 0 ≡ get_or ss i 0)
    → (i : ℕ) → get_or (held_rows ks' ps' ss') i None ≡ get_or (held_rows ks ps ss) i None
rows_same ks ks' ps ps' ss ss' one two three i =
    rows_at ks' ps' ss' i ∙ held_same (get_or ks' i 0) (get_or ks i 0) (get_or ps' i 0) (get_or ps i 0) (get_or ss' i 0) (get_or ss i 0) (one i) (two i) (three i) ∙ sym (rows_at ks ps ss i)

-- a row in three lists
pub row_at : (ks ps ss : List ℕ) (row : HeldRow) (place : ℕ) → ((k : ℕ) → k < 32 → get_or row.kinds k 0 ≡ item_in ks 0 k place) → ((k : ℕ) → k < 32 → get_or row.parts k 0 ≡ item_in ps 0 k place)
    → ((k : ℕ) → k < 32 → get_or row.slots k 0 ≡ item_in ss 0 k place) → (k : ℕ) → k < 32 → held_at row k ≡ item_in (held_rows ks ps ss) None k place
row_at ks ps ss row place one two three k small =
    held_same (get_or row.kinds k 0) (item_in ks 0 k place) (get_or row.parts k 0) (item_in ps 0 k place) (get_or row.slots k 0) (item_in ss 0 k place) (one k small) (two k small) (three k small)
    ∙ sym (rows_at ks ps ss (place * 32 + k))

-- three rows of words that were put are a row of what is held
pub rows_put : (row : HeldRow) (on : ℕ → Type 0) (to : ℕ) (ks ks' ps ps' ss ss' : List ℕ) → IsPut (λ k word. word ≡ get_or row.kinds k 0) on to 0 ks ks' → IsPut (λ k word. word ≡ get_or row.parts k 0) on to 0 ps ps'
    → IsPut (λ k word. word ≡ get_or row.slots k 0) on to 0 ss ss' → IsPut (λ k held. held ≡ held_at row k) on to None (held_rows ks ps ss) (held_rows ks' ps' ss')
rows_put row on to ks ks' ps ps' ss ss' one two three = record {
  long = rows_long ks' ps' ss' ∙ one.long ∙ sym (rows_long ks ps ss);
  there = λ k small is.
      rows_at ks' ps' ss' (to * 32 + k)
      ∙ held_same (item_in ks' 0 k to) (get_or row.kinds k 0) (item_in ps' 0 k to) (get_or row.parts k 0) (item_in ss' 0 k to) (get_or row.slots k 0)
      (one.there k small is) (two.there k small is) (three.there k small is);
  others = λ k number small other.
      rows_at ks' ps' ss' (number * 32 + k)
      ∙ held_same (item_in ks' 0 k number) (item_in ks 0 k number) (item_in ps' 0 k number) (item_in ps 0 k number) (item_in ss' 0 k number) (item_in ss 0 k number)
      (one.others k number small other) (two.others k number small other) (three.others k number small other)
      ∙ sym (rows_at ks ps ss (number * 32 + k));
}

-- ---- one row

-- lanes chosen by a test
pub select_at : (t : ℕ → ℕ → Bool) (xs ys ps qs : List ℕ) (k : ℕ) → k < 32 → length xs ≡ 32 → length ys ≡ 32 → length ps ≡ 32 → length qs ≡ 32
    → get_or (sel_l {A = ℕ} (zip2 t xs ys) ps qs) k 0 ≡ cond (t (get_or xs k 0) (get_or ys k 0)) (get_or ps k 0) (get_or qs k 0)
select_at t xs ys ps qs k small a b c d =
    let long : length (zip2 {C = Bool} t xs ys) ≡ length xs = length-zip2 t xs ys (omega (arith, a, b)) in
    get_or-sel_l (zip2 {C = Bool} t xs ys) ps qs k 0 (omega (arith, small, a, long)) (omega (arith, small, c)) (omega (arith, small, d))
    ∙ ap (λ (m : Bool). cond m (get_or ps k 0) (get_or qs k 0)) (get_or-zip2 t xs ys k 0 0 false (omega (arith, small, a)) (omega (arith, small, b)))

-- as a word, a number from 0 to below an extent is below it, and no other is
pub axis_low : (extent word : ℕ) → extent < 2 ^ 31 → word < 2 ^ 32 → ltb word extent ≡ is_on_axis extent (number ty.I32 word)
axis_low extent word low small = grind (arith, ints)

pub axis_high : (extent word : ℕ) → 2 ^ 31 ≤ extent → word < 2 ^ 32 → ltb word (2 ^ 31) ≡ is_on_axis extent (number ty.I32 word)
axis_high extent word high small = grind (arith, ints)

-- kinds by a test
pub kind_if : (b : Bool) (row made : HeldRow) (k : ℕ) → get_or made.kinds k 0 ≡ (if b then get_or row.kinds k 0 else 0) → made.parts ≡ row.parts → made.slots ≡ row.slots → held_at made k ≡ (if b then held_at row k else None)
kind_if true row made k kind part slot = held_same (get_or made.kinds k 0) (get_or row.kinds k 0) (get_or made.parts k 0) (get_or row.parts k 0) (get_or made.slots k 0) (get_or row.slots k 0) kind (ap (λ xs. get_or xs k 0) part) (ap (λ xs. get_or xs k 0) slot)
kind_if false row made k kind part slot = ap (λ (x : ℕ). held_of x (get_or made.parts k 0) (get_or made.slots k 0)) kind

pub kept_on : (b : Bool) (row made : HeldRow) (k : ℕ) → get_or made.kinds k 0 ≡ (if b then 0 else get_or row.kinds k 0) → made.parts ≡ row.parts → made.slots ≡ row.slots → not b ≡ true → held_at made k ≡ held_at row k
kept_on true row made k kind part slot on = absurd (cc)
kept_on false row made k kind part slot on = held_same (get_or made.kinds k 0) (get_or row.kinds k 0) (get_or made.parts k 0) (get_or row.parts k 0) (get_or made.slots k 0) (get_or row.slots k 0) kind (ap (λ xs. get_or xs k 0) part) (ap (λ xs. get_or xs k 0) slot)

pub kept_off : (b : Bool) (row made : HeldRow) (k : ℕ) → get_or made.kinds k 0 ≡ (if b then 0 else get_or row.kinds k 0) → (not b ≡ true → ⊥) → held_at made k ≡ None
kept_off true row made k kind off = ap (λ (x : ℕ). held_of x (get_or made.parts k 0) (get_or made.slots k 0)) kind
kept_off false row made k kind off = absurd (off refl)

-- where only some columns are kept, each is still one of a store
pub held_some : (stores : List StoreWords) (row here : HeldRow) (lanes : List ℕ) → AreHeldAt stores row → ((k : ℕ) → k < 32 → On lanes k → held_at here k ≡ held_at row k) → ((k : ℕ) → k < 32 → (On lanes k → ⊥) → held_at here k ≡ None) → AreHeldAt stores here
held_some stores row here lanes are same none k small = elim (on_or_not lanes k) [
  | inl on ↦ subst (λ (held : Option Held). IfSome held (IsHeld stores)) (sym (same k small on)) (are k small)
  | inr off ↦ subst (λ (held : Option Held). IfSome held (IsHeld stores)) (sym (none k small off)) tt
]

-- a row of registers of which each holds one of a store
pub row_held : (stores : List StoreWords) (list : List (Option Held)) (row : HeldRow) (place : ℕ) → AreHeld stores list → ((k : ℕ) → k < 32 → held_at row k ≡ item_in list None k place) → AreHeldAt stores row
row_held stores list row place are same k small = subst (λ (held : Option Held). IfSome held (IsHeld stores)) (sym (same k small)) (are (place * 32 + k))

-- what is held where a check passes, in one column
pub check_at : (extent : ℕ) (held made row item : Option Held) (word other : ℕ) → held ≡ made → made ≡ (if is_on_axis extent (number ty.I32 word) then row else None) → word ≡ other → row ≡ item
    → held ≡ (if is_on_axis extent (number ty.I32 other) then item else None)
check_at extent held made row item word other is made_is same row_is =
    is ∙ made_is ∙ ap₂ (λ (w : ℕ) (h : Option Held). if is_on_axis extent (number ty.I32 w) then h else None) same row_is

-- one step down, in one column
pub step_at : (stores : List StoreWords) (node : ℕ) (held made row item : Option Held) (word other : ℕ) → held ≡ made → word ≡ other → row ≡ item → StepsDown stores node word row made → StepsDown stores node other item held
step_at stores node held made row item word other is same row_is steps =
    subst (λ (h : Option Held). StepsDown stores node other item h) (sym is)
    (subst (λ (h : Option Held). StepsDown stores node other h made) row_is
    (subst (λ (w : ℕ). StepsDown stores node w row made) same steps))

-- the word that all are which aren't 0
pub one_from : (b : Bool) (word one : ℕ) → (word == 0) ≡ b → (if b then one else word) ≡ one → IsOneOf word one
one_from true word one is same isnt = absurd (isnt (eqb-true word 0 is))
one_from false word one is same isnt = same

-- each word is 0 or the one that all are
pub one_at : (one : Option ℕ) (kinds : List ℕ) (k : ℕ) → k < 32 → IfSome one (λ (it : ℕ). (k : ℕ) → k < 32 → IsOneOf (get_or kinds k 0) it) → IfSome one (IsOneOf (get_or kinds k 0))
one_at None kinds k small all = tt
one_at (Some it) kinds k small all = all k small

-- ---- three rows made one after the other

-- of what three rows hold before a number something holds
pub record AreThree (Holds : ℕ → Option Held → Type 0) (at : ℕ) (ks ps ss : List ℕ) : Type 0 where
  pub kinds : length ks ≡ 32
  pub parts : length ps ≡ 32
  pub slots : length ss ≡ 32
  pub each : (k : ℕ) → k < at → Holds k (held_of (get_or ks k 0) (get_or ps k 0) (get_or ss k 0))

pub three_none : (Holds : ℕ → Option Held → Type 0) (ks ps ss : List ℕ) → length ks ≡ 32 → length ps ≡ 32 → length ss ≡ 32 → AreThree Holds 0 ks ps ss
three_none Holds ks ps ss a b c = record { kinds = a; parts = b; slots = c; each = λ k below. absurd (omega (arith, below)) }

set_now : (xs : List ℕ) (k at x : ℕ) → k ≡ at → at < length xs → get_or (slice_set xs at x) k 0 ≡ x
set_now xs k at x same below = ap (λ (n : ℕ). get_or (slice_set xs at x) n 0) same ∙ get_or-set_same xs at x 0 below

pub three_more : (Holds : ℕ → Option Held → Type 0) (at : ℕ) (ks ps ss : List ℕ) (kind part slot : ℕ) → at < 32 → AreThree Holds at ks ps ss → Holds at (held_of kind part slot)
    → AreThree Holds (at + 1) (slice_set ks at kind) (slice_set ps at part) (slice_set ss at slot)
three_more Holds at ks ps ss kind part slot small so is = record {
  kinds = length-set ks at kind ∙ so.kinds;
  parts = length-set ps at part ∙ so.parts;
  slots = length-set ss at slot ∙ so.slots;
  each = λ k below. elim (cases_eq k at) [
    | inl same ↦
        subst (Holds k)
        (sym (held_same (get_or (slice_set ks at kind) k 0) kind (get_or (slice_set ps at part) k 0) part (get_or (slice_set ss at slot) k 0) slot
        (set_now ks k at kind same (omega (arith, small, so.kinds))) (set_now ps k at part same (omega (arith, small, so.parts))) (set_now ss k at slot same (omega (arith, small, so.slots)))))
        (subst (λ (n : ℕ). Holds n (held_of kind part slot)) (sym same) is)
    | inr other ↦
        subst (Holds k)
        (sym (held_same (get_or (slice_set ks at kind) k 0) (get_or ks k 0) (get_or (slice_set ps at part) k 0) (get_or ps k 0) (get_or (slice_set ss at slot) k 0) (get_or ss k 0)
        (get_or-set_other ks at k kind 0 other) (get_or-set_other ps at k part 0 other) (get_or-set_other ss at k slot 0 other)))
        (so.each k (omega (arith, below, other)))
  ];
}
