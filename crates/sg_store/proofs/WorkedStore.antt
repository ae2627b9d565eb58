-- Worked: a well-formed store, and the flat layout that it stands for; a store that isn't well-formed, and one that stands for another layout.
use Rattle.std.proofs.Common.{◌≡◌, ℕ, zero, suc, ◌<◌, ◌≢◌, ◌&&◌, ◌==◌, Bool, true, false, ℤ, pos, negsuc, List, [], ◌∷◌, Some, refl, sym, ap, ◌∙◌, subst, lit<, lit≤, zero-add, arith}
use Rattle.std.specs.Prelude.{slice_index, nat_le, cond, ◌+◌, Contains}
use Rattle.std.proofs.lemmas.Bool.Decides.{nat_tests}
use Rattle.std.proofs.lemmas.Option.{none-some, same_Some}
use Rattle.std.proofs.lemmas.List.Elements.{All-nil, All-cons}
use Rattle.sg_coord.specs.declared.coord.Coord.{Coord}
use Rattle.sg_coord.specs.Bounds.{Bounds}
use Rattle.sg_coord.specs.Coord.{is_inside, is_on_axis, count_of, point_at}
use Rattle.sg_coord.proofs.Uses.{same_parts}
use Rattle.sg_layout.specs.Axes.{bounds_of_shape}
use Rattle.sg_layout.specs.Examples.{at1, line_of_four}
use Rattle.sg_flat.specs.declared.state.FlatLayout.{FlatLayout}
use Rattle.sg_flat.specs.State.{IsFlatField, IsFlatLayout, value_at}
use Rattle.sg_pool.specs.Numbers.{IsParted}
use Rattle.sg_store.specs.declared.node.NodeWords.{NodeWords}
use Rattle.sg_store.specs.StoreWords.{StoreWords, word_in}
use Rattle.sg_store.specs.Walks.{cell_in}
use Rattle.sg_store.specs.WellFormed.{IsWellFormed, IsFieldRow, IsReached}
use Rattle.sg_store.specs.StandsFor.{StandsFor, HasLiveSlots, HasValues}
use Rattle.sg_store.specs.Examples.{no_words, no_numbers}

-- a store of dense(i: 4); with this row of values
abbrev line_with : List ℕ → StoreWords
line_with row = record { shape = line_of_four; nodes = no_words ∷ []; fields = row ∷ [] }

abbrev row : List ℕ
row = 0 ∷ 0 ∷ 7 ∷ 0 ∷ []

abbrev line : StoreWords
line = line_with row

abbrev bounds : Bounds
bounds = bounds_of_shape line_of_four

-- each cell is reached along the slot of its number
reached : (cell : ℕ) → cell < 4 → IsReached line cell
reached cell below = record { slot = cell ∷ []; is_slot = (below, tt); leads = ap (λ (n : ℕ). Some n) (zero-add cell) }

row_fits : IsFieldRow line row
row_fits = record { cells = refl; only_reached = only }
  where
    only : (cell : ℕ) → slice_index row cell ≢ 0 → IsReached line cell
    only zero full = reached 0 (lit< tt)
    only (suc zero) full = reached 1 (lit< tt)
    only (suc (suc zero)) full = reached 2 (lit< tt)
    only (suc (suc (suc zero))) full = reached 3 (lit< tt)
    only (suc (suc (suc (suc cell)))) full = absurd (full refl)

at_the_mark : (number : ℕ) → nat_le 0 number ≡ true
at_the_mark number = grind (arith, nat_tests)

no_numbers_are_parted : IsParted no_numbers
no_numbers_are_parted = record { within = lit≤ tt; one_of = λ number. ap (λ (b : Bool). 0 + cond b 1 0) (at_the_mark number) }

pub line_is_well_formed : IsWellFormed line
line_is_well_formed = record {
  accepted = record { declared = refl; keeps_rules = refl };
  nodes_fit = (lit≤ tt, tt, tt, λ _. refl);
  within_caps = (tt, tt);
  numbers_parted = All-cons (λ (kept : NodeWords). IsParted kept.pool) no_words [] no_numbers_are_parted (All-nil (λ (kept : NodeWords). IsParted kept.pool));
  few_words = lit≤ tt;
  few_cells = lit≤ tt;
  field_count = refl;
  rows_fit = All-cons (IsFieldRow line) row [] row_fits (All-nil (IsFieldRow line));
}

-- a row of three words is no row of four cells
pub short_row_is_not : IsWellFormed (line_with (0 ∷ 0 ∷ 7 ∷ [])) → ⊥
short_row_is_not well =
    let first : IsFieldRow (line_with (0 ∷ 0 ∷ 7 ∷ [])) (0 ∷ 0 ∷ 7 ∷ []) = well.rows_fit 0 [] (lit< tt) in
    let same : 3 ≡ 4 = first.cells in
    omega (arith, same)

-- the flat layout: its four points, and 7 at 2
abbrev flat : FlatLayout
flat = record { active = at1 0 ∷ at1 1 ∷ at1 2 ∷ at1 3 ∷ []; fields = ((2, 7) ∷ []) ∷ [] }

words_fit : IsFlatField line_of_four flat.active ((2, 7) ∷ [])
words_fit =
    let P : (ℕ × ℕ) → Type 0 = λ entry. Contains flat.active (point_at bounds entry.0) in
    let here : Contains flat.active (at1 2) = (2, lit< tt, refl) in
    record { canonical = refl; in_range = refl; active_rows = All-cons P (2, 7) [] here (All-nil P) }

line_is_flat : IsFlatLayout line_of_four flat
line_is_flat = record { closed = refl; field_count = refl; fields_fit = All-cons (IsFlatField line_of_four flat.active) ((2, 7) ∷ []) [] words_fit (All-nil (IsFlatField line_of_four flat.active)) }

no_slots : HasLiveSlots line (λ _. flat.active)
no_slots zero slot it = absurd (let first = it.first in omega (arith, first))
no_slots (suc zero) slot it = absurd (it.has_activity refl)
no_slots (suc (suc number)) slot it = absurd (let within = it.within in omega (arith, within))

-- a part that is on an axis is a number below the extent
on_axis : (extent : ℕ) (part : ℤ) → is_on_axis extent part ≡ true → (part ≡ pos (count_of part)) × (count_of part < extent)
on_axis extent (pos k) on = (refl, grind (arith, nat_tests))
on_axis extent (negsuc k) on = let clash : false ≡ true = on in absurd (cc)

all_four : (n a b c : Bool) → (n && a && b && c) ≡ true → (n ≡ true) × (a ≡ true) × (b ≡ true) × (c ≡ true)
all_four true true true true h = (refl, refl, refl, refl)
all_four true true true false h = let clash : false ≡ true = h in absurd (cc)
all_four true true false c h = let clash : false ≡ true = h in absurd (cc)
all_four true false b c h = let clash : false ≡ true = h in absurd (cc)
all_four false a b c h = let clash : false ≡ true = h in absurd (cc)

-- a coordinate inside is one of the four points
is_point : (at : Coord) → is_inside bounds at ≡ true → (at ≡ at1 (count_of at.a)) × (count_of at.a < 4)
is_point at inside =
    let tests = all_four (at.n == 1) (is_on_axis 4 at.a) (is_on_axis 1 at.b) (is_on_axis 1 at.c) inside in
    let axes : (at.n == 1) ≡ true = tests.0 in
    let first = on_axis 4 at.a tests.1 in
    let second = on_axis 1 at.b tests.2 in
    let third = on_axis 1 at.c tests.3 in
    let b_none : count_of at.b ≡ 0 = (let below = second.1 in omega arith) in
    let c_none : count_of at.c ≡ 0 = (let below = third.1 in omega arith) in
    (same_parts at (at1 (count_of at.a)) (grind (arith, nat_tests)) first.0 (second.0 ∙ ap pos b_none) (third.0 ∙ ap pos c_none), first.1)

values_at : (k cell : ℕ) → k < 4 → cell_in line (at1 k) ≡ Some cell → word_in line 0 cell ≡ value_at line_of_four flat 0 (at1 k)
values_at zero cell below there = ap (word_in line 0) (sym (same_Some 0 cell there))
values_at (suc zero) cell below there = ap (word_in line 0) (sym (same_Some 1 cell there))
values_at (suc (suc zero)) cell below there = ap (word_in line 0) (sym (same_Some 2 cell there))
values_at (suc (suc (suc zero))) cell below there = ap (word_in line 0) (sym (same_Some 3 cell there))
values_at (suc (suc (suc (suc k)))) cell below there = absurd (omega (arith, below))

line_has_values : HasValues line flat
line_has_values at cell there zero below = by_test (is_inside bounds at) refl
  where
    by_test : (b : Bool) → is_inside bounds at ≡ b → word_in line 0 cell ≡ value_at line_of_four flat 0 at
    by_test true inside =
        let point = is_point at inside in
        subst (λ (x : Coord). word_in line 0 cell ≡ value_at line_of_four flat 0 x) (sym point.0)
        (values_at (count_of at.a) cell point.1 (subst (λ (x : Coord). cell_in line x ≡ Some cell) point.0 there))
    by_test false outside = absurd (none-some cell (rw outside at there))
line_has_values at cell there (suc place) below = absurd (omega (arith, below))

pub line_stands_for_it : StandsFor line flat
line_stands_for_it = record { is_flat = line_is_flat; live_slots = no_slots; values = line_has_values }

-- with 8 in the cell of 2 it stands for another flat layout
pub eight_does_not : StandsFor (line_with (0 ∷ 0 ∷ 8 ∷ 0 ∷ [])) flat → ⊥
eight_does_not stands = let same : 8 ≡ 7 = stands.values (at1 2) 2 refl 0 (lit< tt) in omega (arith, same)
