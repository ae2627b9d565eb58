-- Worked equations of what the rules look at. What needs expressions is worked in `Worked` files of proofs/.
use Rattle.std.specs.Prelude.{◌≡◌, ℕ, true, false, List, [], ◌∷◌, map, nat_lt, Some, None, refl}
use Rattle.sg_words.specs.declared.operators.AccOp.TheVariants as acc
use Rattle.sg_words.specs.declared.operators.BinOp.TheVariants as bin
use Rattle.sg_layout.specs.Examples.{at1, at2}
use Rattle.sg_flat.specs.declared.effects.Way.{Way}
use Rattle.sg_flat.specs.declared.effects.Way.TheVariants.{Own, Acc}
use Rattle.sg_flat.specs.declared.effects.Domain.TheVariants.{Walk, Range}
use Rattle.sg_admit.specs.declared.admitted.AdmitFault.TheVariants.{Rule}
use Rattle.sg_admit.specs.declared.ways.FieldWay.{FieldWay}
use Rattle.sg_admit.specs.Limits.{most_box_points}
use Rattle.sg_admit.specs.Slices.{may_activate}
use Rattle.sg_admit.specs.Bounds.{box_size}
use Rattle.sg_admit.specs.Rules.{first_way, has_own, has_acc, writes_layout, is_first, are_names}
use Rattle.sg_admit.specs.Admission.{first_broken}
use Rattle.sg_admit.specs.Neutral.{Guard, no_guard, bin_guard}

-- ---- how fields are written: the field 1 of the layout 0 is accumulated and then own-written, the field 0 of the layout 1 accumulated
abbrev pub field_way : ℕ → ℕ → Way → FieldWay
field_way layout place way = record { layout = layout; place = place; way = way }

abbrev pub three_ways : List FieldWay
three_ways = field_way 0 1 (Acc acc.Add) ∷ field_way 0 1 Own ∷ field_way 1 0 (Acc acc.Min) ∷ []

pub first_of_two : first_way three_ways 0 1 ≡ Some (Acc acc.Add)
first_of_two = refl

pub first_of_the_last : first_way three_ways 1 0 ≡ Some (Acc acc.Min)
first_of_the_last = refl

pub first_of_none : first_way three_ways 0 0 ≡ None
first_of_none = refl

pub own_by_the_second : has_own three_ways 0 1 ≡ true
own_by_the_second = refl

pub not_own : has_own three_ways 1 0 ≡ false
not_own = refl

pub accumulated : has_acc three_ways 1 0 ≡ true
accumulated = refl

pub layout_written : map (writes_layout three_ways) (0 ∷ 1 ∷ 2 ∷ []) ≡ true ∷ true ∷ false ∷ []
layout_written = refl

pub other_operator : is_first (Some (Acc acc.Add)) (Acc acc.Min) ≡ false
other_operator = refl

pub own_beside_adding : is_first (Some (Acc acc.Add)) Own ≡ false
own_beside_adding = refl

-- ---- the names of two variables in order
pub both_names : are_names 2 0 (Some 0 ∷ Some 1 ∷ []) ≡ true
both_names = refl

pub out_of_order : are_names 2 0 (Some 1 ∷ Some 0 ∷ []) ≡ false
out_of_order = refl

pub one_too_few : are_names 2 0 (Some 0 ∷ []) ≡ false
one_too_few = refl

pub one_too_many : are_names 2 0 (Some 0 ∷ Some 1 ∷ Some 2 ∷ []) ≡ false
one_too_many = refl

pub not_a_name : are_names 2 0 (Some 0 ∷ None ∷ []) ≡ false
not_a_name = refl

-- ---- which writes may activate where the layout 0 is walked, and over a box
pub own_where_walked : may_activate (Some 0) 0 Own ≡ false
own_where_walked = refl

pub own_elsewhere : may_activate (Some 0) 1 Own ≡ true
own_elsewhere = refl

pub adds_where_walked : may_activate (Some 0) 0 (Acc acc.Add) ≡ true
adds_where_walked = refl

pub own_over_a_box : may_activate None 0 Own ≡ true
own_over_a_box = refl

-- ---- of the rules that statement 7 breaks, the smallest
pub rule_two_before_four : first_broken 7 1 (true ∷ false ∷ true ∷ false ∷ true ∷ true ∷ []) ≡ Some (Rule 7 2)
rule_two_before_four = refl

pub rule_six_last : first_broken 7 1 (true ∷ true ∷ true ∷ true ∷ true ∷ false ∷ []) ≡ Some (Rule 7 6)
rule_six_last = refl

-- ---- 2^20 points are no more than a box may have, and one more are; a walk counts none
pub at_the_limit : nat_lt most_box_points (box_size (Range (at2 0 5) (at2 1024 1029))) ≡ false
at_the_limit = refl

pub above_the_limit : nat_lt most_box_points (box_size (Range (at1 0) (at1 1048577))) ≡ true
above_the_limit = refl

pub walk_has_none : box_size (Walk 3) ≡ 0
walk_has_none = refl

-- ---- guards: the own cell on the left of `!=`, and a guarded operand on the left of `&&`
abbrev pub cell : Guard
cell = record no_guard { is_cell = true }

abbrev pub zero_literal : Guard
zero_literal = record no_guard { is_zero = true }

abbrev pub guarded : Guard
guarded = record no_guard { is_guarded = true }

pub cell_first : bin_guard bin.Ne cell zero_literal ≡ true
cell_first = refl

pub zero_first : bin_guard bin.Ne zero_literal cell ≡ false
zero_first = refl

pub guard_first : bin_guard bin.LAnd guarded no_guard ≡ true
guard_first = refl

pub guard_last : bin_guard bin.LAnd no_guard guarded ≡ false
guard_last = refl

pub equal_guards_nothing : bin_guard bin.Eq cell zero_literal ≡ false
equal_guards_nothing = refl
