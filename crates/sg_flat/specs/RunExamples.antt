-- Worked examples of kernel runs over each kind of node, over several layouts and fields, and of the order of refusals.
use Rattle.std.specs.Prelude.{◌≡◌, ℕ, pos, List, [], ◌∷◌, map, Ok, Err, refl}
use Rattle.sg_coord.specs.declared.coord.Coord.{Coord}
use Rattle.sg_words.specs.declared.operators.Ty.TheVariants as ty
use Rattle.sg_words.specs.declared.operators.AccOp.TheVariants.{Min, Max}
use Rattle.sg_layout.specs.declared.shape.Shape.{Shape}
use Rattle.sg_layout.specs.Examples.{at1, blocks, masked_blocks, growing, line_of_four}
use Rattle.sg_layout.specs.NeedExamples.{keyed, rows}
use Rattle.sg_flat.specs.declared.effects.Way.{Way}
use Rattle.sg_flat.specs.declared.effects.Way.TheVariants.{Own, Acc}
use Rattle.sg_flat.specs.declared.effects.Turn.{Turn}
use Rattle.sg_flat.specs.declared.effects.RunFault.TheVariants.{WriteOutside, PoolFull}
use Rattle.sg_flat.specs.declared.state.FlatState.{FlatState}
use Rattle.sg_flat.specs.State.{opening}
use Rattle.sg_flat.specs.Domain.{box_points}
use Rattle.sg_flat.specs.Kernel.{kernel_meaning}
use Rattle.sg_flat.specs.Examples.{write1, turn1, run_of, state1}

-- an iteration for each coordinate, which writes 7 there, into a layout
abbrev pub sevens : ℕ → List ℕ → List Turn
sevens layout numbers = map (λ i. turn1 i (record { layout = layout; place = 0; stmt = 1; at = at1 i; way = Own; value = 7 } ∷ [])) numbers

-- ---- what becomes active
a_bit_for_each_written : kernel_meaning (masked_blocks ∷ []) (opening (masked_blocks ∷ [])) (run_of (sevens 0 (5 ∷ 13 ∷ []))) ≡ Ok (state1 (map at1 (5 ∷ 13 ∷ [])) ((5, 7) ∷ (13, 7) ∷ []))
a_bit_for_each_written = refl

up_to_the_greatest : kernel_meaning (growing ∷ []) (opening (growing ∷ [])) (run_of (sevens 0 (1 ∷ 3 ∷ []))) ≡ Ok (state1 (map at1 (0 ∷ 1 ∷ 2 ∷ 3 ∷ [])) ((1, 7) ∷ (3, 7) ∷ []))
up_to_the_greatest = refl

-- a row that is longer already stays so, with its values
a_length_never_falls : kernel_meaning (growing ∷ []) (state1 (map at1 (0 ∷ 1 ∷ 2 ∷ 3 ∷ [])) ((3, 4) ∷ [])) (run_of (sevens 0 (1 ∷ []))) ≡ Ok (state1 (map at1 (0 ∷ 1 ∷ 2 ∷ 3 ∷ [])) ((1, 7) ∷ (3, 4) ∷ []))
a_length_never_falls = refl

one_key : kernel_meaning (keyed ∷ []) (opening (keyed ∷ [])) (run_of (sevens 0 (24 ∷ []))) ≡ Ok (state1 (at1 24 ∷ []) ((24, 7) ∷ []))
one_key = refl

nothing_written : kernel_meaning (blocks ∷ []) (opening (blocks ∷ [])) (run_of []) ≡ Ok (state1 [] [])
nothing_written = refl

-- ---- refusals
-- five elements take two chunks of four, as seven do: three have room, four have not
no_room_for_a_fourth_chunk : kernel_meaning (rows ∷ []) (opening (rows ∷ [])) (run_of (sevens 0 (6 ∷ 12 ∷ []))) ≡ Err (PoolFull 0 2 3)
no_room_for_a_fourth_chunk = refl

three_chunks_have_room : kernel_meaning (rows ∷ []) (opening (rows ∷ [])) (run_of (sevens 0 (6 ∷ 8 ∷ []))) ≡ Ok (state1 (map at1 (0 ∷ 1 ∷ 2 ∷ 3 ∷ 4 ∷ 5 ∷ 6 ∷ 8 ∷ [])) ((6, 7) ∷ (8, 7) ∷ []))
three_chunks_have_room = refl

-- what is active already takes room
no_room_beside_the_active : kernel_meaning (blocks ∷ []) (state1 (map at1 (0 ∷ 1 ∷ 2 ∷ 3 ∷ 4 ∷ 5 ∷ 6 ∷ 7 ∷ [])) []) (run_of (sevens 0 (8 ∷ []))) ≡ Err (PoolFull 0 1 2)
no_room_beside_the_active = refl

the_first_layout_without_room : kernel_meaning (line_of_four ∷ blocks ∷ blocks ∷ []) (opening (line_of_four ∷ blocks ∷ blocks ∷ [])) (run_of (map (λ i. turn1 i (record { layout = 2; place = 0; stmt = 1; at = at1 i; way = Own; value = 7 } ∷ record { layout = 1; place = 0; stmt = 2; at = at1 i; way = Own; value = 7 } ∷ [])) (0 ∷ 4 ∷ 8 ∷ []))) ≡ Err (PoolFull 1 1 2)
the_first_layout_without_room = refl

the_second_layout_alone : kernel_meaning (blocks ∷ blocks ∷ []) (opening (blocks ∷ blocks ∷ [])) (run_of (sevens 1 (0 ∷ 4 ∷ 8 ∷ []))) ≡ Err (PoolFull 1 1 2)
the_second_layout_alone = refl

-- the iterations before the one that writes outside pass the cap, yet a write outside comes first
outside_before_full : kernel_meaning (blocks ∷ []) (opening (blocks ∷ [])) (run_of (sevens 0 (0 ∷ 4 ∷ 8 ∷ 16 ∷ []))) ≡ Err (WriteOutside 1 (at1 16))
outside_before_full = refl

-- the fault names the iteration's coordinate and not that of the write, and in the first iteration the first write
the_coordinate_of_the_iteration : kernel_meaning (line_of_four ∷ []) (opening (line_of_four ∷ [])) (run_of (turn1 1 (write1 (Acc Max) 2 1 ∷ record { layout = 0; place = 0; stmt = 5; at = at1 9; way = Acc Max; value = 1 } ∷ record { layout = 0; place = 0; stmt = 6; at = at1 8; way = Acc Max; value = 1 } ∷ []) ∷ sevens 0 (7 ∷ [])))
    ≡ Err (WriteOutside 5 (at1 1))
the_coordinate_of_the_iteration = refl

-- a layout that isn't there has nothing inside
outside_without_a_layout : kernel_meaning (line_of_four ∷ []) (opening (line_of_four ∷ [])) (run_of (sevens 1 (2 ∷ []))) ≡ Err (WriteOutside 1 (at1 2))
outside_without_a_layout = refl

-- ---- values
-- dense(i: 4); an I32 field and a U32 field
abbrev pub two_fields : Shape
two_fields = record { axes = line_of_four.axes; nodes = line_of_four.nodes; fields = ty.I32 ∷ ty.U32 ∷ [] }

abbrev pub state2 : List (ℕ × ℕ) → List (ℕ × ℕ) → FlatState
state2 first second = record { layouts = record { active = map at1 (0 ∷ 1 ∷ 2 ∷ 3 ∷ []); fields = first ∷ second ∷ [] } ∷ [] }

-- contributions of one iteration to both fields, by one operator
abbrev pub to_both : Way → ℕ → Turn
to_both way value = turn1 0 (write1 way 0 value ∷ record { layout = 0; place = 1; stmt = 2; at = at1 0; way = way; value = value } ∷ [])

-- the word of -3 is less than 5 in an I32 field, and greater in a U32 field
least_by_the_type : kernel_meaning (two_fields ∷ []) (state2 ((0, 5) ∷ []) ((0, 5) ∷ [])) (run_of (to_both (Acc Min) 4294967293 ∷ [])) ≡ Ok (state2 ((0, 4294967293) ∷ []) ((0, 5) ∷ []))
least_by_the_type = refl

greatest_by_the_type : kernel_meaning (two_fields ∷ []) (state2 ((0, 5) ∷ []) ((0, 5) ∷ [])) (run_of (to_both (Acc Max) 4294967293 ∷ [])) ≡ Ok (state2 ((0, 5) ∷ []) ((0, 4294967293) ∷ []))
greatest_by_the_type = refl

-- the old value takes part, also if it is 0
the_old_value_takes_part : kernel_meaning (two_fields ∷ []) (state2 [] []) (run_of (to_both (Acc Min) 5 ∷ [])) ≡ Ok (state2 [] [])
the_old_value_takes_part = refl

a_zero_leaves_no_word : kernel_meaning (two_fields ∷ []) (state2 ((0, 5) ∷ (2, 7) ∷ []) ((0, 5) ∷ [])) (run_of (to_both Own 0 ∷ [])) ≡ Ok (state2 ((2, 7) ∷ []) [])
a_zero_leaves_no_word = refl

-- ---- boxes
an_empty_range_beside_a_long_one : box_points (record { n = 2; a = pos 0; b = pos 5; c = pos 0 }) (record { n = 2; a = pos 3; b = pos 5; c = pos 0 }) ≡ []
an_empty_range_beside_a_long_one = refl

abbrev pub point3 : ℕ → ℕ → ℕ → Coord
point3 i j k = record { n = 3; a = pos i; b = pos j; c = pos k }

box_of_three_axes : box_points (point3 0 5 1) (point3 2 6 3) ≡ point3 0 5 1 ∷ point3 0 5 2 ∷ point3 1 5 1 ∷ point3 1 5 2 ∷ []
box_of_three_axes = refl
