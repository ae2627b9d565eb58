-- Worked examples of kernel runs.
use Rattle.std.specs.Prelude.{◌≡◌, ℕ, ◌*◌, pos, negsuc, List, [], ◌∷◌, map, Ok, Err, refl}
use Rattle.sg_coord.specs.declared.coord.Coord.{Coord}
use Rattle.sg_words.specs.declared.operators.AccOp.TheVariants as acc
use Rattle.sg_layout.specs.Examples.{at1, at2, blocks, line_of_four}
use Rattle.sg_flat.specs.declared.effects.Way.{Way}
use Rattle.sg_flat.specs.declared.effects.Way.TheVariants.{Own, Acc}
use Rattle.sg_flat.specs.declared.effects.Write.{Write}
use Rattle.sg_flat.specs.declared.effects.Turn.{Turn}
use Rattle.sg_flat.specs.declared.effects.Effects.{Effects}
use Rattle.sg_flat.specs.declared.effects.RunFault.TheVariants.{WriteOutside, PoolFull}
use Rattle.sg_flat.specs.declared.state.FlatState.{FlatState}
use Rattle.sg_flat.specs.State.{opening}
use Rattle.sg_flat.specs.Domain.{box_points}
use Rattle.sg_flat.specs.Kernel.{kernel_meaning}

-- statement 1 writes a value to the only field of the only layout, at i
abbrev pub write1 : Way → ℕ → ℕ → Write
write1 way i value = record { layout = 0; place = 0; stmt = 1; at = at1 i; way = way; value = value }

abbrev pub turn1 : ℕ → List Write → Turn
turn1 i writes = record { at = at1 i; writes = writes }

-- the effects of iterations
abbrev pub run_of : List Turn → Effects
run_of turns = record { turns = turns }

-- a state of one layout with one field
abbrev pub state1 : List Coord → List (ℕ × ℕ) → FlatState
state1 active words = record { layouts = record { active = active; fields = words ∷ [] } ∷ [] }

box_of_two_axes : box_points (at2 1 2) (at2 3 4) ≡ at2 1 2 ∷ at2 1 3 ∷ at2 2 2 ∷ at2 2 3 ∷ []
box_of_two_axes = refl

empty_range : box_points (at1 2) (at1 1) ≡ []
empty_range = refl

from_below_zero : box_points (record { n = 1; a = negsuc 0; b = pos 0; c = pos 0 }) (at1 1) ≡ record { n = 1; a = negsuc 0; b = pos 0; c = pos 0 } ∷ at1 0 ∷ []
from_below_zero = refl

squares : kernel_meaning (line_of_four ∷ []) (opening (line_of_four ∷ [])) (run_of (map (λ i. turn1 i (write1 Own i (i * i) ∷ [])) (0 ∷ 1 ∷ 2 ∷ 3 ∷ [])))
    ≡ Ok (state1 (map at1 (0 ∷ 1 ∷ 2 ∷ 3 ∷ [])) ((1, 1) ∷ (2, 4) ∷ (3, 9) ∷ []))
squares = refl

last_own_value_stays : kernel_meaning (line_of_four ∷ []) (opening (line_of_four ∷ [])) (run_of (turn1 2 (write1 Own 2 5 ∷ write1 Own 2 7 ∷ []) ∷ []))
    ≡ Ok (state1 (map at1 (0 ∷ 1 ∷ 2 ∷ 3 ∷ [])) ((2, 7) ∷ []))
last_own_value_stays = refl

outside_is_refused : kernel_meaning (line_of_four ∷ []) (opening (line_of_four ∷ [])) (run_of (turn1 3 (write1 Own 3 1 ∷ write1 Own 4 1 ∷ []) ∷ [])) ≡ Err (WriteOutside 1 (at1 3))
outside_is_refused = refl

contributions_add_up : kernel_meaning (line_of_four ∷ []) (state1 (map at1 (0 ∷ 1 ∷ 2 ∷ 3 ∷ [])) ((0, 4) ∷ [])) (run_of (turn1 0 (write1 (Acc acc.Add) 0 3 ∷ []) ∷ turn1 1 (write1 (Acc acc.Add) 0 2 ∷ []) ∷ []))
    ≡ Ok (state1 (map at1 (0 ∷ 1 ∷ 2 ∷ 3 ∷ [])) ((0, 9) ∷ []))
contributions_add_up = refl

a_block_is_activated : kernel_meaning (blocks ∷ []) (opening (blocks ∷ [])) (run_of (turn1 5 (write1 Own 5 7 ∷ []) ∷ []))
    ≡ Ok (state1 (map at1 (4 ∷ 5 ∷ 6 ∷ 7 ∷ [])) ((5, 7) ∷ []))
a_block_is_activated = refl

no_room_for_a_third_block : kernel_meaning (blocks ∷ []) (opening (blocks ∷ [])) (run_of (map (λ i. turn1 i (write1 Own i 1 ∷ [])) (0 ∷ 4 ∷ 8 ∷ []))) ≡ Err (PoolFull 0 1 2)
no_room_for_a_third_block = refl
