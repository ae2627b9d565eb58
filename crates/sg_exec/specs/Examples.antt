-- Worked equations: the writes of code at the coordinate 2 of its loop, loads into four points, and what runs answer.
use Rattle.std.specs.Prelude.{◌≡◌, ℕ, true, false, [], ◌∷◌, map, length, Some, None, Ok, Err, refl}
use Rattle.std.proofs.Common.{ap, arith}
use Rattle.sg_words.specs.declared.operators.AccOp.TheVariants as acc
use Rattle.sg_words.specs.declared.memory.Stop.TheVariants.{Memory, Refused}
use Rattle.sg_layout.specs.Examples.{at1, blocks, masked_blocks, line_of_four}
use Rattle.sg_flat.specs.declared.effects.Way.TheVariants.{Own, Acc}
use Rattle.sg_flat.specs.declared.effects.Write.{Write}
use Rattle.sg_flat.specs.declared.effects.Domain.TheVariants.{Walk, Range}
use Rattle.sg_flat.specs.declared.effects.RunFault.TheVariants.{WriteOutside, PoolFull}
use Rattle.sg_flat.specs.State.{opening}
use Rattle.sg_flat.specs.Examples.{state1}
use Rattle.sg_store.specs.Examples.{block_store, masked_store}
use Rattle.sg_ir.specs.Runs.{CodeWrite, CodeWant}
use Rattle.sg_exec.specs.Standing.{shapes_of}
use Rattle.sg_exec.specs.Running.{coord_of_write, wants_left, write_at, located, turn_of, load_meaning, Ran}

-- ---- where the writes of code are
-- what code tells: an own write into a layout, and a contribution to the layout 0, whose coordinate isn't looked at
abbrev pub own : ℕ → CodeWrite
own layout = record { layout = layout; field = 1; stmt = 3; at = Some (at1 2); way = Own; value = 5 }

abbrev pub contribution : CodeWrite
contribution = record { layout = 0; field = 6; stmt = 4; at = None; way = Acc acc.Add; value = 8 }

abbrev pub want : ℕ → CodeWant
want i = record { layout = 0; stmt = 4; at = at1 i }

-- the same writes at coordinates
abbrev pub own_at : ℕ → ℕ → Write
own_at layout i = record { layout = layout; place = 1; stmt = 3; at = at1 i; way = Own; value = 5 }

abbrev pub contribution_at : ℕ → Write
contribution_at i = record { layout = 0; place = 6; stmt = 4; at = at1 i; way = Acc acc.Add; value = 8 }

pub at_its_want : coord_of_write true (want 7 ∷ want 9 ∷ []) (at1 2) ≡ at1 7
at_its_want = refl

pub at_the_loops : coord_of_write false (want 7 ∷ want 9 ∷ []) (at1 2) ≡ at1 2
at_the_loops = refl

pub its_want_is_used : wants_left true (want 7 ∷ want 9 ∷ []) ≡ want 9 ∷ []
its_want_is_used = refl

pub no_want_is_used : wants_left false (want 7 ∷ want 9 ∷ []) ≡ want 7 ∷ want 9 ∷ []
no_want_is_used = refl

pub own_write_moves : write_at (own 2) (at1 7) ≡ own_at 2 7
own_write_moves = refl

-- an own write into another layout than the walked one has a want, as each contribution has
pub in_a_walk : located (Walk 0) (at1 2) (want 7 ∷ want 9 ∷ want 11 ∷ []) (contribution ∷ own 0 ∷ own 1 ∷ contribution ∷ [])
    ≡ contribution_at 7 ∷ own_at 0 2 ∷ own_at 1 9 ∷ contribution_at 11 ∷ []
in_a_walk = refl

-- over a box each write has one
pub in_a_box : located (Range (at1 0) (at1 4)) (at1 2) (want 9 ∷ want 7 ∷ []) (own 0 ∷ contribution ∷ []) ≡ own_at 0 9 ∷ contribution_at 7 ∷ []
in_a_box = refl

-- ---- loads
pub at_its_own_coordinate : turn_of (own_at 0 3) ≡ record { at = at1 3; writes = own_at 0 3 ∷ [] }
at_its_own_coordinate = refl

abbrev pub row : ℕ → ℕ → Write
row i value = record { layout = 0; place = 0; stmt = 0; at = at1 i; way = Own; value = value }

pub the_last_row_stays : load_meaning (line_of_four ∷ []) (opening (line_of_four ∷ [])) (row 3 5 ∷ row 1 6 ∷ row 3 7 ∷ [])
    ≡ Ok (state1 (map at1 (0 ∷ 1 ∷ 2 ∷ 3 ∷ [])) ((1, 6) ∷ (3, 7) ∷ []))
the_last_row_stays = refl

pub the_first_row_outside : load_meaning (line_of_four ∷ []) (opening (line_of_four ∷ [])) (row 3 5 ∷ row 4 6 ∷ row 5 7 ∷ []) ≡ Err (WriteOutside 0 (at1 4))
the_first_row_outside = refl

-- ---- which layouts are those of stores, and what a run answers
pub in_their_order : shapes_of (block_store ∷ masked_store ∷ []) ≡ blocks ∷ masked_blocks ∷ []
in_their_order = refl

pub nothing_ran : Ran [] [] (Ok tt) (Ok (record { layouts = [] }))
nothing_ran = record { shapes_are = refl; stand = tt }

pub no_ok_for_a_refusal : Ran [] [] (Ok tt) (Err (WriteOutside 3 (at1 4))) → ⊥
no_ok_for_a_refusal ran = ran

pub no_store_is_lost : Ran (line_of_four ∷ []) [] (Ok tt) (Ok (record { layouts = [] })) → ⊥
no_store_is_lost ran = let count = ap length ran.shapes_are in omega arith

pub the_refusal_of_the_meaning : Ran [] [] (Err (Refused (WriteOutside 3 (at1 4)))) (Err (WriteOutside 3 (at1 4)))
the_refusal_of_the_meaning = refl

pub memory_is_free : Ran [] [] (Err Memory) (Err (PoolFull 0 1 2))
memory_is_free = tt
