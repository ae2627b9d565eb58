-- Worked runs of code.
use Rattle.std.specs.Prelude.{◌≡◌, ℕ, pos, negsuc, List, [], ◌∷◌, map, Some, None}
use Rattle.std.proofs.Common.{refl}
use Rattle.sg_words.specs.declared.operators.Ty.TheVariants as ty
use Rattle.sg_words.specs.declared.operators.BinOp.TheVariants as b
use Rattle.sg_words.specs.declared.operators.UnOp.TheVariants as u
use Rattle.sg_words.specs.declared.operators.AccOp.TheVariants as acc
use Rattle.sg_layout.specs.Examples.{at1, line_of_four}
use Rattle.sg_flat.specs.Examples.{state1}
use Rattle.sg_flat.specs.declared.effects.Way.TheVariants.{Own, Acc}
use Rattle.sg_ir.specs.declared.code.Inst.{Inst}
use Rattle.sg_ir.specs.declared.code.Inst.TheVariants as v
use Rattle.sg_ir.specs.Runs.{Seen, Moved, CodeWrite, CodeWant, iteration}
use Rattle.sg_ir.proofs.Equations.{does-Const, does-Var, does-Set, does-Bin, does-Root, does-Check, does-Extract, does-Child, does-ReadCell, does-OwnRead, does-OwnWrite, does-Acc, does-If, does-For, does-Un, does-Mulq, does-Offset, does-HashChild, does-MaskBit, does-DynCell, does-Want}

-- one layout of four points with one field, whose value is 7 at the point 1
abbrev seen_at : ℕ → Seen
seen_at at = record { shapes = line_of_four ∷ []; state = state1 (map at1 (0 ∷ 1 ∷ 2 ∷ 3 ∷ [])) ((1, 7) ∷ []); at = at1 at }

-- the writes of a run, as a word that stays
told : Moved → List CodeWrite
told now = now.writes

told-is : (now : Moved) → told now ≡ now.writes
unfolding told
told-is now = refl

abbrev own : ℕ → ℕ → ℕ → CodeWrite
own stmt at value = record { layout = 0; field = 0; stmt = stmt; at = Some (at1 at); way = Own; value = value }

-- the place of the register's coordinate, as place number 2, by two registers and two places more
abbrev to_place : ℕ → ℕ → List Inst → List Inst
to_place index offset more = v.Root 0 0 ∷ v.Check 1 0 0 4 index ∷ v.Extract offset 1 4 index ∷ v.Child 2 1 1 offset ∷ more

-- `x[i] = x[i - 1];`: inside, and outside, where the value is 0
abbrev reads_before : List Inst
reads_before = v.Var 0 0 ∷ v.Const 1 1 ∷ v.Bin 2 b.Sub ty.I32 0 1 ∷ to_place 2 3 (v.ReadCell 4 2 0 0 (2 ∷ []) ∷ v.OwnWrite 0 0 4 1 ∷ [])

inside_is_read : told (iteration (seen_at 2) reads_before) ≡ own 1 2 7 ∷ []
inside_is_read = simp (does-Const (seen_at 2), does-Var (seen_at 2), does-Bin (seen_at 2), does-Root (seen_at 2), does-Check (seen_at 2), does-Extract (seen_at 2), does-Child (seen_at 2), does-ReadCell (seen_at 2), does-OwnWrite (seen_at 2)) (told-is _)

outside_is_zero : told (iteration (seen_at 0) reads_before) ≡ own 1 0 0 ∷ []
outside_is_zero = simp (does-Const (seen_at 0), does-Var (seen_at 0), does-Bin (seen_at 0), does-Root (seen_at 0), does-Check (seen_at 0), does-Extract (seen_at 0), does-Child (seen_at 0), does-ReadCell (seen_at 0), does-OwnWrite (seen_at 0)) (told-is _)

-- `x[i] = i; x[i] = x[i] + 1;`: an own read sees the own write before it
own_write_is_seen : told (iteration (seen_at 3) (v.Var 0 0 ∷ v.OwnWrite 0 0 0 1 ∷ v.OwnRead 1 0 0 ∷ v.Const 2 1 ∷ v.Bin 3 b.Add ty.I32 1 2 ∷ v.OwnWrite 0 0 3 2 ∷ [])) ≡ own 1 3 3 ∷ own 2 3 4 ∷ []
own_write_is_seen = simp (does-Const (seen_at 3), does-Var (seen_at 3), does-Bin (seen_at 3), does-OwnRead (seen_at 3), does-OwnWrite (seen_at 3)) (told-is _)

-- a `for` from -1 up to below 2 adds its three numbers to the variable 1
turns_are_taken : told (iteration (seen_at 0) (v.For 2 (negsuc 0) (pos 2) (v.Var 0 1 ∷ v.Var 1 2 ∷ v.Bin 2 b.Add ty.I32 0 1 ∷ v.Set 1 2 ∷ []) ∷ v.Var 3 1 ∷ v.OwnWrite 0 0 3 1 ∷ [])) ≡ own 1 0 0 ∷ []
turns_are_taken = simp (does-Var (seen_at 0), does-Set (seen_at 0), does-Bin (seen_at 0), does-For (seen_at 0), does-OwnWrite (seen_at 0)) (told-is _)

-- the second block where the word is 0
else_is_taken : told (iteration (seen_at 0) (v.Const 0 0 ∷ v.Const 1 5 ∷ v.If 0 (v.OwnWrite 0 0 0 1 ∷ []) (v.OwnWrite 0 0 1 2 ∷ []) ∷ [])) ≡ own 2 0 5 ∷ []
else_is_taken = simp (does-Const (seen_at 0), does-If (seen_at 0), does-OwnWrite (seen_at 0)) (told-is _)

-- a contribution at a place, and at none
contributes : told (iteration (seen_at 0) (v.Const 0 3 ∷ to_place 0 1 (v.Acc acc.Add 0 0 2 0 (0 ∷ []) 4 ∷ []))) ≡ record { layout = 0; field = 0; stmt = 4; at = Some (at1 3); way = Acc acc.Add; value = 3 } ∷ []
contributes = simp (does-Const (seen_at 0), does-Root (seen_at 0), does-Check (seen_at 0), does-Extract (seen_at 0), does-Child (seen_at 0), does-Acc (seen_at 0)) (told-is _)

contributes_at_none : told (iteration (seen_at 0) (v.Const 0 4 ∷ to_place 0 1 (v.Acc acc.Add 0 0 2 0 (0 ∷ []) 4 ∷ []))) ≡ record { layout = 0; field = 0; stmt = 4; at = None; way = Acc acc.Add; value = 4 } ∷ []
contributes_at_none = simp (does-Const (seen_at 0), does-Root (seen_at 0), does-Check (seen_at 0), does-Extract (seen_at 0), does-Child (seen_at 0), does-Acc (seen_at 0)) (told-is _)

-- an operator on one word, a product that is shifted down, and a word times a size and another
negates : told (iteration (seen_at 0) (v.Const 0 1 ∷ v.Un 1 u.Neg ty.I32 0 ∷ v.OwnWrite 0 0 1 1 ∷ [])) ≡ own 1 0 4294967295 ∷ []
negates = simp (does-Const (seen_at 0), does-Un (seen_at 0), does-OwnWrite (seen_at 0)) (told-is _)

multiplies_and_shifts : told (iteration (seen_at 0) (v.Const 0 3 ∷ v.Const 1 4 ∷ v.Const 2 1 ∷ v.Mulq 3 0 1 2 ∷ v.OwnWrite 0 0 3 1 ∷ [])) ≡ own 1 0 6 ∷ []
multiplies_and_shifts = simp (does-Const (seen_at 0), does-Mulq (seen_at 0), does-OwnWrite (seen_at 0)) (told-is _)

joins_parts : told (iteration (seen_at 0) (v.Const 0 3 ∷ v.Const 1 2 ∷ v.Offset 2 0 4 1 ∷ v.OwnWrite 0 0 2 1 ∷ [])) ≡ own 1 0 14 ∷ []
joins_parts = simp (does-Const (seen_at 0), does-Offset (seen_at 0), does-OwnWrite (seen_at 0)) (told-is _)

-- each way down a node adds its offset, whatever the kind of the node
key_is_added : told (iteration (seen_at 1) (v.Var 0 0 ∷ v.Root 0 0 ∷ v.HashChild 1 0 1 0 ∷ v.ReadCell 1 1 0 0 (0 ∷ []) ∷ v.OwnWrite 0 0 1 1 ∷ [])) ≡ own 1 1 7 ∷ []
key_is_added = simp (does-Var (seen_at 1), does-Root (seen_at 1), does-HashChild (seen_at 1), does-ReadCell (seen_at 1), does-OwnWrite (seen_at 1)) (told-is _)

bit_is_added : told (iteration (seen_at 1) (v.Var 0 0 ∷ v.Root 0 0 ∷ v.MaskBit 1 0 1 0 ∷ v.ReadCell 1 1 0 0 (0 ∷ []) ∷ v.OwnWrite 0 0 1 1 ∷ [])) ≡ own 1 1 7 ∷ []
bit_is_added = simp (does-Var (seen_at 1), does-Root (seen_at 1), does-MaskBit (seen_at 1), does-ReadCell (seen_at 1), does-OwnWrite (seen_at 1)) (told-is _)

element_is_added : told (iteration (seen_at 1) (v.Var 0 0 ∷ v.Root 0 0 ∷ v.DynCell 1 0 1 0 ∷ v.ReadCell 1 1 0 0 (0 ∷ []) ∷ v.OwnWrite 0 0 1 1 ∷ [])) ≡ own 1 1 7 ∷ []
element_is_added = simp (does-Var (seen_at 1), does-Root (seen_at 1), does-DynCell (seen_at 1), does-ReadCell (seen_at 1), does-OwnWrite (seen_at 1)) (told-is _)

-- the wants of a run, as a word that stays
asked : Moved → List CodeWant
asked now = now.wants

asked-is : (now : Moved) → asked now ≡ now.wants
unfolding asked
asked-is now = refl

-- a coordinate that is wanted
wants : asked (iteration (seen_at 0) (v.Const 0 3 ∷ v.Want 0 (0 ∷ []) 5 ∷ [])) ≡ record { layout = 0; stmt = 5; at = at1 3 } ∷ []
wants = simp (does-Const (seen_at 0), does-Want (seen_at 0)) (asked-is _)
