-- A shared block without what isn't kept is shared.
use Rattle.std.specs.Prelude.{◌≡◌, refl, ℕ, ℤ, Bool, true, false, not, ◌&&◌, ◌||◌, List, ◌∷◌}
use Rattle.std.specs.List.{list_any}
use Rattle.std.proofs.Common.{sym}
use Rattle.std.proofs.lemmas.Bool.{and_parts, and_from, or_right}
use Rattle.sg_ir.specs.declared.op.Op.{Op}
use Rattle.sg_ir.specs.declared.op.Op.TheVariants as op
use Rattle.sg_ir.specs.declared.op.Step.{Step}
use Rattle.sg_ir.specs.Blocks.{Sight, sight_op, Block, End, Word, Spot, Cell, Do, Branch, Loop, Act}
use Rattle.sg_ir.specs.Shared.{same_op, same_step, is_pure, shares}
use Rattle.sg_ir.specs.InScope.{AreSet}
use Rattle.sg_simplify.specs.Kept.{Keep, behind_where, is_end, keeps_act, kept_part, op_vars, ReadsKept}
use Rattle.sg_simplify.proofs.KeptTests.{none_set}

or_more : (a b c : Bool) → (b ≡ true → c ≡ true) → (a || b) ≡ true → (a || c) ≡ true
or_more true b c f e = refl
or_more false b c f e = f e

-- what was new among more is new among fewer
still_new : (p q a b : Bool) → q ≡ p → (b ≡ true → a ≡ true) → not (p && a) ≡ true → not (q && b) ≡ true
still_new p false a b e sub n = refl
still_new p true a false e sub n = refl
still_new true true true true e sub n = n
still_new true true false true e sub n = none_set (sub refl)
still_new false true a true e sub n = none_set (sym e)

still_absent : (a b : Bool) → (b ≡ true → a ≡ true) → not a ≡ true → not b ≡ true
still_absent a false sub n = refl
still_absent true true sub n = n
still_absent false true sub n = none_set (sub refl)

-- of these operations and steps each is among those
pub record Fewer (few ops : List Op) (less steps : List Step) : Type 0 where
  pub computed : (how : Op) → list_any (same_op how) few ≡ true → list_any (same_op how) ops ≡ true
  pub stepped : (how : Step) → list_any (same_step how) less ≡ true → list_any (same_step how) steps ≡ true

op_both : (it : Op) (few ops : List Op) (less steps : List Step) → Fewer few ops less steps → Fewer (it ∷ few) (it ∷ ops) less steps
op_both it few ops less steps fewer = record { computed = λ how. or_more (same_op how it) (list_any (same_op how) few) (list_any (same_op how) ops) (fewer.computed how); stepped = fewer.stepped }

op_past : (it : Op) (few ops : List Op) (less steps : List Step) → Fewer few ops less steps → Fewer few (it ∷ ops) less steps
op_past it few ops less steps fewer = record { computed = λ how e. or_right (same_op how it) (list_any (same_op how) ops) (fewer.computed how e); stepped = fewer.stepped }

step_both : (it : Step) (few ops : List Op) (less steps : List Step) → Fewer few ops less steps → Fewer few ops (it ∷ less) (it ∷ steps)
step_both it few ops less steps fewer = record { computed = fewer.computed; stepped = λ how. or_more (same_step how it) (list_any (same_step how) less) (list_any (same_step how) steps) (fewer.stepped how) }

step_past : (it : Step) (few ops : List Op) (less steps : List Step) → Fewer few ops less steps → Fewer few ops less (it ∷ steps)
step_past it few ops less steps fewer = record { computed = fewer.computed; stepped = λ how e. or_right (same_step how it) (list_any (same_step how) steps) (fewer.stepped how e) }

module _ (keep : Keep) (single narrow : ℕ → Bool) (same : (v : ℕ) → keep.vars v ≡ true → narrow v ≡ single v) where
  pure_same : (how : Op) → AreSet keep.vars (op_vars how) → is_pure narrow how ≡ is_pure single how
  pure_same (op.Const word truth) set = refl
  pure_same (op.Var var) set = same var set.0
  pure_same (op.Bin how kind a b) set = refl
  pure_same (op.Un how kind a) set = refl
  pure_same (op.Mulq a b s) set = refl
  pure_same (op.Extract div size from) set = refl
  pure_same (op.Offset high size low) set = refl
  pure_same (op.Read place layout field) set = refl
  pure_same (op.Active place) set = refl
  pure_same (op.OwnRead layout field) set = refl

  abbrev StaysShared : Block → Type 0
  StaysShared block = (few ops : List Op) (less steps : List Step) → Fewer few ops less steps → ReadsKept keep (kept_part keep block) → shares single ops steps block ≡ true → shares narrow few less (kept_part keep block) ≡ true

  word_shared : (to : ℕ) (how : Op) (rest : Block) → StaysShared rest → StaysShared (Word to how rest)
  word_shared to how rest more few ops less steps fewer reads e = by_test (keep.regs to) reads (and_parts (not (is_pure single how && list_any (same_op how) ops)) (shares single (how ∷ ops) steps rest) e)
    where
      by_test : (test : Bool) → ReadsKept keep (behind_where test (Word to how) (kept_part keep rest)) → (not (is_pure single how && list_any (same_op how) ops) ≡ true) × (shares single (how ∷ ops) steps rest ≡ true)
          → shares narrow few less (behind_where test (Word to how) (kept_part keep rest)) ≡ true
      by_test true read parts = and_from (not (is_pure narrow how && list_any (same_op how) few)) (shares narrow (how ∷ few) less (kept_part keep rest))
          (still_new (is_pure single how) (is_pure narrow how) (list_any (same_op how) ops) (list_any (same_op how) few) (pure_same how read.2) (fewer.computed how) parts.0)
          (more (how ∷ few) (how ∷ ops) less steps (op_both how few ops less steps fewer) read.3 parts.1)
      by_test false read parts = more few (how ∷ ops) less steps (op_past how few ops less steps fewer) read parts.1

  spot_shared : (to : ℕ) (how : Step) (rest : Block) → StaysShared rest → StaysShared (Spot to how rest)
  spot_shared to how rest more few ops less steps fewer reads e = by_test (keep.places to) reads (and_parts (not (list_any (same_step how) steps)) (shares single ops (how ∷ steps) rest) e)
    where
      by_test : (test : Bool) → ReadsKept keep (behind_where test (Spot to how) (kept_part keep rest)) → (not (list_any (same_step how) steps) ≡ true) × (shares single ops (how ∷ steps) rest ≡ true)
          → shares narrow few less (behind_where test (Spot to how) (kept_part keep rest)) ≡ true
      by_test true read parts = and_from (not (list_any (same_step how) less)) (shares narrow few (how ∷ less) (kept_part keep rest))
          (still_absent (list_any (same_step how) steps) (list_any (same_step how) less) (fewer.stepped how) parts.0)
          (more few ops (how ∷ less) (how ∷ steps) (step_both how few ops less steps fewer) read.2 parts.1)
      by_test false read parts = more few ops less (how ∷ steps) (step_past how few ops less steps fewer) read parts.1

  cell_shared : (to place : ℕ) (sight : Sight) (index : List ℕ) (rest : Block) → StaysShared rest → StaysShared (Cell to place sight index rest)
  cell_shared to place sight index rest more few ops less steps fewer reads e = by_test (keep.regs to) reads (and_parts (not (list_any (same_op (sight_op place sight)) ops)) (shares single (sight_op place sight ∷ ops) steps rest) e)
    where
      how : Op
      how = sight_op place sight

      by_test : (test : Bool) → ReadsKept keep (behind_where test (Cell to place sight index) (kept_part keep rest)) → (not (list_any (same_op how) ops) ≡ true) × (shares single (how ∷ ops) steps rest ≡ true)
          → shares narrow few less (behind_where test (Cell to place sight index) (kept_part keep rest)) ≡ true
      by_test true read parts = and_from (not (list_any (same_op how) few)) (shares narrow (how ∷ few) less (kept_part keep rest))
          (still_absent (list_any (same_op how) ops) (list_any (same_op how) few) (fewer.computed how) parts.0)
          (more (how ∷ few) (how ∷ ops) less steps (op_both how few ops less steps fewer) read.2 parts.1)
      by_test false read parts = more few (how ∷ ops) less steps (op_past how few ops less steps fewer) read parts.1

  do_shared : (what : Act) (rest : Block) → StaysShared rest → StaysShared (Do what rest)
  do_shared what rest more few ops less steps fewer reads e = by_test (keeps_act keep what) reads
    where
      by_test : (test : Bool) → ReadsKept keep (behind_where test (Do what) (kept_part keep rest)) → shares narrow few less (behind_where test (Do what) (kept_part keep rest)) ≡ true
      by_test true read = more few ops less steps fewer read.2 e
      by_test false read = more few ops less steps fewer read e

  branch_shared : (cond : ℕ) (block otherwise rest : Block) → StaysShared block → StaysShared otherwise → StaysShared rest → StaysShared (Branch cond block otherwise rest)
  branch_shared cond block otherwise rest one two more few ops less steps fewer reads e =
      let first = and_parts (shares single ops steps block) (shares single ops steps otherwise && shares single ops steps rest) e in
      let second = and_parts (shares single ops steps otherwise) (shares single ops steps rest) first.1 in
      by_test (is_end (kept_part keep block) && is_end (kept_part keep otherwise)) reads first.0 second.0 second.1
    where
      by_test : (none : Bool) → ReadsKept keep (behind_where (not none) (Branch cond (kept_part keep block) (kept_part keep otherwise)) (kept_part keep rest))
          → shares single ops steps block ≡ true → shares single ops steps otherwise ≡ true → shares single ops steps rest ≡ true
          → shares narrow few less (behind_where (not none) (Branch cond (kept_part keep block) (kept_part keep otherwise)) (kept_part keep rest)) ≡ true
      by_test true read a b c = more few ops less steps fewer read c
      by_test false read a b c = and_from (shares narrow few less (kept_part keep block)) (shares narrow few less (kept_part keep otherwise) && shares narrow few less (kept_part keep rest))
          (one few ops less steps fewer read.1 a)
          (and_from (shares narrow few less (kept_part keep otherwise)) (shares narrow few less (kept_part keep rest)) (two few ops less steps fewer read.2 b) (more few ops less steps fewer read.3 c))

  loop_shared : (var : ℕ) (lo hi : ℤ) (body rest : Block) → StaysShared body → StaysShared rest → StaysShared (Loop var lo hi body rest)
  loop_shared var lo hi body rest turn more few ops less steps fewer reads e = by_test (keep.vars var || not (is_end (kept_part keep body))) reads (and_parts (shares single ops steps body) (shares single ops steps rest) e)
    where
      by_test : (test : Bool) → ReadsKept keep (behind_where test (Loop var lo hi (kept_part keep body)) (kept_part keep rest)) → (shares single ops steps body ≡ true) × (shares single ops steps rest ≡ true)
          → shares narrow few less (behind_where test (Loop var lo hi (kept_part keep body)) (kept_part keep rest)) ≡ true
      by_test true read parts = and_from (shares narrow few less (kept_part keep body)) (shares narrow few less (kept_part keep rest)) (turn few ops less steps fewer read.1 parts.0) (more few ops less steps fewer read.2 parts.1)
      by_test false read parts = more few ops less steps fewer read parts.1

  pub kept_shared : (block : Block) → StaysShared block
  kept_shared End = λ few ops less steps fewer reads e. refl
  kept_shared (Word to how rest) = word_shared to how rest (kept_shared rest)
  kept_shared (Spot to how rest) = spot_shared to how rest (kept_shared rest)
  kept_shared (Cell to place sight index rest) = cell_shared to place sight index rest (kept_shared rest)
  kept_shared (Do what rest) = do_shared what rest (kept_shared rest)
  kept_shared (Branch cond block otherwise rest) = branch_shared cond block otherwise rest (kept_shared block) (kept_shared otherwise) (kept_shared rest)
  kept_shared (Loop var lo hi body rest) = loop_shared var lo hi body rest (kept_shared body) (kept_shared rest)
