-- A block without what isn't kept uses no field in a way in which the block doesn't.
use Rattle.std.specs.Prelude.{◌≡◌, refl, ℕ, ℤ, Bool, true, false, not, ◌&&◌, ◌||◌, List}
use Rattle.std.proofs.lemmas.Bool.{or_parts, or_from}
use Rattle.sg_ir.specs.declared.op.Op.{Op}
use Rattle.sg_ir.specs.Apt.{Use}
use Rattle.sg_ir.specs.Blocks.{Sight, sight_op, Block, End, Word, Spot, Cell, Do, Branch, Loop, Act}
use Rattle.sg_simplify.specs.steps.Only.{op_use, act_use, has_use}
use Rattle.sg_simplify.specs.Kept.{Keep, behind_where, is_end, keeps_act, kept_part}

module _ (keep : Keep) (test : Use → Bool) where
  word_unused : (to : ℕ) (how : Op) (kept : Block) → (stays : Bool) → op_use test how ≡ false → has_use test kept ≡ false → has_use test (behind_where stays (Word to how) kept) ≡ false
  word_unused to how kept true e f = or_from (op_use test how) (has_use test kept) e f
  word_unused to how kept false e f = f

  cell_unused : (to place : ℕ) (sight : Sight) (index : List ℕ) (kept : Block) → (stays : Bool) → op_use test (sight_op place sight) ≡ false → has_use test kept ≡ false → has_use test (behind_where stays (Cell to place sight index) kept) ≡ false
  cell_unused to place sight index kept true e f = or_from (op_use test (sight_op place sight)) (has_use test kept) e f
  cell_unused to place sight index kept false e f = f

  do_unused : (what : Act) (kept : Block) → (stays : Bool) → act_use test what ≡ false → has_use test kept ≡ false → has_use test (behind_where stays (Do what) kept) ≡ false
  do_unused what kept true e f = or_from (act_use test what) (has_use test kept) e f
  do_unused what kept false e f = f

  spot_unused : (to : ℕ) (how : _) (kept : Block) → (stays : Bool) → has_use test kept ≡ false → has_use test (behind_where stays (Spot to how) kept) ≡ false
  spot_unused to how kept true f = f
  spot_unused to how kept false f = f

  branch_unused : (cond : ℕ) (block otherwise kept : Block) → (stays : Bool) → has_use test block ≡ false → has_use test otherwise ≡ false → has_use test kept ≡ false → has_use test (behind_where stays (Branch cond block otherwise) kept) ≡ false
  branch_unused cond block otherwise kept true e f g = or_from (has_use test block) (has_use test otherwise || has_use test kept) e (or_from (has_use test otherwise) (has_use test kept) f g)
  branch_unused cond block otherwise kept false e f g = g

  loop_unused : (var : ℕ) (lo hi : ℤ) (body kept : Block) → (stays : Bool) → has_use test body ≡ false → has_use test kept ≡ false → has_use test (behind_where stays (Loop var lo hi body) kept) ≡ false
  loop_unused var lo hi body kept true e g = or_from (has_use test body) (has_use test kept) e g
  loop_unused var lo hi body kept false e g = g

  pub kept_unused : (block : Block) → has_use test block ≡ false → has_use test (kept_part keep block) ≡ false
  kept_unused End e = refl
  kept_unused (Word to how rest) e = let parts = or_parts (op_use test how) (has_use test rest) e in word_unused to how (kept_part keep rest) (keep.regs to) parts.0 (kept_unused rest parts.1)
  kept_unused (Spot to how rest) e = spot_unused to how (kept_part keep rest) (keep.places to) (kept_unused rest e)
  kept_unused (Cell to place sight index rest) e =
      let parts = or_parts (op_use test (sight_op place sight)) (has_use test rest) e in cell_unused to place sight index (kept_part keep rest) (keep.regs to) parts.0 (kept_unused rest parts.1)
  kept_unused (Do what rest) e = let parts = or_parts (act_use test what) (has_use test rest) e in do_unused what (kept_part keep rest) (keeps_act keep what) parts.0 (kept_unused rest parts.1)
  kept_unused (Branch cond block otherwise rest) e =
      let first = or_parts (has_use test block) (has_use test otherwise || has_use test rest) e in
      let second = or_parts (has_use test otherwise) (has_use test rest) first.1 in
      branch_unused cond (kept_part keep block) (kept_part keep otherwise) (kept_part keep rest) (not (is_end (kept_part keep block) && is_end (kept_part keep otherwise))) (kept_unused block first.0) (kept_unused otherwise second.0) (kept_unused rest second.1)
  kept_unused (Loop var lo hi body rest) e =
      let parts = or_parts (has_use test body) (has_use test rest) e in
      loop_unused var lo hi (kept_part keep body) (kept_part keep rest) (keep.vars var || not (is_end (kept_part keep body))) (kept_unused body parts.0) (kept_unused rest parts.1)
