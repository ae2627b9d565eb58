-- A block without what isn't kept reads what is set in scope, where the block does.
use Rattle.std.specs.Prelude.{◌≡◌, refl, ℕ, ℤ, ◌==◌, Bool, true, false, not, ◌&&◌, ◌||◌, List, [], ◌∷◌}
use Rattle.std.proofs.Common.{◌∙◌}
use Rattle.sg_ir.specs.declared.op.Op.{Op}
use Rattle.sg_ir.specs.declared.op.Step.{Step}
use Rattle.sg_ir.specs.Blocks.{Sight, Block, End, Word, Spot, Cell, Do, Branch, Loop, Act}
use Rattle.sg_ir.specs.InScope.{InScope, and_reg, and_place, AreSet, IsScoped, op_regs, op_places, step_regs, step_places, act_regs, act_places}
use Rattle.sg_simplify.specs.Kept.{Keep, behind_where, is_end, keeps_act, kept_part, ReadsKept}
use Rattle.sg_simplify.proofs.KeptTests.{both_if, past}

set_same : (kept scope few : ℕ → Bool) → ((r : ℕ) → kept r ≡ true → few r ≡ scope r) → (rs : List ℕ) → AreSet kept rs → AreSet scope rs → AreSet few rs
set_same kept scope few same [] on set = tt
set_same kept scope few same (r ∷ rs) on set = (same r on.0 ∙ set.0, set_same kept scope few same rs on.1 set.1)

module _ (keep : Keep) where
  -- the same is set, so far as it is kept
  pub record SameSet (scope few : InScope) : Type 0 where
    pub regs : (r : ℕ) → keep.regs r ≡ true → few.regs r ≡ scope.regs r
    pub places : (p : ℕ) → keep.places p ≡ true → few.places p ≡ scope.places p

  reg_both : (to : ℕ) (scope few : InScope) → SameSet scope few → SameSet (and_reg to scope) (and_reg to few)
  reg_both to scope few same = record { regs = λ r is. both_if (r == to) true true (few.regs r) (scope.regs r) refl (same.regs r is); places = same.places }

  reg_past : (to : ℕ) (scope few : InScope) → keep.regs to ≡ false → SameSet scope few → SameSet (and_reg to scope) few
  reg_past to scope few off same = record { regs = λ r is. past keep.regs to r true (scope.regs r) (few.regs r) off is (same.regs r is); places = same.places }

  place_both : (to : ℕ) (scope few : InScope) → SameSet scope few → SameSet (and_place to scope) (and_place to few)
  place_both to scope few same = record { regs = same.regs; places = λ p is. both_if (p == to) true true (few.places p) (scope.places p) refl (same.places p is) }

  place_past : (to : ℕ) (scope few : InScope) → keep.places to ≡ false → SameSet scope few → SameSet (and_place to scope) few
  place_past to scope few off same = record { regs = same.regs; places = λ p is. past keep.places to p true (scope.places p) (few.places p) off is (same.places p is) }

  abbrev StaysScoped : Block → Type 0
  StaysScoped block = (scope few : InScope) → SameSet scope few → ReadsKept keep (kept_part keep block) → IsScoped scope block → IsScoped few (kept_part keep block)

  word_scoped : (to : ℕ) (how : Op) (rest : Block) → StaysScoped rest → StaysScoped (Word to how rest)
  word_scoped to how rest more scope few same reads scoped = by_test (keep.regs to) refl reads
    where
      by_test : (test : Bool) → keep.regs to ≡ test → ReadsKept keep (behind_where test (Word to how) (kept_part keep rest)) → IsScoped few (behind_where test (Word to how) (kept_part keep rest))
      by_test true is read = (
        set_same keep.regs scope.regs few.regs same.regs (op_regs how) read.0 scoped.0,
        set_same keep.places scope.places few.places same.places (op_places how) read.1 scoped.1,
        same.regs to is ∙ scoped.2,
        more (and_reg to scope) (and_reg to few) (reg_both to scope few same) read.3 scoped.3,
      )
      by_test false is read = more (and_reg to scope) few (reg_past to scope few is same) read scoped.3

  spot_scoped : (to : ℕ) (how : Step) (rest : Block) → StaysScoped rest → StaysScoped (Spot to how rest)
  spot_scoped to how rest more scope few same reads scoped = by_test (keep.places to) refl reads
    where
      by_test : (test : Bool) → keep.places to ≡ test → ReadsKept keep (behind_where test (Spot to how) (kept_part keep rest)) → IsScoped few (behind_where test (Spot to how) (kept_part keep rest))
      by_test true is read = (
        set_same keep.regs scope.regs few.regs same.regs (step_regs how) read.0 scoped.0,
        set_same keep.places scope.places few.places same.places (step_places how) read.1 scoped.1,
        same.places to is ∙ scoped.2,
        more (and_place to scope) (and_place to few) (place_both to scope few same) read.2 scoped.3,
      )
      by_test false is read = more (and_place to scope) few (place_past to scope few is same) read scoped.3

  cell_scoped : (to place : ℕ) (sight : Sight) (index : List ℕ) (rest : Block) → StaysScoped rest → StaysScoped (Cell to place sight index rest)
  cell_scoped to place sight index rest more scope few same reads scoped = by_test (keep.regs to) refl reads
    where
      by_test : (test : Bool) → keep.regs to ≡ test → ReadsKept keep (behind_where test (Cell to place sight index) (kept_part keep rest))
          → IsScoped few (behind_where test (Cell to place sight index) (kept_part keep rest))
      by_test true is read = (
        (same.places place read.1 ∙ scoped.0.0, tt),
        same.regs to is ∙ scoped.1,
        more (and_reg to scope) (and_reg to few) (reg_both to scope few same) read.2 scoped.2,
        set_same keep.regs scope.regs few.regs same.regs index read.0 scoped.3,
      )
      by_test false is read = more (and_reg to scope) few (reg_past to scope few is same) read scoped.2

  do_scoped : (what : Act) (rest : Block) → StaysScoped rest → StaysScoped (Do what rest)
  do_scoped what rest more scope few same reads scoped = by_test (keeps_act keep what) reads
    where
      by_test : (test : Bool) → ReadsKept keep (behind_where test (Do what) (kept_part keep rest)) → IsScoped few (behind_where test (Do what) (kept_part keep rest))
      by_test true read = (
        set_same keep.regs scope.regs few.regs same.regs (act_regs what) read.0 scoped.0,
        set_same keep.places scope.places few.places same.places (act_places what) read.1 scoped.1,
        more scope few same read.2 scoped.2,
      )
      by_test false read = more scope few same read scoped.2

  branch_scoped : (cond : ℕ) (block otherwise rest : Block) → StaysScoped block → StaysScoped otherwise → StaysScoped rest → StaysScoped (Branch cond block otherwise rest)
  branch_scoped cond block otherwise rest one two more scope few same reads scoped = by_test (not (is_end (kept_part keep block) && is_end (kept_part keep otherwise))) reads
    where
      by_test : (test : Bool) → ReadsKept keep (behind_where test (Branch cond (kept_part keep block) (kept_part keep otherwise)) (kept_part keep rest))
          → IsScoped few (behind_where test (Branch cond (kept_part keep block) (kept_part keep otherwise)) (kept_part keep rest))
      by_test true read = (same.regs cond read.0 ∙ scoped.0, one scope few same read.1 scoped.1, two scope few same read.2 scoped.2, more scope few same read.3 scoped.3)
      by_test false read = more scope few same read scoped.3

  loop_scoped : (var : ℕ) (lo hi : ℤ) (body rest : Block) → StaysScoped body → StaysScoped rest → StaysScoped (Loop var lo hi body rest)
  loop_scoped var lo hi body rest turn more scope few same reads scoped = by_test (keep.vars var || not (is_end (kept_part keep body))) reads
    where
      by_test : (test : Bool) → ReadsKept keep (behind_where test (Loop var lo hi (kept_part keep body)) (kept_part keep rest)) → IsScoped few (behind_where test (Loop var lo hi (kept_part keep body)) (kept_part keep rest))
      by_test true read = (turn scope few same read.1 scoped.0, more scope few same read.2 scoped.1)
      by_test false read = more scope few same read scoped.1

  pub kept_scoped : (block : Block) → StaysScoped block
  kept_scoped End = λ scope few same reads scoped. tt
  kept_scoped (Word to how rest) = word_scoped to how rest (kept_scoped rest)
  kept_scoped (Spot to how rest) = spot_scoped to how rest (kept_scoped rest)
  kept_scoped (Cell to place sight index rest) = cell_scoped to place sight index rest (kept_scoped rest)
  kept_scoped (Do what rest) = do_scoped what rest (kept_scoped rest)
  kept_scoped (Branch cond block otherwise rest) = branch_scoped cond block otherwise rest (kept_scoped block) (kept_scoped otherwise) (kept_scoped rest)
  kept_scoped (Loop var lo hi body rest) = loop_scoped var lo hi body rest (kept_scoped body) (kept_scoped rest)
